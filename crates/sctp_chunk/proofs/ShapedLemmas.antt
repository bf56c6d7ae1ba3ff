-- A value that its type allows says a chunk.
use Rattle.std.proofs.Common.{◌≡◌, ℕ, zero, suc, ◌+◌, ◌*◌, ◌/◌, ◌-◌, ◌^◌, ◌<◌, ◌≤◌, Bool, true, false, if◌then◌else◌, List, [], ◌∷◌, ◌++◌, length, take, drop, refl, sym, ap, subst, ◌∙◌, arith}
use Rattle.std.specs.List.{flat_map, list_all}
use Rattle.std.proofs.lemmas.List.{append-nil, drop-drop, length-append, length-drop, length-take-le, nil_from_length, take-append-drop}
use Rattle.std.proofs.lemmas.List.Concat.{flat_map-cons}
use Rattle.sctp_serial.specs.declared.types.StreamKey.{StreamKey}
use Rattle.sctp_serial.specs.declared.types.StreamKey.TheVariants as keys
use Rattle.sctp_serial.specs.declared.types.tsn.Tsn.{Tsn}
use Rattle.sctp_wire.specs.Field.{be16, be32, length_be16, length_be32}
use Rattle.sctp_wire.specs.Item.{Item}
use Rattle.sctp_wire.proofs.FieldLemmas.{IsBytes_take, be16_same}
use Rattle.sctp_wire.proofs.ItemLemmas.{IsBytes}
use Rattle.sctp_wire.proofs.PresentLemmas.{IsBytes_drop, number16, number32, entries_in, by_type}
use Rattle.sctp_chunk.specs.declared.sack.GapAckBlock.{GapAckBlock}
use Rattle.sctp_chunk.specs.declared.forward_tsn.SkippedStream.{SkippedStream}
use Rattle.sctp_chunk.specs.declared.forward_tsn.SkippedStream.TheVariants as skips
use Rattle.sctp_chunk.specs.Chunk.{ChunkTree, InitTree, data_chunk, init_chunk, init_ack_chunk, sack_chunk, heartbeat_request_chunk, heartbeat_ack_chunk, abort_chunk, shutdown_chunk, shutdown_ack_chunk, error_chunk, cookie_echo_chunk, cookie_ack_chunk, shutdown_complete_chunk, idata_chunk, re_config_chunk, forward_tsn_chunk, i_forward_tsn_chunk, unknown_chunk}
use Rattle.sctp_chunk.specs.Written.{is_known_chunk, flag, key_flag, key_stream, data_value, init_fields, block_bytes, length_block_bytes, tsn_bytes, skip_bytes, is_ssn_skip, forward_value}
use Rattle.sctp_chunk.specs.Grammar.{IsChunk, HasChunkShape, value_shape, IsCounted, SaysInit, FitsInit, SaysSkips, FitsSkip, FitsBlock, FitsTsn, Each}
use Rattle.sctp_chunk.proofs.FieldLemmas.{cut_eight}
use Rattle.sctp_chunk.proofs.FragmentLemmas.{field_read, field_fits, idata_carries, idata_read}
use Rattle.sctp_chunk.proofs.SackLemmas.{counted_entries, sack_read}
use Rattle.sctp_chunk.proofs.SkipLemmas.{three_fields}

-- the item stands for some chunk
abbrev SaysSome : Item → Type 0
SaysSome i = (t : ChunkTree) × IsChunk i t

-- ---- DATA and I-DATA

data_says : (i : Item) → IsBytes i.value → i.first ≡ 0 → 12 ≤ length i.value → SaysSome i
unfolding data_value
data_says i fits kind long =
    let a = number32 i.value fits (omega (arith, long)) in
    let first : List ℕ = drop 4 i.value in
    let some_first : IsBytes first = IsBytes_drop 4 i.value fits in
    let len_first : length first ≡ length i.value - 4 = length-drop 4 i.value in
    let b = number16 first some_first (omega (arith, long, len_first)) in
    let second : List ℕ = drop 2 first in
    let some_second : IsBytes second = IsBytes_drop 2 first some_first in
    let len_second : length second ≡ length first - 2 = length-drop 2 first in
    let c = number16 second some_second (omega (arith, long, len_first, len_second)) in
    let third : List ℕ = drop 2 second in
    let len_third : length third ≡ length second - 2 = length-drop 2 second in
    let d = number32 third (IsBytes_drop 2 second some_second) (omega (arith, long, len_first, len_second, len_third)) in (
      data_chunk a.0 (flag i.second 8) (record {
        stream_id = b.0;
        is_unordered = flag i.second 4;
        ssn = c.0;
        mid = 0;
        fsn = 0;
        ppid = d.0;
        payload = drop 4 third;
        is_beginning = flag i.second 2;
        is_end = flag i.second 1;
      }),
      record {
        kind = kind;
        of_its_type = tt;
        flags = record { immediate_flag = refl; unordered = refl; beginning = refl; ending = refl };
        value = a.2 ∙ ap (λ (x : List ℕ). be32 a.0 ++ x) (b.2 ∙ ap (λ (x : List ℕ). be16 b.0 ++ x) (c.2 ∙ ap (λ (x : List ℕ). be16 c.0 ++ x) d.2));
        fits = (a.1, record { stream_id = b.1; ssn = c.1; mid = omega arith; fsn = omega arith; ppid = d.1 });
        carries = refl;
      },
    )

idata_says : (i : Item) → IsBytes i.value → i.first ≡ 64 → 16 ≤ length i.value → SaysSome i
idata_says i fits kind long =
    let a = number32 i.value fits (omega (arith, long)) in
    let first : List ℕ = drop 4 i.value in
    let some_first : IsBytes first = IsBytes_drop 4 i.value fits in
    let len_first : length first ≡ length i.value - 4 = length-drop 4 i.value in
    let b = number16 first some_first (omega (arith, long, len_first)) in
    let second : List ℕ = drop 2 first in
    let some_second : IsBytes second = IsBytes_drop 2 first some_first in
    let len_second : length second ≡ length first - 2 = length-drop 2 first in
    let c = number16 second some_second (omega (arith, long, len_first, len_second)) in
    let third : List ℕ = drop 2 second in
    let some_third : IsBytes third = IsBytes_drop 2 second some_second in
    let len_third : length third ≡ length second - 2 = length-drop 2 second in
    let d = number32 third some_third (omega (arith, long, len_first, len_second, len_third)) in
    let fourth : List ℕ = drop 4 third in
    let len_fourth : length fourth ≡ length third - 4 = length-drop 4 third in
    let e = number32 fourth (IsBytes_drop 4 third some_third) (omega (arith, long, len_first, len_second, len_third, len_fourth)) in
    let payload : List ℕ = drop 4 fourth in
    let begins : Bool = flag i.second 2 in
    let fsn : ℕ = if begins then 0 else e.0 in
    let ppid : ℕ = if begins then e.0 else 0 in
    let small = field_fits begins e.0 fsn ppid refl refl e.1 in
    let whole : i.value ≡ be32 a.0 ++ (be16 b.0 ++ (be16 c.0 ++ (be32 d.0 ++ (be32 e.0 ++ payload)))) =
    a.2 ∙ ap (λ (x : List ℕ). be32 a.0 ++ x) (b.2 ∙ ap (λ (x : List ℕ). be16 b.0 ++ x) (c.2 ∙ ap (λ (x : List ℕ). be16 c.0 ++ x)
    (d.2 ∙ ap (λ (x : List ℕ). be32 d.0 ++ x) e.2))) in (
      idata_chunk a.0 (flag i.second 8) (record {
        stream_id = b.0;
        is_unordered = flag i.second 4;
        ssn = 0;
        mid = d.0;
        fsn = fsn;
        ppid = ppid;
        payload = payload;
        is_beginning = begins;
        is_end = flag i.second 1;
      }),
      record {
        kind = kind;
        of_its_type = tt;
        flags = record { immediate_flag = refl; unordered = refl; beginning = refl; ending = refl };
        value = (
          c.0,
          c.1,
          idata_read i.value payload payload a.0 b.0 b.0 c.0 d.0 e.0 fsn ppid (flag i.second 4) begins (flag i.second 1) whole refl refl
              (field_read begins e.0 fsn ppid refl refl),
        );
        fits = (a.1, record { stream_id = b.1; ssn = omega arith; mid = d.1; fsn = small.0; ppid = small.1 });
        carries = idata_carries a.0 b.0 d.0 e.0 fsn ppid (flag i.second 8) (flag i.second 4) begins (flag i.second 1) payload refl refl;
      },
    )

-- ---- INIT and INIT ACK

init_joined : (a b c d e : ℕ) (x : List ℕ) → be32 a ++ (be32 b ++ (be16 c ++ (be16 d ++ (be32 e ++ x)))) ≡ (be32 a ++ (be32 b ++ (be16 c ++ (be16 d ++ be32 e)))) ++ x
unfolding be16 be32
init_joined a b c d e x = refl

init_says : (value : List ℕ) → IsBytes value → HasChunkShape (value_shape 1) value → (t : InitTree) × SaysInit value t × FitsInit t
unfolding init_fields
init_says value fits shape =
    let long : 16 ≤ length value = shape.0 in
    let a = number32 value fits (omega (arith, long)) in
    let b = number32 (drop 4 value) (IsBytes_drop 4 value fits) (omega (arith, long, length-drop 4 value)) in
    let c = number16 (drop 8 value) (IsBytes_drop 8 value fits) (omega (arith, long, length-drop 8 value)) in
    let d = number16 (drop 10 value) (IsBytes_drop 10 value fits) (omega (arith, long, length-drop 10 value)) in
    let e = number32 (drop 12 value) (IsBytes_drop 12 value fits) (omega (arith, long, length-drop 12 value)) in
    let at_e : drop 12 value ≡ be32 e.0 ++ drop 16 value = e.2 ∙ ap (λ (x : List ℕ). be32 e.0 ++ x) (drop-drop 4 12 value) in
    let at_d : drop 10 value ≡ be16 d.0 ++ (be32 e.0 ++ drop 16 value) = d.2 ∙ ap (λ (x : List ℕ). be16 d.0 ++ x) (drop-drop 2 10 value ∙ at_e) in
    let at_c : drop 8 value ≡ be16 c.0 ++ (be16 d.0 ++ (be32 e.0 ++ drop 16 value)) = c.2 ∙ ap (λ (x : List ℕ). be16 c.0 ++ x) (drop-drop 2 8 value ∙ at_d) in
    let at_b : drop 4 value ≡ be32 b.0 ++ (be16 c.0 ++ (be16 d.0 ++ (be32 e.0 ++ drop 16 value))) = b.2 ∙ ap (λ (x : List ℕ). be32 b.0 ++ x) (drop-drop 4 4 value ∙ at_c) in (
      record {
        initiate_tag = a.0;
        a_rwnd = b.0;
        nbr_outbound_streams = c.0;
        nbr_inbound_streams = d.0;
        initial_tsn = e.0;
        parameters = shape.1.0;
      },
      (
        drop 16 value,
        a.2 ∙ ap (λ (x : List ℕ). be32 a.0 ++ x) at_b ∙ init_joined a.0 b.0 c.0 d.0 e.0 (drop 16 value),
        shape.1.1,
      ),
      record { initiate_tag = a.1; a_rwnd = b.1; nbr_outbound_streams = c.1; nbr_inbound_streams = d.1; initial_tsn = e.1 },
    )

-- ---- SACK

block_in : (bytes : List ℕ) → IsBytes bytes → 4 ≤ length bytes → (b : GapAckBlock) × FitsBlock b × (bytes ≡ block_bytes b ++ drop 4 bytes)
unfolding block_bytes be16
block_in bytes fits long =
    let a = number16 bytes fits (omega (arith, long)) in
    let b = number16 (drop 2 bytes) (IsBytes_drop 2 bytes fits) (omega (arith, long, length-drop 2 bytes)) in
    (record { start = a.0; end = b.0 }, (a.1, b.1), a.2 ∙ ap (λ (x : List ℕ). be16 a.0 ++ x) (b.2 ∙ ap (λ (x : List ℕ). be16 b.0 ++ x) (drop-drop 2 2 bytes)))

tsn_in : (bytes : List ℕ) → IsBytes bytes → 4 ≤ length bytes → (t : Tsn) × FitsTsn t × (bytes ≡ tsn_bytes t ++ drop 4 bytes)
tsn_in bytes fits long = let n = number32 bytes fits long in (record { 0 = n.0 }, n.1, n.2)

sack_says : (i : Item) → IsBytes i.value → i.first ≡ 3 → IsCounted i.value → 12 ≤ length i.value → SaysSome i
sack_says i fits kind counted long =
    let value : List ℕ = i.value in
    let a = number32 value fits (omega (arith, long)) in
    let b = number32 (drop 4 value) (IsBytes_drop 4 value fits) (omega (arith, long, length-drop 4 value)) in
    let c = number16 (drop 8 value) (IsBytes_drop 8 value fits) (omega (arith, long, length-drop 8 value)) in
    let d = number16 (drop 10 value) (IsBytes_drop 10 value fits) (omega (arith, long, length-drop 10 value)) in
    let rest : List ℕ = drop 12 value in
    let some_rest : IsBytes rest = IsBytes_drop 12 value fits in
    let at_d : drop 10 value ≡ be16 d.0 ++ rest = d.2 ∙ ap (λ (x : List ℕ). be16 d.0 ++ x) (drop-drop 2 10 value) in
    let at_c : drop 8 value ≡ be16 c.0 ++ (be16 d.0 ++ rest) = c.2 ∙ ap (λ (x : List ℕ). be16 c.0 ++ x) (drop-drop 2 8 value ∙ at_d) in
    let at_b : drop 4 value ≡ be32 b.0 ++ (be16 c.0 ++ (be16 d.0 ++ rest)) = b.2 ∙ ap (λ (x : List ℕ). be32 b.0 ++ x) (drop-drop 4 4 value ∙ at_c) in
    let whole : value ≡ be32 a.0 ++ (be32 b.0 ++ (be16 c.0 ++ (be16 d.0 ++ rest))) = a.2 ∙ ap (λ (x : List ℕ). be32 a.0 ++ x) at_b in
    let behind = cut_eight a.0 b.0 (be16 c.0 ++ (be16 d.0 ++ rest)) counted.0 (be16 counted.1 ++ (be16 counted.2 ++ counted.3)) counted.4 (sym whole ∙ counted.7) in
    let one = be16_same c.0 counted.1 (be16 d.0 ++ rest) (be16 counted.2 ++ counted.3) c.1 counted.5 behind in
    let two = be16_same d.0 counted.2 rest counted.3 d.1 counted.6 one.1 in
    let len : length rest ≡ 4 * c.0 + 4 * d.0 = omega (arith, ap length two.1, counted.8, one.0, two.0) in
    let front : List ℕ = take (4 * c.0) rest in
    let back : List ℕ = drop (4 * c.0) rest in
    let len_front : length front ≡ 4 * c.0 = length-take-le (4 * c.0) rest (omega (arith, len)) in
    let len_back : length back ≡ 4 * d.0 = omega (arith, len, length-drop (4 * c.0) rest) in
    let blocks = entries_in block_bytes FitsBlock 4 block_in c.0 front (IsBytes_take (4 * c.0) rest some_rest) (omega (arith, len_front)) in
    let tsns = entries_in tsn_bytes FitsTsn 4 tsn_in d.0 back (IsBytes_drop (4 * c.0) rest some_rest) (omega (arith, len_back)) in
    let many : length blocks.0 ≡ c.0 = counted_entries block_bytes length_block_bytes blocks.0 front c.0 blocks.2 len_front in
    let others : length tsns.0 ≡ d.0 = counted_entries tsn_bytes (λ t. length_be32 t.0) tsns.0 back d.0 tsns.2 len_back in (
      sack_chunk (record { cumulative_tsn_ack = a.0; a_rwnd = b.0; gap_ack_blocks = blocks.0; duplicate_tsns = tsns.0 }),
      record {
        kind = kind;
        of_its_type = tt;
        flags = tt;
        value = sack_read _ value front back rest c.0 d.0 whole (sym (take-append-drop (4 * c.0) rest)) blocks.2 tsns.2 many others;
        fits = record {
          cumulative_tsn_ack = a.1;
          a_rwnd = b.1;
          few_blocks = omega (arith, many, c.1);
          few_duplicates = omega (arith, others, d.1);
          blocks = blocks.1;
          duplicates = tsns.1;
        };
        carries = refl;
      },
    )

-- ---- FORWARD-TSN and I-FORWARD-TSN

ssn_skips_in : (n : ℕ) (bytes : List ℕ) → IsBytes bytes → length bytes ≡ n * 4
    → (ss : List SkippedStream) × (list_all is_ssn_skip ss ≡ true) × Each FitsSkip ss × (bytes ≡ flat_map skip_bytes ss)
unfolding skip_bytes be16
ssn_skips_in zero bytes fits len = ([], refl, tt, nil_from_length bytes (omega (arith, len)))
ssn_skips_in (suc n) bytes fits len =
    let a = number16 bytes fits (omega (arith, len)) in
    let first : List ℕ = drop 2 bytes in
    let some_first : IsBytes first = IsBytes_drop 2 bytes fits in
    let len_first : length first ≡ length bytes - 2 = length-drop 2 bytes in
    let b = number16 first some_first (omega (arith, len, len_first)) in
    let second : List ℕ = drop 2 first in
    let more = ssn_skips_in n second (IsBytes_drop 2 first some_first) (omega (arith, len, len_first, length-drop 2 first)) in
    let skip : SkippedStream = skips.ForwardTsn (record { 0 = a.0 }) (record { 0 = b.0 }) in (
      skip ∷ more.0,
      more.1,
      ((a.1, b.1), more.2),
      a.2 ∙ ap (λ (x : List ℕ). be16 a.0 ++ x) (b.2 ∙ ap (λ (x : List ℕ). be16 b.0 ++ x) more.3) ∙ sym (flat_map-cons skip_bytes skip more.0),
    )

-- a stream whose flag U is this
key_of : (unordered : Bool) (id : ℕ) → (key : StreamKey) × (key_stream key ≡ id) × (unordered ≡ flag (key_flag key) 1)
key_of true id = (keys.Unordered (record { 0 = id }), refl, refl)
key_of false id = (keys.Ordered (record { 0 = id }), refl, refl)

mid_skips_in : (n : ℕ) (bytes : List ℕ) → IsBytes bytes → length bytes ≡ n * 8 → (ss : List SkippedStream) × Each FitsSkip ss × SaysSkips bytes ss
mid_skips_in zero bytes fits len = ([], tt, nil_from_length bytes (omega (arith, len)))
mid_skips_in (suc n) bytes fits len =
    let a = number16 bytes fits (omega (arith, len)) in
    let first : List ℕ = drop 2 bytes in
    let some_first : IsBytes first = IsBytes_drop 2 bytes fits in
    let len_first : length first ≡ length bytes - 2 = length-drop 2 bytes in
    let b = number16 first some_first (omega (arith, len, len_first)) in
    let second : List ℕ = drop 2 first in
    let some_second : IsBytes second = IsBytes_drop 2 first some_first in
    let len_second : length second ≡ length first - 2 = length-drop 2 first in
    let c = number32 second some_second (omega (arith, len, len_first, len_second)) in
    let third : List ℕ = drop 4 second in
    let more = mid_skips_in n third (IsBytes_drop 4 second some_second) (omega (arith, len, len_first, len_second, length-drop 4 second)) in
    let key = key_of (flag b.0 1) a.0 in
    let skip : SkippedStream = skips.IForwardTsn key.0 (record { 0 = c.0 }) in
    let front : List ℕ = be16 a.0 ++ (be16 b.0 ++ be32 c.0) in (
      skip ∷ more.0,
      ((subst (λ (k : ℕ). k < 2 ^ 16) (sym key.1) a.1, c.1), more.1),
      (
        front,
        third,
        three_fields bytes a.0 b.0 c.0 first second third a.2 b.2 c.2,
        (b.0, b.1, ap (λ (k : ℕ). be16 k ++ (be16 b.0 ++ be32 c.0)) (sym key.1), key.2),
        more.2,
      ),
    )

forward_says : (i : Item) → IsBytes i.value → i.first ≡ 192 → HasChunkShape (value_shape 192) i.value → SaysSome i
unfolding forward_value
forward_says i fits kind shape =
    let a = number32 i.value fits shape.0 in
    let rest : List ℕ = drop 4 i.value in
    let len : length rest ≡ length i.value - 4 = length-drop 4 i.value in
    let skipped = ssn_skips_in (length rest / 4) rest (IsBytes_drop 4 i.value fits) (omega (arith, len, shape.0, shape.1)) in (
      forward_tsn_chunk a.0 skipped.0,
      record {
        kind = kind;
        of_its_type = tt;
        flags = tt;
        value = (a.2 ∙ ap (λ (x : List ℕ). be32 a.0 ++ x) skipped.3, skipped.1);
        fits = record { new_cumulative_tsn = a.1; entries = skipped.2 };
        carries = refl;
      },
    )

i_forward_says : (i : Item) → IsBytes i.value → i.first ≡ 194 → HasChunkShape (value_shape 194) i.value → SaysSome i
i_forward_says i fits kind shape =
    let a = number32 i.value fits shape.0 in
    let rest : List ℕ = drop 4 i.value in
    let len : length rest ≡ length i.value - 4 = length-drop 4 i.value in
    let skipped = mid_skips_in (length rest / 8) rest (IsBytes_drop 4 i.value fits) (omega (arith, len, shape.0, shape.1)) in (
      i_forward_tsn_chunk a.0 skipped.0,
      record {
        kind = kind;
        of_its_type = tt;
        flags = tt;
        value = (rest, a.2, skipped.2);
        fits = record { new_cumulative_tsn = a.1; entries = skipped.1 };
        carries = refl;
      },
    )

-- ---- the others

shutdown_says : (i : Item) → IsBytes i.value → i.first ≡ 7 → length i.value ≡ 4 → SaysSome i
shutdown_says i fits kind len =
    let a = number32 i.value fits (omega (arith, len)) in
    let empty : drop 4 i.value ≡ [] = nil_from_length (drop 4 i.value) (omega (arith, len, length-drop 4 i.value)) in (
      shutdown_chunk a.0,
      record {
        kind = kind;
        of_its_type = tt;
        flags = tt;
        value = a.2 ∙ ap (λ (x : List ℕ). be32 a.0 ++ x) empty ∙ append-nil (be32 a.0);
        fits = a.1;
        carries = refl;
      },
    )

unknown_says : (i : Item) → is_known_chunk i.first ≡ false → SaysSome i
unknown_says i other = (unknown_chunk i.first i.second i.value, record { kind = refl; of_its_type = other; flags = refl; value = refl; fits = tt; carries = refl })

-- of this type, and shaped so, the item stands for some chunk
abbrev SaysWhereShaped : Item → ℕ → Type 0
SaysWhereShaped i typ = i.first ≡ typ → HasChunkShape (value_shape typ) i.value → SaysSome i

counted_long : (value : List ℕ) → IsCounted value → 12 ≤ length value
counted_long value c =
    omega (
      arith,
      c.4,
      ap length c.7,
      length-append c.0 (be16 c.1 ++ (be16 c.2 ++ c.3)),
      length-append (be16 c.1) (be16 c.2 ++ c.3),
      length-append (be16 c.2) c.3,
      length_be16 c.1,
      length_be16 c.2,
    )

-- types up to 8
low_says : (i : Item) → IsBytes i.value
    → SaysWhereShaped i 0 × SaysWhereShaped i 1 × SaysWhereShaped i 2 × SaysWhereShaped i 3 × SaysWhereShaped i 4 × SaysWhereShaped i 5 × SaysWhereShaped i 6
low_says i fits = (
  data_says i fits,
  (λ kind shape. let t = init_says i.value fits shape in (init_chunk t.0, record { kind = kind; of_its_type = tt; flags = tt; value = t.1; fits = t.2; carries = refl })),
  (λ kind shape. let t = init_says i.value fits shape in (init_ack_chunk t.0, record { kind = kind; of_its_type = tt; flags = tt; value = t.1; fits = t.2; carries = refl })),
  (λ kind shape. sack_says i fits kind shape (counted_long i.value shape)),
  (λ kind shape. (heartbeat_request_chunk shape.1.0, record { kind = kind; of_its_type = tt; flags = tt; value = shape.1.1; fits = tt; carries = refl })),
  (λ kind shape. (heartbeat_ack_chunk shape.1.0, record { kind = kind; of_its_type = tt; flags = tt; value = shape.1.1; fits = tt; carries = refl })),
  (λ kind shape. (abort_chunk (flag i.second 1) shape.0, record { kind = kind; of_its_type = tt; flags = refl; value = shape.1; fits = tt; carries = refl })),
)

-- types up to 14
middle_says : (i : Item) → IsBytes i.value
    → SaysWhereShaped i 7 × SaysWhereShaped i 8 × SaysWhereShaped i 9 × SaysWhereShaped i 10 × SaysWhereShaped i 11 × SaysWhereShaped i 14
middle_says i fits = (
  shutdown_says i fits,
  (λ kind shape. (shutdown_ack_chunk, record { kind = kind; of_its_type = tt; flags = tt; value = nil_from_length i.value shape; fits = tt; carries = refl })),
  (λ kind shape. (error_chunk shape.0, record { kind = kind; of_its_type = tt; flags = tt; value = shape.1; fits = tt; carries = refl })),
  (λ kind shape. (cookie_echo_chunk i.value, record { kind = kind; of_its_type = tt; flags = tt; value = (refl, shape); fits = tt; carries = refl })),
  (λ kind shape. (cookie_ack_chunk, record { kind = kind; of_its_type = tt; flags = tt; value = nil_from_length i.value shape; fits = tt; carries = refl })),
  (λ kind shape. (
    shutdown_complete_chunk (flag i.second 1),
    record { kind = kind; of_its_type = tt; flags = refl; value = nil_from_length i.value shape; fits = tt; carries = refl },
  )),
)

re_config_says : (i : Item) → SaysWhereShaped i 130
re_config_says i kind shape = (re_config_chunk shape.1.0, record { kind = kind; of_its_type = tt; flags = tt; value = shape.1.1; fits = tt; carries = refl })

says_by_type : (i : Item) → IsBytes i.value → SaysWhereShaped i i.first
says_by_type i fits =
    let typ : ℕ = i.first in
    let low = low_says i fits in
    let middle = middle_says i fits in
    by_type typ 0 (SaysWhereShaped i) low.0 (λ p0. by_type typ 1 (SaysWhereShaped i) low.1 (λ p1. by_type typ 2 (SaysWhereShaped i) low.2
    (λ p2. by_type typ 3 (SaysWhereShaped i) low.3 (λ p3. by_type typ 4 (SaysWhereShaped i) low.4 (λ p4. by_type typ 5 (SaysWhereShaped i) low.5
    (λ p5. by_type typ 6 (SaysWhereShaped i) low.6 (λ p6. by_type typ 7 (SaysWhereShaped i) middle.0 (λ p7. by_type typ 8 (SaysWhereShaped i) middle.1
    (λ p8. by_type typ 9 (SaysWhereShaped i) middle.2 (λ p9. by_type typ 10 (SaysWhereShaped i) middle.3 (λ p10. by_type typ 11 (SaysWhereShaped i) middle.4
    (λ p11. by_type typ 14 (SaysWhereShaped i) middle.5 (λ p14. by_type typ 64 (SaysWhereShaped i) (idata_says i fits)
    (λ p64. by_type typ 130 (SaysWhereShaped i) (re_config_says i) (λ p130. by_type typ 192 (SaysWhereShaped i) (forward_says i fits)
    (λ p192. by_type typ 194 (SaysWhereShaped i) (i_forward_says i fits)
    (λ p194 kind shape. unknown_says i (rw (p0, p1, p2, p3, p4, p5, p6, p7, p8, p9, p10, p11, p14, p64, p130, p192, p194) refl))))))))))))))))))

pub shaped_says : (i : Item) → IsBytes i.value → HasChunkShape (value_shape i.first) i.value → SaysSome i
shaped_says i fits shape = says_by_type i fits refl shape
