-- An item stands for at most one chunk.
use Rattle.std.proofs.Common.{◌≡◌, ℕ, suc, ◌*◌, ◌<◌, Bool, true, false, cond, List, [], ◌∷◌, ◌++◌, length, refl, sym, ap, subst, ◌∙◌, arith}
use Rattle.std.specs.Prelude.{All}
use Rattle.std.specs.List.{flat_map, list_all}
use Rattle.std.proofs.lemmas.List.{length-append}
use Rattle.std.proofs.lemmas.List.Concat.{flat_map-cons}
use Rattle.sctp_serial.specs.declared.api.StreamId.{StreamId}
use Rattle.sctp_serial.specs.declared.types.tsn.Tsn.{Tsn}
use Rattle.sctp_serial.specs.declared.types.ssn.Ssn.{Ssn}
use Rattle.sctp_serial.specs.declared.types.mid.Mid.{Mid}
use Rattle.sctp_serial.specs.declared.types.StreamKey.{StreamKey}
use Rattle.sctp_serial.specs.declared.types.StreamKey.TheVariants as keys
use Rattle.sctp_wire.specs.Field.{be16, be32, length_be16, length_be32}
use Rattle.sctp_wire.specs.Item.{Item, ParsesAll}
use Rattle.sctp_wire.specs.Parameter.{ParameterTree, IsParameter}
use Rattle.sctp_wire.specs.Cause.{CauseTree, IsCause}
use Rattle.sctp_wire.proofs.ParsesAllLemmas.{cut_same, one_tiling}
use Rattle.sctp_wire.proofs.SerializeLemmas.{length_entries}
use Rattle.sctp_parameter.proofs.OneParameterLemmas.{one_parameter_lem}
use Rattle.sctp_error_cause.proofs.OneCauseLemmas.{one_cause_lem}
use Rattle.sctp_chunk.specs.declared.sack.GapAckBlock.{GapAckBlock}
use Rattle.sctp_chunk.specs.declared.forward_tsn.SkippedStream.{SkippedStream}
use Rattle.sctp_chunk.specs.declared.forward_tsn.SkippedStream.TheVariants as skips
use Rattle.sctp_chunk.specs.Chunk.{ChunkTree, FragmentTree, InitTree, SackTree, data_chunk, init_chunk, init_ack_chunk, sack_chunk, heartbeat_request_chunk, heartbeat_ack_chunk, abort_chunk, shutdown_chunk, shutdown_ack_chunk, error_chunk, cookie_echo_chunk, cookie_ack_chunk, shutdown_complete_chunk, idata_chunk, re_config_chunk, forward_tsn_chunk, i_forward_tsn_chunk, unknown_chunk}
use Rattle.sctp_chunk.specs.Written.{chunk_type, is_known_chunk, flag, data_value, idata_value, ppid_or_fsn, init_fields, sack_value, block_bytes, length_block_bytes, tsn_bytes, skip_bytes, forward_value, key_stream, key_flag, is_ssn_skip}
use Rattle.sctp_chunk.specs.Grammar.{IsChunk, SaysInit, SaysSkip, SaysSkips, FitsInit, FitsBlock, FitsTsn, FitsSkip, FitsSack, Each}
use Rattle.sctp_serial.proofs.NumberLemmas.{either_fits}
use Rattle.sctp_wire.proofs.FieldLemmas.{be16_same, be32_same, same16, same32}

-- ---- entries

empty_front : {A : Type 0} (xs ys : List A) → 0 < length xs → [] ≡ xs ++ ys → ⊥
empty_front xs ys some e = omega (arith, ap length e, length-append xs ys)

pub one_entries : {E : Type 0} (f : E → List ℕ) (width : ℕ) (P : E → Type 0) → 0 < width → ((e : E) → P e → length (f e) ≡ width)
    → ((x y : E) → P x → P y → f x ≡ f y → x ≡ y) → (xs ys : List E) → Each P xs → Each P ys → flat_map f xs ≡ flat_map f ys → xs ≡ ys
one_entries f width P some each one [] [] h k e = refl
one_entries f width P some each one [] (y ∷ ys) h k e = absurd (empty_front (f y) (flat_map f ys) (omega (arith, some, each y k.0)) (e ∙ flat_map-cons f y ys))
one_entries f width P some each one (x ∷ xs) [] h k e = absurd (empty_front (f x) (flat_map f xs) (omega (arith, some, each x h.0)) (sym e ∙ flat_map-cons f x xs))
one_entries {E} f width P some each one (x ∷ xs) (y ∷ ys) h k e =
    let parts = cut_same (f x) (flat_map f xs) (f y) (flat_map f ys) (each x h.0 ∙ sym (each y k.0)) (sym (flat_map-cons f x xs) ∙ e ∙ flat_map-cons f y ys) in
    ap (λ (z : E). z ∷ xs) (one x y h.0 k.0 parts.0) ∙ ap (λ (zs : List E). y ∷ zs) (one_entries f width P some each one xs ys h.1 k.1 parts.1)

pub Each_from : {X : Type 0} (P : X → Type 0) (xs : List X) → All P xs → Each P xs
Each_from P [] h = tt
Each_from P (x ∷ xs) h = (h 0 x (omega arith), Each_from P xs (λ k d less. h (suc k) d (omega arith)))

both : {X : Type 0} (P Q : X → Type 0) (xs : List X) → Each P xs → Each Q xs → Each (λ x. P x × Q x) xs
both P Q [] h k = tt
both P Q (x ∷ xs) h k = ((h.0, k.0), both P Q xs h.1 k.1)

abbrev block : ℕ → ℕ → GapAckBlock
block m n = record { start = m; end = n }

same_block : (m n o p : ℕ) → m ≡ o → n ≡ p → block m n ≡ block o p
same_block m n o p a b = cc

one_block : (x y : GapAckBlock) → FitsBlock x → FitsBlock y → block_bytes x ≡ block_bytes y → x ≡ y
unfolding block_bytes
one_block x y h k e =
    let first = be16_same x.start y.start (be16 x.end) (be16 y.end) h.0 k.0 e in
    same_block x.start x.end y.start y.end first.0 (same16 x.end y.end h.1 k.1 first.1)

abbrev tsn_of : ℕ → Tsn
tsn_of n = record { 0 = n }

one_tsn : (x y : Tsn) → FitsTsn x → FitsTsn y → tsn_bytes x ≡ tsn_bytes y → x ≡ y
one_tsn x y h k e = ap tsn_of (same32 x.0 y.0 h k e)

abbrev stream_of : ℕ → StreamId
stream_of n = record { 0 = n }

abbrev ssn_of : ℕ → Ssn
ssn_of n = record { 0 = n }

abbrev mid_of : ℕ → Mid
mid_of n = record { 0 = n }

-- ---- entries of forward points

abbrev IsSsnSkip : SkippedStream → Type 0
IsSsnSkip s = FitsSkip s × (is_ssn_skip s ≡ true)

ssn_skips : (ss : List SkippedStream) → list_all is_ssn_skip ss ≡ true → Each (λ s. is_ssn_skip s ≡ true) ss
ssn_skips [] h = tt
ssn_skips (skips.ForwardTsn id ssn ∷ ss) h = (refl, ssn_skips ss h)
ssn_skips (skips.IForwardTsn key mid ∷ ss) h = cc

length_skip : (s : SkippedStream) → IsSsnSkip s → length (skip_bytes s) ≡ 4
unfolding skip_bytes be16
length_skip (skips.ForwardTsn id ssn) h = refl
length_skip (skips.IForwardTsn key mid) h = let k = h.1 in cc

one_skip : (x y : SkippedStream) → IsSsnSkip x → IsSsnSkip y → skip_bytes x ≡ skip_bytes y → x ≡ y
unfolding skip_bytes
one_skip (skips.ForwardTsn id ssn) (skips.ForwardTsn jd tsn) h k e =
    let first = be16_same id.0 jd.0 (be16 ssn.0) (be16 tsn.0) h.0.0 k.0.0 e in
    ap (λ (n : ℕ). skips.ForwardTsn (stream_of n) ssn) first.0 ∙ ap (λ (n : ℕ). skips.ForwardTsn jd (ssn_of n)) (same16 ssn.0 tsn.0 h.0.1 k.0.1 first.1)
one_skip (skips.IForwardTsn key mid) y h k e = let l = h.1 in cc
one_skip x (skips.IForwardTsn key mid) h k e = let l = k.1 in cc

one_key : (x y : StreamKey) → key_stream x ≡ key_stream y → flag (key_flag x) 1 ≡ flag (key_flag y) 1 → x ≡ y
one_key (keys.Ordered id) (keys.Ordered jd) s f = ap (λ (n : ℕ). keys.Ordered (stream_of n)) s
one_key (keys.Unordered id) (keys.Unordered jd) s f = ap (λ (n : ℕ). keys.Unordered (stream_of n)) s
one_key (keys.Ordered id) (keys.Unordered jd) s f = cc
one_key (keys.Unordered id) (keys.Ordered jd) s f = cc

pub length_says : (front : List ℕ) (s : SkippedStream) → SaysSkip front s → length front ≡ 8
length_says front (skips.ForwardTsn id ssn) h = absurd h
length_says front (skips.IForwardTsn key mid) h =
    omega (arith, ap length h.2, length-append (be16 (key_stream key)) (be16 h.0 ++ be32 mid.0), length-append (be16 h.0) (be32 mid.0), length_be16 (key_stream key), length_be16 h.0, length_be32 mid.0)

one_said : (front : List ℕ) (x y : SkippedStream) → FitsSkip x → FitsSkip y → SaysSkip front x → SaysSkip front y → x ≡ y
one_said front (skips.ForwardTsn id ssn) y fx fy h k = absurd h
one_said front x (skips.ForwardTsn id ssn) fx fy h k = absurd k
one_said front (skips.IForwardTsn key mid) (skips.IForwardTsn other nid) fx fy h k =
    let a = be16_same (key_stream key) (key_stream other) _ _ fx.0 fy.0 (sym h.2 ∙ k.2) in
    let b = be16_same h.0 k.0 _ _ h.1 k.1 a.1 in
    let same = one_key key other a.0 (sym h.3 ∙ ap (λ (n : ℕ). flag n 1) b.0 ∙ k.3) in
    ap (λ (z : StreamKey). skips.IForwardTsn z mid) same ∙ ap (λ (n : ℕ). skips.IForwardTsn other (mid_of n)) (same32 mid.0 nid.0 fx.1 fy.1 b.1)

one_skips : (bytes : List ℕ) (xs ys : List SkippedStream) → Each FitsSkip xs → Each FitsSkip ys → SaysSkips bytes xs → SaysSkips bytes ys → xs ≡ ys
one_skips bytes [] [] fx fy h k = refl
one_skips bytes [] (y ∷ ys) fx fy h k = absurd (empty_front k.0 k.1 (omega (arith, length_says k.0 y k.3)) (sym h ∙ k.2))
one_skips bytes (x ∷ xs) [] fx fy h k = absurd (empty_front h.0 h.1 (omega (arith, length_says h.0 x h.3)) (sym k ∙ h.2))
one_skips bytes (x ∷ xs) (y ∷ ys) fx fy h k =
    let parts = cut_same h.0 h.1 k.0 k.1 (length_says h.0 x h.3 ∙ sym (length_says k.0 y k.3)) (sym h.2 ∙ k.2) in
    let first = one_said k.0 x y fx.0 fy.0 (subst (λ (b : List ℕ). SaysSkip b x) parts.0 h.3) k.3 in
    let others = one_skips k.1 xs ys fx.1 fy.1 (subst (λ (b : List ℕ). SaysSkips b xs) parts.1 h.4) k.4 in
    ap (λ (z : SkippedStream). z ∷ xs) first ∙ ap (λ (zs : List SkippedStream). y ∷ zs) others

-- ---- kinds

abbrev fragment : ℕ → Bool → ℕ → ℕ → ℕ → ℕ → List ℕ → Bool → Bool → FragmentTree
fragment s u n m f p d b e = record { stream_id = s; is_unordered = u; ssn = n; mid = m; fsn = f; ppid = p; payload = d; is_beginning = b; is_end = e }

same_fragment : (s : ℕ) (u : Bool) (n m f p : ℕ) (d : List ℕ) (b e : Bool) (s' : ℕ) (u' : Bool) (n' m' f' p' : ℕ) (d' : List ℕ) (b' e' : Bool)
    → s ≡ s' → u ≡ u' → n ≡ n' → m ≡ m' → f ≡ f' → p ≡ p' → d ≡ d' → b ≡ b' → e ≡ e' → fragment s u n m f p d b e ≡ fragment s' u' n' m' f' p' d' b' e'
same_fragment s u n m f p d b e s' u' n' m' f' p' d' b' e' e0 e1 e2 e3 e4 e5 e6 e7 e8 = cc

no_fragment : FragmentTree
no_fragment = fragment 0 false 0 0 0 0 [] false false

abbrev fragment_in : ChunkTree → FragmentTree
fragment_in (data_chunk tsn immediate f) = f
fragment_in (idata_chunk tsn immediate f) = f
fragment_in _ = no_fragment

same_data : (t u : ℕ) (i j : Bool) (f g : FragmentTree) → t ≡ u → i ≡ j → f ≡ g → data_chunk t i f ≡ data_chunk u j g
same_data t u i j f g a b c = cc

same_idata : (t u : ℕ) (i j : Bool) (f g : FragmentTree) → t ≡ u → i ≡ j → f ≡ g → idata_chunk t i f ≡ idata_chunk u j g
same_idata t u i j f g a b c = cc

one_data : (i : Item) (t : ℕ) (a : Bool) (f : FragmentTree) (u : ℕ) (b : Bool) (g : FragmentTree) → IsChunk i (data_chunk t a f) → IsChunk i (data_chunk u b g) → data_chunk t a f ≡ data_chunk u b g
unfolding data_value
one_data i t a f u b g h k =
    let whole : data_value t f ≡ data_value u g = sym h.value ∙ k.value in
    let first = be32_same t u _ _ h.fits.0 k.fits.0 whole in
    let stream = be16_same f.stream_id g.stream_id _ _ h.fits.1.stream_id k.fits.1.stream_id first.1 in
    let number = be16_same f.ssn g.ssn _ _ h.fits.1.ssn k.fits.1.ssn stream.1 in
    let protocol = be32_same f.ppid g.ppid _ _ h.fits.1.ppid k.fits.1.ppid number.1 in
    let mids : f.mid ≡ g.mid = ap (λ (c : ChunkTree). (fragment_in c).mid) h.carries ∙ sym (ap (λ (c : ChunkTree). (fragment_in c).mid) k.carries) in
    let fsns : f.fsn ≡ g.fsn = ap (λ (c : ChunkTree). (fragment_in c).fsn) h.carries ∙ sym (ap (λ (c : ChunkTree). (fragment_in c).fsn) k.carries) in
    same_data t u a b f g first.0 (h.flags.immediate_flag ∙ sym k.flags.immediate_flag)
    (same_fragment f.stream_id f.is_unordered f.ssn f.mid f.fsn f.ppid f.payload f.is_beginning f.is_end g.stream_id g.is_unordered g.ssn g.mid g.fsn g.ppid g.payload g.is_beginning g.is_end
    stream.0 (h.flags.unordered ∙ sym k.flags.unordered) number.0 mids fsns protocol.0 protocol.1 (h.flags.beginning ∙ sym k.flags.beginning) (h.flags.ending ∙ sym k.flags.ending))

one_of_two : (b : Bool) (p n q m : ℕ) → p ≡ cond b p 0 → n ≡ cond b 0 n → q ≡ cond b q 0 → m ≡ cond b 0 m → cond b p n ≡ cond b q m → (p ≡ q) × (n ≡ m)
one_of_two true p n q m hp hn hq hm e = (e, hn ∙ sym hm)
one_of_two false p n q m hp hn hq hm e = (hp ∙ sym hq, e)

one_idata : (i : Item) (t : ℕ) (a : Bool) (f : FragmentTree) (u : ℕ) (b : Bool) (g : FragmentTree) → IsChunk i (idata_chunk t a f) → IsChunk i (idata_chunk u b g) → idata_chunk t a f ≡ idata_chunk u b g
unfolding idata_value
one_idata i t a f u b g h k =
    let whole : idata_value h.value.0 t f ≡ idata_value k.value.0 u g = sym h.value.2 ∙ k.value.2 in
    let first = be32_same t u _ _ h.fits.0 k.fits.0 whole in
    let stream = be16_same f.stream_id g.stream_id _ _ h.fits.1.stream_id k.fits.1.stream_id first.1 in
    let reserved = be16_same h.value.0 k.value.0 _ _ h.value.1 k.value.1 stream.1 in
    let message = be32_same f.mid g.mid _ _ h.fits.1.mid k.fits.1.mid reserved.1 in
    let field = be32_same (ppid_or_fsn f) (ppid_or_fsn g) _ _ (either_fits f.is_beginning f.ppid f.fsn h.fits.1.ppid h.fits.1.fsn) (either_fits g.is_beginning g.ppid g.fsn k.fits.1.ppid k.fits.1.fsn) message.1 in
    let begin : f.is_beginning ≡ g.is_beginning = h.flags.beginning ∙ sym k.flags.beginning in
    let ssns : f.ssn ≡ g.ssn = ap (λ (c : ChunkTree). (fragment_in c).ssn) h.carries ∙ sym (ap (λ (c : ChunkTree). (fragment_in c).ssn) k.carries) in
    let fp : f.ppid ≡ cond f.is_beginning f.ppid 0 = ap (λ (c : ChunkTree). (fragment_in c).ppid) h.carries in
    let fn : f.fsn ≡ cond f.is_beginning 0 f.fsn = ap (λ (c : ChunkTree). (fragment_in c).fsn) h.carries in
    let gp : g.ppid ≡ cond g.is_beginning g.ppid 0 = ap (λ (c : ChunkTree). (fragment_in c).ppid) k.carries in
    let gn : g.fsn ≡ cond g.is_beginning 0 g.fsn = ap (λ (c : ChunkTree). (fragment_in c).fsn) k.carries in
    let two = one_of_two f.is_beginning f.ppid f.fsn g.ppid g.fsn fp fn (gp ∙ ap (λ (x : Bool). cond x g.ppid 0) (sym begin)) (gn ∙ ap (λ (x : Bool). cond x 0 g.fsn) (sym begin)) (field.0 ∙ ap (λ (x : Bool). cond x g.ppid g.fsn) (sym begin)) in
    same_idata t u a b f g first.0 (h.flags.immediate_flag ∙ sym k.flags.immediate_flag)
    (same_fragment f.stream_id f.is_unordered f.ssn f.mid f.fsn f.ppid f.payload f.is_beginning f.is_end g.stream_id g.is_unordered g.ssn g.mid g.fsn g.ppid g.payload g.is_beginning g.is_end
    stream.0 (h.flags.unordered ∙ sym k.flags.unordered) ssns message.0 two.1 two.0 field.1 begin (h.flags.ending ∙ sym k.flags.ending))

abbrev init_of : ℕ → ℕ → ℕ → ℕ → ℕ → List ParameterTree → InitTree
init_of t w o n s ps = record { initiate_tag = t; a_rwnd = w; nbr_outbound_streams = o; nbr_inbound_streams = n; initial_tsn = s; parameters = ps }

same_init : (t w o n s : ℕ) (ps : List ParameterTree) (t' w' o' n' s' : ℕ) (ps' : List ParameterTree) → t ≡ t' → w ≡ w' → o ≡ o' → n ≡ n' → s ≡ s' → ps ≡ ps' → init_of t w o n s ps ≡ init_of t' w' o' n' s' ps'
same_init t w o n s ps t' w' o' n' s' ps' e0 e1 e2 e3 e4 e5 = cc

pub length_front : (t : InitTree) → length (init_fields t) ≡ 16
unfolding init_fields be16 be32
length_front t = refl

one_init : (value : List ℕ) (t u : InitTree) → FitsInit t → FitsInit u → SaysInit value t → SaysInit value u → t ≡ u
unfolding init_fields
one_init value t u ft fu h k =
    let parts = cut_same (init_fields t) h.0 (init_fields u) k.0 (length_front t ∙ sym (length_front u)) (sym h.1 ∙ k.1) in
    let a = be32_same t.initiate_tag u.initiate_tag _ _ ft.initiate_tag fu.initiate_tag parts.0 in
    let b = be32_same t.a_rwnd u.a_rwnd _ _ ft.a_rwnd fu.a_rwnd a.1 in
    let c = be16_same t.nbr_outbound_streams u.nbr_outbound_streams _ _ ft.nbr_outbound_streams fu.nbr_outbound_streams b.1 in
    let d = be16_same t.nbr_inbound_streams u.nbr_inbound_streams _ _ ft.nbr_inbound_streams fu.nbr_inbound_streams c.1 in
    let e = same32 t.initial_tsn u.initial_tsn ft.initial_tsn fu.initial_tsn d.1 in
    let ps = one_tiling IsParameter one_parameter_lem k.0 t.parameters u.parameters (subst (λ (x : List ℕ). ParsesAll IsParameter x t.parameters []) parts.1 h.2) k.2 in
    same_init t.initiate_tag t.a_rwnd t.nbr_outbound_streams t.nbr_inbound_streams t.initial_tsn t.parameters u.initiate_tag u.a_rwnd u.nbr_outbound_streams u.nbr_inbound_streams u.initial_tsn u.parameters
    a.0 b.0 c.0 d.0 e ps

abbrev sack_of : ℕ → ℕ → List GapAckBlock → List Tsn → SackTree
sack_of t w bs ds = record { cumulative_tsn_ack = t; a_rwnd = w; gap_ack_blocks = bs; duplicate_tsns = ds }

same_sack : (t w : ℕ) (bs : List GapAckBlock) (ds : List Tsn) (t' w' : ℕ) (bs' : List GapAckBlock) (ds' : List Tsn) → t ≡ t' → w ≡ w' → bs ≡ bs' → ds ≡ ds' → sack_of t w bs ds ≡ sack_of t' w' bs' ds'
same_sack t w bs ds t' w' bs' ds' e0 e1 e2 e3 = cc

one_sack : (s t : SackTree) → FitsSack s → FitsSack t → sack_value s ≡ sack_value t → s ≡ t
unfolding sack_value
one_sack s t fs ft e =
    let a = be32_same s.cumulative_tsn_ack t.cumulative_tsn_ack _ _ fs.cumulative_tsn_ack ft.cumulative_tsn_ack e in
    let b = be32_same s.a_rwnd t.a_rwnd _ _ fs.a_rwnd ft.a_rwnd a.1 in
    let c = be16_same (length s.gap_ack_blocks) (length t.gap_ack_blocks) _ _ fs.few_blocks ft.few_blocks b.1 in
    let d = be16_same (length s.duplicate_tsns) (length t.duplicate_tsns) _ _ fs.few_duplicates ft.few_duplicates c.1 in
    let len : length (flat_map block_bytes s.gap_ack_blocks) ≡ length (flat_map block_bytes t.gap_ack_blocks) =
    length_entries block_bytes 4 length_block_bytes s.gap_ack_blocks ∙ ap (λ (n : ℕ). n * 4) c.0 ∙ sym (length_entries block_bytes 4 length_block_bytes t.gap_ack_blocks) in
    let parts = cut_same _ _ _ _ len d.1 in
    let blocks = one_entries block_bytes 4 FitsBlock (omega arith) (λ x h. length_block_bytes x) one_block s.gap_ack_blocks t.gap_ack_blocks (Each_from FitsBlock s.gap_ack_blocks fs.blocks) (Each_from FitsBlock t.gap_ack_blocks ft.blocks) parts.0 in
    let tsns = one_entries tsn_bytes 4 FitsTsn (omega arith) (λ x h. length_be32 x.0) one_tsn s.duplicate_tsns t.duplicate_tsns (Each_from FitsTsn s.duplicate_tsns fs.duplicates) (Each_from FitsTsn t.duplicate_tsns ft.duplicates) parts.1 in
    same_sack s.cumulative_tsn_ack s.a_rwnd s.gap_ack_blocks s.duplicate_tsns t.cumulative_tsn_ack t.a_rwnd t.gap_ack_blocks t.duplicate_tsns a.0 b.0 blocks tsns

same_forward : (t u : ℕ) (xs ys : List SkippedStream) → t ≡ u → xs ≡ ys → forward_tsn_chunk t xs ≡ forward_tsn_chunk u ys
same_forward t u xs ys a b = cc

same_i_forward : (t u : ℕ) (xs ys : List SkippedStream) → t ≡ u → xs ≡ ys → i_forward_tsn_chunk t xs ≡ i_forward_tsn_chunk u ys
same_i_forward t u xs ys a b = cc

one_forward : (i : Item) (t : ℕ) (xs : List SkippedStream) (u : ℕ) (ys : List SkippedStream) → IsChunk i (forward_tsn_chunk t xs) → IsChunk i (forward_tsn_chunk u ys) → forward_tsn_chunk t xs ≡ forward_tsn_chunk u ys
unfolding forward_value
one_forward i t xs u ys h k =
    let whole : forward_value t xs ≡ forward_value u ys = sym h.value.0 ∙ k.value.0 in
    let first = be32_same t u _ _ h.fits.new_cumulative_tsn k.fits.new_cumulative_tsn whole in
    same_forward t u xs ys first.0 (one_entries skip_bytes 4 IsSsnSkip (omega arith) length_skip one_skip xs ys
    (both FitsSkip (λ s. is_ssn_skip s ≡ true) xs h.fits.entries (ssn_skips xs h.value.1)) (both FitsSkip (λ s. is_ssn_skip s ≡ true) ys k.fits.entries (ssn_skips ys k.value.1)) first.1)

one_i_forward : (i : Item) (t : ℕ) (xs : List SkippedStream) (u : ℕ) (ys : List SkippedStream) → IsChunk i (i_forward_tsn_chunk t xs) → IsChunk i (i_forward_tsn_chunk u ys) → i_forward_tsn_chunk t xs ≡ i_forward_tsn_chunk u ys
one_i_forward i t xs u ys h k =
    let first = be32_same t u _ _ h.fits.new_cumulative_tsn k.fits.new_cumulative_tsn (sym h.value.1 ∙ k.value.1) in
    same_i_forward t u xs ys first.0 (one_skips k.value.0 xs ys h.fits.entries k.fits.entries (subst (λ (b : List ℕ). SaysSkips b xs) first.1 h.value.2) k.value.2)

same_abort : (r s : Bool) (xs ys : List CauseTree) → r ≡ s → xs ≡ ys → abort_chunk r xs ≡ abort_chunk s ys
same_abort r s xs ys a b = cc

same_unknown : (t f : ℕ) (v : List ℕ) (u g : ℕ) (w : List ℕ) → t ≡ u → f ≡ g → v ≡ w → unknown_chunk t f v ≡ unknown_chunk u g w
same_unknown t f v u g w a b c = cc

other_kind : (m n : ℕ) (i : Item) → i.first ≡ m → i.first ≡ n → is_known_chunk m ≡ true → is_known_chunk n ≡ false → ⊥
other_kind m n i a b known unknown = let e : is_known_chunk m ≡ is_known_chunk n = ap is_known_chunk (sym a ∙ b) in cc

pub one_chunk : (i : Item) (x y : ChunkTree) → IsChunk i x → IsChunk i y → x ≡ y
one_chunk i (data_chunk t a f) (data_chunk u b g) h k = one_data i t a f u b g h k
one_chunk i (init_chunk t) (init_chunk u) h k = ap init_chunk (one_init i.value t u h.fits k.fits h.value k.value)
one_chunk i (init_ack_chunk t) (init_ack_chunk u) h k = ap init_ack_chunk (one_init i.value t u h.fits k.fits h.value k.value)
one_chunk i (sack_chunk t) (sack_chunk u) h k = ap sack_chunk (one_sack t u h.fits k.fits (sym h.value ∙ k.value))
one_chunk i (heartbeat_request_chunk xs) (heartbeat_request_chunk ys) h k = ap heartbeat_request_chunk (one_tiling IsParameter one_parameter_lem i.value xs ys h.value k.value)
one_chunk i (heartbeat_ack_chunk xs) (heartbeat_ack_chunk ys) h k = ap heartbeat_ack_chunk (one_tiling IsParameter one_parameter_lem i.value xs ys h.value k.value)
one_chunk i (abort_chunk r xs) (abort_chunk s ys) h k = same_abort r s xs ys (h.flags ∙ sym k.flags) (one_tiling IsCause one_cause_lem i.value xs ys h.value k.value)
one_chunk i (shutdown_chunk t) (shutdown_chunk u) h k = ap shutdown_chunk (same32 t u h.fits k.fits (sym h.value ∙ k.value))
one_chunk i shutdown_ack_chunk shutdown_ack_chunk h k = refl
one_chunk i (error_chunk xs) (error_chunk ys) h k = ap error_chunk (one_tiling IsCause one_cause_lem i.value xs ys h.value k.value)
one_chunk i (cookie_echo_chunk v) (cookie_echo_chunk w) h k = ap cookie_echo_chunk (sym h.value.0 ∙ k.value.0)
one_chunk i cookie_ack_chunk cookie_ack_chunk h k = refl
one_chunk i (shutdown_complete_chunk r) (shutdown_complete_chunk s) h k = ap shutdown_complete_chunk (h.flags ∙ sym k.flags)
one_chunk i (idata_chunk t a f) (idata_chunk u b g) h k = one_idata i t a f u b g h k
one_chunk i (re_config_chunk xs) (re_config_chunk ys) h k = ap re_config_chunk (one_tiling IsParameter one_parameter_lem i.value xs ys h.value k.value)
one_chunk i (forward_tsn_chunk t xs) (forward_tsn_chunk u ys) h k = one_forward i t xs u ys h k
one_chunk i (i_forward_tsn_chunk t xs) (i_forward_tsn_chunk u ys) h k = one_i_forward i t xs u ys h k
one_chunk i (unknown_chunk t f v) (unknown_chunk u g w) h k = same_unknown t f v u g w (sym h.kind ∙ k.kind) (h.flags ∙ sym k.flags) (sym h.value ∙ k.value)
one_chunk i x (unknown_chunk n c w) h k = absurd (other_kind (chunk_type x) n i h.kind k.kind refl k.of_its_type)
one_chunk i (unknown_chunk n c w) y h k = absurd (other_kind (chunk_type y) n i k.kind h.kind refl h.of_its_type)
one_chunk i x y h k = absurd (omega (arith, h.kind, k.kind))
