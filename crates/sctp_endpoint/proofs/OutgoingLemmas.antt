-- Packets that are put together: their sizes, and the builder that writes them.
use Rattle.std.proofs.Common.{◌≡◌, ℕ, ◌+◌, ◌-◌, ◌%◌, ◌^◌, ◌&&◌, min, max, ◌<◌, ◌≤◌, Bool, true, false, cond, leb, List, [], ◌∷◌, ◌++◌, length, take, drop, refl, ap, ◌∙◌, inl, inr, Result, Ok, Err, OnOk, OnErr, arith}
use Rattle.std.proofs.lemmas.Bool.{cases_lt, le-leb, lt-leb}
use Rattle.std.proofs.lemmas.List.{length-append, length-drop}
use Rattle.std.proofs.lemmas.List.Concat.{flat_map-cons}
use Rattle.sctp_packet.specs.Chunk.{ChunkTree}
use Rattle.sctp_packet.specs.Written.{chunk_item, chunk_is_whole, chunk_bytes, chunks_bytes}
use Rattle.sctp_wire.specs.Checksum.{with_zero_field}
use Rattle.sctp_wire.specs.Field.{be16, be32}
use Rattle.sctp_wire.specs.Item.{Item}
use Rattle.sctp_wire.specs.Serialize.{is_encodable, padded_item}
use Rattle.sctp_packet.specs.Packet.{HeaderTree, header_bytes, unsummed_bytes, packet_bytes}
use Rattle.sctp_packet.specs.Builder.{BuilderTree, Holds, so_far, build}
use Rattle.sctp_packet.proofs.BuilderLemmas.{built_is_packet, chunks_bytes_push, chunk_is_some}
use Rattle.spec_endpoint.specs.Packets.{PacketDraft, is_some_chunk, room, fits}
use Rattle.spec_endpoint.specs.Wire.{word_at, word_in, written_bytes}

false_not_true : false ≡ true → ⊥
false_not_true e = cc

pub no_chunks : chunks_bytes [] ≡ []
unfolding chunks_bytes
no_chunks = refl

pub first_chunk : (c : ChunkTree) (cs : List ChunkTree) → chunks_bytes (c ∷ cs) ≡ chunk_bytes c ++ chunks_bytes cs
unfolding chunks_bytes
first_chunk c cs = flat_map-cons chunk_bytes c cs

pub length_last : (cs : List ChunkTree) (c : ChunkTree) → length (chunks_bytes (cs ++ c ∷ [])) ≡ length (chunks_bytes cs) + length (chunk_bytes c)
length_last cs c = ap length (chunks_bytes_push cs c) ∙ length-append (chunks_bytes cs) (chunk_bytes c)

-- a size that is capped above the room is compared alike
pub within : (size capped room : ℕ) → capped ≡ min size (2 ^ 64 - 1) → room < 2 ^ 32 → leb capped room ≡ leb size room
within size capped room e small = elim (cases_lt room size) [
  | inl over ↦ rw (lt-leb capped room (omega (arith, e, over, small)), lt-leb size room over) refl
  | inr fits ↦ rw (le-leb capped room (omega (arith, e, fits)), le-leb size room fits) refl
]

-- ---- none, and one more

pub none_short : (chunks : List ChunkTree) (limit : ℕ) → chunks ≡ [] → 12 + length (chunks_bytes chunks) ≤ max 12 limit
none_short chunks limit none = omega (arith, ap (λ (cs : List ChunkTree). length (chunks_bytes cs)) none, ap length no_chunks)

pub more_short : (old : List ChunkTree) (t : ChunkTree) (limit : ℕ) → 12 + length (chunks_bytes old) ≤ max 12 limit
    → length (chunk_bytes t) ≤ limit - (12 + length (chunks_bytes old)) → 12 + length (chunks_bytes (old ++ t ∷ [])) ≤ max 12 limit
more_short old t limit short fits = omega (arith, short, fits, length_last old t, chunk_is_some t)

-- one more, or none without memory
pub more_short_if : {T E : Type 0} (r : Result T E) (old new : List ChunkTree) (t : ChunkTree) (limit : ℕ) → OnOk r (new ≡ old ++ t ∷ []) → OnErr r (new ≡ old)
    → 12 + length (chunks_bytes old) ≤ max 12 limit → length (chunk_bytes t) ≤ limit - (12 + length (chunks_bytes old)) → 12 + length (chunks_bytes new) ≤ max 12 limit
more_short_if (Ok done) old new t limit ok err short fits = rw ok (more_short old t limit short fits)
more_short_if (Err fault) old new t limit ok err short fits = rw err short

-- what is written as the chunk is fits as it does
pub fits_as : (i : Item) (whole : Bool) (t : ChunkTree) (p : PacketDraft) → i ≡ chunk_item t → whole ≡ chunk_is_whole t
    → (is_encodable i whole && leb (length (padded_item i)) (room p)) ≡ fits p t
unfolding chunk_bytes
fits_as i whole t p e f = rw (e, f) refl

pub length_as : (i : Item) (t : ChunkTree) → i ≡ chunk_item t → length (padded_item i) ≡ length (chunk_bytes t)
unfolding chunk_bytes
length_as i t e = rw e refl

-- ---- the bytes

-- the word of the packet so far
whole_again : (h : HeaderTree) (body : List ℕ) → with_zero_field (take 8 (unsummed_bytes h body)) (drop 12 (unsummed_bytes h body)) ≡ unsummed_bytes h body
unfolding unsummed_bytes header_bytes be16 be32
whole_again h body = refl

so_far_some : (h : HeaderTree) (body : List ℕ) → 0 < length body → so_far h body ≡ unsummed_bytes h body
so_far_some h [] some = absurd (omega (arith, some))
so_far_some h (b ∷ body) some = refl

some_bytes : (c : ChunkTree) (cs : List ChunkTree) → 0 < length (chunks_bytes (c ∷ cs))
some_bytes c cs = omega (arith, ap length (first_chunk c cs), length-append (chunk_bytes c) (chunks_bytes cs), chunk_is_some c)

pub bytes_of_some : (chunks : List ChunkTree) → is_some_chunk chunks ≡ true → 0 < length (chunks_bytes chunks)
bytes_of_some [] some = absurd (false_not_true some)
bytes_of_some (c ∷ cs) some = some_bytes c cs

-- what has these chunks behind room for a header
pub behind_header : (chunks : List ChunkTree) (bytes : List ℕ) → is_some_chunk chunks ≡ true → drop 12 bytes ≡ chunks_bytes chunks → length bytes ≡ 12 + length (chunks_bytes chunks)
behind_header chunks bytes some are = omega (arith, bytes_of_some chunks some, ap length are, length-drop 12 bytes)

-- a packet with chunks is within its limit
pub some_short : (chunks : List ChunkTree) (limit : ℕ) → is_some_chunk chunks ≡ true → 12 + length (chunks_bytes chunks) ≤ max 12 limit → 12 + length (chunks_bytes chunks) ≤ limit
some_short chunks limit some short = omega (arith, short, bytes_of_some chunks some)

word_is : (word_of : List ℕ → ℕ) (h : HeaderTree) (c : ChunkTree) (cs : List ChunkTree) → word_at word_of (so_far h (chunks_bytes (c ∷ cs))) ≡ word_in word_of h (c ∷ cs)
word_is word_of h c cs =
    ap (word_at word_of) (so_far_some h (chunks_bytes (c ∷ cs)) (some_bytes c cs)) ∙ ap (λ (x : List ℕ). word_of x % 2 ^ 32) (whole_again h (chunks_bytes (c ∷ cs)))

field_is : (word_of : List ℕ → ℕ) (h : HeaderTree) (summed : Bool) (word : ℕ) (c : ChunkTree) (cs : List ChunkTree) → word ≡ word_in word_of h (c ∷ cs)
    → packet_bytes h (cond summed word 0) (c ∷ cs) ≡ written_bytes word_of h summed (c ∷ cs)
field_is word_of h true word c cs e = ap (λ (w : ℕ). packet_bytes h w (c ∷ cs)) e
field_is word_of h false word c cs e = refl

pub made_written : (word_of : List ℕ → ℕ) (h : HeaderTree) (limit : ℕ) (summed : Bool) (chunks : List ChunkTree) (b : BuilderTree) (word : ℕ) (made : List ℕ)
    → is_some_chunk chunks ≡ true → Holds b chunks → record b { body = [] } ≡ record { header = h; limit = limit; writes_checksum = summed; body = [] }
    → word ≡ word_at word_of (so_far b.header b.body) → made ≡ build b.writes_checksum b.header word b.body → made ≡ written_bytes word_of h summed chunks
made_written word_of h limit summed [] b word made some holds same w m = absurd (false_not_true some)
made_written word_of h limit summed (c ∷ cs) b word made some holds same w m =
    let header : b.header ≡ h = ap (λ (x : BuilderTree). x.header) same in
    let sums : b.writes_checksum ≡ summed = ap (λ (x : BuilderTree). x.writes_checksum) same in
    let field : word ≡ word_in word_of h (c ∷ cs) =
    w ∙ ap (λ (x : List ℕ). word_at word_of (so_far b.header x)) holds
    ∙ ap (λ (k : HeaderTree). word_at word_of (so_far k (chunks_bytes (c ∷ cs)))) header ∙ word_is word_of h c cs in
    m ∙ ap (λ (x : List ℕ). build b.writes_checksum b.header word x) holds
    ∙ ap (λ (k : HeaderTree). build b.writes_checksum k word (chunks_bytes (c ∷ cs))) header
    ∙ ap (λ (k : Bool). build k h word (chunks_bytes (c ∷ cs))) sums
    ∙ built_is_packet summed h word c cs ∙ field_is word_of h summed word c cs field
