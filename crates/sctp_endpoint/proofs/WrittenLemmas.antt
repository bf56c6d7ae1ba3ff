-- Chunks that are written one after the other: their bytes, and one more.
use Rattle.std.proofs.Common.{◌≡◌, ℕ, zero, suc, ◌+◌, ◌-◌, ◌^◌, min, ◌<◌, ◌≤◌, List, [], ◌∷◌, ◌++◌, length, map, drop, cond, is_ok, refl, sym, ap, ◌∙◌, Result, Ok, Err, OnOk, OnErr, arith}
use Rattle.std.proofs.lemmas.List.{drop_all, length-append}
use Rattle.sctp_wire.specs.Item.{Item}
use Rattle.sctp_wire.specs.Serialize.{IsEncodable, padded_item}
use Rattle.sctp_wire.proofs.SerializeLemmas.{length_padded_item}
use Rattle.sctp_packet.specs.Chunk.{ChunkTree}
use Rattle.sctp_packet.specs.Written.{chunk_item, chunk_bytes, chunks_bytes}
use Rattle.sctp_packet.proofs.BuilderLemmas.{chunks_bytes_push}
use Rattle.sctp_endpoint.specs.declared.written_chunks.WrittenChunk.{WrittenChunk}
use Rattle.sctp_endpoint.specs.WrittenChunks.{written_tree}

abbrev AreBytesOf : (bytes : List ℕ) → List WrittenChunk → Type 0
AreBytesOf bytes chunks = drop 12 bytes ≡ chunks_bytes (map written_tree chunks)

-- room for a header, or nothing
pub header_room : {T E : Type 0} (r : Result T E) (old kept new header : List ℕ) → length old < 12 → kept ≡ [] → length header ≡ 12 → new ≡ cond (is_ok r) (kept ++ header) kept
    → drop 12 new ≡ drop 12 old
header_room r old kept new header short none twelve made = drop_all 12 new (at_most r made) ∙ sym (drop_all 12 old (omega (arith, short)))
  where
    at_most : {T E : Type 0} (r : Result T E) → new ≡ cond (is_ok r) (kept ++ header) kept → length new ≤ 12
    at_most (Ok done) e = omega (arith, ap length e, ap length none, twelve, length-append kept header)
    at_most (Err fault) e = omega (arith, ap length e, ap length none)

pub none_written : (bytes : List ℕ) (chunks : List WrittenChunk) → bytes ≡ [] → chunks ≡ [] → AreBytesOf bytes chunks
unfolding chunks_bytes
none_written bytes chunks e f = rw (e, f) refl

-- what is appended behind the header is appended to the body
drop_before : (n : ℕ) (xs ys : List ℕ) → n ≤ length xs → drop n (xs ++ ys) ≡ drop n xs ++ ys
drop_before zero xs ys l = refl
drop_before (suc n) [] ys l = absurd (omega (arith, l))
drop_before (suc n) (x ∷ xs) ys l = drop_before n xs ys (omega (arith, l))

trees_push : (chunks : List WrittenChunk) (w : WrittenChunk) → map written_tree (chunks ++ w ∷ []) ≡ map written_tree chunks ++ written_tree w ∷ []
trees_push [] w = refl
trees_push (c ∷ chunks) w = ap (λ (ts : List ChunkTree). written_tree c ∷ ts) (trees_push chunks w)

item_bytes_are : (i : Item) (t : ChunkTree) → i ≡ chunk_item t → padded_item i ≡ chunk_bytes t
unfolding chunk_bytes
item_bytes_are i t e = ap padded_item e

-- the bytes that were reserved are enough
pub never_full : {T E : Type 0} (r : Result T E) (i : Item) (len size capacity : ℕ) → IsEncodable i → size ≡ min (length (padded_item i)) (2 ^ 64 - 1) → len + size ≤ capacity
    → OnErr r (capacity < len + length (padded_item i)) → OnErr r ⊥
never_full (Ok done) i len size capacity small e room full = tt
never_full (Err fault) i len size capacity small e room full = omega (arith, small, e, room, full, length_padded_item i)

-- one more
pub one_more : {T E : Type 0} (r : Result T E) (old kept new : List ℕ) (chunks more : List WrittenChunk) (w : WrittenChunk) (i : Item) → OnErr r ⊥ → AreBytesOf old chunks → drop 12 kept ≡ drop 12 old → 12 ≤ length kept
    → more ≡ chunks ++ w ∷ [] → i ≡ chunk_item (written_tree w) → OnOk r (new ≡ kept ++ padded_item i) → AreBytesOf new more
one_more (Err fault) old kept new chunks more w i never are stays long pushed same wrote = absurd never
one_more (Ok done) old kept new chunks more w i never are stays long pushed same wrote =
    ap (drop 12) wrote ∙ drop_before 12 kept (padded_item i) long
    ∙ ap (λ (x : List ℕ). x ++ padded_item i) (stays ∙ are) ∙ ap (λ (x : List ℕ). chunks_bytes (map written_tree chunks) ++ x) (item_bytes_are i (written_tree w) same)
    ∙ sym (chunks_bytes_push (map written_tree chunks) (written_tree w)) ∙ ap chunks_bytes (sym (trees_push chunks w)) ∙ ap (λ (x : List WrittenChunk). chunks_bytes (map written_tree x)) (sym pushed)
