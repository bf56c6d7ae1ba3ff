-- Packets that are being built.
use Rattle.std.proofs.Common.{◌≡◌, ℕ, ◌+◌, ◌-◌, ◌^◌, min, ◌<◌, ◌≤◌, ◌==◌, Bool, true, false, cond, List, [], ◌∷◌, ◌++◌, length, take, drop, refl, sym, ap, subst, ◌∙◌, append_assoc, Result, Ok, Err, OnOk, is_ok, arith}
use Rattle.std.specs.List.{flat_map}
use Rattle.std.proofs.lemmas.List.{append-nil, length-append, length-take, length-drop, take_at}
use Rattle.std.proofs.lemmas.List.Concat.{flat_map-cons}
use Rattle.std.proofs.lemmas.Bool.{eqb-true}
use Rattle.sctp_wire.specs.Field.{be16, be32, length_be32}
use Rattle.sctp_wire.specs.Serialize.{IsEncodable, padded_item}
use Rattle.sctp_wire.proofs.SerializeLemmas.{length_padded_item}
use Rattle.sctp_chunk.specs.Chunk.{ChunkTree}
use Rattle.sctp_chunk.specs.Written.{chunk_item, chunk_bytes, chunks_bytes}
use Rattle.sctp_packet.specs.Packet.{HeaderTree, header_bytes, unsummed_bytes, joined_bytes, packet_bytes}
use Rattle.sctp_packet.proofs.PacketLemmas.{length_joined}
use Rattle.sctp_packet.specs.Builder.{BuilderTree, HasPacket, build}

pub chunk_behind_header : (h : HeaderTree) (o w chunk : List ℕ) → o ≡ [] → w ≡ o ++ unsummed_bytes h [] → w ++ chunk ≡ unsummed_bytes h chunk
unfolding unsummed_bytes header_bytes be16 be32
chunk_behind_header h o w chunk none e = rw (e, none) refl

-- what a call leaves that appends or fails
pub appended : {T E : Type 0} (r : Result T E) (new more old whole : List ℕ) → new ≡ cond (is_ok r) more old → more ≡ whole → OnOk r (new ≡ whole)
appended (Ok done) new more old whole e f = e ∙ f
appended (Err fault) new more old whole e f = tt

drop_front : (h : HeaderTree) (body : List ℕ) → drop 12 (unsummed_bytes h body) ≡ body
unfolding unsummed_bytes header_bytes be16 be32
drop_front h body = refl

pub unsummed_behind : (h : HeaderTree) (body more : List ℕ) → unsummed_bytes h body ++ more ≡ unsummed_bytes h (body ++ more)
unfolding unsummed_bytes header_bytes be16 be32
unsummed_behind h body more = refl

length_unsummed : (h : HeaderTree) (body : List ℕ) → length (unsummed_bytes h body) ≡ 12 + length body
unfolding unsummed_bytes header_bytes be16 be32
length_unsummed h body = omega arith

-- a header is written over the first bytes of these, which are as many as the limit
module _ (h : HeaderTree) (limit : ℕ) (old new : List ℕ) (wrote : new ≡ unsummed_bytes h (drop 12 old)) where
  pub headed_body : drop 12 new ≡ drop 12 old
  headed_body = ap (drop 12) wrote ∙ drop_front h (drop 12 old)

  pub headed : 12 < length old → length old ≡ limit → HasPacket h limit new
  headed some full = record {
    more_than_header = λ _. omega (arith, some, ap length wrote, length_unsummed h (drop 12 old), length-drop 12 old);
    packet = λ _. wrote ∙ ap (unsummed_bytes h) (sym headed_body);
    fits = λ _. omega (arith, some, full, ap length wrote, length_unsummed h (drop 12 old), length-drop 12 old);
  }

pub headed_whole : (h : HeaderTree) (n : ℕ) (old new rest : List ℕ) → n ≡ length old → 12 < length old → new ≡ unsummed_bytes h (drop 12 old) → take n (new ++ rest) ≡ unsummed_bytes h (drop 12 old)
headed_whole h n old new rest len some wrote = take_at new rest n (omega (arith, len, some, ap length wrote, length_unsummed h (drop 12 old), length-drop 12 old)) ∙ wrote

pub chunk_is_some : (t : ChunkTree) → 0 < length (chunk_bytes t)
unfolding chunk_bytes
chunk_is_some t = omega (arith, length_padded_item (chunk_item t))

module _ (h : HeaderTree) (limit : ℕ) (new chunks : List ℕ) where
  added_to : (old : List ℕ) → HasPacket h limit old → (old ≡ [] → new ≡ unsummed_bytes h chunks) → (0 < length old → new ≡ old ++ chunks)
      → new ≡ unsummed_bytes h (drop 12 old ++ chunks)
  added_to [] has first more = first refl
  added_to (b ∷ old) has first more =
      more (omega arith) ∙ ap (λ (x : List ℕ). x ++ chunks) (has.packet (omega arith)) ∙ unsummed_behind h (drop 12 (b ∷ old)) chunks

-- the bytes after chunks were added
module _ (h : HeaderTree) (limit : ℕ) (old new chunks : List ℕ) (has : HasPacket h limit old) (first : old ≡ [] → new ≡ unsummed_bytes h chunks)
    (more : 0 < length old → new ≡ old ++ chunks) where
  added : new ≡ unsummed_bytes h (drop 12 old ++ chunks)
  added = added_to h limit new chunks old has first more

  pub added_body : drop 12 new ≡ drop 12 old ++ chunks
  added_body = ap (drop 12) added ∙ drop_front h (drop 12 old ++ chunks)

  pub still_packet : 0 < length chunks → length chunks ≤ limit - (12 + length (drop 12 old)) → HasPacket h limit new
  still_packet some room = record {
    more_than_header = λ _. omega (arith, some, ap length added, length_unsummed h (drop 12 old ++ chunks), length-append (drop 12 old) chunks);
    packet = λ _. added ∙ ap (unsummed_bytes h) (sym added_body);
    fits = λ _. omega (arith, some, room, ap length added, length_unsummed h (drop 12 old ++ chunks), length-append (drop 12 old) chunks);
  }

-- the room that was reserved stays
pub still_reserved : (old : List ℕ) (limit before after : ℕ) → (0 < length old → limit ≤ before) → (old ≡ [] → limit ≤ after) → (0 < length old → before ≤ after) → limit ≤ after
still_reserved [] limit before after had first more = first refl
still_reserved (b ∷ old) limit before after had first more =
    let kept : limit ≤ before = had (omega arith) in
    let grown : before ≤ after = more (omega arith) in
    omega arith

pub chunks_bytes_push : (chunks : List ChunkTree) (t : ChunkTree) → chunks_bytes (chunks ++ t ∷ []) ≡ chunks_bytes chunks ++ chunk_bytes t
unfolding chunks_bytes
chunks_bytes_push [] t = flat_map-cons chunk_bytes t [] ∙ append-nil (chunk_bytes t)
chunks_bytes_push (c ∷ chunks) t =
    flat_map-cons chunk_bytes c (chunks ++ t ∷ []) ∙ ap (λ (x : List ℕ). chunk_bytes c ++ x) (chunks_bytes_push chunks t)
    ∙ sym (append_assoc (chunk_bytes c) (chunks_bytes chunks) (chunk_bytes t)) ∙ ap (λ (x : List ℕ). x ++ chunk_bytes t) (sym (flat_map-cons chunk_bytes c chunks))

-- one more chunk is held
pub holds_more : (old new : List ℕ) (chunks : List ChunkTree) (t : ChunkTree) → old ≡ chunks_bytes chunks → new ≡ old ++ chunk_bytes t → new ≡ chunks_bytes (chunks ++ t ∷ [])
holds_more old new chunks t e f = f ∙ ap (λ (x : List ℕ). x ++ chunk_bytes t) e ∙ sym (chunks_bytes_push chunks t)

-- ---- handed out

pub twelve : (xs : List ℕ) → drop 4 (drop 8 xs) ≡ drop 12 xs
twelve [] = refl
twelve (a ∷ []) = refl
twelve (a ∷ b ∷ []) = refl
twelve (a ∷ b ∷ c ∷ []) = refl
twelve (a ∷ b ∷ c ∷ d ∷ []) = refl
twelve (a ∷ b ∷ c ∷ d ∷ e ∷ []) = refl
twelve (a ∷ b ∷ c ∷ d ∷ e ∷ f ∷ []) = refl
twelve (a ∷ b ∷ c ∷ d ∷ e ∷ f ∷ g ∷ []) = refl
twelve (a ∷ b ∷ c ∷ d ∷ e ∷ f ∷ g ∷ h ∷ xs) = refl

summed_at : (h : HeaderTree) (word : ℕ) (body : List ℕ) → take 8 (unsummed_bytes h body) ++ (be32 word ++ drop 12 (unsummed_bytes h body)) ≡ joined_bytes h word body
unfolding unsummed_bytes header_bytes be16 be32
summed_at h word body = refl

zero_at : (h : HeaderTree) (body : List ℕ) → unsummed_bytes h body ≡ joined_bytes h 0 body
unfolding unsummed_bytes be32
zero_at h body = refl

built_some : (summed : Bool) (h : HeaderTree) (word : ℕ) (body : List ℕ) → 0 < length body → build summed h word body ≡ joined_bytes h (cond summed word 0) body
built_some summed h word [] some = absurd (omega arith)
built_some summed h word (b ∷ body) some = refl

pub built_summed : (h : HeaderTree) (limit : ℕ) (bytes new : List ℕ) (word : ℕ) (summed : Bool) → HasPacket h limit bytes → 0 < length bytes → summed ≡ true
    → new ≡ take 8 bytes ++ (be32 word ++ drop 12 bytes) → new ≡ build summed h word (drop 12 bytes)
built_summed h limit bytes new word summed has some on e =
    let whole = has.packet some in
    let more : 0 < length (drop 12 bytes) = omega (arith, has.more_than_header some, ap length whole, length_unsummed h (drop 12 bytes)) in
    e ∙ subst (λ (x : List ℕ). take 8 x ++ (be32 word ++ drop 12 x) ≡ joined_bytes h word (drop 12 x)) (sym whole)
    (summed_at h word (drop 12 bytes) ∙ ap (joined_bytes h word) (sym (drop_front h (drop 12 bytes))))
    ∙ sym (built_some summed h word (drop 12 bytes) more ∙ ap (λ (b : Bool). joined_bytes h (cond b word 0) (drop 12 bytes)) on)

pub built_plain : (h : HeaderTree) (limit : ℕ) (bytes : List ℕ) (word : ℕ) (summed : Bool) → HasPacket h limit bytes → 0 < length bytes → summed ≡ false → bytes ≡ build summed h word (drop 12 bytes)
built_plain h limit bytes word summed has some off =
    let whole = has.packet some in
    let more : 0 < length (drop 12 bytes) = omega (arith, has.more_than_header some, ap length whole, length_unsummed h (drop 12 bytes)) in
    whole ∙ zero_at h (drop 12 bytes) ∙ sym (built_some summed h word (drop 12 bytes) more ∙ ap (λ (b : Bool). joined_bytes h (cond b word 0) (drop 12 bytes)) off)

pub built_none : (h : HeaderTree) (bytes : List ℕ) (word : ℕ) (summed : Bool) → bytes ≡ [] → bytes ≡ build summed h word (drop 12 bytes)
built_none h bytes word summed none = none ∙ ap (λ (b : List ℕ). build summed h word (drop 12 b)) (sym none)

pub not_empty : (n : ℕ) (xs : List ℕ) → false ≡ (n == 0) → n ≡ length xs → xs ≡ [] → ⊥
not_empty n xs e len none = let zero_is : (n == 0) ≡ true = ap (λ (k : ℕ). k == 0) (len ∙ ap length none) in cc

abbrev pub builder : HeaderTree → ℕ → Bool → List ℕ → BuilderTree
builder h l w b = record { header = h; limit = l; writes_checksum = w; body = b }

pub some_bytes : (n : ℕ) (xs ys : List ℕ) → false ≡ (n == 0) → n ≡ length xs → xs ≡ ys → 0 < length ys
some_bytes n xs [] e len same = absurd (not_empty n xs e len same)
some_bytes n xs (y ∷ ys) e len same = omega arith

pub no_bytes : (n : ℕ) (xs ys : List ℕ) → true ≡ (n == 0) → n ≡ length xs → xs ≡ ys → ys ≡ []
no_bytes n xs [] e len same = refl
no_bytes n xs (y ∷ ys) e len same = let zero_is : n ≡ 0 = eqb-true n 0 (sym e) in absurd (omega (arith, zero_is, len, ap length same))

pub built_off : (h : HeaderTree) (limit : ℕ) (bytes : List ℕ) (word : ℕ) (summed : Bool) → HasPacket h limit bytes → summed ≡ false → bytes ≡ build summed h word (drop 12 bytes)
built_off h limit [] word summed has off = built_none h [] word summed refl
built_off h limit (b ∷ bytes) word summed has off = built_plain h limit (b ∷ bytes) word summed has (omega arith) off

-- a word that was written over four bytes leaves the length as it was
pub written_whole : (n : ℕ) (new rest xs : List ℕ) (word : ℕ) → n ≡ length xs → 12 ≤ length xs → new ≡ take 8 xs ++ (be32 word ++ drop 12 xs) → take n (new ++ rest) ≡ new
written_whole n new rest xs word len long e =
    take_at new rest n (omega (arith, len, long, ap length e, length-append (take 8 xs) (be32 word ++ drop 12 xs), length-append (be32 word) (drop 12 xs), length_be32 word, length-take 8 xs, length-drop 12 xs))

length_built : (summed : Bool) (h : HeaderTree) (word : ℕ) (body : List ℕ) → 0 < length body → length (build summed h word body) ≡ 12 + length body
length_built summed h word body some = ap length (built_some summed h word body some) ∙ length_joined h (cond summed word 0) body

-- what is handed out is within the limit
pub built_short : (h : HeaderTree) (limit : ℕ) (bytes new : List ℕ) (word : ℕ) (summed : Bool) → HasPacket h limit bytes → new ≡ build summed h word (drop 12 bytes) → length new ≤ limit
built_short h limit [] new word summed has e = omega (arith, ap length e)
built_short h limit (b ∷ bytes) new word summed has e =
    let all : List ℕ = b ∷ bytes in
    let some : 0 < length all = omega arith in
    let more : 0 < length (drop 12 all) = omega (arith, has.more_than_header some, length-drop 12 all) in
    omega (arith, ap length e, length_built summed h word (drop 12 all) more, has.fits some, has.more_than_header some, length-drop 12 all)

pub built_is_packet : (summed : Bool) (h : HeaderTree) (word : ℕ) (t : ChunkTree) (chunks : List ChunkTree)
    → build summed h word (chunks_bytes (t ∷ chunks)) ≡ packet_bytes h (cond summed word 0) (t ∷ chunks)
unfolding chunks_bytes packet_bytes
built_is_packet summed h word t chunks =
    built_some summed h word (chunks_bytes (t ∷ chunks))
    (omega (arith, ap length (flat_map-cons chunk_bytes t chunks), length-append (chunk_bytes t) (flat_map chunk_bytes chunks), chunk_is_some t))

pub size_of_chunk : (t : ChunkTree) (size : ℕ) → IsEncodable (chunk_item t) → size ≡ min (length (padded_item (chunk_item t))) (2 ^ 64 - 1) → size ≡ length (chunk_bytes t)
unfolding chunk_bytes
size_of_chunk t size small e = omega (arith, e, small, length_padded_item (chunk_item t))
