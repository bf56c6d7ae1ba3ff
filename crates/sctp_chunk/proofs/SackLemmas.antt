-- SACK chunks read: the counts fix the length. Runs of covered offsets.
use Rattle.std.proofs.Common.{◌≡◌, ℕ, ◌+◌, ◌*◌, ◌^◌, ◌<◌, ◌≤◌, ◌≢◌, false, List, [], ◌∷◌, ◌++◌, length, refl, sym, ap, ◌∙◌, append_assoc, arith}
use Rattle.std.specs.List.{flat_map}
use Rattle.std.proofs.lemmas.Bool.Decides.{nat_tests}
use Rattle.std.proofs.lemmas.List.{length-append}
use Rattle.sctp_wire.specs.Field.{be16, be32, length_be16, length_be32}
use Rattle.sctp_serial.specs.declared.types.tsn.Tsn.{Tsn}
use Rattle.sctp_wire.proofs.SerializeLemmas.{length_entries}
use Rattle.sctp_chunk.specs.declared.sack.GapAckBlock.{GapAckBlock}
use Rattle.sctp_chunk.specs.Chunk.{SackTree}
use Rattle.sctp_chunk.specs.Covered.{is_covered, AreRuns}
use Rattle.sctp_chunk.specs.Written.{sack_value, block_bytes, tsn_bytes}
use Rattle.sctp_chunk.specs.Grammar.{IsCounted}
use Rattle.sctp_chunk.proofs.FieldLemmas.{cut_eight}
use Rattle.sctp_wire.proofs.FieldLemmas.{be16_same}

pub counted_is_long : (value : List ℕ) → length value < 12 → IsCounted value → ⊥
counted_is_long value short c =
    let front = c.0 in
    let blocks = c.1 in
    let duplicates = c.2 in
    let behind = c.3 in
    omega (
      arith,
      short,
      c.4,
      ap length c.7,
      length-append front (be16 blocks ++ (be16 duplicates ++ behind)),
      length-append (be16 blocks) (be16 duplicates ++ behind),
      length-append (be16 duplicates) behind,
      length_be16 blocks,
      length_be16 duplicates,
    )

pub counted_otherwise : (value : List ℕ) (a b m n : ℕ) (rest : List ℕ) → m < 2 ^ 16 → n < 2 ^ 16
    → value ≡ be32 a ++ (be32 b ++ (be16 m ++ (be16 n ++ rest))) → length rest ≢ 4 * m + 4 * n → IsCounted value → ⊥
counted_otherwise value a b m n rest hm hn e other c =
    let tail : be16 m ++ (be16 n ++ rest) ≡ be16 c.1 ++ (be16 c.2 ++ c.3) = cut_eight a b (be16 m ++ (be16 n ++ rest)) c.0 (be16 c.1 ++ (be16 c.2 ++ c.3)) c.4 (sym e ∙ c.7) in
    let one = be16_same m c.1 (be16 n ++ rest) (be16 c.2 ++ c.3) hm c.5 tail in
    let two = be16_same n c.2 rest c.3 hn c.6 one.1 in
    other (ap length two.1 ∙ c.8 ∙ ap (λ (k : ℕ). 4 * k + 4 * c.2) (sym one.0) ∙ ap (λ (k : ℕ). 4 * m + 4 * k) (sym two.0))

pub four_fields : (value : List ℕ) (a b m n : ℕ) (r1 r2 r3 r4 : List ℕ) → value ≡ be32 a ++ r1 → r1 ≡ be32 b ++ r2 → r2 ≡ be16 m ++ r3 → r3 ≡ be16 n ++ r4
    → value ≡ be32 a ++ (be32 b ++ (be16 m ++ (be16 n ++ r4)))
four_fields value a b m n r1 r2 r3 r4 e0 e1 e2 e3 =
    e0 ∙ ap (λ (x : List ℕ). be32 a ++ x) (e1 ∙ ap (λ (x : List ℕ). be32 b ++ x) (e2 ∙ ap (λ (x : List ℕ). be16 m ++ x) e3))

pub sack_written : (s : SackTree) (m n : ℕ) (blocks : List GapAckBlock) (duplicates : List Tsn) (o front w : List ℕ)
    → m ≡ length s.gap_ack_blocks → n ≡ length s.duplicate_tsns → blocks ≡ s.gap_ack_blocks → duplicates ≡ s.duplicate_tsns
    → front ≡ o ++ (be32 s.cumulative_tsn_ack ++ (be32 s.a_rwnd ++ (be16 m ++ be16 n))) → w ≡ front ++ flat_map block_bytes blocks
    → w ++ flat_map tsn_bytes duplicates ≡ o ++ sack_value s
unfolding sack_value
sack_written s m n blocks duplicates o front w em en eb ed e1 e2 = rw (e2, e1, em, en, eb, ed) (simp append_assoc)

-- a list of entries of four bytes that fills its place
pub counted_entries : {E : Type 0} (f : E → List ℕ) → ((e : E) → length (f e) ≡ 4) → (es : List E) (bytes : List ℕ) (n : ℕ) → bytes ≡ flat_map f es → length bytes ≡ 4 * n → length es ≡ n
counted_entries f each es bytes n e len = omega (arith, ap length e, length_entries f 4 each es)

pub sack_read : (s : SackTree) (value front back rest : List ℕ) (m n : ℕ)
    → value ≡ be32 s.cumulative_tsn_ack ++ (be32 s.a_rwnd ++ (be16 m ++ (be16 n ++ rest))) → rest ≡ front ++ back
    → front ≡ flat_map block_bytes s.gap_ack_blocks → back ≡ flat_map tsn_bytes s.duplicate_tsns → length s.gap_ack_blocks ≡ m → length s.duplicate_tsns ≡ n
    → value ≡ sack_value s
unfolding sack_value
sack_read s value front back rest m n e er ef eb em en = rw (em, en, ← ef, ← eb, ← er) e

-- fields in front of as many entries as they count
pub counted_as : (value : List ℕ) (a b m n : ℕ) (rest : List ℕ) → m < 2 ^ 16 → n < 2 ^ 16
    → value ≡ be32 a ++ (be32 b ++ (be16 m ++ (be16 n ++ rest))) → length rest ≡ 4 * m + 4 * n → IsCounted value
counted_as value a b m n rest hm hn e len = (
  be32 a ++ be32 b,
  m,
  n,
  rest,
  omega (arith, length-append (be32 a) (be32 b), length_be32 a, length_be32 b),
  hm,
  hn,
  e ∙ sym (append_assoc (be32 a) (be32 b) (be16 m ++ (be16 n ++ rest))),
  len,
)

-- ---- runs of covered offsets

pub is_covered_below : (low n : ℕ) (bs : List GapAckBlock) → AreRuns low bs → n < low → is_covered bs n ≡ false
is_covered_below low n [] r h = refl
is_covered_below low n (b ∷ bs) r h = grind (arith, nat_tests, is_covered_below (b.end + 2) n bs r.2 (omega arith))

pub runs_lower : (low high : ℕ) (bs : List GapAckBlock) → low ≤ high → AreRuns high bs → AreRuns low bs
runs_lower low high [] h r = tt
runs_lower low high (b ∷ bs) h r = (omega (arith, h, r.0), r.1, r.2)
