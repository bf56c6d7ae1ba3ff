-- Cleaned blocks are the maximal runs of the offsets that the blocks cover.
use Rattle.std.proofs.Common.{◌≡◌, ℕ, ◌+◌, ◌<◌, ◌≤◌, Bool, false, ◌||◌, List, [], ◌∷◌, max, min, refl, ap, ◌∙◌, inl, inr, arith}
use Rattle.std.proofs.lemmas.Bool.{lt-ltb, le-ltb, le-leb, lt-leb, cases_lt}
use Rattle.std.proofs.lemmas.Bool.Decides.{nat_tests}
use Rattle.sctp_chunk.specs.declared.sack.GapAckBlock.{GapAckBlock}
use Rattle.sctp_packet.specs.Covered.{covers, is_covered, AreRuns, SameOffsets}
use Rattle.spec_endpoint.specs.Sack.{merge_block, clean_blocks}
use Rattle.sctp_serial.proofs.NumberLemmas.{or_swap, or_assoc}
use Rattle.sctp_chunk.proofs.SackLemmas.{runs_lower}

abbrev joined : GapAckBlock → GapAckBlock → GapAckBlock
joined b r = record { start = min b.start r.start; end = max b.end r.end }

-- ---- runs

AreRuns_merged : (low : ℕ) (b : GapAckBlock) (rs : List GapAckBlock) → low ≤ b.start → b.start ≤ b.end → AreRuns low rs → AreRuns low (merge_block b rs)
AreRuns_merged low b [] l h a = (l, h, tt)
AreRuns_merged low b (r ∷ rs) l h a = elim (cases_lt (b.end + 1) r.start) [
  | inl before ↦ rw (lt-ltb (b.end + 1) r.start before) ((l, h, (omega (arith, before), a.1, a.2)))
  | inr near ↦ rw (le-ltb (b.end + 1) r.start near) (elim (cases_lt (r.end + 1) b.start) [
    | inl behind ↦ rw (lt-ltb (r.end + 1) b.start behind) ((a.0, a.1, AreRuns_merged (r.end + 2) b rs (omega (arith, behind)) h a.2))
    | inr touching ↦ rw (le-ltb (r.end + 1) b.start touching)
        (AreRuns_merged low (joined b r) rs (omega (arith, l, a.0)) (omega (arith, h, a.1)) (runs_lower low (r.end + 2) rs (omega (arith, a.0, a.1)) a.2))
  ])
]

pub AreRuns_cleaned : (bs : List GapAckBlock) → AreRuns 0 (clean_blocks bs)
AreRuns_cleaned [] = tt
AreRuns_cleaned (b ∷ bs) = elim (cases_lt b.end b.start) [
  | inl empty ↦ rw (lt-leb b.start b.end empty) (AreRuns_cleaned bs)
  | inr some ↦ rw (le-leb b.start b.end some) (AreRuns_merged 0 b (clean_blocks bs) (omega arith) some (AreRuns_cleaned bs))
]

-- ---- offsets

covers_joined : (n : ℕ) (b r : GapAckBlock) → b.start ≤ b.end → r.start ≤ r.end → r.start ≤ b.end + 1 → b.start ≤ r.end + 1
    → covers n (joined b r) ≡ (covers n b || covers n r)
covers_joined n b r h k near touching = grind (arith, nat_tests)

is_covered_merged : (n low : ℕ) (b : GapAckBlock) (rs : List GapAckBlock) → b.start ≤ b.end → AreRuns low rs
    → is_covered (merge_block b rs) n ≡ (covers n b || is_covered rs n)
is_covered_merged n low b [] h a = refl
is_covered_merged n low b (r ∷ rs) h a = elim (cases_lt (b.end + 1) r.start) [
  | inl before ↦ rw (lt-ltb (b.end + 1) r.start before) refl
  | inr near ↦ rw (le-ltb (b.end + 1) r.start near) (elim (cases_lt (r.end + 1) b.start) [
    | inl behind ↦ rw (lt-ltb (r.end + 1) b.start behind)
        (ap (λ (x : Bool). covers n r || x) (is_covered_merged n (r.end + 2) b rs h a.2) ∙ or_swap (covers n r) (covers n b) (is_covered rs n))
    | inr touching ↦ rw (le-ltb (r.end + 1) b.start touching)
        (is_covered_merged n (r.end + 2) (joined b r) rs (omega (arith, h, a.1)) a.2
        ∙ (ap (λ (x : Bool). x || is_covered rs n) (covers_joined n b r h a.1 near touching) ∙ or_assoc (covers n b) (covers n r) (is_covered rs n)))
  ])
]

covers_nothing : (n : ℕ) (b : GapAckBlock) → b.end < b.start → covers n b ≡ false
covers_nothing n b h = grind (arith, nat_tests)

pub SameOffsets_cleaned : (bs : List GapAckBlock) → SameOffsets (clean_blocks bs) bs
SameOffsets_cleaned [] n = refl
SameOffsets_cleaned (b ∷ bs) n = elim (cases_lt b.end b.start) [
  | inl empty ↦ rw (lt-leb b.start b.end empty, covers_nothing n b empty) (SameOffsets_cleaned bs n)
  | inr some ↦ rw (le-leb b.start b.end some)
      (is_covered_merged n 0 b (clean_blocks bs) some (AreRuns_cleaned bs) ∙ ap (λ (x : Bool). covers n b || x) (SameOffsets_cleaned bs n))
]
