-- Joining ascending blocks keeps the offsets, and gives runs.
use Rattle.std.proofs.Common.{◌≡◌, ℕ, suc, ◌+◌, ◌<◌, ◌≤◌, Bool, true, cond, leb, ltb, ◌||◌, List, [], ◌∷◌, length, max, get_or, refl, ap, ◌∙◌, inl, inr, arith}
use Rattle.std.specs.List.{All, filter}
use Rattle.std.specs.List.Sorted.{IsNonDecreasingBy}
use Rattle.std.proofs.lemmas.Bool.{lt-ltb, le-ltb, cases_lt}
use Rattle.std.proofs.lemmas.Bool.Decides.{nat_tests}
use Rattle.std.proofs.lemmas.List.Elements.{All-head, All-tail}
use Rattle.sctp_chunk.specs.declared.sack.GapAckBlock.{GapAckBlock}
use Rattle.sctp_chunk.specs.Covered.{covers, is_covered, AreRuns, Ascend}
use Rattle.sctp_serial.proofs.NumberLemmas.{or_assoc}

abbrev pub joined : GapAckBlock → GapAckBlock → GapAckBlock
joined run block = record { start = run.start; end = max run.end block.end }

-- a run and the blocks behind it, each joined to what it overlaps or follows
abbrev pub joined_to : GapAckBlock → List GapAckBlock → List GapAckBlock
joined_to run [] = run ∷ []
joined_to run (b ∷ bs) = cond (ltb (run.end + 1) b.start) (run ∷ joined_to b bs) (joined_to (joined run b) bs)

abbrev pub joined_all : List GapAckBlock → List GapAckBlock
joined_all [] = []
joined_all (b ∷ bs) = joined_to b bs

Ascend_lower : (low high : ℕ) (bs : List GapAckBlock) → low ≤ high → Ascend high bs → Ascend low bs
Ascend_lower low high [] h a = tt
Ascend_lower low high (b ∷ bs) h a = (omega arith, a.1, a.2)

covers_joined : (n : ℕ) (run b : GapAckBlock) → run.start ≤ run.end → run.start ≤ b.start → b.start ≤ b.end → b.start ≤ run.end + 1 → covers n (joined run b) ≡ (covers n run || covers n b)
covers_joined n run b h k l near = grind (arith, nat_tests)

is_covered_joined_to : (n : ℕ) (run : GapAckBlock) (bs : List GapAckBlock) → run.start ≤ run.end → Ascend run.start bs → is_covered (joined_to run bs) n ≡ is_covered (run ∷ bs) n
is_covered_joined_to n run [] h a = refl
is_covered_joined_to n run (b ∷ bs) h a =
    elim (cases_lt (run.end + 1) b.start) [
      | inl apart ↦ rw (lt-ltb (run.end + 1) b.start apart) (ap (λ x. covers n run || x) (is_covered_joined_to n b bs a.1 a.2))
      | inr near ↦
          rw (le-ltb (run.end + 1) b.start near)
          (is_covered_joined_to n (joined run b) bs (omega arith) (Ascend_lower run.start b.start bs a.0 a.2)
          ∙ (ap (λ x. x || is_covered bs n) (covers_joined n run b h a.0 a.1 near) ∙ or_assoc (covers n run) (covers n b) (is_covered bs n)))
    ]

AreRuns_joined_to : (low : ℕ) (run : GapAckBlock) (bs : List GapAckBlock) → low ≤ run.start → run.start ≤ run.end → Ascend run.start bs → AreRuns low (joined_to run bs)
AreRuns_joined_to low run [] l h a = (l, h, tt)
AreRuns_joined_to low run (b ∷ bs) l h a =
    elim (cases_lt (run.end + 1) b.start) [
      | inl apart ↦ rw (lt-ltb (run.end + 1) b.start apart) ((l, h, AreRuns_joined_to (run.end + 2) b bs (omega arith) a.1 a.2))
      | inr near ↦ rw (le-ltb (run.end + 1) b.start near) (AreRuns_joined_to low (joined run b) bs l (omega arith) (Ascend_lower run.start b.start bs a.0 a.2))
    ]

pub is_covered_joined_all : (n : ℕ) (bs : List GapAckBlock) → Ascend 0 bs → is_covered (joined_all bs) n ≡ is_covered bs n
is_covered_joined_all n [] a = refl
is_covered_joined_all n (b ∷ bs) a = is_covered_joined_to n b bs a.1 a.2

pub AreRuns_joined_all : (bs : List GapAckBlock) → Ascend 0 bs → AreRuns 0 (joined_all bs)
AreRuns_joined_all [] a = tt
AreRuns_joined_all (b ∷ bs) a = AreRuns_joined_to 0 b bs a.0 a.1 a.2

-- ---- sorted by their starts, the empty ones left out

abbrev pub is_full : GapAckBlock → Bool
is_full b = leb b.start b.end

pub is_covered_filter : (n : ℕ) (bs : List GapAckBlock) → is_covered (filter is_full bs) n ≡ is_covered bs n
is_covered_filter n [] = refl
is_covered_filter n (b ∷ bs) =
    elim (cases_lt b.end b.start) [
      | inl empty ↦ grind (arith, nat_tests, is_covered_filter n bs)
      | inr full ↦ grind (arith, nat_tests, is_covered_filter n bs)
    ]

pub Ascend_from_sorted : (low : ℕ) (bs : List GapAckBlock) → ((d : GapAckBlock) → 0 < length bs → low ≤ (get_or bs 0 d).start) → IsNonDecreasingBy (λ b. b.start) bs → All (λ b. is_full b ≡ true) bs → Ascend low bs
Ascend_from_sorted low [] first up full = tt
Ascend_from_sorted low (b ∷ bs) first up full =
    let head = All-head (λ b. is_full b ≡ true) b bs full in (
      first b (omega arith),
      grind (arith, nat_tests),
      Ascend_from_sorted b.start bs (λ d h. up 0 1 d (omega arith) (omega arith)) (λ i j d h k. up (suc i) (suc j) d (omega arith) (omega arith)) (All-tail (λ b. is_full b ≡ true) b bs full),
    )
