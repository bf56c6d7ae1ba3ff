-- A set of offsets has one list of runs, and no list of blocks over it is shorter.
use Rattle.std.proofs.Common.{◌≡◌, ℕ, ◌+◌, ◌<◌, ◌≤◌, Bool, true, false, ltb, ◌&&◌, List, [], ◌∷◌, length, refl, sym, ap, ◌∙◌, subst, inl, inr, arith}
use Rattle.std.specs.List.{All, AllByRecursion, filter}
use Rattle.std.proofs.lemmas.Bool.{lt-ltb, le-ltb, cases_lt, cases_order, both_ways}
use Rattle.std.proofs.lemmas.Bool.Decides.{nat_tests}
use Rattle.std.proofs.lemmas.List.Elements.{All-from_recursion}
use Rattle.sctp_chunk.specs.declared.sack.GapAckBlock.{GapAckBlock}
use Rattle.sctp_chunk.specs.Covered.{is_covered, AreRuns, SameOffsets, IsMaximalRun}
use Rattle.sctp_chunk.proofs.SackLemmas.{is_covered_below}

before_first : (low n : ℕ) (b : GapAckBlock) (bs : List GapAckBlock) → AreRuns low (b ∷ bs) → n < b.start → is_covered (b ∷ bs) n ≡ false
before_first low n b bs r h = grind (arith, nat_tests, is_covered_below (b.end + 2) n bs r.2 (omega arith))

at_first : (low : ℕ) (b : GapAckBlock) (bs : List GapAckBlock) → AreRuns low (b ∷ bs) → is_covered (b ∷ bs) b.start ≡ true
at_first low b bs r = grind (arith, nat_tests)

past_last : (low : ℕ) (b : GapAckBlock) (bs : List GapAckBlock) → AreRuns low (b ∷ bs) → is_covered (b ∷ bs) (b.end + 1) ≡ false
past_last low b bs r = grind (arith, nat_tests, is_covered_below (b.end + 2) (b.end + 1) bs r.2 (omega arith))

within : (n : ℕ) (b : GapAckBlock) (bs : List GapAckBlock) → b.start ≤ n → n ≤ b.end → is_covered (b ∷ bs) n ≡ true
within n b bs h k = grind (arith, nat_tests)

later : (n : ℕ) (b : GapAckBlock) (bs : List GapAckBlock) → b.end < n → is_covered (b ∷ bs) n ≡ is_covered bs n
later n b bs h = grind (arith, nat_tests)

-- ---- runs are maximal

maximal_from : (low : ℕ) (blocks runs : List GapAckBlock) → AreRuns low runs → ((n : ℕ) → low ≤ n + 1 → is_covered blocks n ≡ is_covered runs n) → AllByRecursion (IsMaximalRun blocks) runs
maximal_from low blocks [] r same = tt
maximal_from low blocks (b ∷ bs) r same = (
  record {
    full = r.1;
    inside = λ n h k. same n (omega arith) ∙ within n b bs h k;
    before = λ n e. same n (omega arith) ∙ before_first low n b bs r (omega arith);
    behind = same (b.end + 1) (omega arith) ∙ past_last low b bs r;
  },
  maximal_from (b.end + 2) blocks bs r.2 (λ n h. same n (omega arith) ∙ later n b bs (omega arith)),
)

-- each of the runs over the offsets of blocks is a maximal run of these
pub runs_are_maximal : (blocks runs : List GapAckBlock) → AreRuns 0 runs → SameOffsets runs blocks → All (IsMaximalRun blocks) runs
runs_are_maximal blocks runs r same = All-from_recursion (IsMaximalRun blocks) runs (maximal_from 0 blocks runs r (λ n h. sym (same n)))

-- ---- one list of runs

same_block : (b c : GapAckBlock) → b.start ≡ c.start → b.end ≡ c.end → b ≡ c
same_block b c h k =
    let made : ℕ → ℕ → GapAckBlock = λ x y. record { start = x; end = y } in
    ap (λ x. made x b.end) h ∙ ap (λ y. made c.start y) k

abbrev SameFrom : ℕ → List GapAckBlock → List GapAckBlock → Type 0
SameFrom low bs cs = (n : ℕ) → low ≤ n → is_covered bs n ≡ is_covered cs n

same_starts : (low : ℕ) (b c : GapAckBlock) (bs cs : List GapAckBlock) → AreRuns low (b ∷ bs) → AreRuns low (c ∷ cs) → SameFrom low (b ∷ bs) (c ∷ cs) → b.start ≡ c.start
same_starts low b c bs cs r q same =
    elim (cases_order b.start c.start) [
      | inl e ↦ e
      | inr (inl less) ↦ absurd (both_ways _ (before_first low b.start c cs q less) (sym (same b.start (omega arith)) ∙ at_first low b bs r))
      | inr (inr more) ↦ absurd (both_ways _ (before_first low c.start b bs r more) (same c.start (omega arith) ∙ at_first low c cs q))
    ]

same_ends : (low : ℕ) (b c : GapAckBlock) (bs cs : List GapAckBlock) → AreRuns low (b ∷ bs) → AreRuns low (c ∷ cs) → SameFrom low (b ∷ bs) (c ∷ cs) → b.start ≡ c.start → b.end ≡ c.end
same_ends low b c bs cs r q same e =
    elim (cases_order b.end c.end) [
      | inl e ↦ e
      | inr (inl less) ↦ absurd (both_ways _ (past_last low b bs r) (same (b.end + 1) (omega arith) ∙ within (b.end + 1) c cs (omega arith) (omega arith)))
      | inr (inr more) ↦ absurd (both_ways _ (past_last low c cs q) (sym (same (c.end + 1) (omega arith)) ∙ within (c.end + 1) b bs (omega arith) (omega arith)))
    ]

same_runs : (low : ℕ) (bs cs : List GapAckBlock) → AreRuns low bs → AreRuns low cs → SameFrom low bs cs → bs ≡ cs
same_runs low [] [] r q same = refl
same_runs low [] (c ∷ cs) r q same = absurd (both_ways false refl (same c.start (omega arith) ∙ at_first low c cs q))
same_runs low (b ∷ bs) [] r q same = absurd (both_ways false refl (sym (same b.start (omega arith)) ∙ at_first low b bs r))
same_runs low (b ∷ bs) (c ∷ cs) r q same =
    let starts = same_starts low b c bs cs r q same in
    let ends = same_ends low b c bs cs r q same starts in
    let rest : SameFrom (b.end + 2) bs cs = λ n h. sym (later n b bs (omega arith)) ∙ (same n (omega arith) ∙ later n c cs (omega arith)) in
    let tails = same_runs (b.end + 2) bs cs r.2 (subst (λ (x : ℕ). AreRuns (x + 2) cs) (sym ends) q.2) rest in
    ap (λ x. x ∷ bs) (same_block b c starts ends) ∙ ap (λ z. c ∷ z) tails

-- over the same offsets there is one list of runs
pub one_form : (bs cs : List GapAckBlock) → AreRuns 0 bs → AreRuns 0 cs → SameOffsets bs cs → bs ≡ cs
one_form bs cs r q same = same_runs 0 bs cs r q (λ n h. same n)

-- ---- no list is shorter

-- it starts above e
abbrev past : ℕ → GapAckBlock → Bool
past e b = ltb e b.start

-- What starts at e or before covers nothing above e, where e + 1 is not covered.
is_covered_past : (e n : ℕ) (bs : List GapAckBlock) → is_covered bs (e + 1) ≡ false → is_covered (filter (past e) bs) n ≡ (ltb e n && is_covered bs n)
is_covered_past e n [] gap = grind (arith, nat_tests)
is_covered_past e n (b ∷ bs) gap =
    let rest_gap : is_covered bs (e + 1) ≡ false = grind (arith, nat_tests) in
    let rest = is_covered_past e n bs rest_gap in
    elim (cases_lt e b.start) [
      | inl above ↦ rw (lt-ltb e b.start above) (grind (arith, nat_tests, rest))
      | inr here ↦ rw (le-ltb e b.start here) (grind (arith, nat_tests, rest))
    ]

length_filter_within : (e : ℕ) (bs : List GapAckBlock) → length (filter (past e) bs) ≤ length bs
length_filter_within e [] = omega arith
length_filter_within e (b ∷ bs) =
    elim (cases_lt e b.start) [
      | inl above ↦ rw (lt-ltb e b.start above) (omega (arith, length_filter_within e bs))
      | inr here ↦ rw (le-ltb e b.start here) (omega (arith, length_filter_within e bs))
    ]

-- one that covers m is left out
length_filter_fewer : (e m : ℕ) (bs : List GapAckBlock) → m ≤ e → is_covered bs m ≡ true → length (filter (past e) bs) < length bs
length_filter_fewer e m [] h c = absurd (both_ways _ refl c)
length_filter_fewer e m (b ∷ bs) h c =
    elim (cases_lt e b.start) [
      | inl above ↦
          let behind : is_covered bs m ≡ true = grind (arith, nat_tests) in
          rw (lt-ltb e b.start above) (omega (arith, length_filter_fewer e m bs h behind))
      | inr here ↦ rw (le-ltb e b.start here) (omega (arith, length_filter_within e bs))
    ]

behind_first : (low n : ℕ) (b : GapAckBlock) (bs : List GapAckBlock) → AreRuns low (b ∷ bs) → is_covered bs n ≡ (ltb b.end n && is_covered (b ∷ bs) n)
behind_first low n b bs r =
    elim (cases_lt b.end n) [
      | inl past ↦ rw (lt-ltb b.end n past) (sym (later n b bs past))
      | inr here ↦ rw (le-ltb b.end n here) (is_covered_below (b.end + 2) n bs r.2 (omega arith))
    ]

shortest_from : (low : ℕ) (runs others : List GapAckBlock) → AreRuns low runs → SameOffsets runs others → length runs ≤ length others
shortest_from low [] others r same = omega arith
shortest_from low (b ∷ bs) others r same =
    let gap = sym (same (b.end + 1)) ∙ past_last low b bs r in
    let rest : SameOffsets bs (filter (past b.end) others) =
    λ n. behind_first low n b bs r ∙ (ap (λ x. ltb b.end n && x) (same n) ∙ sym (is_covered_past b.end n others gap)) in
    let behind = shortest_from (b.end + 2) bs (filter (past b.end) others) r.2 rest in
    let fewer = length_filter_fewer b.end b.start others r.1 (sym (same b.start) ∙ at_first low b bs r) in
    omega arith

-- no list of blocks over the same offsets is shorter than the runs
pub shortest : (runs others : List GapAckBlock) → AreRuns 0 runs → SameOffsets runs others → length runs ≤ length others
shortest runs others r same = shortest_from 0 runs others r same
