-- What is true of every tracker, and of what it reports.
use Rattle.std.proofs.Common.{◌≡◌, inl, inr, ℕ, zero, suc, ◌+◌, ◌-◌, ◌*◌, ◌≤◌, Bool, true, false, leb, ◌||◌, ◌&&◌, List, [], ◌∷◌, length, take, max, refl, subst, arith}
use Rattle.std.specs.Prelude.{nat_lt}
use Rattle.std.proofs.lemmas.Bool.{cases_lt, le-leb, lt-leb, or_right}
use Rattle.std.proofs.lemmas.Bool.Decides.{nat_tests}
use Rattle.sctp_rx.specs.Seen.{Run, Seen, in_runs, AreRuns, contains, IsInRuns, last_above, highest}
use Rattle.sctp_rx.specs.DataTracker.{Tracker, IsTracker, is_valid, window, bound}
use Rattle.sctp_rx.specs.Sack.{blocks_of, gap_ack_blocks, is_covered}

-- each run takes at least two numbers: its own and a missing one before it
length_runs : (p : ℕ) (rs : List Run) → AreRuns p rs → p + 2 * length rs ≤ last_above p rs
length_runs p [] r = omega arith
length_runs p (b ∷ rs) r = omega (arith, length_runs b.last rs r.2)

-- so the window bounds their count
few_near : (s : Seen) → IsInRuns s → highest s ≤ s.front + window → length s.runs ≤ 50000
few_near s r near = omega (arith, length_runs s.front s.runs r, near)

pub few_runs : (t : Tracker) → IsTracker t → length t.seen.runs ≤ 50000
few_runs t i = few_near t.seen i.runs i.near

-- also once a valid number came
pub few_after : (t : Tracker) (n : ℕ) (old new : Seen) → IsTracker t → old ≡ t.seen → is_valid t n ≡ true → IsInRuns new → highest new ≡ max n (highest old) → old.front ≤ new.front → length new.runs ≤ 50000
few_after t n old new i same valid r most onward =
    let P : Seen → Type 0 = λ s. (highest new ≡ max n (highest s)) × (s.front ≤ new.front) in
    let there = subst P same (most, onward) in
    let within : n ≤ t.seen.front + window = near_front t.seen.front n (nat_lt n (t.begin + bound)) valid in
    few_near new r (omega (arith, there, within, i.near))
  where
    near_front : (f n : ℕ) (v : Bool) → (leb f (n + window) && (leb n (f + window) && v)) ≡ true → n ≤ f + window
    near_front f n v e = grind (arith, nat_tests)

near_seen : (c d : ℕ) (b : Run) (rs : List Run) (v : Bool) → c ≤ b.first → b.first ≤ b.last → ((leb (b.first - c) d && leb d (b.last - c)) || v) ≡ true → (v ≡ true → in_runs rs (c + d) ≡ true) → in_runs (b ∷ rs) (c + d) ≡ true
near_seen c d b rs true h o e more = grind (arith, nat_tests, more refl)
near_seen c d b rs false h o e more = grind (arith, nat_tests)

covered_in_runs : (c q n d : ℕ) (rs : List Run) → c ≤ q → AreRuns q rs → is_covered (blocks_of c (take n rs)) d ≡ true → in_runs rs (c + d) ≡ true
covered_in_runs c q zero d rs h r e = absurd (cc)
covered_in_runs c q (suc n) d [] h r e = absurd (cc)
covered_in_runs c q (suc n) d (b ∷ rs) h r e =
    elim (cases_lt 65535 (b.last - c)) [
      | inl far ↦ let e' = rw (lt-leb (b.last - c) 65535 far) at e in grind (arith, nat_tests, covered_in_runs c b.last n d rs (omega arith) r.2 e')
      | inr near ↦
          let e' = rw (le-leb (b.last - c) 65535 near) at e in
          near_seen c d b rs (is_covered (blocks_of c (take n rs)) d) (omega arith) r.1 e' (covered_in_runs c b.last n d rs (omega arith) r.2)
    ]

-- what the blocks of a SACK cover was seen
pub covered_was_seen : (s : Seen) → IsInRuns s → (offset : ℕ) → is_covered (gap_ack_blocks s) offset ≡ true → contains s (s.front + offset) ≡ true
covered_was_seen s r offset e = or_right (leb (s.front + offset) s.front) (in_runs s.runs (s.front + offset)) (covered_in_runs s.front s.front 20 offset s.runs (omega arith) r e)
