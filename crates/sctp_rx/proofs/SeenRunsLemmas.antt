-- Adding a number to maximal runs.
use Rattle.std.proofs.Common.{◌≡◌, ℕ, ◌+◌, ◌<◌, ◌≤◌, Bool, true, false, eqb, leb, not, ◌||◌, ◌&&◌, List, [], ◌∷◌, max, refl, sym, subst, ap, ◌∙◌, inl, inr, arith}
use Rattle.std.proofs.lemmas.Bool.{lt-ltb, le-ltb, cases_lt}
use Rattle.std.proofs.lemmas.Bool.Decides.{nat_tests}
use Rattle.sctp_rx.specs.Seen.{Run}
use Rattle.sctp_rx.specs.Seen.{in_runs, AreRuns, last_above}
use Rattle.sctp_rx.specs.SeenSteps.{Adds}
use Rattle.sctp_rx.proofs.SeenEdits.{grown_to, add_here, add_number}
use Rattle.sctp_serial.proofs.NumberLemmas.{or_swap}

-- the new number is in, and the others are as they were
pub in_runs_grown_to : (f n m e : ℕ) (rs : List Run) → n ≡ e + 1 → f ≤ e → AreRuns e rs → in_runs (grown_to f n rs) m ≡ (eqb m n || ((leb f m && leb m e) || in_runs rs m))
in_runs_grown_to f n m e [] s h r = grind (arith, nat_tests)
in_runs_grown_to f n m e (c ∷ qs) s h r = grind (arith, nat_tests)

pub in_runs_add_here : (point n m : ℕ) (b : Run) (rs : List Run) → AreRuns point (b ∷ rs) → n ≤ b.last + 1 → in_runs (add_here n b rs) m ≡ (eqb m n || in_runs (b ∷ rs) m)
in_runs_add_here point n m b rs r k =
    elim (cases_lt b.last n) [
      | inl past ↦ grind (arith, nat_tests, in_runs_grown_to b.first n m b.last rs (omega arith) r.1 r.2)
      | inr within ↦ grind (arith, nat_tests)
    ]

pub in_runs_add_number : (point n m : ℕ) (rs : List Run) → AreRuns point rs → in_runs (add_number n rs) m ≡ (eqb m n || in_runs rs m)
in_runs_add_number point n m [] r = grind (arith, nat_tests)
in_runs_add_number point n m (b ∷ rs) r =
    elim (cases_lt (b.last + 1) n) [
      | inl past ↦
          rw (lt-ltb (b.last + 1) n past)
          (ap (λ x. (leb b.first m && leb m b.last) || x) (in_runs_add_number b.last n m rs r.2) ∙ or_swap (leb b.first m && leb m b.last) (eqb m n) (in_runs rs m))
      | inr here ↦ rw (le-ltb (b.last + 1) n here) (in_runs_add_here point n m b rs r here)
    ]

AreRuns_grown_to : (point f n e : ℕ) (rs : List Run) → n ≡ e + 1 → point + 1 < f → f ≤ e → AreRuns e rs → AreRuns point (grown_to f n rs)
AreRuns_grown_to point f n e [] s p h r = grind (arith, nat_tests)
AreRuns_grown_to point f n e (c ∷ qs) s p h r = grind (arith, nat_tests)

AreRuns_add_here : (point n : ℕ) (b : Run) (rs : List Run) → AreRuns point (b ∷ rs) → point + 1 < n → n ≤ b.last + 1 → AreRuns point (add_here n b rs)
AreRuns_add_here point n b rs r h k =
    elim (cases_lt b.last n) [
      | inl past ↦ grind (arith, nat_tests, AreRuns_grown_to point b.first n b.last rs (omega arith) r.0 r.1 r.2)
      | inr within ↦ grind (arith, nat_tests)
    ]

pub AreRuns_add_number : (point n : ℕ) (rs : List Run) → AreRuns point rs → point + 1 < n → AreRuns point (add_number n rs)
AreRuns_add_number point n [] r h = grind (arith, nat_tests)
AreRuns_add_number point n (b ∷ rs) r h =
    elim (cases_lt (b.last + 1) n) [
      | inl past ↦ rw (lt-ltb (b.last + 1) n past) ((r.0, r.1, AreRuns_add_number b.last n rs r.2 past))
      | inr here ↦ rw (le-ltb (b.last + 1) n here) (AreRuns_add_here point n b rs r h here)
    ]

pub le_last_above : (point : ℕ) (rs : List Run) → AreRuns point rs → point ≤ last_above point rs
le_last_above point [] r = omega arith
le_last_above point (b ∷ rs) r = omega (arith, le_last_above b.last rs r.2)

last_above_grown_to : (p f n e : ℕ) (rs : List Run) → n ≡ e + 1 → AreRuns e rs → last_above p (grown_to f n rs) ≡ max n (last_above e rs)
last_above_grown_to p f n e [] s r = grind (arith, nat_tests)
last_above_grown_to p f n e (c ∷ qs) s r = grind (arith, nat_tests, le_last_above c.last qs r.2)

last_above_add_here : (point n : ℕ) (b : Run) (rs : List Run) → AreRuns point (b ∷ rs) → n ≤ b.last + 1 → last_above point (add_here n b rs) ≡ max n (last_above point (b ∷ rs))
last_above_add_here point n b rs r k =
    elim (cases_lt b.last n) [
      | inl past ↦ grind (arith, nat_tests, last_above_grown_to point b.first n b.last rs (omega arith) r.2)
      | inr within ↦ grind (arith, nat_tests, le_last_above b.last rs r.2)
    ]

pub last_above_add_number : (point n : ℕ) (rs : List Run) → AreRuns point rs → point < n → last_above point (add_number n rs) ≡ max n (last_above point rs)
last_above_add_number point n [] r h = grind (arith, nat_tests)
last_above_add_number point n (b ∷ rs) r h =
    elim (cases_lt (b.last + 1) n) [
      | inl past ↦ rw (lt-ltb (b.last + 1) n past) (last_above_add_number b.last n rs r.2 (omega arith))
      | inr here ↦ rw (le-ltb (b.last + 1) n here) (last_above_add_here point n b rs r here)
    ]

-- numbers at or below a point, next to the runs, are in none of them
pub in_runs_below : (point n : ℕ) (rs : List Run) → AreRuns point rs → n ≤ point + 1 → in_runs rs n ≡ false
in_runs_below point n [] r h = refl
in_runs_below point n (b ∷ rs) r h = grind (arith, nat_tests, in_runs_below b.last n rs r.2 (omega arith))

pub next_is_new : (c n : ℕ) (rs : List Run) → AreRuns c rs → n ≡ c + 1 → true ≡ not (leb n c || in_runs rs n)
next_is_new c n rs r h = grind (arith, nat_tests, in_runs_below c n rs r (omega arith))

pub front_is_seen : (c n : ℕ) (rs : List Run) → n ≤ c → (m : ℕ) → (leb m c || in_runs rs m) ≡ (eqb m n || (leb m c || in_runs rs m))
front_is_seen c n rs h m = grind (arith, nat_tests)

-- what is added, by its properties
pub adds : (n : ℕ) (old new : List Run) (held : Bool) → AreRuns 0 old → new ≡ add_number n old → held ≡ in_runs old n → Adds n old (not held) new
adds n old new held r e was =
    subst (λ (rs : List Run). Adds n old (not held) rs) (sym e)
    (record {
      answer = ap not was;
      numbers = λ m. in_runs_add_number 0 n m old r;
      runs = λ below a l. AreRuns_add_number below n old a l;
      last = λ below a l. last_above_add_number below n old a l;
    })

-- what is added above a front
pub added_to : (c n : ℕ) (old : List Run) (is_new : Bool) (new : List Run) → Adds n old is_new new → (m : ℕ) → (leb m c || in_runs new m) ≡ (eqb m n || (leb m c || in_runs old m))
added_to c n old is_new new a m = ap (λ x. leb m c || x) (a.numbers m) ∙ or_swap (leb m c) (eqb m n) (in_runs old m)
