-- Moving a front up, over the runs that it reaches.
use Rattle.std.proofs.Common.{◌≡◌, ℕ, ◌+◌, ◌<◌, ◌≤◌, Bool, eqb, leb, ◌||◌, ◌&&◌, List, [], ◌∷◌, ◌++◌, max, sym, ap, ◌∙◌, subst, arith}
use Rattle.std.proofs.lemmas.Bool.Decides.{nat_tests}
use Rattle.sctp_rx.specs.Seen.{Run, in_runs, AreRuns, last_above}
use Rattle.sctp_rx.specs.SeenSteps.{Cuts, Passes}
use Rattle.sctp_rx.proofs.SeenRunsLemmas.{le_last_above}

pub AreRuns_from : (p q : ℕ) (rs : List Run) → q ≤ p → AreRuns p rs → AreRuns q rs
AreRuns_from p q [] h r = tt
AreRuns_from p q (b ∷ rs) h r = (omega arith, r.1, r.2)

pub AreRuns_from_none : (c : ℕ) (rs : List Run) → AreRuns c rs → AreRuns 0 rs
AreRuns_from_none c rs r = AreRuns_from c 0 rs (omega arith) r

-- the end of the last run, wherever the runs are seen from
pub last_above_max : (c : ℕ) (rs : List Run) → AreRuns c rs → last_above c rs ≡ max c (last_above 0 rs)
last_above_max c [] r = omega arith
last_above_max c (b ∷ rs) r = omega (arith, le_last_above b.last rs r.2)

pub within_last : (n c : ℕ) (rs : List Run) → AreRuns c rs → n ≤ c → last_above c rs ≡ max n (last_above c rs)
within_last n c rs r h = omega (arith, le_last_above c rs r)

-- one run is passed
pub record PassesOne (p q : ℕ) (b : Run) (old new : List Run) : Type 0 where
  pub numbers : (m : ℕ) → (leb m q || in_runs new m) ≡ (leb m p || in_runs old m)
  pub runs : AreRuns 0 new
  pub last : max q (last_above 0 new) ≡ max p (last_above 0 old)
  pub here : b.last ≤ last_above 0 old

either_way : (p n f l : ℕ) (v : Bool) → f ≤ p + 1 → f ≤ l → (leb n (max p l) || v) ≡ (leb n p || ((leb f n && leb n l) || v))
either_way p n f l v h k = grind (arith, nat_tests)

passes_one_of : (p : ℕ) (b : Run) (rs : List Run) → AreRuns 0 (b ∷ rs) → b.first ≤ p + 1 → PassesOne p (max p b.last) b (b ∷ rs) rs
passes_one_of p b rs r joins = record {
  numbers = λ m. either_way p m b.first b.last (in_runs rs m) joins r.1;
  runs = AreRuns_from_none b.last rs r.2;
  last = omega (arith, last_above_max b.last rs r.2);
  here = le_last_above b.last rs r.2;
}

pub passes_one : (p q : ℕ) (b : Run) (old new : List Run) → AreRuns 0 old → old ≡ b ∷ new → q ≡ max p b.last → b.first ≤ p + 1 → PassesOne p q b old new
passes_one p q b old new r split reach joins =
    let runs = subst (λ (z : List Run). AreRuns 0 z) split r in
    rw (reach, split) (passes_one_of p b new runs joins)

up_to_both : (p c n : ℕ) (v : Bool) → c < p → (leb n p || v) ≡ (leb n p || (leb n c || v))
up_to_both p c n v h = grind (arith, nat_tests)

one_more : (p c n : ℕ) (v : Bool) → p ≡ c + 1 → (leb n p || v) ≡ (eqb n p || (leb n c || v))
one_more p c n v h = grind (arith, nat_tests)

-- every number up to p, where p is past the front
pub passed_over : (p c q : ℕ) (old new : List Run) → Passes p old q new → c < p → (n : ℕ) → (leb n q || in_runs new n) ≡ (leb n p || (leb n c || in_runs old n))
passed_over p c q old new w h n = w.numbers n ∙ up_to_both p c n (in_runs old n) h

-- the number after the front
pub passed_next : (p c q : ℕ) (old new : List Run) → Passes p old q new → p ≡ c + 1 → (n : ℕ) → (leb n q || in_runs new n) ≡ (eqb n p || (leb n c || in_runs old n))
passed_next p c q old new w h n = w.numbers n ∙ one_more p c n (in_runs old n) h

-- the greatest number
pub last_above_passed : (p c q : ℕ) (old new : List Run) → AreRuns c old → Passes p old q new → c < p → last_above q new ≡ max p (last_above c old)
last_above_passed p c q old new r w h = omega (arith, last_above_max c old r, last_above_max q new w.runs, w.last)

-- where the front is past n already
pub below_front : (c n : ℕ) (rs : List Run) → n ≤ c → (m : ℕ) → (leb m c || in_runs rs m) ≡ (leb m n || (leb m c || in_runs rs m))
below_front c n rs h m = reached (in_runs rs m)
  where
    reached : (v : Bool) → (leb m c || v) ≡ (leb m n || (leb m c || v))
    reached v = grind (arith, nat_tests)

-- ---- the runs that begin at p or below it go out together

abbrev pub BeginUpTo : ℕ → List Run → Type 0
BeginUpTo p [] = Unit {0}
BeginUpTo p (b ∷ rs) = (b.first ≤ p) × BeginUpTo p rs

begin_onward : (p q : ℕ) (rs : List Run) → p ≤ q → BeginUpTo p rs → BeginUpTo q rs
begin_onward p q [] h b = tt
begin_onward p q (r ∷ rs) h b = (omega (arith, b.0, h), begin_onward p q rs h b.1)

record CutsFrom (c p : ℕ) (low rest : List Run) : Type 0 where
  numbers : (m : ℕ) → (leb m (max p (last_above c low)) || in_runs rest m) ≡ (leb m p || in_runs (low ++ rest) m)
  runs : AreRuns 0 rest
  last : max (max p (last_above c low)) (last_above 0 rest) ≡ max p (last_above 0 (low ++ rest))

AreRuns_front : (c : ℕ) (low rest : List Run) → AreRuns c (low ++ rest) → AreRuns c low
AreRuns_front c [] rest r = tt
AreRuns_front c (b ∷ low) rest r = (r.0, r.1, AreRuns_front b.last low rest r.2)

cuts_from : (c p : ℕ) (low rest : List Run) → c ≤ p → BeginUpTo p low → AreRuns c (low ++ rest) → CutsFrom c p low rest
cuts_from c p [] rest h b r =
    let same : max p c ≡ p = omega (arith, h) in
    record {
      numbers = λ m. ap (λ q. leb m q || in_runs rest m) same;
      runs = AreRuns_from_none c rest r;
      last = ap (λ q. max q (last_above 0 rest)) same;
    }
cuts_from c p (b ∷ low) rest h begin r =
    let one = passes_one_of p b (low ++ rest) (AreRuns_from_none c (b ∷ (low ++ rest)) r) (omega (arith, begin.0)) in
    let more = cuts_from b.last (max p b.last) low rest (omega arith) (begin_onward p (max p b.last) low (omega arith) begin.1) r.2 in
    let same : max (max p b.last) (last_above b.last low) ≡ max p (last_above b.last low) = omega (arith, le_last_above b.last low (AreRuns_front b.last low rest r.2)) in
    record {
      numbers = λ m. ap (λ q. leb m q || in_runs rest m) (sym same) ∙ (more.numbers m ∙ one.numbers m);
      runs = more.runs;
      last = ap (λ q. max q (last_above 0 rest)) (sym same) ∙ (more.last ∙ one.last);
    }

pub cuts : (p q : ℕ) (old low rest : List Run) → old ≡ low ++ rest → BeginUpTo p low → q ≡ max p (last_above 0 low) → AreRuns 0 old → Cuts p old q rest
cuts p q old low rest is begin reach r =
    let c = cuts_from 0 p low rest (omega arith) begin (subst (λ (t : List Run). AreRuns 0 t) is r) in
    rw (reach, is) (record { numbers = c.numbers; runs = c.runs; onward = omega arith; last = c.last })
