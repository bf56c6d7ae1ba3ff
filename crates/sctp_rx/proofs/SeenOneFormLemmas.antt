-- A set has one form in runs: two with the same numbers are equal.
use Rattle.std.proofs.Common.{◌≡◌, ℕ, suc, ◌+◌, ◌-◌, ◌<◌, ◌≤◌, Bool, true, false, eqb, leb, ◌||◌, ◌&&◌, max, List, [], ◌∷◌, refl, sym, ap, ◌∙◌, subst, inl, inr, arith}
use Rattle.std.proofs.lemmas.Bool.{cases_order, both_ways, cases_lt, cases_eq, eq-eqb, ne_eqb, lt-ltb, le-ltb, le-leb, lt-leb}
use Rattle.std.proofs.lemmas.Bool.Decides.{nat_tests}
use Rattle.sctp_rx.specs.Seen.{Run, Seen, is_in, in_runs, AreRuns, contains, IsInRuns, join_run, with_number, absorb_runs, add, up_to}
use Rattle.sctp_rx.proofs.SeenEdits.{run}
use Rattle.sctp_rx.proofs.SeenRunsLemmas.{in_runs_below}
use Rattle.sctp_serial.proofs.NumberLemmas.{or_swap}

pub before_first : (p n : ℕ) (c : Run) (qs : List Run) → AreRuns p (c ∷ qs) → n < c.first → in_runs (c ∷ qs) n ≡ false
before_first p n c qs r h = grind (arith, nat_tests, in_runs_below c.last n qs r.2 (omega arith))

at_first : (p : ℕ) (b : Run) (rs : List Run) → AreRuns p (b ∷ rs) → in_runs (b ∷ rs) b.first ≡ true
at_first p b rs r = grind (arith, nat_tests)

pub past_last : (p : ℕ) (b : Run) (rs : List Run) → AreRuns p (b ∷ rs) → in_runs (b ∷ rs) (b.last + 1) ≡ false
past_last p b rs r = grind (arith, nat_tests, in_runs_below b.last (b.last + 1) rs r.2 (omega arith))

pub within : (n : ℕ) (b : Run) (rs : List Run) → b.first ≤ n → n ≤ b.last → in_runs (b ∷ rs) n ≡ true
within n b rs h k = grind (arith, nat_tests)

pub later : (n : ℕ) (b : Run) (rs : List Run) → b.last < n → in_runs (b ∷ rs) n ≡ in_runs rs n
later n b rs h = grind (arith, nat_tests)

same_run : (b c : Run) → b.first ≡ c.first → b.last ≡ c.last → b ≡ c
same_run b c h k = ap (λ x. run x b.last) h ∙ ap (λ y. run c.first y) k

abbrev SameAbove : ℕ → List Run → List Run → Type 0
SameAbove p rs qs = (n : ℕ) → p < n → in_runs rs n ≡ in_runs qs n

same_firsts : (p : ℕ) (b c : Run) (rs qs : List Run) → AreRuns p (b ∷ rs) → AreRuns p (c ∷ qs) → SameAbove p (b ∷ rs) (c ∷ qs) → b.first ≡ c.first
same_firsts p b c rs qs r q same =
    elim (cases_order b.first c.first) [
      | inl e ↦ e
      | inr (inl less) ↦ absurd (both_ways _ (before_first p b.first c qs q less) (sym (same b.first (omega arith)) ∙ at_first p b rs r))
      | inr (inr more) ↦ absurd (both_ways _ (before_first p c.first b rs r more) (same c.first (omega arith) ∙ at_first p c qs q))
    ]

same_lasts : (p : ℕ) (b c : Run) (rs qs : List Run) → AreRuns p (b ∷ rs) → AreRuns p (c ∷ qs) → SameAbove p (b ∷ rs) (c ∷ qs) → b.first ≡ c.first → b.last ≡ c.last
same_lasts p b c rs qs r q same e =
    elim (cases_order b.last c.last) [
      | inl e ↦ e
      | inr (inl less) ↦ absurd (both_ways _ (past_last p b rs r) (same (b.last + 1) (omega arith) ∙ within (b.last + 1) c qs (omega arith) (omega arith)))
      | inr (inr more) ↦ absurd (both_ways _ (past_last p c qs q) (sym (same (c.last + 1) (omega arith)) ∙ within (c.last + 1) b rs (omega arith) (omega arith)))
    ]

pub same_runs : (p : ℕ) (rs qs : List Run) → AreRuns p rs → AreRuns p qs → SameAbove p rs qs → rs ≡ qs
same_runs p [] [] r q same = refl
same_runs p [] (c ∷ qs) r q same = absurd (both_ways false refl (same c.first (omega arith) ∙ at_first p c qs q))
same_runs p (b ∷ rs) [] r q same = absurd (both_ways false refl (sym (same b.first (omega arith)) ∙ at_first p b rs r))
same_runs p (b ∷ rs) (c ∷ qs) r q same =
    let firsts = same_firsts p b c rs qs r q same in
    let lasts = same_lasts p b c rs qs r q same firsts in
    let heads = same_run b c firsts lasts in
    let rest : SameAbove b.last rs qs = λ n h. sym (later n b rs h) ∙ same n (omega arith) ∙ later n c qs (omega arith) in
    let tails = same_runs b.last rs qs r.2 (subst (λ x. AreRuns x qs) (sym lasts) q.2) rest in
    ap (λ x. x ∷ rs) heads ∙ ap (λ z. c ∷ z) tails

pub above_front : (c n : ℕ) (rs : List Run) → c < n → (leb n c || in_runs rs n) ≡ in_runs rs n
above_front c n rs h = grind (arith, nat_tests)

up_to_front : (c n : ℕ) (rs : List Run) → n ≤ c → (leb n c || in_runs rs n) ≡ true
up_to_front c n rs h = grind (arith, nat_tests)

same_fronts : (s t : Seen) → IsInRuns s → IsInRuns t → ((n : ℕ) → contains s n ≡ contains t n) → s.front ≡ t.front
same_fronts s t r q same =
    elim (cases_order s.front t.front) [
      | inl e ↦ e
      | inr (inl less) ↦ absurd (both_ways _ (above_front s.front (s.front + 1) s.runs (omega arith) ∙ in_runs_below s.front (s.front + 1) s.runs r (omega arith)) (same (s.front + 1) ∙ up_to_front t.front (s.front + 1) t.runs (omega arith)))
      | inr (inr more) ↦ absurd (both_ways _ (above_front t.front (t.front + 1) t.runs (omega arith) ∙ in_runs_below t.front (t.front + 1) t.runs q (omega arith)) (sym (same (t.front + 1)) ∙ up_to_front s.front (t.front + 1) s.runs (omega arith)))
    ]

-- the front and the runs follow from the set
pub one_form : (s t : Seen) → IsInRuns s → IsInRuns t → ((n : ℕ) → contains s n ≡ contains t n) → s ≡ t
one_form s t r q same =
    let made : ℕ → List Run → Seen = λ x y. record { front = x; runs = y } in
    let fronts = same_fronts s t r q same in
    let runs = same_runs s.front s.runs t.runs r (subst (λ x. AreRuns x t.runs) (sym fronts) q) (λ n h. sym (above_front s.front n s.runs h) ∙ same n ∙ above_front t.front n t.runs (omega arith)) in
    ap (λ x. made x s.runs) fronts ∙ ap (λ y. made t.front y) runs

-- ---- the sets that are computed

joined_in : (p m : ℕ) (r : Run) (rs : List Run) → r.first ≤ r.last → AreRuns p rs → in_runs (join_run r rs) m ≡ (is_in m r || in_runs rs m)
joined_in p m r [] h a = refl
joined_in p m r (q ∷ qs) h a =
    let b = a.1 in
    elim (cases_eq q.first (suc r.last)) [
      | inl e ↦ rw (eq-eqb q.first (suc r.last) e) (both (in_runs qs m) q.first q.last r.first r.last e b h)
      | inr d ↦ rw (ne_eqb q.first (suc r.last) d) refl
    ]
  where
    both : (y : Bool) (a b c d : ℕ) → a ≡ suc d → a ≤ b → c ≤ d → ((leb c m && leb m b) || y) ≡ ((leb c m && leb m d) || ((leb a m && leb m b) || y))
    both y a b c d e h k = grind (arith, nat_tests)

with_number_in : (below n m : ℕ) (rs : List Run) → AreRuns below rs → in_runs rs n ≡ false → in_runs (with_number n rs) m ≡ (eqb m n || in_runs rs m)
with_number_in below n m [] a h = grind (arith, nat_tests)
with_number_in below n m (r ∷ rs) a h =
    elim (cases_lt n r.first) [
      | inl l ↦ rw (lt-ltb n r.first l) (joined_in below m (record { first = n; last = n }) (r ∷ rs) (omega arith) a ∙ one (in_runs (r ∷ rs) m))
      | inr g ↦
          elim (cases_eq n (suc r.last)) [
            | inl e ↦
                rw (le-ltb n r.first g, eq-eqb n (suc r.last) e)
                (joined_in r.last m (record { first = r.first; last = n }) rs (let b = a.1 in omega (arith, b, e)) a.2 ∙ longer (in_runs rs m) r.first r.last e a.1)
            | inr d ↦
                rw (le-ltb n r.first g, ne_eqb n (suc r.last) d)
                (ap (λ z. is_in m r || z) (with_number_in r.last n m rs a.2 (behind (in_runs rs n) (is_in n r) h)) ∙ or_swap (is_in m r) (eqb m n) (in_runs rs m))
          ]
    ]
  where
    one : (y : Bool) → ((leb n m && leb m n) || y) ≡ (eqb m n || y)
    one y = grind (arith, nat_tests)

    longer : (y : Bool) (c d : ℕ) → n ≡ suc d → c ≤ d → ((leb c m && leb m n) || y) ≡ (eqb m n || ((leb c m && leb m d) || y))
    longer y c d e k = grind (arith, nat_tests)

    behind : (y z : Bool) → (z || y) ≡ false → y ≡ false
    behind y true h = cc
    behind y false h = h

with_number_runs : (below n : ℕ) (rs : List Run) → AreRuns below rs → suc below < n → in_runs rs n ≡ false → AreRuns below (with_number n rs)
with_number_runs below n [] a l h = (omega (arith, l), omega arith, tt)
with_number_runs below n (r ∷ rs) a l h =
    elim (cases_lt n r.first) [
      | inl k ↦ rw (lt-ltb n r.first k) (before k)
      | inr g ↦
          elim (cases_eq n (suc r.last)) [
            | inl e ↦ rw (le-ltb n r.first g, eq-eqb n (suc r.last) e) (longer g e rs a.2)
            | inr d ↦ rw (le-ltb n r.first g, ne_eqb n (suc r.last) d) (a.0, a.1, with_number_runs r.last n rs a.2 (above (in_runs rs n) r.first r.last g d h).0 (above (in_runs rs n) r.first r.last g d h).1)
          ]
    ]
  where
    before : n < r.first → AreRuns below (join_run (record { first = n; last = n }) (r ∷ rs))
    before k =
        let b = a.1 in
        elim (cases_eq r.first (suc n)) [
          | inl e ↦ rw (eq-eqb r.first (suc n) e) (omega (arith, l), omega (arith, e, b), a.2)
          | inr d ↦ rw (ne_eqb r.first (suc n) d) (omega (arith, l), omega arith, (omega (arith, k, d), a.1, a.2))
        ]

    longer : r.first ≤ n → n ≡ suc r.last → (qs : List Run) → AreRuns r.last qs → AreRuns below (join_run (record { first = r.first; last = n }) qs)
    longer g e [] b = (a.0, g, tt)
    longer g e (q ∷ qs) b =
        let c = b.0 in
        let d = b.1 in
        elim (cases_eq q.first (suc n)) [
          | inl f ↦ rw (eq-eqb q.first (suc n) f) (a.0, omega (arith, f, g, d), b.2)
          | inr f ↦ rw (ne_eqb q.first (suc n) f) (a.0, g, (omega (arith, c, e, f), b.1, b.2))
        ]

    above : (y : Bool) (c d : ℕ) → c ≤ n → (n ≡ suc d → ⊥) → ((leb c n && leb n d) || y) ≡ false → (suc d < n) × (y ≡ false)
    above y c d g e h = grind (arith, nat_tests)

contains_settle : (front m : ℕ) (rs : List Run) → contains (absorb_runs front rs) m ≡ (leb m front || in_runs rs m)
contains_settle front m [] = refl
contains_settle front m (r ∷ rs) =
    elim (cases_lt (suc front) r.first) [
      | inl l ↦ rw (lt-leb r.first (suc front) l) refl
      | inr g ↦ rw (le-leb r.first (suc front) g) (contains_settle (max front r.last) m rs ∙ both (in_runs rs m) r.first r.last g)
    ]
  where
    both : (y : Bool) (c d : ℕ) → c ≤ suc front → (leb m (max front d) || y) ≡ (leb m front || ((leb c m && leb m d) || y))
    both y c d h = grind (arith, nat_tests)

IsInRuns_settle : (p front : ℕ) (rs : List Run) → AreRuns p rs → IsInRuns (absorb_runs front rs)
IsInRuns_settle p front [] a = tt
IsInRuns_settle p front (r ∷ rs) a =
    elim (cases_lt (suc front) r.first) [
      | inl l ↦ rw (lt-leb r.first (suc front) l) (omega (arith, l), a.1, a.2)
      | inr g ↦ rw (le-leb r.first (suc front) g) (IsInRuns_settle r.last (max front r.last) rs a.2)
    ]

not_seen : (s : Seen) (n : ℕ) → contains s n ≡ false → (s.front < n) × (in_runs s.runs n ≡ false)
not_seen s n h = parts (in_runs s.runs n) h
  where
    parts : (y : Bool) → (leb n s.front || y) ≡ false → (s.front < n) × (y ≡ false)
    parts y h = grind (arith, nat_tests)

from_below : (p q : ℕ) (rs : List Run) → p ≤ q → AreRuns q rs → AreRuns p rs
from_below p q [] l a = tt
from_below p q (r ∷ rs) l a = let b = a.0 in (omega (arith, b, l), a.1, a.2)

-- a set with one number more, by what it contains
pub contains_add : (n m : ℕ) (s : Seen) → IsInRuns s → contains (add n s) m ≡ (eqb m n || contains s m)
contains_add n m s i = go (contains s n) refl
  where
    again : (y : Bool) → (m ≡ n → y ≡ true) → y ≡ (eqb m n || y)
    again true h = elim (eqb m n) as (λ b. true ≡ (b || true)) [ true ↦ refl | false ↦ refl ]
    again false h = elim (cases_eq m n) [ inl e ↦ absurd (no (h e)) | inr d ↦ rw (ne_eqb m n d) refl ]
      where
        no : false ≡ true → ⊥
        no e = cc

    go : (b : Bool) → contains s n ≡ b → contains (add n s) m ≡ (eqb m n || contains s m)
    go true e = rw e (contains_settle s.front m s.runs ∙ again (contains s m) (λ h. ap (contains s) h ∙ e))
    go false e =
        rw e
        (contains_settle s.front m (with_number n s.runs) ∙ (ap (λ z. leb m s.front || z) (with_number_in s.front n m s.runs i (not_seen s n e).1)
        ∙ or_swap (leb m s.front) (eqb m n) (in_runs s.runs m)))

pub IsInRuns_add : (n : ℕ) (s : Seen) → IsInRuns s → 0 < s.front → IsInRuns (add n s)
IsInRuns_add n s i l = go (contains s n) refl
  where
    go : (b : Bool) → contains s n ≡ b → IsInRuns (add n s)
    go true e = rw e (IsInRuns_settle s.front s.front s.runs i)
    go false e =
        let c : ℕ = s.front - 1 in
        let k : suc c ≡ s.front = omega (arith, l) in
        let a = not_seen s n e in
        let b = a.0 in
        rw e (IsInRuns_settle c s.front (with_number n s.runs) (with_number_runs c n s.runs (from_below c s.front s.runs (omega (arith, k)) i) (omega (arith, k, b)) a.1))

pub contains_up_to : (n m : ℕ) (s : Seen) → contains (up_to n s) m ≡ (leb m n || contains s m)
contains_up_to n m s = contains_settle (max n s.front) m s.runs ∙ either s.front (in_runs s.runs m)
  where
    either : (c : ℕ) (y : Bool) → (leb m (max n c) || y) ≡ (leb m n || (leb m c || y))
    either c y = grind (arith, nat_tests)

pub IsInRuns_up_to : (n : ℕ) (s : Seen) → IsInRuns s → IsInRuns (up_to n s)
IsInRuns_up_to n s i = IsInRuns_settle s.front (max n s.front) s.runs i

-- the one set with these numbers is the computed one
pub is_add : (n : ℕ) (old new : Seen) → IsInRuns old → 0 < old.front → IsInRuns new → ((m : ℕ) → contains new m ≡ (eqb m n || contains old m)) → new ≡ add n old
is_add n old new i l j same = one_form new (add n old) j (IsInRuns_add n old i l) (λ m. same m ∙ sym (contains_add n m old i))

pub is_up_to : (n : ℕ) (old new : Seen) → IsInRuns old → IsInRuns new → ((m : ℕ) → contains new m ≡ (leb m n || contains old m)) → new ≡ up_to n old
is_up_to n old new i j same = one_form new (up_to n old) j (IsInRuns_up_to n old i) (λ m. same m ∙ sym (contains_up_to n m old))
