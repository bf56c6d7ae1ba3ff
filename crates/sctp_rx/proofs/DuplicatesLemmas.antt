-- What it means that a number came again.
use Rattle.std.proofs.Common.{◌≡◌, ℕ, suc, ◌≤◌, Bool, true, false, eqb, ltb, ◌||◌, ◌&&◌, List, [], ◌∷◌, length, refl, sym, subst, ap, ◌∙◌, inl, inr, arith}
use Rattle.std.specs.Prelude.{if◌then◌else◌, Result, Ok, Err, OnOk, OnErr}
use Rattle.std.specs.List.{list_any}
use Rattle.std.proofs.lemmas.Bool.{cases_lt, cases_eq, lt-ltb, le-ltb, eq-eqb, ne_eqb}
use Rattle.std.proofs.lemmas.Bool.Decides.{nat_tests}
use Rattle.sctp_rx.specs.DataTracker.{insert_number, with_duplicate}
use Rattle.sctp_rx.specs.Reported.{Ascend}
use Rattle.sctp_serial.proofs.NumberLemmas.{or_regroup}

abbrev pub holds : List ℕ → ℕ → Bool
holds ns n = list_any (λ m. eqb n m) ns

Ascend_insert : (least n : ℕ) (ns : List ℕ) → Ascend least ns → least ≤ n → Ascend least (insert_number n ns)
Ascend_insert least n [] a h = (h, tt)
Ascend_insert least n (m ∷ ms) a h =
    elim (cases_lt m n) [
      | inl less ↦ rw (lt-ltb m n less) (a.0, Ascend_insert (suc m) n ms a.1 (omega (arith, less)))
      | inr more ↦
          elim (cases_eq n m) [
            | inl e ↦ rw (le-ltb m n more, eq-eqb n m e) a
            | inr d ↦ rw (le-ltb m n more, ne_eqb n m d) (h, (omega (arith, more, d), a.1))
          ]
    ]

Ascend_with_duplicate : (n : ℕ) (ns : List ℕ) → Ascend 0 ns → Ascend 0 (with_duplicate n ns)
Ascend_with_duplicate n ns a =
    elim (cases_lt (length ns) 20) [
      | inl few ↦ rw (lt-ltb (length ns) 20 few) (Ascend_insert 0 n ns a (omega arith))
      | inr many ↦ rw (le-ltb (length ns) 20 many) a
    ]

-- whether there was memory or not
pub Ascend_kept : {T E : Type 0} (r : Result T E) (n : ℕ) (old new : List ℕ) → OnOk r (new ≡ with_duplicate n old) → OnErr r (new ≡ old) → Ascend 0 old → Ascend 0 new
Ascend_kept (Ok x) n old new ok err a = subst (λ (ns : List ℕ). Ascend 0 ns) (sym ok) (Ascend_with_duplicate n old a)
Ascend_kept (Err e) n old new ok err a = subst (λ (ns : List ℕ). Ascend 0 ns) (sym err) a

holds_insert : (n k : ℕ) (ns : List ℕ) → holds (insert_number n ns) k ≡ (holds ns k || eqb k n)
holds_insert n k [] = grind (arith, nat_tests)
holds_insert n k (m ∷ ms) =
    elim (cases_lt m n) [
      | inl less ↦ rw (lt-ltb m n less) (ap (λ v. eqb k m || v) (holds_insert n k ms) ∙ or_regroup (eqb k m) (holds ms k) (eqb k n))
      | inr more ↦
          elim (cases_eq n m) [
            | inl e ↦ rw (le-ltb m n more, eq-eqb n m e) (again (holds ms k) e)
            | inr d ↦ rw (le-ltb m n more, ne_eqb n m d) (first (holds ms k))
          ]
    ]
  where
    again : (v : Bool) → n ≡ m → (eqb k m || v) ≡ ((eqb k m || v) || eqb k n)
    again v e = grind (arith, nat_tests)

    first : (v : Bool) → (eqb k n || (eqb k m || v)) ≡ ((eqb k m || v) || eqb k n)
    first v = grind (arith, nat_tests)

none : (v w : Bool) → v ≡ (v || (w && false))
none true w = refl
none false true = refl
none false false = refl

-- a number is reported again where it was, or where it is the one that came again and there is room
holds_with_duplicate : (n k : ℕ) (ns : List ℕ) → holds (with_duplicate n ns) k ≡ (holds ns k || (eqb k n && ltb (length ns) 20))
holds_with_duplicate n k ns =
    elim (cases_lt (length ns) 20) [
      | inl few ↦ rw (lt-ltb (length ns) 20 few) (holds_insert n k ns ∙ ap (λ v. holds ns k || v) (with_true (eqb k n)))
      | inr many ↦ rw (le-ltb (length ns) 20 many) (none (holds ns k) (eqb k n))
    ]
  where
    with_true : (v : Bool) → v ≡ (v && true)
    with_true true = refl
    with_true false = refl

-- the same where a number comes that was seen or not
pub holds_observed : (n k : ℕ) (was : Bool) (ns : List ℕ) → holds (if was then with_duplicate n ns else ns) k ≡ (holds ns k || (eqb k n && (was && ltb (length ns) 20)))
holds_observed n k true ns = holds_with_duplicate n k ns
holds_observed n k false ns = none (holds ns k) (eqb k n)
