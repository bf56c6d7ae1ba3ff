-- Tests on numbers, on keys of maps and on choices, as all layers ask them.
use Rattle.std.proofs.Common.{◌≡◌, ◌≢◌, ℕ, ◌<◌, ◌^◌, Bool, true, false, cond, ◌&&◌, Option, Some, None, refl, ap, arith, Less, Equal, Greater}
use Rattle.std.specs.Prelude.{nat_lt, ◌==◌, ◌||◌, is_some}
use Rattle.std.specs.Ordering.{nat_cmp}
use Rattle.std.specs.BTreeMap.{is_at}
use Rattle.std.proofs.lemmas.Bool.Decides.{nat_tests}

-- ---- numbers

pub is_itself : (n : ℕ) → (n == n) ≡ true
is_itself n = grind (arith, nat_tests)

pub not_zero : (n : ℕ) → 0 < n → (n == 0) ≡ false
not_zero n l = grind (arith, nat_tests)

pub not_zero_by_test : (n : ℕ) → false ≡ (n == 0) → n ≡ 0 → ⊥
not_zero_by_test n e none = let zero_is : (n == 0) ≡ true = ap (λ (k : ℕ). k == 0) none in cc

pub zero_not_positive : (n : ℕ) → (n == 0) ≡ true → nat_lt 0 n ≡ false
zero_not_positive n e = grind (arith, nat_tests)

pub positive_of_both : (b : Bool) (n : ℕ) → (b && nat_lt 0 n) ≡ true → 0 < n
positive_of_both true n h = grind (arith, nat_tests)
positive_of_both false n h = cc

pub less_differs : (a b : ℕ) → a < b → (a == b) ≡ false
less_differs a b l = grind (arith, nat_tests)

pub greater_differs : (a b : ℕ) → a < b → (b == a) ≡ false
greater_differs a b l = grind (arith, nat_tests)

pub equal_turned : (a b : ℕ) (t : Bool) → (a == b) ≡ t → (b == a) ≡ t
equal_turned a b true e = grind (arith, nat_tests)
equal_turned a b false e = grind (arith, nat_tests)

-- ---- numbers as keys

pub is_less : (a b : ℕ) → nat_cmp a b ≡ Less → a < b
is_less a b e = grind (arith, nat_tests)

pub is_greater : (a b : ℕ) → nat_cmp a b ≡ Greater → b < a
is_greater a b e = grind (arith, nat_tests)

pub is_equal : (a b : ℕ) → nat_cmp a b ≡ Equal → b ≡ a
is_equal a b e = grind (arith, nat_tests)

pub nat_cmp_less : (a b : ℕ) → a < b → nat_cmp a b ≡ Less
nat_cmp_less a b l = grind (arith, nat_tests)

pub at_itself : (k : ℕ) → is_at (nat_cmp k) k ≡ true
at_itself k = grind (arith, nat_tests)

pub at_same : (q k : ℕ) → q ≡ k → is_at (nat_cmp q) k ≡ true
at_same q k e = grind (arith, nat_tests)

pub at_other : (q k : ℕ) → q ≢ k → is_at (nat_cmp q) k ≡ false
at_other q k d = grind (arith, nat_tests)

pub same_at : (q k : ℕ) → is_at (nat_cmp q) k ≡ true → q ≡ k
same_at q k e = grind (arith, nat_tests)

pub equal_at : (q k : ℕ) → is_at (nat_cmp q) k ≡ true → k ≡ q
equal_at q k e = grind (arith, nat_tests)

pub at_equal : (q k : ℕ) → is_at (nat_cmp q) k ≡ (q == k)
at_equal q k = grind (arith, nat_tests)

pub not_at : (q k : ℕ) → (q == k) ≡ false → is_at (nat_cmp q) k ≡ false
not_at q k e = grind (arith, nat_tests)

-- ---- choices

pub is_none : {X : Type 0} (o : Option X) → is_some o ≡ false → None ≡ o
is_none None h = refl
is_none (Some x) h = absurd (cc)

pub or_swap : (a b c : Bool) → (a || (b || c)) ≡ (b || (a || c))
or_swap true true c = refl
or_swap true false c = refl
or_swap false b c = refl

pub or_assoc : (a b c : Bool) → ((a || b) || c) ≡ (a || (b || c))
or_assoc true b c = refl
or_assoc false b c = refl

pub or_regroup : (a b c : Bool) → (a || (b || c)) ≡ ((a || b) || c)
or_regroup true b c = refl
or_regroup false b c = refl

pub either_fits : (b : Bool) (m n : ℕ) → m < 2 ^ 32 → n < 2 ^ 32 → cond b m n < 2 ^ 32
either_fits true m n h k = h
either_fits false m n h k = k

pub fits_or_zero : (b : Bool) (n : ℕ) → n < 2 ^ 32 → cond b n 0 < 2 ^ 32
fits_or_zero true n h = h
fits_or_zero false n h = omega arith
