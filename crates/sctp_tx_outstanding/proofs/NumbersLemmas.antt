-- Numbers of items as keys, and what holds of items by their numbers.
use Rattle.std.proofs.Common.{◌≡◌, ℕ, suc, ◌+◌, ◌-◌, ◌<◌, ◌≤◌, ◌==◌, Bool, true, false, cond, List, refl, ap, sym, ◌∙◌, inl, inr, arith}
use Rattle.std.specs.Prelude.{nat_le, ◌&&◌}
use Rattle.std.specs.Ordering.{nat_cmp}
use Rattle.std.specs.BTreeMap.{is_at}
use Rattle.std.proofs.lemmas.Bool.{cases_lt}
use Rattle.std.proofs.lemmas.Bool.Decides.{nat_tests}
use Rattle.sctp_tx_outstanding.specs.Numbers.{by_number, is_listed}
use Rattle.sctp_serial.proofs.NumberLemmas.{greater_differs}

-- ---- numbers as keys

pub same_key : (m n : ℕ) → is_at (nat_cmp m) n ≡ (n == m)
same_key m n = grind (arith, nat_tests)

pub not_below : (m n : ℕ) → n < m → (n == m) ≡ false
not_below m n h = grind (arith, nat_tests, h)

pub is_same_lem : (m n : ℕ) → n ≡ m → (n == m) ≡ true
is_same_lem m n h = grind (arith, nat_tests, h)

pub equal : (m n : ℕ) → (n == m) ≡ true → n ≡ m
equal m n h = grind (arith, nat_tests, h)

-- a number is listed or taken out
pub listed_put : (m : ℕ) (waits : Bool) (old new : List ℕ) → ((n : ℕ) → is_listed new n ≡ cond (is_at (nat_cmp m) n) waits (is_listed old n))
    → (n : ℕ) → is_listed new n ≡ cond (n == m) waits (is_listed old n)
listed_put m waits old new h n = h n ∙ ap (λ b. cond b waits (is_listed old n)) (same_key m n)

-- ---- places by their numbers

from : (first n : ℕ) → first ≤ n → nat_le first n ≡ true
from first n h = grind (arith, nat_tests, h)

before : (first n : ℕ) → n < first → nat_le first n ≡ false
before first n h = grind (arith, nat_tests, h)

same_place : (first place n : ℕ) → first ≤ n → (n - first == place) ≡ (n == first + place)
same_place first place n h = elim (cases_lt n (first + place)) [
  | inl less ↦ not_below place (n - first) (omega (arith, less, h)) ∙ sym (not_below (first + place) n less)
  | inr above ↦ elim (cases_lt (first + place) n) [
    | inl more ↦ greater_differs place (n - first) (omega (arith, more, h)) ∙ sym (greater_differs (first + place) n more)
    | inr below ↦ is_same_lem place (n - first) (omega (arith, above, below)) ∙ sym (is_same_lem (first + place) n (omega (arith, above, below)))
  ]
]

module _ (first : ℕ) (f : ℕ → Bool) where
  pub as_from : (n : ℕ) → first ≤ n → by_number first f n ≡ f (n - first)
  as_from n h = ap (λ b. b && f (n - first)) (from first n h)

  pub as_below : (n : ℕ) → n < first → by_number first f n ≡ false
  as_below n h = ap (λ b. b && f (n - first)) (before first n h)

  pub as_at : (k : ℕ) → by_number first f (first + k) ≡ f k
  as_at k =
      let e : first + k - first ≡ k = omega arith in
      as_from (first + k) (omega arith) ∙ ap (λ m. f m) e

  pub as_never : ((k : ℕ) → f k ≡ false) → (n : ℕ) → by_number first f n ≡ false
  as_never none n = ap (λ b. nat_le first n && b) (none (n - first)) ∙ never_and (nat_le first n)
    where
      never_and : (b : Bool) → (b && false) ≡ false
      never_and true = refl
      never_and false = refl

-- the same at each place
pub as_alike : (first : ℕ) (f g : ℕ → Bool) → ((k : ℕ) → g k ≡ f k) → (n : ℕ) → by_number first g n ≡ by_number first f n
as_alike first f g h n = ap (λ b. nat_le first n && b) (h (n - first))

-- something else at one place
pub as_turned : (first place : ℕ) (b : Bool) (f g : ℕ → Bool) → ((k : ℕ) → g k ≡ cond (k == place) b (f k)) → (n : ℕ) → by_number first g n ≡ cond (n == first + place) b (by_number first f n)
as_turned first place b f g h n = elim (cases_lt n first) [
  | inl less ↦ as_below first g n less ∙ sym (ap (λ t. cond t b (by_number first f n)) (not_below (first + place) n (omega (arith, less))) ∙ as_below first f n less)
  | inr above ↦
      as_from first g n above ∙ h (n - first) ∙ ap (λ t. cond t b (f (n - first))) (same_place first place n above)
      ∙ ap (λ c. cond (n == first + place) b c) (sym (as_from first f n above))
]

-- at the place, before it, behind it, and one place on
pub here : (q v r : Bool) → v ≡ q → v ≡ cond (0 == 0) q r
here q v r e = e ∙ sym (ap (λ t. cond t q r) (is_same_lem 0 0 refl))

pub ahead : (p : ℕ) (q v : Bool) → v ≡ cond (0 == suc p) q v
ahead p q v = sym (ap (λ t. cond t q v) (not_below (suc p) 0 (omega arith)))

pub behind : (k : ℕ) (q v : Bool) → v ≡ cond (suc k == 0) q v
behind k q v = sym (ap (λ t. cond t q v) (greater_differs 0 (suc k) (omega arith)))

same_next : (k p : ℕ) → (k == p) ≡ (suc k == suc p)
same_next k p = elim (cases_lt k p) [
  | inl less ↦ not_below p k less ∙ sym (not_below (suc p) (suc k) (omega (arith, less)))
  | inr le ↦ elim (cases_lt p k) [
    | inl more ↦ greater_differs p k more ∙ sym (greater_differs (suc p) (suc k) (omega (arith, more)))
    | inr ge ↦ is_same_lem p k (omega (arith, le, ge)) ∙ sym (is_same_lem (suc p) (suc k) (omega (arith, le, ge)))
  ]
]

pub further : (k p : ℕ) (q r v : Bool) → v ≡ cond (k == p) q r → v ≡ cond (suc k == suc p) q r
further k p q r v h = h ∙ ap (λ t. cond t q r) (same_next k p)

pub nowhere : (c q : Bool) → q ≡ false → false ≡ cond c q false
nowhere true q h = sym h
nowhere false q h = refl
