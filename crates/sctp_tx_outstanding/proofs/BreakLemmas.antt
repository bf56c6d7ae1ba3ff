-- The breakpoints at which forward points end.
use Rattle.std.proofs.Common.{◌≡◌, ℕ, zero, suc, ◌+◌, ◌-◌, ◌<◌, ◌≤◌, ◌++◌, ◌||◌, cond, drop, filter, Bool, true, false, Option, Some, None, List, [], ◌∷◌, length, slice_index_or, refl, ap, sym, subst, ◌∙◌, arith}
use Rattle.std.specs.Prelude.{◌&&◌, ◌==◌, not, nat_lt, nat_le}
use Rattle.std.specs.List.{list_any}
use Rattle.std.proofs.lemmas.Bool.{lt-ltb, le-ltb, leb-true, leb-false}
use Rattle.sctp_serial.proofs.NumberLemmas.{greater_differs}
use Rattle.sctp_tx_outstanding.proofs.NumbersLemmas.{not_below}
use Rattle.sctp_tx_outstanding.specs.Breaks.{AscendFrom, is_first_passed}
use Rattle.sctp_tx_outstanding.specs.Item.{Item, is_abandoned}
use Rattle.sctp_tx_outstanding.specs.OutstandingData.{Items, is_last}
use Rattle.sctp_tx_outstanding.specs.Forward.{ForwardPoint, entry_of, size_with, stops, passes_of}

-- ---- the last one

pub last_is : (n : ℕ) (bs : List ℕ) (k d : ℕ) → k + 1 ≡ length bs → is_last n bs ≡ (slice_index_or bs k d == n)
last_is n [] k d e = absurd (omega (arith, e))
last_is n (b ∷ []) zero d e = refl
last_is n (b ∷ []) (suc k) d e = absurd (omega (arith, e))
last_is n (b ∷ c ∷ bs) zero d e = absurd (omega (arith, e))
last_is n (b ∷ c ∷ bs) (suc k) d e = last_is n (c ∷ bs) k d (omega (arith, e))

-- ---- the places before which they stand

abbrev pub has : ℕ → List ℕ → Bool
has n bs = list_any (λ b. b == n) bs

pub none_stops : (s : Items) (acked : ℕ) (breaks : List ℕ) (next : ℕ) → acked ≡ s.acked → breaks ≡ s.breaks → ((n : ℕ) → acked + 1 < n → n < next → has n breaks ≡ false)
    → (place : ℕ) → place < next - (acked + 1) → stops place s ≡ false
none_stops s acked breaks next ea eb none zero less = refl
none_stops s acked breaks next ea eb none (suc k) less =
    let number : ℕ = s.acked + 1 + suc k in
    let some : nat_lt 0 (suc k) ≡ true = lt-ltb 0 (suc k) (omega arith) in
    ap (λ b. b && has number s.breaks) some ∙ ap (λ bs. has number bs) (sym eb) ∙ none number (omega (arith, ea)) (omega (arith, ea, less))

-- no item is passed before which one stands
pub stopped : (most : ℕ) (s : Items) (f : ForwardPoint) (o : Option Item) → stops f.count s ≡ true → passes_of most s f o ≡ false
stopped most s f None h = refl
stopped most s f (Some i) h = ap (λ b. is_abandoned i && (not b && nat_le (size_with s.is_interleaved (entry_of s.is_interleaved i) f.entries) most)) h ∙ never (is_abandoned i)
  where
    never : (b : Bool) → (b && false) ≡ false
    never true = refl
    never false = refl

-- ---- breakpoints that ascend

pub pushed_after : (least n : ℕ) (bs : List ℕ) (k d : ℕ) → k + 1 ≡ length bs → slice_index_or bs k d ≤ n → AscendFrom least bs → AscendFrom least (bs ++ n ∷ [])
pushed_after least n [] k d e le h = absurd (omega (arith, e))
pushed_after least n (b ∷ []) zero d e le h = (h.0, (le, tt))
pushed_after least n (b ∷ []) (suc k) d e le h = absurd (omega (arith, e))
pushed_after least n (b ∷ c ∷ bs) zero d e le h = absurd (omega (arith, e))
pushed_after least n (b ∷ c ∷ bs) (suc k) d e le h = (h.0, pushed_after b n (c ∷ bs) k d (omega (arith, e)) le h.1)

lower : (least less : ℕ) (bs : List ℕ) → less ≤ least → AscendFrom least bs → AscendFrom less bs
lower least less [] le h = tt
lower least less (b ∷ bs) le h = (omega (arith, le, h.0), h.1)

pub first_gone : (n : ℕ) (bs : List ℕ) → is_first_passed n bs ≡ true → AscendFrom 0 bs
    → (filter (λ b. nat_lt n b) (drop 1 bs) ≡ filter (λ b. nat_lt n b) bs) × AscendFrom 0 (drop 1 bs) × (length (drop 1 bs) < length bs)
first_gone n [] t h = absurd (cc)
first_gone n (b ∷ bs) t h =
    let no : nat_lt n b ≡ false = le-ltb n b (leb-true b n t) in
    (sym (ap (λ x. cond x (b ∷ filter (λ c. nat_lt n c) bs) (filter (λ c. nat_lt n c) bs)) no), lower b 0 bs (omega arith) h.1, omega arith)

all_stay : (n least : ℕ) (bs : List ℕ) → n < least → AscendFrom least bs → filter (λ b. nat_lt n b) bs ≡ bs
all_stay n least [] less h = refl
all_stay n least (b ∷ bs) less h =
    let more : n < b = omega (arith, less, h.0) in
    ap (λ x. cond x (b ∷ filter (λ c. nat_lt n c) bs) (filter (λ c. nat_lt n c) bs)) (lt-ltb n b more) ∙ ap (λ cs. b ∷ cs) (all_stay n b bs more h.1)

pub rest_stays : (n : ℕ) (bs : List ℕ) → is_first_passed n bs ≡ false → AscendFrom 0 bs → bs ≡ filter (λ b. nat_lt n b) bs
rest_stays n [] t h = refl
rest_stays n (b ∷ bs) t h = sym (all_stay n b (b ∷ bs) (leb-false b n t) (omega arith, h.1))

pub none_before : (n least : ℕ) (bs : List ℕ) → n < least → AscendFrom least bs → has n bs ≡ false
none_before n least [] less h = refl
none_before n least (b ∷ bs) less h = ap (λ x. x || has n bs) (greater_differs n b (omega (arith, less, h.0))) ∙ none_before n b bs (omega (arith, less, h.0)) h.1

-- ---- a walk through the breakpoints, of which `b` is next

module _ (b : ℕ) (bs rest : List ℕ) (step : rest ≡ b ∷ bs) where
  pub ascend_on : AscendFrom 0 rest → AscendFrom 0 bs
  ascend_on h = lower b 0 bs (omega arith) (subst (λ xs. AscendFrom 0 xs) step h).1

  pub has_on : (n : ℕ) → b < n → has n bs ≡ has n rest
  has_on n less = sym (ap (λ x. x || has n bs) (not_below n b less)) ∙ ap (λ xs. has n xs) (sym step)

  pub none_on : (n : ℕ) → n < b → AscendFrom 0 rest → has n rest ≡ false
  none_on n less h = ap (λ xs. has n xs) step ∙ none_before n b (b ∷ bs) less (omega arith, (subst (λ xs. AscendFrom 0 xs) step h).1)
