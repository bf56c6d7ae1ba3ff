-- The earliest moment at which an item expires follows the items.
use Rattle.std.proofs.Common.{◌≡◌, ℕ, zero, suc, ◌<◌, ◌≤◌, ◌&&◌, min, Bool, true, false, cond, List, [], ◌∷◌, ◌++◌, refl, ap, arith}
use Rattle.std.specs.Prelude.{Option, Some, None}
use Rattle.std.specs.List.{All}
use Rattle.std.proofs.lemmas.Bool.Decides.{nat_tests}
use Rattle.std.proofs.lemmas.List.Elements.{All-head, All-tail, All-cons, All-nil, All-append}
use Rattle.sctp_tx_outstanding.specs.declared.totals.Totals.{Totals}
use Rattle.sctp_tx_outstanding.specs.declared.kept.Change.{Change}
use Rattle.sctp_tx_outstanding.specs.Item.{Item, is_past, has_nack, or_never, expiry, never, earliest_of, NotBefore}
use Rattle.sctp_tx_outstanding.specs.Change.{apply_change}
use Rattle.sctp_tx_outstanding.specs.OutstandingData.{change_at}
use Rattle.sctp_tx_outstanding.specs.Totals.{Exchanges}

-- ---- one item

not_due : (now : ℕ) (b : Bool) (o : Option ℕ) → now < cond b (or_never o) never → (b && is_past now o) ≡ false
not_due now false o h = refl
not_due now true None h = refl
not_due now true (Some moment) h = grind (arith, nat_tests)

-- no item expires before its own moment
pub not_before : (earliest : ℕ) (i : Item) → earliest ≤ expiry i → NotBefore earliest i
not_before earliest i h = λ now e. not_due now (has_nack i.state) i.expires (omega (arith, h, e))

sooner_too : (a b : ℕ) (i : Item) → b ≤ a → NotBefore a i → NotBefore b i
sooner_too a b i le h = λ now e. h now (omega (arith, le, e))

pub all_sooner : (a b : ℕ) (is : List Item) → All (NotBefore a) is → All (NotBefore (min a b)) is
all_sooner a b [] h = All-nil (NotBefore (min a b))
all_sooner a b (i ∷ is) h =
    All-cons (NotBefore (min a b)) i is (sooner_too a (min a b) i (omega arith) (All-head (NotBefore a) i is h)) (all_sooner a b is (All-tail (NotBefore a) i is h))

-- ---- one item changes, or comes

pub earliest_changed : (m : Bool) (x : Change) (a : ℕ) (k : ℕ) (is : List Item) (old new : Totals) → Exchanges m k x is old new → All (NotBefore a) is
    → All (NotBefore (min a new.earliest)) (change_at k (apply_change x) is)
earliest_changed m x a k [] old new e h = All-nil (NotBefore (min a new.earliest))
earliest_changed m x a zero (i ∷ is) old new e h =
    let own : new.earliest ≡ expiry (apply_change x i) = ap (λ (u : Totals). u.earliest) e.1 in
    All-cons (NotBefore (min a new.earliest)) (apply_change x i) is (not_before (min a new.earliest) (apply_change x i) (omega (arith, own)))
    (all_sooner a new.earliest is (All-tail (NotBefore a) i is h))
earliest_changed m x a (suc k) (i ∷ is) old new e h =
    All-cons (NotBefore (min a new.earliest)) i (change_at k (apply_change x) is) (sooner_too a (min a new.earliest) i (omega arith) (All-head (NotBefore a) i is h))
    (earliest_changed m x a k is old new e (All-tail (NotBefore a) i is h))

pub earliest_pushed : (a : ℕ) (is : List Item) (i : Item) → All (NotBefore a) is → All (NotBefore (min a (expiry i))) (is ++ i ∷ [])
earliest_pushed a is i h =
    All-append (NotBefore (min a (expiry i))) is (i ∷ []) (all_sooner a (expiry i) is h)
    (All-cons (NotBefore (min a (expiry i))) i [] (not_before (min a (expiry i)) i (omega arith)) (All-nil (NotBefore (min a (expiry i)))))

-- ---- of all items

found_least : (found : ℕ) (is : List Item) → earliest_of found is ≤ found
found_least found [] = omega arith
found_least found (i ∷ is) = omega (arith, found_least (min found (expiry i)) is)

pub none_before : (found : ℕ) (is : List Item) → All (NotBefore (earliest_of found is)) is
none_before found [] = All-nil (NotBefore found)
none_before found (i ∷ is) =
    let next = min found (expiry i) in
    All-cons (NotBefore (earliest_of next is)) i is (not_before (earliest_of next is) i (omega (arith, found_least next is))) (none_before next is)
