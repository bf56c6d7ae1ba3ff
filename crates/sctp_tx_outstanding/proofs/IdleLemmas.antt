-- Items that don't wait to be sent again have no turn.
use Rattle.std.proofs.Common.{◌≡◌, ℕ, zero, suc, ◌+◌, ◌-◌, ◌<◌, ◌≤◌, Bool, true, false, cond, Option, Some, None, List, [], ◌∷◌, refl, ap, sym, subst, ◌∙◌, arith}
use Rattle.std.specs.Prelude.{◌&&◌, nat_le, nat_lt, slice_get}
use Rattle.std.specs.List.{All}
use Rattle.std.proofs.lemmas.Bool.Decides.{nat_tests}
use Rattle.std.proofs.lemmas.List.Elements.{All-head, All-tail, All-cons, All-nil}
use Rattle.sctp_tx_outstanding.specs.declared.outstanding_data.Turn.TheVariants.{Send, PassOver, Leave}
use Rattle.sctp_tx_outstanding.specs.Item.{Item, should_be_retransmitted, chunk_size}
use Rattle.sctp_tx_outstanding.specs.Resending.{Resent, size_in, allowance, IsFull, AreLeft, turn_of, apply_turn, step_at, resent_below}
use Rattle.sctp_tx_outstanding.specs.Sizes.{ExceedsOf, NoneFits}
use Rattle.sctp_tx_outstanding.specs.Waiting.{waits_for, waits_of, waits_at, NoneWaits}

idle_turn : (fast : Bool) (k : ℕ) (x : Resent) (i : Item) → waits_for fast i ≡ false → apply_turn (turn_of fast (Some i) x) k x ≡ x
idle_turn true k x i h = ap (λ b. apply_turn (cond b (cond (nat_le (size_in x i) x.room) Send PassOver) Leave) k x) h
idle_turn false k x i h = ap (λ b. apply_turn (cond (b && nat_le (size_in x i) (allowance x)) Send Leave) k x) h

idle_step : (fast : Bool) (k : ℕ) (x : Resent) → waits_at fast k x.outstanding.items.kept ≡ false → step_at fast k x ≡ x
idle_step fast k x h = at_item (slice_get x.outstanding.items.kept k) h where
  at_item : (o : Option Item) → waits_of fast o ≡ false → apply_turn (turn_of fast o x) k x ≡ x
  at_item None e = refl
  at_item (Some i) e = idle_turn fast k x i e

pub none_less : (fast : Bool) (from to less : ℕ) (is : List Item) → less ≤ to → NoneWaits fast from to is → NoneWaits fast from less is
none_less fast from to less is le h = λ k above below. h k above (omega (arith, below, le))

idle_more : (fast : Bool) (x : Resent) (more p n : ℕ) → n ≡ more + p → NoneWaits fast p n (resent_below fast p x).outstanding.items.kept → resent_below fast n x ≡ resent_below fast p x
idle_more fast x zero p n e h =
    let same : n ≡ p = omega (arith, e) in
    ap (λ k. resent_below fast k x) same
idle_more fast x (suc more) p n e h =
    let is_next : n ≡ suc (more + p) = omega (arith, e) in
    let is = (resent_below fast p x).outstanding.items.kept in
    let ih = idle_more fast x more p (more + p) refl (none_less fast p n (more + p) is (omega (arith, e)) h) in
    ap (λ k. resent_below fast k x) is_next ∙ ap (λ (y : Resent). step_at fast (more + p) y) ih ∙ idle_step fast (more + p) (resent_below fast p x) (h (more + p) (omega arith) (omega (arith, e)))

-- up to the next item that waits nothing changes
pub idle_on : (fast : Bool) (x : Resent) (p n : ℕ) → p ≤ n → NoneWaits fast p n (resent_below fast p x).outstanding.items.kept → resent_below fast n x ≡ resent_below fast p x
idle_on fast x p n le h = idle_more fast x (n - p) p n (omega (arith, le)) h

pub idle_at : (fast : Bool) (x now : Resent) (p n : ℕ) → now ≡ resent_below fast p x → p ≤ n → NoneWaits fast p n now.outstanding.items.kept → now ≡ resent_below fast n x
idle_at fast x now p n e le h =
    e ∙ sym (idle_on fast x p n le (subst (λ (y : Resent). NoneWaits fast p n y.outstanding.items.kept) e h))

-- ---- a packet into which no item that waits fits

abbrev IsTooLong : Resent → Item → Type 0
IsTooLong x i = should_be_retransmitted i ≡ true → allowance x < size_in x i

too_long : (x : Resent) (k : ℕ) (is : List Item) (i : Item) → All (IsTooLong x) is → slice_get is k ≡ Some i → IsTooLong x i
too_long x k [] i h e = absurd (cc)
too_long x zero (j ∷ is) i h e =
    let same : j ≡ i = cc in
    subst (λ (y : Item). IsTooLong x y) same (All-head (IsTooLong x) j is h)
too_long x (suc k) (j ∷ is) i h e = too_long x k is i (All-tail (IsTooLong x) j is h) e

stays_out : (b : Bool) (allowed size : ℕ) → (b ≡ true → allowed < size) → (b && nat_le size allowed) ≡ false
stays_out true allowed size h = let less : allowed < size = h refl in grind (arith, nat_tests, less)
stays_out false allowed size h = refl

full_step : (k : ℕ) (x : Resent) → IsFull x → step_at false k x ≡ x
full_step k x h = at_item (slice_get x.outstanding.items.kept k) refl where
  at_item : (o : Option Item) → slice_get x.outstanding.items.kept k ≡ o → apply_turn (turn_of false o x) k x ≡ x
  at_item None e = refl
  at_item (Some i) e = ap (λ b. apply_turn (cond b Send Leave) k x) (stays_out (should_be_retransmitted i) (allowance x) (size_in x i) (too_long x k x.outstanding.items.kept i h e))

full_more : (x : Resent) (more p n : ℕ) → n ≡ more + p → IsFull (resent_below false p x) → resent_below false n x ≡ resent_below false p x
full_more x zero p n e h =
    let same : n ≡ p = omega (arith, e) in
    ap (λ k. resent_below false k x) same
full_more x (suc more) p n e h =
    let is_next : n ≡ suc (more + p) = omega (arith, e) in
    ap (λ k. resent_below false k x) is_next ∙ ap (λ (y : Resent). step_at false (more + p) y) (full_more x more p (more + p) refl h) ∙ full_step (more + p) (resent_below false p x) h

full_on : (x now : Resent) (p n : ℕ) → now ≡ resent_below false p x → p ≤ n → IsFull now → now ≡ resent_below false n x
full_on x now p n e le h = e ∙ sym (full_more x (n - p) p n (omega (arith, le)) (subst (λ (y : Resent). IsFull y) e h))

pub full_at : (fast : Bool) (x now : Resent) (p n : ℕ) → fast ≡ false → now ≡ resent_below fast p x → p ≤ n → IsFull now → now ≡ resent_below fast n x
full_at true x now p n f e le h = absurd (cc)
full_at false x now p n f e le h = full_on x now p n e le h

full_all : (x : Resent) (m : Bool) (size : ℕ) (is : List Item) → m ≡ x.outstanding.items.is_interleaved → allowance x < size → All (λ i. should_be_retransmitted i ≡ true → size ≤ chunk_size m i) is → All (IsTooLong x) is
full_all x m size [] e less h = All-nil (IsTooLong x)
full_all x m size (i ∷ is) e less h =
    let here = All-head (λ j. should_be_retransmitted j ≡ true → size ≤ chunk_size m j) i is h in
    All-cons (IsTooLong x) i is (λ t. omega (arith, less, here t, ap (λ b. chunk_size b i) e)) (full_all x m size is e less (All-tail (λ j. should_be_retransmitted j ≡ true → size ≤ chunk_size m j) i is h))

pub less_than : (a b size : ℕ) → a ≡ b → nat_lt a size ≡ true → b < size
less_than a b size e h = grind (arith, nat_tests, e, h)

-- what is known of the least one is enough
pub is_full_lem : (x : Resent) (size : ℕ) → allowance x < size → All (λ i. should_be_retransmitted i ≡ true → size ≤ chunk_size x.outstanding.items.is_interleaved i) x.outstanding.items.kept → IsFull x
is_full_lem x size less h = full_all x x.outstanding.items.is_interleaved size x.outstanding.items.kept refl less h

-- ---- items that don't fit

left_more : (fast : Bool) (x : Resent) (more p n : ℕ) → n ≡ more + p → AreLeft fast p n (resent_below fast p x) → resent_below fast n x ≡ resent_below fast p x
left_more fast x zero p n e h =
    let same : n ≡ p = omega (arith, e) in
    ap (λ k. resent_below fast k x) same
left_more fast x (suc more) p n e h =
    let is_next : n ≡ suc (more + p) = omega (arith, e) in
    let now = resent_below fast p x in
    let ih = left_more fast x more p (more + p) refl (λ k above below. h k above (omega (arith, below, e))) in
    ap (λ k. resent_below fast k x) is_next ∙ ap (λ (y : Resent). step_at fast (more + p) y) ih
    ∙ ap (λ t. apply_turn t (more + p) now) (h (more + p) (omega arith) (omega (arith, e)))

-- up to the next item that may be sent nothing changes
pub left_at : (fast : Bool) (x now : Resent) (p n : ℕ) → now ≡ resent_below fast p x → p ≤ n → AreLeft fast p n now → now ≡ resent_below fast n x
left_at fast x now p n e le h =
    e ∙ sym (left_more fast x (n - p) p n (omega (arith, le)) (subst (λ (y : Resent). AreLeft fast p n y) e h))

left_of : (x : Resent) (m : Bool) (allowed : ℕ) (o : Option Item) → m ≡ x.outstanding.items.is_interleaved → allowed ≡ allowance x → ExceedsOf m allowed o → turn_of false o x ≡ Leave
left_of x m allowed None e a h = refl
left_of x m allowed (Some i) e a h =
    ap (λ b. cond b Send Leave) (stays_out (should_be_retransmitted i) (allowance x) (size_in x i) (λ w. omega (arith, h w, a, ap (λ b. chunk_size b i) e)))

-- what is known of the sizes is enough
pub are_left : (x : Resent) (m : Bool) (allowed p n : ℕ) → m ≡ x.outstanding.items.is_interleaved → allowed ≡ allowance x → NoneFits m allowed p n x.outstanding.items.kept → AreLeft false p n x
are_left x m allowed p n e a h = λ k above below. left_of x m allowed (slice_get x.outstanding.items.kept k) e a (h k above below)
