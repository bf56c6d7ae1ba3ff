-- What the last blocks said of the items, as items come, change and leave, and as new blocks come.
use Rattle.std.proofs.Common.{◌≡◌, ℕ, zero, suc, ◌+◌, ◌<◌, ◌≤◌, ◌&&◌, ◌||◌, Bool, true, false, cond, List, [], ◌∷◌, ◌++◌, map, length, drop, slice_index_or, IsTrue, refl, ap, sym, subst, ◌∙◌, arith}
use Rattle.std.specs.Prelude.{Some, None, slice_get}
use Rattle.std.proofs.lemmas.Bool.Decides.{nat_tests}
use Rattle.sctp_chunk.specs.declared.sack.GapAckBlock.{GapAckBlock}
use Rattle.sctp_chunk.specs.Covered.{is_covered, AreRuns}
use Rattle.sctp_tx_outstanding.specs.declared.item.MissIndication.{MissIndication}
use Rattle.sctp_tx_outstanding.specs.declared.item.ItemState.{ItemState}
use Rattle.sctp_tx_outstanding.specs.declared.item.ItemState.TheVariants.{InFlight, Missing, Queued, QueuedFast, Acked, GivenUp}
use Rattle.sctp_tx_outstanding.specs.declared.kept.Change.{Change}
use Rattle.sctp_tx_outstanding.specs.declared.kept.Change.TheVariants as changes
use Rattle.sctp_tx_outstanding.specs.Item.{Item, is_of, is_in_flight, waits, is_given_up, has_ack, is_acked, is_lost, reported, counts_again, nack_state, acked, ack, uncovered, uncover, resent, demote_fast, nack, mark_as_retransmitted, miss_fast, abandon, chunk_size}
use Rattle.sctp_tx_outstanding.specs.OutstandingData.{change_at, when, abandon_if_of}
use Rattle.sctp_tx_outstanding.specs.Change.{apply_change, is_of_sack}
use Rattle.sctp_tx_outstanding.specs.Sack.{highest_end, ack_or_uncover_all, ack_or_uncover, newly_acked, is_newly_acked, below_highest, open_size}
use Rattle.sctp_tx_outstanding.specs.Passes.{ack_or_uncover_from, acked_from, below_from, IsWalk, IsCursor}
use Rattle.sctp_tx_outstanding.specs.LastBlocks.{Rests, Rest, RestBelow, AreAsBlocksSaid, Knows}
use Rattle.sctp_tx_outstanding.specs.declared.last_blocks.LastBlocks.{LastBlocks}
use Rattle.sctp_tx_outstanding.proofs.TotalsLemmas.{length_change}
use Rattle.sctp_tx_outstanding.proofs.RecordLemmas.{resent_same, slowed_same}

-- ---- one item

ack_again : (i : Item) (s : ItemState) (r : ℕ) → ack (record i { state = acked s; reports = cond (is_given_up s) r 0 }) ≡ record i { state = acked s; reports = cond (is_given_up s) r 0 }
ack_again i InFlight r = refl
ack_again i Missing r = refl
ack_again i Queued r = refl
ack_again i QueuedFast r = refl
ack_again i Acked r = refl
ack_again i GivenUp r = refl

uncover_again : (i : Item) (s : ItemState) → uncover (record i { state = uncovered s }) ≡ record i { state = uncovered s }
uncover_again i InFlight = refl
uncover_again i Missing = refl
uncover_again i Queued = refl
uncover_again i QueuedFast = refl
uncover_again i Acked = refl
uncover_again i GivenUp = refl

ack_or_uncover_rests : (c : Bool) (i : Item) → Rests c (ack_or_uncover c i)
ack_or_uncover_rests true i = ack_again i i.state i.reports
ack_or_uncover_rests false i = uncover_again i i.state

rests_covered : (i : Item) → acked i.state ≡ i.state → cond (is_given_up i.state) i.reports 0 ≡ i.reports → Rests true i
rests_covered i a b = λ j. record i { state = a j; reports = b j }

rests_uncovered : (i : Item) → uncovered i.state ≡ i.state → Rests false i
rests_uncovered i a = λ j. record i { state = a j }

pub acked_rests : (i : Item) → i.state ≡ Acked → i.reports ≡ 0 → ack i ≡ i
acked_rests i s r = rests_covered i (ap (λ z. acked z) s ∙ sym s) (ap (λ z. cond (is_given_up z) i.reports 0) s ∙ sym r)

pub given_up_rests : (i : Item) → i.state ≡ GivenUp → ack i ≡ i
given_up_rests i s = rests_covered i (ap (λ z. acked z) s ∙ sym s) (ap (λ z. cond (is_given_up z) i.reports 0) s)

pub given_up_stays : (i : Item) → i.state ≡ GivenUp → uncover i ≡ i
given_up_stays i s = rests_uncovered i (ap (λ z. uncovered z) s ∙ sym s)

pub still : (s : ItemState) → acked s ≡ s → is_in_flight s ≡ false
still InFlight h = absurd (cc)
still Missing h = absurd (cc)
still Queued h = refl
still QueuedFast h = refl
still Acked h = refl
still GivenUp h = refl

-- a missing report says nothing of what isn't in flight
pub nack_still : (indication : MissIndication) (fast : Bool) (i : Item) → is_in_flight i.state ≡ false → nack indication fast i ≡ i
nack_still indication fast i h =
    let s : cond (is_in_flight i.state) (nack_state (is_lost indication i) fast) i.state ≡ i.state = ap (λ b. cond b (nack_state (is_lost indication i) fast) i.state) h in
    let r : cond (is_in_flight i.state) (cond (is_lost indication i) 0 (reported indication i)) i.reports ≡ i.reports = ap (λ b. cond b (cond (is_lost indication i) 0 (reported indication i)) i.reports) h in
    let n : cond (is_in_flight i.state && is_lost indication i) (counts_again indication i) i.counts_from ≡ i.counts_from = ap (λ b. cond (b && is_lost indication i) (counts_again indication i) i.counts_from) h in
    λ j. record i { state = s j; reports = r j; counts_from = n j }

nack_open : (b l f : Bool) (s : ItemState) → uncovered s ≡ s → uncovered (cond b (nack_state l f) s) ≡ cond b (nack_state l f) s
nack_open true true true s h = refl
nack_open true true false s h = refl
nack_open true false f s h = refl
nack_open false l f s h = h

resent_acked : (s : ItemState) → acked s ≡ s → acked (resent s) ≡ resent s
resent_acked InFlight h = absurd (cc)
resent_acked Missing h = absurd (cc)
resent_acked Queued h = absurd (cc)
resent_acked QueuedFast h = absurd (cc)
resent_acked Acked h = refl
resent_acked GivenUp h = refl

resent_open : (s : ItemState) → uncovered s ≡ s → uncovered (resent s) ≡ resent s
resent_open InFlight h = refl
resent_open Missing h = refl
resent_open Queued h = refl
resent_open QueuedFast h = refl
resent_open Acked h = absurd (cc)
resent_open GivenUp h = refl

slowed_acked : (s : ItemState) → acked s ≡ s → acked (demote_fast s) ≡ demote_fast s
slowed_acked InFlight h = absurd (cc)
slowed_acked Missing h = absurd (cc)
slowed_acked Queued h = absurd (cc)
slowed_acked QueuedFast h = absurd (cc)
slowed_acked Acked h = refl
slowed_acked GivenUp h = refl

slowed_open : (s : ItemState) → uncovered s ≡ s → uncovered (demote_fast s) ≡ demote_fast s
slowed_open InFlight h = refl
slowed_open Missing h = refl
slowed_open Queued h = refl
slowed_open QueuedFast h = refl
slowed_open Acked h = absurd (cc)
slowed_open GivenUp h = refl

pub state_of_lem : (x y : Item) → x ≡ y → x.state ≡ y.state
state_of_lem x y h = ap (λ (z : Item). z.state) h

reports_of_lem : (x y : Item) → x ≡ y → x.reports ≡ y.reports
reports_of_lem x y h = ap (λ (z : Item). z.reports) h

rests_changed : (x : Change) (c : Bool) (i : Item) → is_of_sack x ≡ false → Rests c i → Rests c (apply_change x i)
rests_changed changes.Ack c i e h = absurd (cc)
rests_changed changes.Uncover c i e h = absurd (cc)
rests_changed (changes.Nack indication fast) true i e h =
    subst (λ (y : Item). Rests true y) (sym (nack_still indication fast i (still i.state (state_of_lem (ack i) i h)))) h
rests_changed (changes.Nack indication fast) false i e h =
    rests_uncovered (nack indication fast i) (nack_open (is_in_flight i.state) (is_lost indication i) fast i.state (state_of_lem (uncover i) i h))
rests_changed changes.Retransmit true i e h =
    rests_covered (mark_as_retransmitted i) (resent_acked i.state (state_of_lem (ack i) i h)) (ap (λ b. cond b i.reports 0) (resent_same i.state) ∙ reports_of_lem (ack i) i h)
rests_changed changes.Retransmit false i e h = rests_uncovered (mark_as_retransmitted i) (resent_open i.state (state_of_lem (uncover i) i h))
rests_changed changes.MissFast true i e h =
    rests_covered (miss_fast i) (slowed_acked i.state (state_of_lem (ack i) i h)) (ap (λ b. cond b i.reports 0) (slowed_same i.state) ∙ reports_of_lem (ack i) i h)
rests_changed changes.MissFast false i e h = rests_uncovered (miss_fast i) (slowed_open i.state (state_of_lem (uncover i) i h))
rests_changed changes.Abandon true i e h = refl
rests_changed changes.Abandon false i e h = refl

rests_laid : (c b : Bool) (i : Item) → Rests c i → Rests c (cond b (abandon i) i)
rests_laid true true i h = refl
rests_laid false true i h = refl
rests_laid c false i h = h

open_rests : (s : ItemState) → has_ack s ≡ false → uncovered s ≡ s
open_rests InFlight h = refl
open_rests Missing h = refl
open_rests Queued h = refl
open_rests QueuedFast h = refl
open_rests Acked h = absurd (cc)
open_rests GivenUp h = refl

pub uncover_rests : (i : Item) → is_acked i ≡ false → uncover i ≡ i
uncover_rests i h = rests_uncovered i (open_rests i.state h)

closed_in : (s : ItemState) → acked s ≡ s → (is_in_flight s || waits s) ≡ false
closed_in InFlight h = absurd (cc)
closed_in Missing h = absurd (cc)
closed_in Queued h = absurd (cc)
closed_in QueuedFast h = absurd (cc)
closed_in Acked h = refl
closed_in GivenUp h = refl

no_news : (c : Bool) (i : Item) → Rests c i → is_newly_acked c i ≡ false
no_news true i h = closed_in i.state (state_of_lem (ack i) i h)
no_news false i h = refl

-- an acknowledgement that changes nothing says nothing new
pub closed_at : (m : Bool) (k : ℕ) (is : List Item) → change_at k ack is ≡ is → open_size m (slice_get is k) ≡ None
closed_at m zero [] h = refl
closed_at m (suc k) [] h = refl
closed_at m zero (i ∷ is) h = ap (λ b. cond b (Some (chunk_size m i)) None) (no_news true i (ap (λ (xs : List Item). slice_index_or xs 0 i) h))
closed_at m (suc k) (i ∷ is) h = closed_at m k is (ap (λ (xs : List Item). drop 1 xs) h)

-- ---- nothing is covered behind the last block

none_above : (bs : List GapAckBlock) (offset : ℕ) → highest_end bs < offset → is_covered bs offset ≡ false
none_above [] offset h = refl
none_above (b ∷ bs) offset h =
    let ih = none_above bs offset (omega (arith, h)) in
    let low : b.end < offset = omega (arith, h) in
    grind (arith, nat_tests, ih)

-- ---- items come, change and leave

module _ (bs : List GapAckBlock) where
  pub rest_changed : (x : Change) (offset k : ℕ) (is : List Item) → is_of_sack x ≡ false → Rest bs offset is → Rest bs offset (change_at k (apply_change x) is)
  rest_changed x offset k [] e h = tt
  rest_changed x offset zero (i ∷ is) e h = (rests_changed x (is_covered bs offset) i e h.0, h.1)
  rest_changed x offset (suc k) (i ∷ is) e h = (h.0, rest_changed x (suc offset) k is e h.1)

  pub rest_pushed : (offset : ℕ) (is : List Item) (i : Item) → is_acked i ≡ false → highest_end bs < offset + length is → Rest bs offset is → Rest bs offset (is ++ i ∷ [])
  rest_pushed offset [] i e w h = (subst (λ b. Rests b i) (sym (none_above bs offset (omega (arith, w)))) (rests_uncovered i (open_rests i.state e)), tt)
  rest_pushed offset (x ∷ is) i e w h = (h.0, rest_pushed (suc offset) is i e (omega (arith, w)) h.1)

  pub rest_laid : (offset number : ℕ) (is : List Item) → Rest bs offset is → Rest bs offset (map (abandon_if_of number) is)
  rest_laid offset number [] h = tt
  rest_laid offset number (i ∷ is) h = (rests_laid (is_covered bs offset) (is_of number i) i h.0, rest_laid (suc offset) number is h.1)

  pub rest_settle : (offset : ℕ) (is : List Item) → Rest bs offset (ack_or_uncover_all bs offset is)
  rest_settle offset [] = tt
  rest_settle offset (i ∷ is) = (ack_or_uncover_rests (is_covered bs offset) i, rest_settle (suc offset) is)

  -- ---- what blocks change nothing of

  acked_here : (m : Bool) (c : Bool) (i : Item) → Rests c i → when (is_newly_acked c i) (chunk_size m i) ≡ 0
  acked_here m c i h = ap (λ b. when b (chunk_size m i)) (no_news c i h)

  -- ---- of the first items

  pub settle_front : (k offset next : ℕ) (is : List Item) → next ≡ k + offset → RestBelow bs k offset is → ack_or_uncover_from bs k next is ≡ ack_or_uncover_all bs offset is
  settle_front zero offset next is e h = ap (λ n. ack_or_uncover_all bs n is) (omega (arith, e))
  settle_front (suc k) offset next [] e h = refl
  settle_front (suc k) offset next (i ∷ is) e h =
      let x : ack_or_uncover (is_covered bs offset) i ≡ i = h.0 in
      let xs : ack_or_uncover_from bs k next is ≡ ack_or_uncover_all bs (suc offset) is = settle_front k (suc offset) next is (omega (arith, e)) h.1 in
      ap (λ ys. i ∷ ys) xs ∙ ap (λ y. y ∷ ack_or_uncover_all bs (suc offset) is) (sym x)

  pub acked_front : (m : Bool) (k offset next : ℕ) (is : List Item) → next ≡ k + offset → RestBelow bs k offset is → acked_from bs m k next is ≡ newly_acked bs m offset is
  acked_front m zero offset next is e h = ap (λ n. newly_acked bs m n is) (omega (arith, e))
  acked_front m (suc k) offset next [] e h = refl
  acked_front m (suc k) offset next (i ∷ is) e h =
      let here = acked_here m (is_covered bs offset) i h.0 in
      let ih = acked_front m k (suc offset) next is (omega (arith, e)) h.1 in
      omega (arith, here, ih)

  pub below_front : (k offset next place there most : ℕ) (is : List Item) → next ≡ k + offset → there ≡ k + place → RestBelow bs k offset is
      → below_from bs k next there most is ≡ below_highest bs offset place most is
  below_front zero offset next place there most is e d h =
      ap (λ n. below_highest bs n there most is) (omega (arith, e)) ∙ ap (λ n. below_highest bs offset n most is) (omega (arith, d))
  below_front (suc k) offset next place there most [] e d h = refl
  below_front (suc k) offset next place there most (i ∷ is) e d h =
      below_front k (suc offset) next (suc place) there most is (omega (arith, e)) (omega (arith, d)) h.1
      ∙ ap (λ b. below_highest bs (suc offset) (suc place) (cond b place most) is) (sym (no_news (is_covered bs offset) i h.0))

-- ---- earlier blocks and new ones

module _ (olds bs : List GapAckBlock) where
  pub below_agree : (off o n : ℕ) (is : List Item) → ((p : ℕ) → p < n → is_covered olds (off + p) ≡ is_covered bs (o + p)) → Rest olds off is → RestBelow bs n o is
  below_agree off o zero is same h = tt
  below_agree off o (suc n) [] same h = tt
  below_agree off o (suc n) (i ∷ is) same h =
      let here : is_covered olds off ≡ is_covered bs o = ap (λ k. is_covered olds k) (omega arith) ∙ same 0 (omega arith) ∙ ap (λ k. is_covered bs k) (omega arith) in (
        subst (λ b. Rests b i) here h.0,
        below_agree (suc off) (suc o) n is (λ p less. ap (λ k. is_covered olds k) (omega arith) ∙ same (suc p) (omega (arith, less)) ∙ ap (λ k. is_covered bs k) (omega arith)) h.1,
      )

-- ---- a cursor that begins later

pub cursor_later : (bs : List GapAckBlock) (o p from : ℕ) → o ≤ p → IsCursor bs o from → IsCursor bs p from
cursor_later bs o p from le h = record { within = h.within; same = λ q lq. h.same q (omega (arith, le, lq)); lowest = h.lowest; order = h.order }

pub cursor_begin : (bs : List GapAckBlock) (o : ℕ) → AreRuns 0 bs → IsCursor bs o 0
cursor_begin bs o h = record { within = omega arith; same = λ q le. refl; lowest = 0; order = h }

pub walk_begin : (b : Bool) (bs : List GapAckBlock) (o : ℕ) → (IsTrue b → AreRuns 0 bs) → IsWalk b bs o 0
walk_begin true bs o h = cursor_begin bs o (h refl)
walk_begin false bs o h = tt

pub walk_past : (b : Bool) (bs : List GapAckBlock) (o p from : ℕ) → o ≤ p → IsWalk b bs o from → IsWalk b bs p from
walk_past true bs o p from le h = cursor_later bs o p from le h
walk_past false bs o p from le h = tt

-- ---- what is remembered

pub knows_changed : (h : LastBlocks) (x : Change) → is_of_sack x ≡ false → (k : ℕ) (is : List Item) → Knows h is → Knows h (change_at k (apply_change x) is)
knows_changed h x e k is known = λ yes.
    let old : AreAsBlocksSaid h is = known yes in
    let same : length (change_at k (apply_change x) is) ≡ length is = length_change k (apply_change x) is in
    record { order = old.order; small = old.small; within = omega (arith, same, old.within); rest = rest_changed h.gap_ack_blocks.items x h.offset k is e old.rest }

length_more : (is : List Item) (i : Item) → length (is ++ i ∷ []) ≡ length is + 1
length_more [] i = refl
length_more (x ∷ is) i =
    let ih : length (is ++ i ∷ []) ≡ length is + 1 = length_more is i in
    omega (arith, ih)

pub knows_pushed : (h : LastBlocks) (is : List Item) (i : Item) → is_acked i ≡ false → Knows h is → Knows h (is ++ i ∷ [])
knows_pushed h is i e known = λ yes.
    let old : AreAsBlocksSaid h is = known yes in
    let more : length (is ++ i ∷ []) ≡ length is + 1 = length_more is i in
    record { order = old.order; small = old.small; within = omega (arith, more, old.within); rest = rest_pushed h.gap_ack_blocks.items h.offset is i e old.within old.rest }
