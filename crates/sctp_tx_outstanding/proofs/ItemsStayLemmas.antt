-- Items that stay.
use Rattle.std.proofs.Common.{◌≡◌, ℕ, zero, suc, Bool, true, false, cond, Option, Some, None, List, [], ◌∷◌, ◌++◌, refl, ap, ◌∙◌}
use Rattle.std.specs.Prelude.{◌-◌, ◌&&◌, map, slice_get, option_map, unwrap_or, ◌||◌, not, if◌then◌else◌}
use Rattle.std.specs.List.{list_all}
use Rattle.sctp_chunk.specs.declared.sack.GapAckBlock.{GapAckBlock}
use Rattle.sctp_chunk.specs.Covered.{is_covered}
use Rattle.sctp_state.specs.Events.{Emitted}
use Rattle.sctp_state.specs.declared.api.GivenUpCause.TheVariants.{Retransmissions}
use Rattle.sctp_tx_outstanding.specs.declared.item.MissIndication.{MissIndication}
use Rattle.sctp_tx_outstanding.specs.declared.item.ItemState.{ItemState}
use Rattle.sctp_tx_outstanding.specs.declared.item.ItemState.TheVariants.{InFlight, Missing, Queued, QueuedFast, Acked, GivenUp}
use Rattle.sctp_tx_outstanding.specs.declared.outstanding_data.Turn.{Turn}
use Rattle.sctp_tx_outstanding.specs.declared.outstanding_data.Turn.TheVariants.{Send, PassOver, Leave}
use Rattle.sctp_tx_outstanding.specs.Item.{Item, is_in_flight, is_given_up, is_of, is_lost, is_abandoned, acked, uncovered, nack_state, resent, demote_fast, ack, uncover, nack, mark_as_retransmitted, miss_fast, abandon}
use Rattle.sctp_tx_outstanding.specs.OutstandingData.{Items, change_at, abandon_if_of, last_of, append_item}
use Rattle.sctp_tx_outstanding.specs.Losses.{Step, end_with_placeholder, placeholders, abandon_message, abandon_with_record, given_up_if, is_to_be_abandoned, loses, nack_item, nack_at, nack_below, expired_at, expire_at, expire_below, change_items}
use Rattle.sctp_tx_outstanding.specs.Resending.{Resent, again_of, again_at, apply_turn, turn_at, step_at, resent_below}
use Rattle.sctp_tx_outstanding.specs.Sack.{report_by, ack_or_uncover_all, ack_or_uncover, staying, receive_sack, receive_sack_first, reported_below}
use Rattle.sctp_tx_outstanding.specs.Keeps.{Remains, Remain, Keeps, is_given_up_in}

-- ---- lists

itself : (i : Item) → Remains i i
itself i = record { fragment = refl; number = refl; given_up = λ e. e }

remain_all : (is : List Item) → Remain is is
remain_all [] = tt
remain_all (i ∷ is) = (itself i, remain_all is)

remain_on : (is js ks : List Item) → Remain is js → Remain js ks → Remain is ks
remain_on [] js ks a b = tt
remain_on (i ∷ is) [] ks a b = absurd a
remain_on (i ∷ is) (j ∷ js) [] a b = absurd b
remain_on (i ∷ is) (j ∷ js) (k ∷ ks) a b = (record { fragment = b.0.fragment ∙ a.0.fragment; number = b.0.number ∙ a.0.number; given_up = λ e. b.0.given_up (a.0.given_up e) }, remain_on is js ks a.1 b.1)

remain_before : (is js : List Item) → Remain is (is ++ js)
remain_before [] js = tt
remain_before (i ∷ is) js = (itself i, remain_before is js)

remain_mapped : (f : Item → Item) → ((i : Item) → Remains i (f i)) → (is : List Item) → Remain is (map f is)
remain_mapped f h [] = tt
remain_mapped f h (i ∷ is) = (h i, remain_mapped f h is)

remain_changed : (f : Item → Item) → ((i : Item) → Remains i (f i)) → (k : ℕ) (is : List Item) → Remain is (change_at k f is)
remain_changed f h k [] = tt
remain_changed f h zero (i ∷ is) = (h i, remain_all is)
remain_changed f h (suc k) (i ∷ is) = (itself i, remain_changed f h k is)

-- ---- items

acked_given_up : (s : ItemState) → is_given_up s ≡ true → is_given_up (acked s) ≡ true
acked_given_up InFlight e = absurd (cc)
acked_given_up Missing e = absurd (cc)
acked_given_up Queued e = absurd (cc)
acked_given_up QueuedFast e = absurd (cc)
acked_given_up Acked e = absurd (cc)
acked_given_up GivenUp e = refl

uncovered_given_up : (s : ItemState) → is_given_up s ≡ true → is_given_up (uncovered s) ≡ true
uncovered_given_up InFlight e = absurd (cc)
uncovered_given_up Missing e = absurd (cc)
uncovered_given_up Queued e = absurd (cc)
uncovered_given_up QueuedFast e = absurd (cc)
uncovered_given_up Acked e = absurd (cc)
uncovered_given_up GivenUp e = refl

nacked_given_up : (s other : ItemState) → is_given_up s ≡ true → is_given_up (cond (is_in_flight s) other s) ≡ true
nacked_given_up InFlight other e = absurd (cc)
nacked_given_up Missing other e = absurd (cc)
nacked_given_up Queued other e = absurd (cc)
nacked_given_up QueuedFast other e = absurd (cc)
nacked_given_up Acked other e = absurd (cc)
nacked_given_up GivenUp other e = refl

resent_given_up : (s : ItemState) → is_given_up s ≡ true → is_given_up (resent s) ≡ true
resent_given_up InFlight e = absurd (cc)
resent_given_up Missing e = absurd (cc)
resent_given_up Queued e = absurd (cc)
resent_given_up QueuedFast e = absurd (cc)
resent_given_up Acked e = absurd (cc)
resent_given_up GivenUp e = refl

slowed_given_up : (s : ItemState) → is_given_up s ≡ true → is_given_up (demote_fast s) ≡ true
slowed_given_up InFlight e = absurd (cc)
slowed_given_up Missing e = absurd (cc)
slowed_given_up Queued e = absurd (cc)
slowed_given_up QueuedFast e = absurd (cc)
slowed_given_up Acked e = absurd (cc)
slowed_given_up GivenUp e = refl

pub by_ack : (i : Item) → Remains i (ack i)
by_ack i = record { fragment = refl; number = refl; given_up = acked_given_up i.state }

pub by_uncover : (i : Item) → Remains i (uncover i)
by_uncover i = record { fragment = refl; number = refl; given_up = uncovered_given_up i.state }

pub by_nack : (indication : MissIndication) (fast : Bool) (i : Item) → Remains i (nack indication fast i)
by_nack indication fast i = record { fragment = refl; number = refl; given_up = nacked_given_up i.state (nack_state (is_lost indication i) fast) }

pub by_resending : (i : Item) → Remains i (mark_as_retransmitted i)
by_resending i = record { fragment = refl; number = refl; given_up = resent_given_up i.state }

pub by_missing : (i : Item) → Remains i (miss_fast i)
by_missing i = record { fragment = refl; number = refl; given_up = slowed_given_up i.state }

laid : (b : Bool) (i : Item) → Remains i (cond b (abandon i) i)
laid true i = record { fragment = refl; number = refl; given_up = λ e. refl }
laid false i = itself i

by_ack_or_uncover : (b : Bool) (i : Item) → Remains i (ack_or_uncover b i)
by_ack_or_uncover true i = by_ack i
by_ack_or_uncover false i = by_uncover i

remain_settled : (bs : List GapAckBlock) (offset : ℕ) (is : List Item) → Remain is (ack_or_uncover_all bs offset is)
remain_settled bs offset [] = tt
remain_settled bs offset (i ∷ is) = (by_ack_or_uncover (is_covered bs offset) i, remain_settled bs (suc offset) is)

-- ---- steps

pub keeps_all : (s : Items) → Keeps s s
keeps_all s = record { acked = refl; items = remain_all s.kept }

pub keeps_on : (s t u : Items) → Keeps s t → Keeps t u → Keeps s u
keeps_on s t u a b = record { acked = b.acked ∙ a.acked; items = remain_on s.kept t.kept u.kept a.items b.items }

given_up_keeps : (number : ℕ) (s : Items) → Keeps s (abandon_message number s)
given_up_keeps number s = record {
  acked = refl;
  items =
      remain_on s.kept (end_with_placeholder number s).kept (abandon_message number s).kept (remain_before s.kept (placeholders number (last_of number s.kept)))
      (remain_mapped (abandon_if_of number) (λ i. laid (is_of number i) i) (end_with_placeholder number s).kept);
}

changed_keeps : (k : ℕ) (f : Item → Item) (s : Items) → ((i : Item) → Remains i (f i)) → Keeps s (change_items k f s)
changed_keeps k f s h = record { acked = refl; items = remain_changed f h k s.kept }

module _ (indication : MissIndication) (fast : Bool) where
  item_keeps : (k : ℕ) (i : Item) (x : Step (List ℕ)) → Keeps x.items (nack_item indication fast k i x).items
  item_keeps k i x = go (is_to_be_abandoned x.items.is_partial indication i) where
    go : (b : Bool) → Keeps x.items (if b then abandon_with_record i.number (Retransmissions (i.sent - 1)) x else record x { items = change_items k (nack indication fast) x.items; is_lossy = x.is_lossy || loses indication i }).items
    go true = given_up_keeps i.number x.items
    go false = changed_keeps k (nack indication fast) x.items (by_nack indication fast)

  at_keeps : (k : ℕ) (x : Step (List ℕ)) → Keeps x.items (nack_at indication fast k x).items
  at_keeps k x = go (slice_get x.items.kept k) where
    go : (o : Option Item) → Keeps x.items (unwrap_or (option_map (λ i. nack_item indication fast k i x) o) x).items
    go None = keeps_all x.items
    go (Some i) = item_keeps k i x

  pub losses_keep : (n : ℕ) (x : Step (List ℕ)) → Keeps x.items (nack_below indication fast n x).items
  losses_keep zero x = keeps_all x.items
  losses_keep (suc n) x =
      let before = nack_below indication fast n x in
      keeps_on x.items before.items (nack_at indication fast n before).items (losses_keep n x) (at_keeps n before)

module _ (now : ℕ) where
  lifetime_keeps : (k : ℕ) (x : Step (List ℕ)) → Keeps x.items (expire_at now k x).items
  lifetime_keeps k x = go (expired_at now k x.items) where
    go : (o : Option ℕ) → Keeps x.items (given_up_if o x).items
    go None = keeps_all x.items
    go (Some number) = given_up_keeps number x.items

  pub lifetimes_keep : (n : ℕ) (x : Step (List ℕ)) → Keeps x.items (expire_below now n x).items
  lifetimes_keep zero x = keeps_all x.items
  lifetimes_keep (suc n) x =
      let before = expire_below now n x in
      keeps_on x.items before.items (expire_at now n before).items (lifetimes_keep n x) (lifetime_keeps n before)

module _ (fast : Bool) where
  resent_keeps : (k : ℕ) (x : Resent) → Keeps x.outstanding.items (again_at k x).outstanding.items
  resent_keeps k x = go (slice_get x.outstanding.items.kept k) where
    go : (o : Option Item) → Keeps x.outstanding.items (again_of k o x).outstanding.items
    go None = keeps_all x.outstanding.items
    go (Some i) = changed_keeps k mark_as_retransmitted x.outstanding.items by_resending

  turn_keeps : (k : ℕ) (x : Resent) → Keeps x.outstanding.items (step_at fast k x).outstanding.items
  turn_keeps k x = go (turn_at fast k x) where
    go : (t : Turn) → Keeps x.outstanding.items (apply_turn t k x).outstanding.items
    go Send = resent_keeps k x
    go PassOver = changed_keeps k miss_fast x.outstanding.items by_missing
    go Leave = keeps_all x.outstanding.items

  pub resending_keeps : (n : ℕ) (x : Resent) → Keeps x.outstanding.items (resent_below fast n x).outstanding.items
  resending_keeps zero x = keeps_all x.outstanding.items
  resending_keeps (suc n) x =
      let before = resent_below fast n x in
      keeps_on x.outstanding.items before.outstanding.items (step_at fast n before).outstanding.items (resending_keeps n x) (turn_keeps n before)

pub new_items_keep : (i : Item) (s : Items) → Keeps s (append_item i s)
new_items_keep i s = record { acked = refl; items = remain_before s.kept (i ∷ []) }

pub sacks_keep : (cumulative : ℕ) (blocks : List GapAckBlock) (once_a_flight is_in_fast_recovery : Bool) (s : Items) (emitted : Emitted (List ℕ))
    → Keeps (staying cumulative s) (receive_sack cumulative blocks once_a_flight is_in_fast_recovery s emitted).items
sacks_keep cumulative blocks once_a_flight is_in_fast_recovery s emitted =
    let left = staying cumulative s in
    let first : Step (List ℕ) = receive_sack_first cumulative blocks s emitted in
    let settled-keeps : Keeps left first.items = record { acked = refl; items = remain_settled blocks 1 left.kept } in
    keeps_on left first.items (receive_sack cumulative blocks once_a_flight is_in_fast_recovery s emitted).items settled-keeps (losses_keep (report_by once_a_flight cumulative blocks s) (not is_in_fast_recovery) (reported_below blocks left) first)

-- ---- a message that is given up

down : (number : ℕ) (b : Bool) (i : Item) → is_of number i ≡ b → is_given_up_in number (if b then abandon i else i) ≡ true
down number true i e = ap (λ x. not x || true) e
down number false i e = ap (λ x. not x || is_abandoned i) e

all_down : (number : ℕ) (is : List Item) → list_all (is_given_up_in number) (map (abandon_if_of number) is) ≡ true
all_down number [] = refl
all_down number (i ∷ is) = ap (λ x. x && list_all (is_given_up_in number) (map (abandon_if_of number) is)) (down number (is_of number i) i refl) ∙ all_down number is

pub messages_are_given_up : (number : ℕ) (s : Items) → list_all (is_given_up_in number) (abandon_message number s).kept ≡ true
messages_are_given_up number s = all_down number (end_with_placeholder number s).kept
