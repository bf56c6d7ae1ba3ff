-- Each kept item that may be sent has a payload: one without it, the end of a message that was given up, is given up itself.
use Rattle.std.proofs.Common.{◌≡◌, ℕ, zero, suc, ◌-◌, ◌||◌, ◌==◌, not, Bool, true, false, cond, Option, Some, None, List, [], ◌∷◌, length, drop, ◌⊎◌, inl, inr, refl, sym, ap, subst, ◌∙◌}
use Rattle.std.specs.Prelude.{unwrap_or, option_map, map, slice_get, nat_le, ◌&&◌}
use Rattle.std.proofs.lemmas.Bool.{both_ways, and_parts}
use Rattle.sctp_chunk.specs.declared.sack.GapAckBlock.{GapAckBlock}
use Rattle.sctp_packet.specs.Covered.{is_covered}
use Rattle.sctp_packet.specs.Chunk.{FragmentTree}
use Rattle.sctp_packet.specs.Grammar.{Each}
use Rattle.sctp_state.specs.declared.api.GivenUpCause.{GivenUpCause}
use Rattle.sctp_state.specs.declared.api.GivenUpCause.TheVariants.{Lifetime, Retransmissions}
use Rattle.sctp_state.specs.Events.{Emitted}
use Rattle.sctp_tx_outstanding.specs.declared.item.MissIndication.{MissIndication}
use Rattle.sctp_tx_outstanding.specs.declared.item.MissIndication.TheVariants.{Timeout}
use Rattle.sctp_tx_outstanding.specs.declared.item.ItemState.{ItemState}
use Rattle.sctp_tx_outstanding.specs.declared.item.ItemState.TheVariants.{InFlight, Missing, Queued, QueuedFast, Acked, GivenUp}
use Rattle.sctp_tx_outstanding.specs.Item as item
use Rattle.sctp_tx_outstanding.specs.Item.{Item, is_in_flight, waits, waits_fast, is_given_up, is_of, is_lost, is_fast, should_be_retransmitted, nack_state, mark_as_retransmitted, miss_fast}
use Rattle.sctp_tx_outstanding.specs.OutstandingData.{Items, Outstanding, change_at, abandon_if_of, last_of}
use Rattle.sctp_tx_outstanding.specs.Losses.{placeholder, placeholders, end_with_placeholder, Step, abandon_with_record, change_items, is_to_be_abandoned, loses, nack_item, nack_below, nack_all, first_step, expired_at, given_up_if, expire_below, expire_outstanding}
use Rattle.sctp_tx_outstanding.specs.Sack.{report_by, leaving, staying, ack_or_uncover_all, ack_or_uncover, reported_below, receive_sack_first, receive_sack}
use Rattle.sctp_tx_outstanding.specs.Resending.{Resent, size_in, allowance, again_of, again_at, passed_over, fast_turn, queued_turn, turn_of, apply_turn, resent_below, empty_packet, resend}
use Rattle.proof_endpoint.proofs.ReceivedLemmas.{each_append, each_push, each_drop}

-- ---- an item

abbrev pub IsFilled : Item → Type 0
IsFilled i = (is_given_up i.state ≡ true) ⊎ ((length i.fragment.payload == 0) ≡ false)

abbrev pub AreFilled : Items → Type 0
AreFilled s = Each IsFilled s.kept

is_given_up_state : (s : ItemState) → is_given_up s ≡ true → s ≡ GivenUp
is_given_up_state InFlight e = cc
is_given_up_state Missing e = cc
is_given_up_state Queued e = cc
is_given_up_state QueuedFast e = cc
is_given_up_state Acked e = cc
is_given_up_state GivenUp e = refl

-- the fragment stays, and so does that it was given up
goes : (i j : Item) → j.fragment ≡ i.fragment → (i.state ≡ GivenUp → is_given_up j.state ≡ true) → IsFilled i → IsFilled j
goes i j same f (inl e) = inl (f (is_given_up_state i.state e))
goes i j same f (inr e) = inr (ap (λ (g : FragmentTree). length g.payload == 0) same ∙ e)

-- one that waits to be sent again has a payload
waiting : (i : Item) → waits i.state ≡ true → IsFilled i → (length i.fragment.payload == 0) ≡ false
waiting i w (inl e) = absurd (both_ways (waits i.state) (ap waits (is_given_up_state i.state e)) w)
waiting i w (inr e) = e

waiting_fast : (i : Item) → waits_fast i.state ≡ true → IsFilled i → (length i.fragment.payload == 0) ≡ false
waiting_fast i w (inl e) = absurd (both_ways (waits_fast i.state) (ap waits_fast (is_given_up_state i.state e)) w)
waiting_fast i w (inr e) = e

-- ---- lists of items

abbrev AreAll : List Item → Type 0
AreAll is = Each IsFilled is

abbrev IsGot : Option Item → Type 0
IsGot None = Unit {0}
IsGot (Some i) = IsFilled i

got : (is : List Item) (k : ℕ) → AreAll is → IsGot (slice_get is k)
got [] k h = tt
got (i ∷ is) zero h = h.0
got (i ∷ is) (suc k) h = got is k h.1

module _ (f : Item → Item) (keeps : (i : Item) → IsFilled i → IsFilled (f i)) where
  change_filled : (k : ℕ) (is : List Item) → AreAll is → AreAll (change_at k f is)
  change_filled k [] h = tt
  change_filled zero (i ∷ is) h = (keeps i h.0, h.1)
  change_filled (suc k) (i ∷ is) h = (h.0, change_filled k is h.1)

  map_filled : (is : List Item) → AreAll is → AreAll (map f is)
  map_filled [] h = tt
  map_filled (i ∷ is) h = (keeps i h.0, map_filled is h.1)

-- ---- what is given up

placeholders_filled : (number : ℕ) (o : Option FragmentTree) → AreAll (placeholders number o)
placeholders_filled number None = tt
placeholders_filled number (Some f) = go f.is_end
  where
    go : (b : Bool) → AreAll (cond b [] (placeholder number f ∷ []))
    go true = tt
    go false = (inl refl, tt)

laid_filled : (number : ℕ) (i : Item) → IsFilled i → IsFilled (abandon_if_of number i)
laid_filled number i h = go (is_of number i)
  where
    go : (b : Bool) → IsFilled (cond b (item.abandon i) i)
    go true = inl refl
    go false = h

closed_filled : (number : ℕ) (s : Items) → AreFilled s → AreFilled (end_with_placeholder number s)
closed_filled number s h = each_append IsFilled s.kept (placeholders number (last_of number s.kept)) h (placeholders_filled number (last_of number s.kept))

ack_or_uncover_filled : (b : Bool) (i : Item) → IsFilled i → IsFilled (ack_or_uncover b i)
ack_or_uncover_filled true i h = goes i (item.ack i) refl (λ e. ap (λ (s : ItemState). is_given_up (item.acked s)) e) h
ack_or_uncover_filled false i h = goes i (item.uncover i) refl (λ e. ap (λ (s : ItemState). is_given_up (item.uncovered s)) e) h

settle_filled : (blocks : List GapAckBlock) (offset : ℕ) (is : List Item) → AreAll is → AreAll (ack_or_uncover_all blocks offset is)
settle_filled blocks offset [] h = tt
settle_filled blocks offset (i ∷ is) h = (ack_or_uncover_filled (is_covered blocks offset) i h.0, settle_filled blocks (suc offset) is h.1)

nack_filled : (indication : MissIndication) (fast : Bool) (i : Item) → IsFilled i → IsFilled (item.nack indication fast i)
nack_filled indication fast i h =
    goes i (item.nack indication fast i) refl (λ e. ap (λ (s : ItemState). is_given_up (cond (is_in_flight s) (nack_state (is_lost indication i) fast) s)) e) h

resent_filled : (i : Item) → IsFilled i → IsFilled (mark_as_retransmitted i)
resent_filled i h = goes i (mark_as_retransmitted i) refl (λ e. ap (λ (s : ItemState). is_given_up (item.resent s)) e) h

missed_filled : (i : Item) → IsFilled i → IsFilled (miss_fast i)
missed_filled i h = goes i (miss_fast i) refl (λ e. ap (λ (s : ItemState). is_given_up (item.demote_fast s)) e) h

abbrev StepIsFilled : {P : Type 0} → Step P → Type 0
StepIsFilled x = AreFilled x.items

module _ {P : Type 0} where
  given_up_filled : (number : ℕ) (cause : GivenUpCause) (x : Step P) → StepIsFilled x → StepIsFilled (abandon_with_record number cause x)
  given_up_filled number cause x h = map_filled (abandon_if_of number) (laid_filled number) (end_with_placeholder number x.items).kept (closed_filled number x.items h)

  nack_item_filled : (indication : MissIndication) (fast : Bool) (k : ℕ) (i : Item) (x : Step P) → StepIsFilled x → StepIsFilled (nack_item indication fast k i x)
  nack_item_filled indication fast k i x h = go (is_to_be_abandoned x.items.is_partial indication i)
    where
      go : (b : Bool) → StepIsFilled (cond b (abandon_with_record i.number (Retransmissions (i.sent - 1)) x)
          (record x { items = change_items k (item.nack indication fast) x.items; is_lossy = x.is_lossy || loses indication i }))
      go true = given_up_filled i.number (Retransmissions (i.sent - 1)) x h
      go false = change_filled (item.nack indication fast) (nack_filled indication fast) k x.items.kept h

  nack_at_filled : (o : Option Item) (indication : MissIndication) (fast : Bool) (k : ℕ) (x : Step P) → StepIsFilled x
      → StepIsFilled (unwrap_or (option_map (λ i. nack_item indication fast k i x) o) x)
  nack_at_filled None indication fast k x h = h
  nack_at_filled (Some i) indication fast k x h = nack_item_filled indication fast k i x h

  nacks_filled : (indication : MissIndication) (fast : Bool) (n : ℕ) (x : Step P) → StepIsFilled x → StepIsFilled (nack_below indication fast n x)
  nacks_filled indication fast zero x h = h
  nacks_filled indication fast (suc n) x h =
      let y : Step P = nack_below indication fast n x in
      nack_at_filled (slice_get y.items.kept n) indication fast n y (nacks_filled indication fast n x h)

  pub nack_all_filled : (s : Items) (t : Emitted P) → AreFilled s → AreFilled (nack_all s t).items
  nack_all_filled s t h = nacks_filled Timeout false (length s.kept) (first_step s t) h

  given_up_if_filled : (o : Option ℕ) (x : Step P) → StepIsFilled x → StepIsFilled (given_up_if o x)
  given_up_if_filled None x h = h
  given_up_if_filled (Some number) x h = given_up_filled number Lifetime x h

  expire_filled : (now n : ℕ) (x : Step P) → StepIsFilled x → StepIsFilled (expire_below now n x)
  expire_filled now zero x h = h
  expire_filled now (suc n) x h =
      let y : Step P = expire_below now n x in
      given_up_if_filled (expired_at now n y.items) y (expire_filled now n x h)

  pub expired_filled : (now : ℕ) (s : Items) (t : Emitted P) → AreFilled s → AreFilled (expire_outstanding now s t).items
  expired_filled now s t h = expire_filled now (length s.kept) (first_step s t) h

  pub receive_filled : (n : ℕ) (blocks : List GapAckBlock) (once fast : Bool) (s : Items) (t : Emitted P) → AreFilled s → AreFilled (receive_sack n blocks once fast s t).items
  receive_filled n blocks once fast s t h =
      nacks_filled (report_by once n blocks s) (not fast) (reported_below blocks (staying n s)) (receive_sack_first n blocks s t)
      (settle_filled blocks 1 (drop (leaving n s) s.kept) (each_drop IsFilled (leaving n s) s.kept h))

-- ---- what is sent again

abbrev pub HasPayload : ℕ × FragmentTree → Type 0
HasPayload c = (length c.1.payload == 0) ≡ false

pub record ResentIsFilled (x : Resent) : Type 0 where
  pub items : AreFilled x.outstanding.items
  pub chunks : Each HasPayload x.chunks

again_filled : (k : ℕ) (i : Item) (x : Resent) → slice_get x.outstanding.items.kept k ≡ Some i → (length i.fragment.payload == 0) ≡ false → ResentIsFilled x
    → ResentIsFilled (again_at k x)
again_filled k i x there some h =
    subst (λ (o : Option Item). ResentIsFilled (again_of k o x)) (sym there)
    (record {
      items = change_filled mark_as_retransmitted resent_filled k x.outstanding.items.kept h.items;
      chunks = each_push HasPayload x.chunks _ h.chunks some;
    })

passed_over_filled : (k : ℕ) (x : Resent) → ResentIsFilled x → ResentIsFilled (passed_over k x)
passed_over_filled k x h = record { items = change_filled miss_fast missed_filled k x.outstanding.items.kept h.items; chunks = h.chunks }

here : (k : ℕ) (i : Item) (x : Resent) → slice_get x.outstanding.items.kept k ≡ Some i → ResentIsFilled x → IsFilled i
here k i x there h = subst IsGot there (got x.outstanding.items.kept k h.items)

fast_filled : (a b : Bool) (i : Item) (k : ℕ) (x : Resent) → slice_get x.outstanding.items.kept k ≡ Some i → is_fast i ≡ a → nat_le (size_in x i) x.room ≡ b
    → ResentIsFilled x → ResentIsFilled (apply_turn (fast_turn i x) k x)
fast_filled true true i k x there e f h = rw (e, f) (again_filled k i x there (waiting_fast i e (here k i x there h)) h)
fast_filled true false i k x there e f h = rw (e, f) (passed_over_filled k x h)
fast_filled false b i k x there e f h = rw e h

queued_filled : (b : Bool) (i : Item) (k : ℕ) (x : Resent) → slice_get x.outstanding.items.kept k ≡ Some i
    → (should_be_retransmitted i && nat_le (size_in x i) (allowance x)) ≡ b → ResentIsFilled x → ResentIsFilled (apply_turn (queued_turn i x) k x)
queued_filled true i k x there e h =
    let w : should_be_retransmitted i ≡ true = (and_parts (should_be_retransmitted i) (nat_le (size_in x i) (allowance x)) e).0 in
    rw e (again_filled k i x there (waiting i w (here k i x there h)) h)
queued_filled false i k x there e h = rw e h

action_filled : (fast : Bool) (o : Option Item) (k : ℕ) (x : Resent) → slice_get x.outstanding.items.kept k ≡ o → ResentIsFilled x
    → ResentIsFilled (apply_turn (turn_of fast o x) k x)
action_filled fast None k x there h = h
action_filled true (Some i) k x there h = fast_filled (is_fast i) (nat_le (size_in x i) x.room) i k x there refl refl h
action_filled false (Some i) k x there h = queued_filled (should_be_retransmitted i && nat_le (size_in x i) (allowance x)) i k x there refl h

resents_filled : (fast : Bool) (n : ℕ) (x : Resent) → ResentIsFilled x → ResentIsFilled (resent_below fast n x)
resents_filled fast zero x h = h
resents_filled fast (suc n) x h =
    let y : Resent = resent_below fast n x in
    action_filled fast (slice_get y.outstanding.items.kept n) n y refl (resents_filled fast n x h)

pub resend_filled : (fast : Bool) (room window : ℕ) (d : Outstanding) → AreFilled d.items → ResentIsFilled (resend fast room window d)
resend_filled fast room window d h = resents_filled fast (length d.items.kept) (empty_packet room window d) (record { items = h; chunks = tt })
