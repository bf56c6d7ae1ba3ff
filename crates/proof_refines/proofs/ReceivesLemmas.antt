-- From the joint laws to the values.
use Rattle.std.proofs.Common.{◌≡◌, ℕ, Bool, Option, Some, None, List, ◌∷◌, ◌++◌, refl, ap, sym, ◌∙◌, subst}
use Rattle.sctp_serial.specs.Messages as messages
use Rattle.sctp_rx.specs.Held.{Held}
use Rattle.proof_refines.specs.SettledStreams.{AreSettled}
use Rattle.sctp_rx.specs.ReassemblyStreams.{Streams}
use Rattle.sctp_rx.specs.ReassemblyQueue.{Reassembly, Deferred}
use Rattle.sctp_rx.specs.DataTracker.{Tracker}
use Rattle.proof_protocol.specs.State.{Message, Transfer, IsAmong}
use Rattle.proof_protocol.specs.Rules.{TransferEvent, after, run}
use Rattle.proof_protocol.specs.Invariant.{Invariant}
use Rattle.proof_protocol.specs.Joints.{Refines, LeadsTo}
use Rattle.proof_protocol.specs.Reassembly.{Queue, KeyOf, next_of, key_of, NoneReady, Sees}
use Rattle.proof_protocol.specs.Lifted.{up_key, up_chunk, up_some, lift}
use Rattle.proof_protocol.proofs.ReceiverRowLemmas.{key_laws}
use Rattle.proof_protocol.proofs.LiftedLemmas.{lift_at}
use Rattle.proof_refines.specs.View.{IsSeenAs, held_on, was_seen, view_with, view_of}
use Rattle.proof_refines.specs.Read.{shift_after}
use Rattle.proof_refines.specs.ReceiverRefinement.{ReceiverRefines, Goes}
use Rattle.proof_refines.proofs.ReceiverRestLemmas.{AreSent, no_run}
use Rattle.proof_refines.proofs.ArrivalLemmas.{rest_of}

module _ (message : ℕ → Message) (is_interleaved : Bool) (base : Bool → ℕ → ℕ) (shift : ℕ) (x : Transfer) (k : Invariant message is_interleaved x) where
  -- what a queue that refines the receiver holds was sent
  pub sent_of : (q : Queue (KeyOf is_interleaved) (next_of is_interleaved)) → Refines message is_interleaved x (lift base is_interleaved q) → AreSent message is_interleaved base x.sender q
  sent_of q s κ w e =
      let f = s.held (up_key base is_interleaved κ) (up_chunk base is_interleaved w) (lift_at base is_interleaved q κ ∙ ap (up_some base is_interleaved) e) in
      (f.0, k.incoming.seen_below f.0 (k.incoming.held_seen f.0 f.1), f.2, f.3)

  pub none_left : (ss : Streams) (ready : List messages.Message) (q : Queue (KeyOf is_interleaved) (next_of is_interleaved)) → IsSeenAs is_interleaved shift (view_with ss ready) q → AreSettled ss → AreSent message is_interleaved base x.sender q → NoneReady is_interleaved q
  none_left ss ready q p h sent κ n w y = no_run message is_interleaved base shift x.sender (key_laws message is_interleaved x k) (view_with ss ready) q p sent (rest_of ss ready h) κ n w y

  pub none_ready : (handed : List messages.Message) (t : Tracker) (r : Reassembly) (shown : ReceiverRefines message is_interleaved base shift x handed t r) → NoneReady is_interleaved shown.queue
  none_ready handed t r shown = none_left r.streams (handed ++ r.ready) shown.queue shown.seen_as shown.settled (sent_of shown.queue shown.refines)

  -- where the events lead
  pub goes_to : (e : TransferEvent) (es : List TransferEvent) (q : Queue (KeyOf is_interleaved) (next_of is_interleaved)) → LeadsTo message is_interleaved x e es (lift base is_interleaved q)
      → (handed : List messages.Message) (waiting : Option Deferred) (t : Tracker) (r : Reassembly) → IsSeenAs is_interleaved shift (view_of handed r) q → ((n : ℕ) → was_seen t n ≡ (after message is_interleaved x e).receiver.seen n)
      → r.streams.is_interleaved ≡ is_interleaved → AreSettled r.streams
      → (r.first ≡ None → (kind : Bool) (s : ℕ) (h : Held) → IsAmong h (held_on r.streams kind s) → ⊥) → r.deferred ≡ waiting → Goes message is_interleaved base shift x (e ∷ es) handed waiting t r
  goes_to e es q l handed waiting t r p seen mode settled fresh deferred = record {
    may = l.may;
    kept = l.kept;
    rest_stays = l.rest_stays;
    refines = record {
      queue = q;
      refines = subst (λ o. Sees (KeyOf is_interleaved) (next_of is_interleaved) message is_interleaved o (run message is_interleaved x (e ∷ es)).receiver (key_of is_interleaved message o) (lift base is_interleaved q)) (sym (ap (λ z. z.sender) l.rest_stays)) l.sees;
      seen_as = p;
      seen = λ n. seen n ∙ sym (l.seen_is n);
      mode = mode;
      settled = settled;
      fresh = fresh;
    };
    deferred = deferred;
  }

-- where nothing is held, the first fragment that comes may be any
shift_seen : (is_interleaved : Bool) (shift later : ℕ) (handed : List messages.Message) (r : Reassembly) (q : Queue (KeyOf is_interleaved) (next_of is_interleaved)) → ((kind : Bool) (s : ℕ) (h : Held) → IsAmong h (held_on r.streams kind s) → ⊥)
    → IsSeenAs is_interleaved shift (view_of handed r) q → IsSeenAs is_interleaved later (view_of handed r) q
shift_seen is_interleaved shift later handed r q empty p = record {
  filed = λ kind s h a. absurd (empty kind s h a);
  holds = λ kind s h a. absurd (empty kind s h a);
  found = λ κ w e. let f = p.found κ w e in absurd (empty f.0 f.1 f.2 f.3);
  next = p.next;
  passed = p.passed;
  none_passed = p.none_passed;
  ready = p.ready;
}

pub seen_after : (is_interleaved : Bool) (shift k : ℕ) (handed : List messages.Message) (r : Reassembly) (q : Queue (KeyOf is_interleaved) (next_of is_interleaved)) → (r.first ≡ None → (kind : Bool) (s : ℕ) (h : Held) → IsAmong h (held_on r.streams kind s) → ⊥)
    → IsSeenAs is_interleaved shift (view_of handed r) q → IsSeenAs is_interleaved (shift_after r.first shift k) (view_of handed r) q
seen_after is_interleaved shift k handed r q fresh p = go r.first refl
  where
    go : (o : Option ℕ) → r.first ≡ o → IsSeenAs is_interleaved (shift_after o shift k) (view_of handed r) q
    go None e = shift_seen is_interleaved shift k handed r q (fresh e) p
    go (Some w) e = p
