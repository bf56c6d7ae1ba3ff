-- What the rules of one end leave of the other, beside it.
use Rattle.std.proofs.Common.{◌≡◌, ℕ, Bool, true, false, inl, inr, Option, List, [], ◌∷◌, ◌++◌, refl, sym, ap, subst, ◌∙◌}
use Rattle.std.specs.List.{list_all}
use Rattle.std.proofs.lemmas.Bool.{and_parts, false≢true}
use Rattle.sctp_serial.specs.Messages as messages
use Rattle.sctp_tx_queue.specs.SendQueue.{Queue}
use Rattle.sctp_tx_outstanding.specs.OutstandingData.{no_items}
use Rattle.sctp_rx.specs.ReassemblyQueue.{Deferred}
use Rattle.proof_protocol.specs.State.{Message, Sender, Transfer, new_sender}
use Rattle.proof_protocol.specs.Rules.{TransferEvent, accept, begin, number, end_with_placeholder, give_up, data_comes, late_comes, become_ready, send_sack, acknowledge_next, send_forward, forward_comes, perform_reset, after}
use Rattle.proof_protocol.specs.Resets.{Request, Epochs, ResetEvent, transfers, reset_stream, send_request, perform, commit, MayReset, goes, MayAll, go_all}
use Rattle.proof_protocol.specs.Based.{InEpochs}
use Rattle.proof_protocol.proofs.BasedLemmas.{keeps_epochs}
use Rattle.proof_protocol.proofs.CommonLemmas.{get_front}
use Rattle.proof_refines.specs.Following.{NoneIsReset, IsOthers}
use Rattle.proof_refines.proofs.WholeLemmas.{shown_again}
use Rattle.proof_refines.proofs.FollowLemmas.{others_follow}
use Rattle.spec_endpoint.specs.Association.{State, Closed, CookieWait, Open}
use Rattle.spec_endpoint.specs.ResetRequests.{Requests}
use Rattle.proof_delivery.specs.Asks.{ResetRequest, IsAsking, IsAnswering}
use Rattle.proof_delivery.proofs.ClaimLemmas.{Direction, transfer_of, goes_in, IsKept, GoesOn, AsksStay, IsWaiting, SendsIn, IsFresh, ReceivesIn}
use Rattle.proof_delivery.proofs.ReceiverToolLemmas.{SameSender, sender_stays, waits_still}
use Rattle.proof_delivery.proofs.LeavesLemmas.{Leaves, by_transfer, by_commit, by_request}
use Rattle.proof_delivery.proofs.ActionLemmas.{is_outgoing, Stay}

-- by its kind
each_reset : (P : ResetEvent → Type 0) → ((e : TransferEvent) → P (transfers e)) → ((s : ℕ) → P (reset_stream s)) → ((s : ℕ) → P (send_request s)) → ((r : Request) → P (perform r))
    → ((s : ℕ) → P (commit s)) → (e : ResetEvent) → P e
each_reset P a b c d f (transfers e) = a e
each_reset P a b c d f (reset_stream s) = b s
each_reset P a b c d f (send_request s) = c s
each_reset P a b c d f (perform r) = d r
each_reset P a b c d f (commit s) = f s

module _ (message : ℕ → Message) (lifecycle : ℕ → Option ℕ) (is_interleaved : Bool) where
  -- ---- a receiver's rules leave the sender as it is

  others : (x y : Epochs) → SameSender message is_interleaved x y → IsOthers x y
  others x y s = record { epoch = s.epoch; raised = s.raised; opened = s.opened; requests = s.requests; acknowledged = s.acknowledged }

  none_reset_again : (x y : Epochs) → SameSender message is_interleaved x y → NoneIsReset x → NoneIsReset y
  none_reset_again x y s n = record {
    first = λ p. ap (λ (f : ℕ → ℕ). f p) s.epoch ∙ n.first p;
    raised = λ k. ap (λ (f : ℕ → ℕ). f k) s.raised ∙ n.raised k;
    opened = λ k. ap (λ (f : ℕ → ℕ). f k) s.opened ∙ n.opened k;
    requests = s.requests ∙ n.requests;
  }

  waits_again : (x y : Direction) (q : Queue) → SameSender message is_interleaved x.rules y.rules → AsksStay x y → IsWaiting message lifecycle is_interleaved q x → IsWaiting message lifecycle is_interleaved q y
  waits_again x y q s stay h = record {
    sender = subst (λ (o : Sender). o ≡ record new_sender { accepted = o.accepted }) (sym s.sender) h.sender;
    acknowledged = s.acknowledged ∙ h.acknowledged;
    no_points = s.forward_points ∙ h.no_points;
    no_reports = s.reports ∙ h.no_reports;
    none_reset = none_reset_again x.rules y.rules s h.none_reset;
    none_asked = stay.0 ∙ h.none_asked;
    refines = shown_again message lifecycle false (transfer_of x) (transfer_of y) q (no_items false false) s.sender s.acknowledged h.refines;
    follows = others_follow x.rules y.rules q (no_items false false) (others x.rules y.rules s) h.follows;
  }

  asks_again : (first : ℕ) (x y : Direction) (q : Queue) (r : Requests) → AsksStay x y → IsAsking first x.answered x.asks q r → IsAsking first y.answered y.asks q r
  asks_again first x y q r stay h =
      subst (λ (n : ℕ). IsAsking first n y.asks q r) (sym stay.1) (subst (λ (l : List ResetRequest). IsAsking first x.answered l q r) (sym stay.0) h)

  sends_again : (s : State) (q : Queue) (x y : Direction) → SameSender message is_interleaved x.rules y.rules → AsksStay x y → SendsIn message lifecycle is_interleaved s q x → SendsIn message lifecycle is_interleaved s q y
  sends_again Closed q x y e stay h = waits_again x y q e stay h
  sends_again (CookieWait tag first t1) q x y e stay h = waits_again x y q e stay h
  sends_again (Open phase t) q x y e stay h = record {
    refines = shown_again message lifecycle is_interleaved (transfer_of x) (transfer_of y) q t.sender.outstanding.items e.sender e.acknowledged h.refines;
    follows = others_follow x.rules y.rules q t.sender.outstanding.items (others x.rules y.rules e) h.follows;
    first = h.first;
    room = h.room;
    asks = asks_again t.identity.my_first x y q t.requests stay h.asks;
  }

  sends_stay : (s : State) (q : Queue) (x y : Direction) → IsKept message is_interleaved x → GoesOn message is_interleaved goes_in x y → AsksStay x y → SendsIn message lifecycle is_interleaved s q x → SendsIn message lifecycle is_interleaved s q y
  sends_stay s q x y k g stay h = sends_again s q x y (sender_stays message is_interleaved x y g) stay h

  -- ---- a sender's rules, and acceptance, leave the receiver as it is

  receiver_once : (x : Transfer) (e : TransferEvent) → is_outgoing (transfers e) ≡ true → ((after message is_interleaved x e).receiver ≡ x.receiver) × ((after message is_interleaved x e).sacks ≡ x.sacks)
  receiver_once x accept s = (refl, refl)
  receiver_once x (begin p) s = (refl, refl)
  receiver_once x (number p bytes more) s = (refl, refl)
  receiver_once x (end_with_placeholder p) s = (refl, refl)
  receiver_once x (give_up p) s = (refl, refl)
  receiver_once x (acknowledge_next c) s = (refl, refl)
  receiver_once x (send_forward f) s = (refl, refl)
  receiver_once x (data_comes t) s = cc
  receiver_once x (late_comes t) s = cc
  receiver_once x (become_ready p) s = cc
  receiver_once x (send_sack c) s = cc
  receiver_once x (forward_comes f) s = cc
  receiver_once x (perform_reset t c) s = cc

  leaves_once : (x : Epochs) → InEpochs message is_interleaved x → (e : ResetEvent) → MayReset message is_interleaved x e → is_outgoing e ≡ true → Leaves message is_interleaved x (goes message is_interleaved x e)
  leaves_once x k = each_reset (λ e. MayReset message is_interleaved x e → is_outgoing e ≡ true → Leaves message is_interleaved x (goes message is_interleaved x e))
      (λ e may s. let same = receiver_once x.transfer e s in by_transfer message is_interleaved x e k.order.kept may.0 same.0 same.1)
      (λ t may s. by_request message is_interleaved x (goes message is_interleaved x (reset_stream t)) refl refl refl (λ r a. a))
      (λ t may s. by_request message is_interleaved x (goes message is_interleaved x (send_request t)) refl refl refl (λ r a. inr a))
      (λ r may s. absurd (false≢true s))
      (λ t may s. by_commit message is_interleaved x t)

  leaves_along : (es : List ResetEvent) (x : Epochs) → InEpochs message is_interleaved x → MayAll message is_interleaved x es → list_all is_outgoing es ≡ true → Leaves message is_interleaved x (go_all message is_interleaved x es)
  leaves_along [] x k may all = by_request message is_interleaved x x refl refl refl (λ r a. a)
  leaves_along (e ∷ es) x k may all =
      let parts = and_parts (is_outgoing e) (list_all is_outgoing es) all in
      let one = leaves_once x k e may.0 parts.0 in
      let rest = leaves_along es (goes message is_interleaved x e) (keeps_epochs message is_interleaved x k e may.0) may.1 parts.1 in
      record {
        performed = rest.performed ∙ one.performed;
        sacks = rest.sacks ∙ one.sacks;
        requests = λ r a. rest.requests r (one.requests r a);
        refines = λ shift handed t r h. rest.refines shift handed t r (one.refines shift handed t r h);
        near = λ first shift r h. rest.near first shift r (one.near first shift r h);
      }

  -- as more is asked
  answers_still : (first done : ℕ) (asks more : List ResetRequest) (r : Requests) (d : Option Deferred) → IsAnswering first done asks r d → IsAnswering first done (asks ++ more) r d
  answers_still first done asks more r d (inl h) = inl h
  answers_still first done asks more r d (inr h) =
      inr (record { ask = h.ask; there = get_front asks more done h.ask h.there; last = h.last; result = h.result; reset = h.reset; is = h.is; streams = h.streams })

  module _ (x y : Direction) (k : IsKept message is_interleaved x) (g : GoesOn message is_interleaved is_outgoing x y) (done : y.done ≡ x.done) where
    leaves : Leaves message is_interleaved x.rules y.rules
    leaves = subst (λ (z : Epochs). Leaves message is_interleaved x.rules z) g.leads (leaves_along g.events x.rules k.epochs g.may g.all)

    fresh_still : (handed : List messages.Message) → IsFresh message is_interleaved handed x → IsFresh message is_interleaved handed y
    fresh_still handed h = record {
      none_handed = h.none_handed;
      no_sacks = leaves.sacks ∙ h.no_sacks;
      none_done = done ∙ h.none_done;
      refines = λ o size most. leaves.refines 0 [] _ _ (h.refines o size most);
      near = λ first size most. leaves.near first 0 _ (h.near first size most);
    }

    receives_still : (s : State) (handed : List messages.Message) → ReceivesIn message is_interleaved s handed x → ReceivesIn message is_interleaved s handed y
    receives_still Closed handed h = fresh_still handed h
    receives_still (CookieWait tag first t1) handed h = fresh_still handed h
    receives_still (Open phase t) handed h = record {
      shift = h.shift;
      refines = leaves.refines h.shift handed t.tracker.tracker t.reassembly h.refines;
      near = leaves.near t.tracker.first h.shift t.reassembly h.near;
      is_tracker = h.is_tracker;
      waiting = waits_still x.rules y.rules leaves.performed leaves.requests h.shift t.reassembly.first t.reassembly.deferred h.waiting;
      first = h.first;
      answers = subst (λ (n : ℕ). IsAnswering t.identity.peer_first n y.asks t.requests t.reassembly.deferred) (sym done)
          (subst (λ (l : List ResetRequest). IsAnswering t.identity.peer_first x.done l t.requests t.reassembly.deferred) (sym g.asks)
          (answers_still t.identity.peer_first x.done x.asks g.more t.requests t.reassembly.deferred h.answers));
    }

  pub stays : Stay message lifecycle is_interleaved
  stays = record {
    refines = λ s handed x y k g done h. receives_still x y k g done s handed h;
    sends = sends_stay;
  }
