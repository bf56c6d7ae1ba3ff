-- What a stream begins is of the epoch in which it is open.
use Rattle.std.proofs.Common.{◌≡◌, ℕ, suc, ◌<◌, ◌≤◌, Bool, true, false, inl, inr, Option, Some, None, List, [], ◌∷◌, length, map, refl, sym, ap, ◌∙◌, subst, arith}
use Rattle.std.specs.Prelude.{is_some}
use Rattle.std.specs.List.{list_all}
use Rattle.std.proofs.lemmas.Bool.{and_parts, false_from_ne_true}
use Rattle.sctp_state.specs.Events.{Emitted}
use Rattle.sctp_tx_queue.specs.declared.send_queue.stream.PauseState.{PauseState}
use Rattle.sctp_tx_queue.specs.declared.send_queue.stream.PauseState.TheVariants.{NotPaused, Pending, Paused, Resetting}
use Rattle.sctp_tx_queue.specs.SendQueue.{Queued, Queue, stream, is_stopped}
use Rattle.sctp_tx_queue.specs.Produced.{turn}
use Rattle.sctp_tx_outstanding.specs.OutstandingData.{Items}
use Rattle.proof_protocol.specs.State.{Message, Sender, Transfer, stream_of}
use Rattle.proof_protocol.specs.Rules.{TransferEvent, accept, begin, number, end_with_placeholder, give_up, data_comes, late_comes, become_ready, send_sack, acknowledge_next, send_forward, forward_comes, perform_reset, IsAllowed, Happens, after, run}
use Rattle.proof_protocol.specs.Invariant.{Invariant}
use Rattle.proof_protocol.specs.Sending.{Waiting}
use Rattle.proof_protocol.specs.Resets.{Epochs, transfers, InEpoch, goes, MayAll, go_all}
use Rattle.proof_protocol.proofs.ToolsLemmas.{put_at, put_off, not_both}
use Rattle.proof_protocol.proofs.RulesKeepLemmas.{keeps, all_kept}
use Rattle.proof_protocol.proofs.StepLemmas.{later}
use Rattle.proof_refines.specs.SenderRefinement.{find, messages_of, waiting_of, queue_of, QueueRefines, SenderRefines}
use Rattle.proof_refines.specs.Reachable.{is_sending, SenderLeadsTo}
use Rattle.proof_refines.specs.Pauses.{ArePausedAs}
use Rattle.proof_refines.specs.Following.{WaitsOn}
use Rattle.proof_refines.proofs.QueuedLemmas.{queue_some, queued_is}
use Rattle.proof_refines.proofs.PausedLemmas.{unnumbered}
use Rattle.proof_refines.proofs.PauseRowLemmas.{same_epochs}
use Rattle.proof_refines.proofs.WaitsLemmas.{turn_waits}

-- ---- the rules of a sender

module _ (message : ℕ → Message) (is_interleaved : Bool) where
  -- what is given up isn't begun any more
  still_unbegun : (x : Transfer) (e : TransferEvent) → IsAllowed message is_interleaved x e → (p : ℕ) → x.sender.given_up p ≡ true → x.sender.begun p ≡ false → (after message is_interleaved x e).sender.begun p ≡ false
  still_unbegun x accept a p g n = n
  still_unbegun x (begin r) a p g n = put_off x.sender.begun r true p (λ e. not_both g (ap x.sender.given_up e ∙ a.0.not_given_up)) ∙ n
  still_unbegun x (number r bytes more) a p g n = n
  still_unbegun x (end_with_placeholder r) a p g n = n
  still_unbegun x (give_up r) a p g n = n
  still_unbegun x (data_comes t) a p g n = n
  still_unbegun x (late_comes t) a p g n = n
  still_unbegun x (become_ready r) a p g n = n
  still_unbegun x (send_sack c) a p g n = n
  still_unbegun x (acknowledge_next c) a p g n = n
  still_unbegun x (send_forward f) a p g n = n
  still_unbegun x (forward_comes f) a p g n = n
  still_unbegun x (perform_reset s c) a p g n = n

  unbegun : (es : List TransferEvent) (x : Transfer) → Invariant message is_interleaved x → Happens message is_interleaved x es → (p : ℕ) → x.sender.given_up p ≡ true → x.sender.begun p ≡ false
      → (run message is_interleaved x es).sender.begun p ≡ false
  unbegun [] x k h p g n = n
  unbegun (e ∷ es) x k h p g n =
      unbegun es (after message is_interleaved x e) (keeps message is_interleaved x k e h.0) h.1 p ((later message is_interleaved x k e h.0).given_stays p g) (still_unbegun x e h.0 p g n)

  begun_later : (es : List TransferEvent) (x : Transfer) → Invariant message is_interleaved x → Happens message is_interleaved x es → (p : ℕ) → x.sender.begun p ≡ true → (run message is_interleaved x es).sender.begun p ≡ true
  begun_later [] x k h p b = b
  begun_later (e ∷ es) x k h p b = begun_later es (after message is_interleaved x e) (keeps message is_interleaved x k e h.0) h.1 p ((later message is_interleaved x k e h.0).begun_stays p b)

  -- nothing is accepted
  accepted_stays : (x : Transfer) (e : TransferEvent) → is_sending e ≡ true → (after message is_interleaved x e).sender.accepted ≡ x.sender.accepted
  accepted_stays x accept h = cc
  accepted_stays x (begin r) h = refl
  accepted_stays x (number r bytes more) h = refl
  accepted_stays x (end_with_placeholder r) h = refl
  accepted_stays x (give_up r) h = refl
  accepted_stays x (data_comes t) h = refl
  accepted_stays x (late_comes t) h = refl
  accepted_stays x (become_ready r) h = refl
  accepted_stays x (send_sack c) h = refl
  accepted_stays x (acknowledge_next c) h = refl
  accepted_stays x (send_forward f) h = refl
  accepted_stays x (forward_comes f) h = refl
  accepted_stays x (perform_reset s c) h = refl

  accepted_later : (es : List TransferEvent) (x : Transfer) → list_all is_sending es ≡ true → (run message is_interleaved x es).sender.accepted ≡ x.sender.accepted
  accepted_later [] x h = refl
  accepted_later (e ∷ es) x h =
      let a = and_parts (is_sending e) (list_all is_sending es) h in
      accepted_later es (after message is_interleaved x e) a.1 ∙ accepted_stays x e a.0

  -- forward points that were sent stay
  points_grow : (x : Transfer) (e : TransferEvent) → length x.forward_points ≤ length (after message is_interleaved x e).forward_points
  points_grow x accept = omega arith
  points_grow x (begin r) = omega arith
  points_grow x (number r bytes more) = omega arith
  points_grow x (end_with_placeholder r) = omega arith
  points_grow x (give_up r) = omega arith
  points_grow x (data_comes t) = omega arith
  points_grow x (late_comes t) = omega arith
  points_grow x (become_ready r) = omega arith
  points_grow x (send_sack c) = omega arith
  points_grow x (acknowledge_next c) = omega arith
  points_grow x (send_forward f) = omega arith
  points_grow x (forward_comes f) = omega arith
  points_grow x (perform_reset s c) = omega arith

  points_later : (es : List TransferEvent) (x : Transfer) → length x.forward_points ≤ length (run message is_interleaved x es).forward_points
  points_later [] x = omega arith
  points_later (e ∷ es) x =
      let a = points_grow x e in
      let b = points_later es (after message is_interleaved x e) in
      omega (arith, a, b)

  -- none is sent, and what is begun is of the open epoch
  abbrev Begins : Epochs → Transfer → Type 0
  Begins x y = (p : ℕ) → x.transfer.sender.begun p ≡ false → y.sender.begun p ≡ true → x.epoch p ≤ x.opened (stream_of message p)

  in_epoch : (x : Epochs) (e : TransferEvent) (es : List TransferEvent) → Invariant message is_interleaved x.transfer → is_sending e ≡ true → IsAllowed message is_interleaved x.transfer e → Happens message is_interleaved (after message is_interleaved x.transfer e) es
      → length (run message is_interleaved x.transfer (e ∷ es)).forward_points ≡ length x.transfer.forward_points → Begins x (run message is_interleaved x.transfer (e ∷ es)) → InEpoch message is_interleaved x e
  in_epoch x accept es k is a h l bound = tt
  in_epoch x (begin r) es k is a h l bound =
      bound r a.0.not_begun (begun_later es (after message is_interleaved x.transfer (begin r)) (keeps message is_interleaved x.transfer k (begin r) a) h r (put_at x.transfer.sender.begun r true r refl))
  in_epoch x (number r bytes more) es k is a h l bound = tt
  in_epoch x (end_with_placeholder r) es k is a h l bound = tt
  in_epoch x (give_up r) es k is a h l bound = tt
  in_epoch x (data_comes t) es k is a h l bound = tt
  in_epoch x (late_comes t) es k is a h l bound = tt
  in_epoch x (become_ready r) es k is a h l bound = tt
  in_epoch x (send_sack c) es k is a h l bound = tt
  in_epoch x (acknowledge_next c) es k is a h l bound = tt
  in_epoch x (send_forward f) es k is a h l bound =
      let g : suc (length x.transfer.forward_points) ≤ length (run message is_interleaved x.transfer (send_forward f ∷ es)).forward_points = points_later es (after message is_interleaved x.transfer (send_forward f)) in
      absurd (omega (arith, g, l))
  in_epoch x (forward_comes f) es k is a h l bound = tt
  in_epoch x (perform_reset s c) es k is a h l bound = cc

  pub in_epochs : (es : List TransferEvent) (x : Epochs) → Invariant message is_interleaved x.transfer → list_all is_sending es ≡ true → Happens message is_interleaved x.transfer es
      → length (run message is_interleaved x.transfer es).forward_points ≡ length x.transfer.forward_points → Begins x (run message is_interleaved x.transfer es) → MayAll message is_interleaved x (map transfers es)
  in_epochs [] x k all h l bound = tt
  in_epochs (e ∷ es) x k all h l bound =
      let a = and_parts (is_sending e) (list_all is_sending es) all in
      let one = points_grow x.transfer e in
      let more = points_later es (after message is_interleaved x.transfer e) in
      let left : length (run message is_interleaved x.transfer (e ∷ es)).forward_points ≡ length (after message is_interleaved x.transfer e).forward_points = omega (arith, l, one, more) in (
        (h.0, in_epoch x e es k a.0 h.0 h.1 l bound),
        in_epochs es (goes message is_interleaved x (transfers e)) (keeps message is_interleaved x.transfer k e h.0) a.1 h.1 left
            (λ p n b.
            let was = false_from_ne_true (x.transfer.sender.begun p) (λ t. not_both ((later message is_interleaved x.transfer k e h.0).begun_stays p t) n) in
            let le = bound p was b in
            let same = ap (λ y. y p) (same_epochs message is_interleaved x e a.0) in
            omega (arith, le, same)),
      )

-- ---- what leads to a queue in which what waits on streams that aren't open waits still

module _ (message : ℕ → Message) (lifecycle : ℕ → Option ℕ) (is_interleaved : Bool) (x : Epochs) (q r : Queue) (t : Items) (k : Invariant message is_interleaved x.transfer)
    (sh : QueueRefines message lifecycle is_interleaved x.transfer.sender q) (h : ArePausedAs x q) (still : WaitsOn q r) (es : List TransferEvent) (may : Happens message is_interleaved x.transfer es)
    (all : list_all is_sending es ≡ true) (shown : SenderRefines message lifecycle is_interleaved (run message is_interleaved x.transfer es) r t) where
  abbrev o : Sender
  o = x.transfer.sender

  abbrev o' : Sender
  o' = (run message is_interleaved x.transfer es).sender

  -- what waits in the queue afterwards isn't begun
  after_unbegun : (p : ℕ) (m : Queued) → find p (messages_of r (stream_of message p)) ≡ Some m → m.numbers ≡ None → o'.begun p ≡ false
  after_unbegun p m f e = go (o'.given_up p) refl
    where
      go : (b : Bool) → o'.given_up p ≡ b → o'.begun p ≡ false
      go true g = absurd (not_both ((shown.queue.messages.entries (stream_of message p) p m f).partly_sent g) (ap is_some e))
      go false g = (shown.queue.messages.queued.waits p (waiting_of m) (queue_some message o' (messages_of r) p m g f) (ap is_some e)).not_begun

  -- a message that waited is of the open epoch, if it is begun
  module _ (p : ℕ) (b : o'.begun p ≡ true) (m : Queued) (none : m.numbers ≡ None) (f : find p (messages_of q (stream_of message p)) ≡ Some m) where
    abbrev stream_of_place : ℕ
    stream_of_place = stream_of message p

    later_epoch : ((stream stream_of_place q.streams).pause ≡ NotPaused → ⊥) → x.epoch p ≤ x.opened stream_of_place
    later_epoch n = absurd (not_both b (after_unbegun p m (still.waiting stream_of_place p m n f none) none))

    waited : (pause : PauseState) → (stream stream_of_place q.streams).pause ≡ pause → x.epoch p ≤ x.opened stream_of_place
    waited NotPaused e = let new = (h stream_of_place).newest p m f none in let flows = (h stream_of_place).flows e in omega (arith, new, flows)
    waited Pending e = later_epoch (λ c. pending_flows (sym e ∙ c))
      where
        pending_flows : Pending ≡ NotPaused → ⊥
        pending_flows c = cc
    waited Paused e = later_epoch (λ c. paused_flows (sym e ∙ c))
      where
        paused_flows : Paused ≡ NotPaused → ⊥
        paused_flows c = cc
    waited Resetting e = later_epoch (λ c. resetting_flows (sym e ∙ c))
      where
        resetting_flows : Resetting ≡ NotPaused → ⊥
        resetting_flows c = cc

  newly : (p : ℕ) → o.begun p ≡ false → o'.begun p ≡ true → x.epoch p ≤ x.opened (stream_of message p)
  newly p n b = go (queue_of message o (messages_of q) p) refl
    where
      below : p < o.accepted
      below = subst (λ c. p < c) (accepted_later message is_interleaved es x.transfer all) ((all_kept message is_interleaved es x.transfer k may).outgoing.begun_below p b)

      go : (w : Option Waiting) → queue_of message o (messages_of q) p ≡ w → x.epoch p ≤ x.opened (stream_of message p)
      go None e =
          absurd (elim ((sh.messages.queued.dequeued p below e).begun_or_given_up) [
            | inl c ↦ not_both c n
            | inr g ↦ not_both b (unbegun message is_interleaved es x.transfer k may p g n)
          ])
      go (Some w) e =
          let z = queued_is message o (messages_of q) p w e in
          let none = unnumbered z.entry.numbers (false_from_ne_true (is_some z.entry.numbers)
          (λ c. not_both (k.outgoing.partly_begun p (sh.messages.queued.partly p w e (ap (λ (v : Waiting). v.begun) (sym z.is) ∙ c))) n)) in
          waited p b z.entry none z.found_there (stream (stream_of message p) q.streams).pause refl

  pub begins_waiting : (run message is_interleaved x.transfer es).forward_points ≡ x.transfer.forward_points → MayAll message is_interleaved x (map transfers es)
  begins_waiting points = in_epochs message is_interleaved es x k all may (ap length points) newly

-- the epochs stay
pub goes_sending : (message : ℕ → Message) (is_interleaved : Bool) (es : List TransferEvent) (x : Epochs) → list_all is_sending es ≡ true
    → go_all message is_interleaved x (map transfers es) ≡ record x { transfer = run message is_interleaved x.transfer es }
goes_sending message is_interleaved [] x all = refl
goes_sending message is_interleaved (e ∷ es) x all =
    let a = and_parts (is_sending e) (list_all is_sending es) all in
    let y : Epochs = goes message is_interleaved x (transfers e) in
    goes_sending message is_interleaved es y a.1 ∙ ap with_epochs (same_epochs message is_interleaved x e a.0)
  where
    with_epochs : (ℕ → ℕ) → Epochs
    with_epochs f = record x { transfer = run message is_interleaved x.transfer (e ∷ es); epoch = f }

pub queue_begins : {P : Type 0} (message : ℕ → Message) (lifecycle : ℕ → Option ℕ) (is_interleaved : Bool) (x : Epochs) (q r : Queue) (t : Items) (emitted later : Emitted P) → Invariant message is_interleaved x.transfer
    → QueueRefines message lifecycle is_interleaved x.transfer.sender q → ArePausedAs x q → WaitsOn q r → (l : SenderLeadsTo message lifecycle is_interleaved x.transfer emitted r t later)
    → MayAll message is_interleaved x (map transfers l.leads.events) × (go_all message is_interleaved x (map transfers l.leads.events) ≡ record x { transfer = l.after })
queue_begins message lifecycle is_interleaved x q r t emitted later k sh h still l =
    let es = l.leads.events in
    let shown = subst (λ (z : Transfer). SenderRefines message lifecycle is_interleaved z r t) (sym l.leads.leads) l.refines in
    let points : (run message is_interleaved x.transfer es).forward_points ≡ x.transfer.forward_points = ap (λ (z : Transfer). z.forward_points) l.leads.leads ∙ ap (λ (z : Transfer). z.forward_points) l.leads.rest_stays in (
      begins_waiting message lifecycle is_interleaved x q r t k sh h still es l.leads.may l.leads.sends shown points,
      goes_sending message is_interleaved es x l.leads.sends ∙ ap with_transfer l.leads.leads,
    )
  where
    with_transfer : Transfer → Epochs
    with_transfer z = record x { transfer = z }

-- ---- a turn of a stream that isn't stopped

pub turn_begins : {P : Type 0} (message : ℕ → Message) (lifecycle : ℕ → Option ℕ) (is_interleaved : Bool) (x : Epochs) (q : Queue) (s : Items) → Invariant message is_interleaved x.transfer
    → SenderRefines message lifecycle is_interleaved x.transfer q s → ArePausedAs x q → (now id size : ℕ) (emitted : Emitted P) → is_stopped (stream id q.streams).pause ≡ false
    → (es : List TransferEvent) → Happens message is_interleaved x.transfer es → list_all is_sending es ≡ true → (t : Items)
    → SenderRefines message lifecycle is_interleaved (run message is_interleaved x.transfer es) (turn now id size q emitted).queue t → (run message is_interleaved x.transfer es).forward_points ≡ x.transfer.forward_points
    → MayAll message is_interleaved x (map transfers es)
turn_begins message lifecycle is_interleaved x q s k sh h now id size emitted goes_on es may all t shown points =
    begins_waiting message lifecycle is_interleaved x q (turn now id size q emitted).queue t k sh.queue h (turn_waits x q sh.queue.order sh.queue.rising h now id size emitted goes_on) es may all shown points
