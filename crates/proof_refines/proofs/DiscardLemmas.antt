-- What is left of messages that were given up leaves the send queue.
use Rattle.std.proofs.Common.{◌≡◌, ◌≢◌, ℕ, Bool, true, false, cond, inl, inr, ◌⊎◌, Option, Some, None, List, [], ◌∷◌, refl, sym, ap, ◌∙◌, subst, arith}
use Rattle.std.specs.Prelude.{is_some, ◌==◌}
use Rattle.std.specs.List.{list_all}
use Rattle.std.proofs.lemmas.Bool.{cases_eq, ne_eqb, and_parts, eq-eqb, eqb-true}
use Rattle.sctp_state.specs.Events.{Emitted, nothing_emitted}
use Rattle.sctp_tx_queue.specs.SendQueue as queue
use Rattle.sctp_tx_queue.specs.SendQueue.{Queued, Queue, Stream, Streams, stream}
use Rattle.sctp_tx_queue.specs.Produced.{pause_if_pending}
use Rattle.sctp_tx_queue.specs.Settings.{front_discarded, without_front, streams_discarded, discard_from, discard}
use Rattle.sctp_tx_queue.specs.InOrder.{IsNumbered, HasRests, is_unsent, is_begun_or_waiting, are_in_order, are_rising}
use Rattle.sctp_tx_queue.proofs.InOrderLemmas.{set_bytes_mode, put_elsewhere, discard_streams, discarded_in_order}
use Rattle.sctp_tx_queue.proofs.NumberLemmas.{calls_number}
use Rattle.sctp_tx_queue.proofs.RestLemmas.{calls_leave_rests}
use Rattle.sctp_tx_outstanding.specs.OutstandingData.{Discard}
use Rattle.proof_protocol.specs.State.{Message, Sender, IsAmong, put}
use Rattle.proof_protocol.proofs.ToolsLemmas.{not_both}
use Rattle.proof_protocol.proofs.CommonLemmas.{none_some}
use Rattle.sctp_tx.specs.Sending.{discard_all}
use Rattle.proof_refines.specs.SenderRefinement.{find, messages_of, queue_of, IsNext, AreDiscards, QueueRefines}
use Rattle.proof_refines.proofs.FoundLemmas.{found_off, once}
use Rattle.proof_refines.proofs.QueuedLemmas.{queue_given, queue_as, change}
use Rattle.proof_refines.proofs.FreshLemmas.{put_here}
use Rattle.proof_refines.proofs.ProduceLemmas.{stream_changed, is_other, behind_waits}

module _ {P : Type 0} (message : ℕ → Message) (lifecycle : ℕ → Option ℕ) (is_interleaved : Bool) (o : Sender) (q : Queue) (id number : ℕ) (emitted : Emitted P) where
  abbrev s0 : Stream
  s0 = stream id q.streams

  abbrev after : Queue
  after = (discard id number q emitted).queue

  abbrev dropped : Stream → Stream
  dropped s = without_front number s.messages s

  streams_are : after.streams ≡ queue.put_stream id (dropped s0) q.streams
  streams_are = discard_streams id (streams_discarded id number q.streams) (front_discarded number s0.messages) q emitted

  pub there : stream id after.streams ≡ dropped s0
  there = ap (λ (z : Streams). stream id z) streams_are ∙ stream_changed id dropped q.streams refl

  pub elsewhere : (j : ℕ) → j ≢ id → stream j after.streams ≡ stream j q.streams
  elsewhere j d = ap (λ (z : Streams). stream j z) streams_are ∙ put_elsewhere j id (dropped s0) q.streams (is_other j id d)

  mode_stays : after.scheduler.is_interleaved ≡ q.scheduler.is_interleaved
  mode_stays = go (front_discarded number s0.messages)
    where
      go : (f : Option (Option ℕ)) → (discard_from id (streams_discarded id number q.streams) f q emitted).queue.scheduler.is_interleaved ≡ q.scheduler.is_interleaved
      go None = refl
      go (Some l) = set_bytes_mode id _ _ q.scheduler

  count_stays : after.next_number ≡ q.next_number
  count_stays = go (front_discarded number s0.messages)
    where
      go : (f : Option (Option ℕ)) → (discard_from id (streams_discarded id number q.streams) f q emitted).queue.next_number ≡ q.next_number
      go None = refl
      go (Some l) = refl

  -- whatever was emitted before
  same_after : (discard id number q (nothing_emitted {P = List ℕ})).queue ≡ after
  same_after = go (front_discarded number s0.messages)
    where
      go : (f : Option (Option ℕ)) → (discard_from id (streams_discarded id number q.streams) f q (nothing_emitted {P = List ℕ})).queue ≡ (discard_from id (streams_discarded id number q.streams) f q emitted).queue
      go None = refl
      go (Some l) = refl

  next_stays : IsNext o id s0 → IsNext o id (dropped s0)
  next_stays h = go s0.messages
    where
      go : (ms : List Queued) → IsNext o id (without_front number ms s0)
      go [] = h
      go (m ∷ rest) = by (m.number == number)
        where
          by : (b : Bool) → IsNext o id (cond b (record s0 { messages = rest; pause = pause_if_pending s0.pause }) s0)
          by true = record { ssn = h.ssn; ordered_mid = h.ordered_mid; unordered_mid = h.unordered_mid }
          by false = h

  -- the first message leaves, if it is this one
  front_off : (ms : List Queued) → s0.messages ≡ ms → (r : ℕ) → r ≢ number → find r (without_front number ms s0).messages ≡ find r ms
  front_off [] e r d = ap (find r) e
  front_off (m ∷ rest) e r d = by (m.number == number) refl
    where
      by : (b : Bool) → (m.number == number) ≡ b → find r (let t : Stream = cond b (record s0 { messages = rest; pause = pause_if_pending s0.pause }) s0 in t).messages ≡ find r (m ∷ rest)
      by true h = sym (found_off r m rest (λ c. d (sym c ∙ eqb-true m.number number h)))
      by false h = ap (find r) e

  -- it isn't there any more, where only the first of a stream has its numbers
  front_removed : (ms : List Queued) → s0.messages ≡ ms → (least most : ℕ) → are_rising least most ms ≡ true → are_in_order ms ≡ true
      → ((m : Queued) → find number ms ≡ Some m → is_some m.numbers ≡ true) → find number (without_front number ms s0).messages ≡ None
  front_removed [] e least most r h has = ap (find number) e
  front_removed (m ∷ rest) e least most r h has = by (cases_eq m.number number)
    where
      left : Bool → Stream
      left b = cond b (record s0 { messages = rest; pause = pause_if_pending s0.pause }) s0

      behind_none : (f : Option Queued) → find number rest ≡ f → m.number ≢ number → find number rest ≡ None
      behind_none None g d = g
      behind_none (Some n) g d =
          absurd (not_both (has n (found_off number m rest d ∙ g)) (behind_waits number rest n (and_parts (is_begun_or_waiting m) (list_all is_unsent rest) h).1 g))

      by : (m.number ≡ number) ⊎ (m.number ≢ number) → find number (left (m.number == number)).messages ≡ None
      by (inl c) = ap (λ b. find number (left b).messages) (eq-eqb m.number number c) ∙ (ap (λ n. find n rest) (sym c) ∙ once least most m rest r)
      by (inr d) =
          ap (λ b. find number (left b).messages) (ne_eqb m.number number d)
          ∙ (ap (find number) e ∙ (found_off number m rest d ∙ behind_none (find number rest) refl d))

  module _ (h : QueueRefines message lifecycle is_interleaved o q) (is_given_up : o.given_up number ≡ true) where
    pub same_found : (k r : ℕ) → r ≢ number → find r (messages_of after k) ≡ find r (messages_of q k)
    same_found k r d =
        elim (cases_eq k id) [
          | inl e ↦ ap (λ z. find r (messages_of after z)) e ∙ (ap (λ (t : Stream). find r t.messages) there ∙ (front_off s0.messages refl r d ∙ ap (λ z. find r (messages_of q z)) (sym e)))
          | inr n ↦ ap (λ (t : Stream). find r t.messages) (elsewhere k n)
        ]

    not_there : find number (messages_of after id) ≡ None
    not_there =
        ap (λ (t : Stream). find number t.messages) there
        ∙ front_removed s0.messages refl 0 q.next_number (h.rising.rising id) (h.order.order id) (λ m f. (h.messages.entries id number m f).partly_sent is_given_up)

    was_found : (k : ℕ) (m : Queued) → find number (messages_of after k) ≡ Some m → find number (messages_of q k) ≡ Some m
    was_found k m f =
        elim (cases_eq k id) [
          | inl e ↦ absurd (none_some (find number (messages_of after id)) m (ap (λ z. find number (messages_of after z)) (sym e) ∙ f) not_there)
          | inr n ↦ ap (λ (t : Stream). find number t.messages) (sym (elsewhere k n)) ∙ f
        ]

    pub discard_queue : QueueRefines message lifecycle is_interleaved o after
    discard_queue = record {
      mode = mode_stays ∙ h.mode;
      order = discarded_in_order id number q emitted h.order;
      rising = subst IsNumbered same_after (calls_number.discarded id number q nothing_emitted h.rising);
      rests = subst HasRests same_after (calls_leave_rests.discarded id number q nothing_emitted h.rests);
      accepted = count_stays ∙ h.accepted;
      few = h.few;
      next = λ k. elim (cases_eq k id) [
        | inl e ↦ subst (λ z. IsNext o z (stream z after.streams)) (sym e) (subst (λ (t : Stream). IsNext o id t) (sym there) (next_stays (h.next id)))
        | inr n ↦ subst (λ (t : Stream). IsNext o k t) (sym (elsewhere k n)) (h.next k)
      ];
      messages =
          change message lifecycle o o (messages_of q) (messages_of after) number same_found (λ r d. record { number = refl; given_up = refl; parts_are = refl }) (omega arith)
          (λ k m f. h.messages.entries k number m (was_found k m f)) None (queue_given message o (messages_of after) number is_given_up)
          (queue_as message o (queue_of message o (messages_of q)) (put (queue_of message o (messages_of q)) number None) out h.messages.queued) h.messages;
    }
      where
        out : (r : ℕ) → put (queue_of message o (messages_of q)) number None r ≡ queue_of message o (messages_of q) r
        out r = ap (λ f. f r) (put_here (queue_of message o (messages_of q)) number None (queue_given message o (messages_of q) number is_given_up))

    -- one less is to be discarded
    pub discard_named : (ds : List Discard) → AreDiscards o (messages_of q) (record { stream = id; number = number } ∷ ds) → AreDiscards o (messages_of after) ds
    discard_named ds a = record { named = named; given_up = λ d m. a.given_up d (inr m) }
      where
        named : (k p : ℕ) (m : Queued) → find p (messages_of after k) ≡ Some m → o.given_up p ≡ true → IsAmong (record { stream = k; number = p }) ds
        named k p m f g =
            elim (cases_eq p number) [
              | inl e ↦
                  let fn : find number (messages_of after k) ≡ Some m = ap (λ z. find z (messages_of after k)) (sym e) ∙ f in
                  elim (a.named k number m (was_found k m fn) is_given_up) [
                    | inl c ↦ absurd (none_some (find number (messages_of after id)) m (ap (λ (d : Discard). find number (messages_of after d.stream)) (sym c) ∙ fn) not_there)
                    | inr b ↦ subst (λ z. IsAmong (record { stream = k; number = z }) ds) (sym e) b
                  ]
              | inr d ↦
                  elim (a.named k p m (sym (same_found k p d) ∙ f) g) [
                    | inl c ↦ absurd (d (ap (λ (z : Discard). z.number) c))
                    | inr b ↦ b
                  ]
            ]

pub record Discarded (message : ℕ → Message) (lifecycle : ℕ → Option ℕ) (is_interleaved : Bool) (o : Sender) (q : Queue) : Type 0 where
  pub queue_is : QueueRefines message lifecycle is_interleaved o q
  pub none_left : AreDiscards o (messages_of q) []

pub discards_all : {P : Type 0} (message : ℕ → Message) (lifecycle : ℕ → Option ℕ) (is_interleaved : Bool) (o : Sender) (ds : List Discard) (q : Queue) (emitted : Emitted P)
    → QueueRefines message lifecycle is_interleaved o q → AreDiscards o (messages_of q) ds → Discarded message lifecycle is_interleaved o (discard_all ds q emitted).queue
discards_all message lifecycle is_interleaved o [] q emitted h a = record { queue_is = h; none_left = a }
discards_all message lifecycle is_interleaved o (d ∷ ds) q emitted h a =
    let is_given_up = a.given_up d (inl refl) in
    let x = discard d.stream d.number q emitted in
    discards_all message lifecycle is_interleaved o ds x.queue x.emitted (discard_queue message lifecycle is_interleaved o q d.stream d.number emitted h is_given_up) (discard_named message lifecycle is_interleaved o q d.stream d.number emitted h is_given_up ds a)
