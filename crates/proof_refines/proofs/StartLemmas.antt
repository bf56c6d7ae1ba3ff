-- What a queue refines before anything is sent.
use Rattle.std.proofs.Common.{◌≡◌, ◌≢◌, ℕ, Bool, true, false, cond, inl, inr, Option, Some, None, List, [], ◌∷◌, refl, sym, ap, ◌∙◌, subst, arith}
use Rattle.std.specs.Prelude.{is_some, ◌==◌, nat_lt}
use Rattle.std.specs.List.{list_all}
use Rattle.std.specs.Map.{keys_of}
use Rattle.std.proofs.lemmas.Bool.{cases_eq, eq-eqb, and_parts, eqb-true}
use Rattle.sctp_state.specs.Options.{Options}
use Rattle.sctp_tx_queue.specs.declared.send_queue.message.MessageNumbers.{MessageNumbers}
use Rattle.sctp_tx_queue.specs.SendQueue as queue
use Rattle.sctp_tx_queue.specs.SendQueue.{Queued, Queue, Stream, stream}
use Rattle.sctp_tx_queue.specs.Settings.{set_mode}
use Rattle.sctp_tx_queue.specs.Restarted.{whole, whole_front, restart, restarted_one, each_restarted, reset}
use Rattle.sctp_tx_queue.specs.InOrder.{is_unsent, is_begun_or_waiting, are_in_order, is_first_begun, is_this, IsUnsent}
use Rattle.sctp_tx_queue.proofs.InOrderLemmas.{set_bytes_mode, put_elsewhere, new_in_order, mode_in_order, reset_in_order}
use Rattle.sctp_tx_queue.proofs.NumberLemmas.{calls_number}
use Rattle.sctp_tx_queue.proofs.RestLemmas.{calls_leave_rests}
use Rattle.sctp_tx_outstanding.specs.OutstandingData.{Items, no_items}
use Rattle.proof_protocol.specs.State.{Message, Sender, new_sender, start}
use Rattle.proof_protocol.proofs.ToolsLemmas.{not_both}
use Rattle.proof_protocol.proofs.CommonLemmas.{none_some}
use Rattle.proof_refines.specs.SenderRefinement.{find, messages_of, waiting_of, queue_of, IsNext, AreQueued, AreDiscards, SenderRefines}
use Rattle.proof_refines.specs.Rows.{waiting}
use Rattle.proof_refines.proofs.FoundLemmas.{funext, found_at}
use Rattle.proof_refines.proofs.QueuedLemmas.{queue_some}
use Rattle.proof_refines.proofs.ProduceLemmas.{stream_changed, is_other}

module _ (message : ℕ → Message) (lifecycle : ℕ → Option ℕ) where
  pub new_shows : (o : Options) → SenderRefines message lifecycle false start (queue.queue o) (no_items false false)
  new_shows o = record {
    queue = record {
      mode = refl;
      order = new_in_order.order o;
      rising = calls_number.new o;
      rests = calls_leave_rests.new o;
      accepted = refl;
      few = omega arith;
      next = λ k. record { ssn = omega arith; ordered_mid = omega arith; unordered_mid = omega arith };
      messages = record {
        entries = λ k p m f. absurd (none_some (find p []) m f refl);
        queued = record {
          dequeued = λ p l e. absurd (omega (arith, l));
          waits = λ p w e b. absurd (none_some (queue_of message new_sender (messages_of (queue.queue o)) p) w e refl);
          partly = λ p w e b. absurd (none_some (queue_of message new_sender (messages_of (queue.queue o)) p) w e refl);
          rest = λ p w e. absurd (none_some (queue_of message new_sender (messages_of (queue.queue o)) p) w e refl);
        };
      };
    };
    items = record { mode = refl; point = omega arith; kept = refl };
    discards = record { named = λ k p m f g. absurd (none_some (find p []) m f refl); given_up = λ d a. absurd a };
  }

  module _ (is_interleaved : Bool) (n : ℕ) (q : Queue) (s : Items) (sh : SenderRefines message lifecycle is_interleaved (waiting n) q s) where
    abbrev o : Sender
    o = (waiting n).sender

    -- no message has its numbers
    unnumbered : (k : ℕ) (m : Queued) → find m.number (messages_of q k) ≡ Some m → is_some m.numbers ≡ false
    unnumbered k m f = go (is_some m.numbers) refl
      where
        go : (b : Bool) → is_some m.numbers ≡ b → is_some m.numbers ≡ false
        go false e = e
        go true e =
            let own = ap (λ z. find m.number (messages_of q z)) ((sh.queue.messages.entries k m.number m f).on_stream) ∙ f in
            let partly = sh.queue.messages.queued.partly m.number (waiting_of m) (queue_some message o (messages_of q) m.number m refl own) e in
            absurd (not_both partly refl)

    first_waits : (k : ℕ) (ms : List Queued) → messages_of q k ≡ ms → is_first_begun ms ≡ false
    first_waits k [] e = refl
    first_waits k (m ∷ rest) e = unnumbered k m (ap (find m.number) e ∙ found_at m.number m rest refl)

    pub unsent : is_interleaved ≡ false → IsUnsent q
    unsent plain = record { first = λ k. first_waits k (messages_of q k) refl; begun = go q.begun refl }
      where
        go : (b : Option ℕ) → q.begun ≡ b → q.begun ≡ None
        go None e = e
        go (Some id) e =
            let first = sh.queue.order.begun (sh.queue.mode ∙ plain) id ∙ (ap (is_this id) e ∙ eq-eqb id id refl) in
            absurd (not_both first (first_waits id (messages_of q id) refl))

    -- ---- an association begins

    pub begins_shows : is_interleaved ≡ false → (other is_partial : Bool) → s ≡ no_items false false → SenderRefines message lifecycle other (waiting n) (set_mode other q) (no_items is_partial other)
    begins_shows plain other is_partial fresh = record {
      queue = record {
        mode = refl;
        order = mode_in_order other q (inr (unsent plain)) sh.queue.order;
        rising = calls_number.mode other q sh.queue.rising;
        rests = calls_leave_rests.mode other q sh.queue.rests;
        accepted = sh.queue.accepted;
        few = sh.queue.few;
        next = sh.queue.next;
        messages = sh.queue.messages;
      };
      items = record { mode = refl; point = omega arith; kept = refl };
      discards = record { named = λ k p m f g. absurd (not_both g refl); given_up = λ d a. absurd a };
    }

    -- ---- the queue begins anew

    whole_is : (k : ℕ) (m : Queued) → find m.number (messages_of q k) ≡ Some m → is_begun_or_waiting m ≡ true → whole m ≡ m
    whole_is k m f order =
        let entry = sh.queue.messages.entries k m.number m f in
        let none = unnumbered k m f in
        let offset : m.offset ≡ 0 = eqb-true m.offset 0 (ap (λ b. cond b (nat_lt 0 m.offset) (m.offset == 0)) (sym none) ∙ order) in
        λ i. record m { offset = sym offset i; numbers = sym (is_none m.numbers none) i; fsn = sym (entry.index refl) i }
      where
        is_none : (x : Option MessageNumbers) → is_some x ≡ false → x ≡ None
        is_none None e = refl
        is_none (Some v) e = absurd (cc)

    whole_same : (k : ℕ) (ms : List Queued) → messages_of q k ≡ ms → whole_front ms ≡ ms
    whole_same k [] e = refl
    whole_same k (m ∷ rest) e =
        let order = ap are_in_order (sym e) ∙ sh.queue.order.order k in
        ap (λ (z : Queued). z ∷ rest) (whole_is k m (ap (find m.number) e ∙ found_at m.number m rest refl) (and_parts (is_begun_or_waiting m) (list_all is_unsent rest) order).0)

    -- the same messages, and numbers that begin
    record Same (r : Queue) : Type 0 where
      messages : (k : ℕ) → messages_of r k ≡ messages_of q k
      next : (k : ℕ) → IsNext o k (stream k r.streams)
      mode : r.scheduler.is_interleaved ≡ q.scheduler.is_interleaved
      count : r.next_number ≡ q.next_number

    one_same : (id : ℕ) (r : Queue) → Same r → Same (restarted_one id r)
    one_same id r a = record {
      messages = λ k. elim (cases_eq k id) [
        | inl e ↦
            ap (λ z. messages_of (restarted_one id r) z) e
            ∙ (ap (λ (t : Stream). t.messages) there ∙ (ap whole_front (a.messages id) ∙ (whole_same id (messages_of q id) refl ∙ ap (messages_of q) (sym e))))
        | inr d ↦ ap (λ (t : Stream). t.messages) (elsewhere k d) ∙ a.messages k
      ];
      next = λ k. elim (cases_eq k id) [
        | inl e ↦
            subst (λ z. IsNext o z (stream z (restarted_one id r).streams)) (sym e)
            (subst (λ (t : Stream). IsNext o id t) (sym there) (record { ssn = omega arith; ordered_mid = omega arith; unordered_mid = omega arith }))
        | inr d ↦ subst (λ (t : Stream). IsNext o k t) (sym (elsewhere k d)) (a.next k)
      ];
      mode = set_bytes_mode id _ _ r.scheduler ∙ a.mode;
      count = a.count;
    }
      where
        there : stream id (restarted_one id r).streams ≡ restart (stream id r.streams)
        there = stream_changed id restart r.streams refl

        elsewhere : (k : ℕ) → k ≢ id → stream k (restarted_one id r).streams ≡ stream k r.streams
        elsewhere k d = put_elsewhere k id (restart (stream id r.streams)) r.streams (is_other k id d)

    all_same : (ids : List ℕ) (r : Queue) → Same r → Same (each_restarted ids r)
    all_same [] r a = a
    all_same (id ∷ ids) r a = all_same ids (restarted_one id r) (one_same id r a)

    pub reset_shows : SenderRefines message lifecycle is_interleaved (waiting n) (reset q) s
    reset_shows =
        let a = all_same (keys_of q.streams.entries) q (record { messages = λ k. refl; next = sh.queue.next; mode = refl; count = refl }) in
        let all : messages_of (reset q) ≡ messages_of q = funext (messages_of (reset q)) (messages_of q) a.messages in
        record {
          queue = record {
            mode = a.mode ∙ sh.queue.mode;
            order = reset_in_order q sh.queue.order;
            rising = calls_number.restarted q sh.queue.rising;
            rests = calls_leave_rests.restarted q sh.queue.rests;
            accepted = a.count ∙ sh.queue.accepted;
            few = sh.queue.few;
            next = a.next;
            messages = subst (λ (z : ℕ → List Queued). AreQueued message lifecycle o z) (sym all) sh.queue.messages;
          };
          items = sh.items;
          discards = subst (λ (z : ℕ → List Queued). AreDiscards o z s.discards) (sym all) sh.discards;
        }
