-- Streams that go into a request, and streams of which the numbers begin again.
use Rattle.std.proofs.Common.{◌≡◌, ◌≢◌, ℕ, ◌+◌, Bool, true, false, ◌⊎◌, inl, inr, Option, Some, None, List, [], ◌∷◌, refl, sym, ap, ◌∙◌, subst, arith, eqb}
use Rattle.std.specs.Prelude.{is_some}
use Rattle.std.specs.Map.{lookup}
use Rattle.std.specs.Ordering.{nat_cmp}
use Rattle.std.specs.BTreeMap.{is_at}
use Rattle.std.proofs.lemmas.Bool.{cases_eq, eq-eqb, ne_eqb, cond-true, cond-false}
use Rattle.sctp_serial.specs.Unwrapped.{origin}
use Rattle.sctp_tx_queue.specs.declared.send_queue.stream.ResetStep.{ResetStep}
use Rattle.sctp_tx_queue.specs.declared.send_queue.stream.ResetStep.TheVariants.{Requested, Performed}
use Rattle.sctp_tx_queue.specs.SendQueue as queue
use Rattle.sctp_tx_queue.specs.SendQueue.{Queued, Queue, Stream, Streams, stream, blank}
use Rattle.sctp_tx_queue.specs.Resets.{after_step, apply_reset_step, each_stepped, commit_resets}
use Rattle.sctp_tx_queue.proofs.InOrderLemmas.{set_bytes_mode, put_elsewhere, steps_in_order}
use Rattle.sctp_tx_queue.proofs.NumberLemmas.{steps_numbered}
use Rattle.sctp_tx_queue.proofs.RestLemmas.{steps_rests}
use Rattle.sctp_tx_queue.proofs.StreamsLemmas.{stream_put, put_nowhere, stream_nowhere}
use Rattle.sctp_tx_outstanding.specs.OutstandingData.{Items}
use Rattle.proof_protocol.specs.State.{Message, Sender, Transfer}
use Rattle.proof_protocol.specs.Resets.{restarts}
use Rattle.proof_refines.specs.SenderRefinement.{messages_of, IsEntry, IsNext, AreQueued, AreDiscards, SenderRefines}
use Rattle.proof_refines.specs.Rows.{restart_numbers}
use Rattle.proof_refines.proofs.FoundLemmas.{funext}
use Rattle.proof_refines.proofs.ItemsLemmas.{kept_moves}
use Rattle.proof_refines.proofs.ProduceLemmas.{is_other}
use Rattle.sctp_tx_queue.proofs.StreamLemmas.{step_messages}

-- the stream has this in its place, or isn't there
pub put_cases : (id : ℕ) (t : Stream) (ss : Streams) → (stream id (queue.put_stream id t ss) ≡ t) ⊎ ((stream id (queue.put_stream id t ss) ≡ stream id ss) × (stream id ss ≡ blank ss))
put_cases id t ss = go (lookup (is_at (nat_cmp id)) ss.entries) refl
  where
    go : (o : Option Stream) → lookup (is_at (nat_cmp id)) ss.entries ≡ o → (stream id (queue.put_stream id t ss) ≡ t) ⊎ ((stream id (queue.put_stream id t ss) ≡ stream id ss) × (stream id ss ≡ blank ss))
    go None e = inr (ap (λ (z : Streams). stream id z) (put_nowhere id t ss (sym e)), stream_nowhere id ss (sym e))
    go (Some s) e = inl (stream_put id t ss (ap is_some e))

module _ (step : ResetStep) (id : ℕ) (q : Queue) where
  abbrev later : Queue
  later = apply_reset_step step id q

  pub off : (j : ℕ) → j ≢ id → stream j later.streams ≡ stream j q.streams
  off j d = put_elsewhere j id (after_step step (stream id q.streams)) q.streams (is_other j id d)

  each : (j : ℕ) → messages_of later j ≡ messages_of q j
  each j =
      elim (cases_eq j id) [
        | inr d ↦ ap (λ (z : Stream). z.messages) (off j d)
        | inl e ↦
            ap (λ z. messages_of later z) e
            ∙ (elim (put_cases id (after_step step (stream id q.streams)) q.streams) [
              | inl t ↦ ap (λ (z : Stream). z.messages) t ∙ step_messages step (stream id q.streams)
              | inr t ↦ ap (λ (z : Stream). z.messages) t.0
            ] ∙ ap (λ z. messages_of q z) (sym e))
      ]

  pub same_messages : messages_of later ≡ messages_of q
  same_messages = funext (messages_of later) (messages_of q) each

module _ (message : ℕ → Message) (lifecycle : ℕ → Option ℕ) (is_interleaved : Bool) (x : Transfer) (q : Queue) (s : Items) (sh : SenderRefines message lifecycle is_interleaved x q s) where
  -- ---- a stream goes into a request

  requested_next : (id j : ℕ) → IsNext x.sender j (stream j (apply_reset_step Requested id q).streams)
  requested_next id j =
      elim (cases_eq j id) [
        | inr d ↦ subst (λ (z : Stream). IsNext x.sender j z) (sym (off Requested id q j d)) (sh.queue.next j)
        | inl e ↦
            subst (λ z. IsNext x.sender z (stream z (apply_reset_step Requested id q).streams)) (sym e)
            (elim (put_cases id (after_step Requested (stream id q.streams)) q.streams) [
              | inl t ↦ let n = sh.queue.next id in subst (λ (z : Stream). IsNext x.sender id z) (sym t) (record { ssn = n.ssn; ordered_mid = n.ordered_mid; unordered_mid = n.unordered_mid })
              | inr t ↦ subst (λ (z : Stream). IsNext x.sender id z) (sym t.0) (sh.queue.next id)
            ])
      ]

  pub request_row : (id : ℕ) → SenderRefines message lifecycle is_interleaved x (apply_reset_step Requested id q) s
  request_row id = record {
    queue = record {
      mode = set_bytes_mode id _ _ q.scheduler ∙ sh.queue.mode;
      order = steps_in_order Requested (id ∷ []) q sh.queue.order;
      rising = steps_numbered Requested (id ∷ []) q sh.queue.rising;
      rests = steps_rests Requested (id ∷ []) q sh.queue.rests;
      accepted = sh.queue.accepted;
      few = sh.queue.few;
      next = requested_next id;
      messages = subst (λ (z : ℕ → List Queued). AreQueued message lifecycle x.sender z) (sym (same_messages Requested id q)) sh.queue.messages;
    };
    items = sh.items;
    discards = subst (λ (z : ℕ → List Queued). AreDiscards x.sender z s.discards) (sym (same_messages Requested id q)) sh.discards;
  }

  -- ---- the numbers of a stream begin again

  module _ (id : ℕ) where
    abbrev o : Sender
    o = x.sender

    abbrev o' : Sender
    o' = restarts o id

    abbrev after : Queue
    after = apply_reset_step Performed id q

    here_is : (kind : Bool) (j : ℕ) → j ≡ id → o'.following kind j ≡ 0
    here_is kind j e = cond-true (eqb j id) 0 (o.following kind j) (eq-eqb j id e)

    off_is : (kind : Bool) (j : ℕ) → j ≢ id → o'.following kind j ≡ o.following kind j
    off_is kind j d = cond-false (eqb j id) 0 (o.following kind j) (ne_eqb j id d)

    from_zero : (n c : ℕ) → n ≡ origin → c ≡ 0 → n ≡ origin + c
    from_zero n c e f = omega (arith, e, f)

    again : (t : Stream) → t.next_ssn ≡ origin → t.next_ordered_mid ≡ origin → t.next_unordered_mid ≡ origin → IsNext o' id t
    again t a b c = record {
      ssn = from_zero t.next_ssn (o'.following true id) a (here_is true id refl);
      ordered_mid = from_zero t.next_ordered_mid (o'.following true id) b (here_is true id refl);
      unordered_mid = from_zero t.next_unordered_mid (o'.following false id) c (here_is false id refl);
    }

    next : (j : ℕ) → IsNext o' j (stream j after.streams)
    next j =
        elim (cases_eq j id) [
          | inr d ↦
              let n = sh.queue.next j in
              subst (λ (z : Stream). IsNext o' j z) (sym (off Performed id q j d))
              (record {
                ssn = n.ssn ∙ ap (λ z. origin + z) (sym (off_is true j d));
                ordered_mid = n.ordered_mid ∙ ap (λ z. origin + z) (sym (off_is true j d));
                unordered_mid = n.unordered_mid ∙ ap (λ z. origin + z) (sym (off_is false j d));
              })
          | inl e ↦
              subst (λ z. IsNext o' z (stream z after.streams)) (sym e)
              (elim (put_cases id (after_step Performed (stream id q.streams)) q.streams) [
                | inl t ↦ subst (λ (z : Stream). IsNext o' id z) (sym t) (again (after_step Performed (stream id q.streams)) refl refl refl)
                | inr t ↦ subst (λ (z : Stream). IsNext o' id z) (sym (t.0 ∙ t.1)) (again (blank q.streams) refl refl refl)
              ])
        ]

    entry_again : (k p : ℕ) (m : Queued) → IsEntry message lifecycle o k p m → IsEntry message lifecycle o' k p m
    entry_again k p m e = record {
      accepted = e.accepted;
      on_stream = e.on_stream;
      kind = e.kind;
      protocol_id = e.protocol_id;
      payload = e.payload;
      lifecycle_id = e.lifecycle_id;
      numbers = e.numbers;
      index = e.index;
      begins = e.begins;
      partly_sent = e.partly_sent;
    }

    queued_again : (ms : ℕ → List Queued) → AreQueued message lifecycle o ms → AreQueued message lifecycle o' ms
    queued_again ms a = record {
      entries = λ k p m f. entry_again k p m (a.entries k p m f);
      queued = record {
        dequeued = λ p h e. let z = a.queued.dequeued p h e in record { not_partly = z.not_partly; begun_or_given_up = z.begun_or_given_up };
        waits = λ p w e b. let z = a.queued.waits p w e b in record { below = z.below; not_begun = z.not_begun; not_given_up = z.not_given_up };
        partly = a.queued.partly;
        rest = a.queued.rest;
      };
    }

    pub commit_row : SenderRefines message lifecycle is_interleaved (record x { sender = o' }) after s
    commit_row = record {
      queue = record {
        mode = set_bytes_mode id _ _ q.scheduler ∙ sh.queue.mode;
        order = steps_in_order Performed (id ∷ []) q sh.queue.order;
        rising = steps_numbered Performed (id ∷ []) q sh.queue.rising;
        rests = steps_rests Performed (id ∷ []) q sh.queue.rests;
        accepted = sh.queue.accepted;
        few = sh.queue.few;
        next = next;
        messages = subst (λ (z : ℕ → List Queued). AreQueued message lifecycle o' z) (sym (same_messages Performed id q)) (queued_again (messages_of q) sh.queue.messages);
      };
      items = record {
        mode = sh.items.mode;
        point = sh.items.point;
        kept = kept_moves message lifecycle o o' (record { same = λ t l. refl; number = λ t l. refl; given_up = λ t l. refl }) refl x.acknowledged s.kept sh.items.kept;
      };
      discards = subst (λ (z : ℕ → List Queued). AreDiscards o' z s.discards) (sym (same_messages Performed id q)) (record { named = sh.discards.named; given_up = sh.discards.given_up });
    }

-- ---- of several streams

module _ (message : ℕ → Message) (lifecycle : ℕ → Option ℕ) (is_interleaved : Bool) (s : Items) where
  pub requests_row : (ids : List ℕ) (x : Transfer) (q : Queue) → SenderRefines message lifecycle is_interleaved x q s → SenderRefines message lifecycle is_interleaved x (each_stepped Requested ids q) s
  requests_row [] x q sh = sh
  requests_row (id ∷ ids) x q sh = requests_row ids x (apply_reset_step Requested id q) (request_row message lifecycle is_interleaved x q s sh id)

  pub commits_row : (ids : List ℕ) (x : Transfer) (q : Queue) → SenderRefines message lifecycle is_interleaved x q s → SenderRefines message lifecycle is_interleaved (restart_numbers ids x) (commit_resets ids q) s
  commits_row [] x q sh = sh
  commits_row (id ∷ ids) x q sh = commits_row ids (record x { sender = restarts x.sender id }) (apply_reset_step Performed id q) (commit_row message lifecycle is_interleaved x q s sh id)
