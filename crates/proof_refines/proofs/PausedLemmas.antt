-- A stream's pause agrees with its epochs: as messages are accepted, streams are prepared, requested and opened again.
use Rattle.std.proofs.Common.{◌≡◌, ◌≢◌, ℕ, suc, ◌<◌, ◌≤◌, Bool, true, false, not, inl, inr, Option, Some, None, List, [], ◌∷◌, ◌++◌, length, map, filter, refl, sym, ap, ◌∙◌, subst, arith}
use Rattle.std.specs.Prelude.{◌==◌, nat_lt, is_some}
use Rattle.std.specs.List.{list_all}
use Rattle.std.proofs.lemmas.Bool.{cases_eq, and_parts, cond-true, cond-false, eqb-true, not-true}
use Rattle.sctp_state.specs.Events.{Emitted}
use Rattle.sctp_tx_queue.specs.declared.send_queue.message.MessageNumbers.{MessageNumbers}
use Rattle.sctp_tx_queue.specs.declared.send_queue.stream.PauseState.{PauseState}
use Rattle.sctp_tx_queue.specs.declared.send_queue.stream.PauseState.TheVariants.{NotPaused, Pending, Paused, Resetting}
use Rattle.sctp_tx_queue.specs.declared.send_queue.stream.ResetStep.TheVariants.{Requested, Performed}
use Rattle.sctp_tx_queue.specs.SendQueue.{Queued, Queue, Stream, stream, add, push, is_stopped}
use Rattle.sctp_tx_queue.specs.InOrder.{is_unsent, is_begun_or_waiting, are_in_order, is_first_begun}
use Rattle.sctp_tx_queue.specs.Resets.{is_partly, pause_for_reset, prepare_stream, prepare_reset, after_step, apply_reset_step}
use Rattle.sctp_tx_outstanding.specs.OutstandingData.{Items}
use Rattle.proof_protocol.specs.State.{Message, Transfer, put, stream_of}
use Rattle.proof_protocol.specs.Rules.{accept, give_up, IsSettled, Happens, run}
use Rattle.proof_protocol.specs.Sending.{Waiting}
use Rattle.proof_protocol.specs.Resets.{Epochs, ResetEvent, transfers, send_request, commit, MayReset, goes, MayAll, go_all}
use Rattle.proof_protocol.proofs.ToolsLemmas.{put_at, put_off, not_both}
use Rattle.proof_protocol.proofs.CommonLemmas.{none_some}
use Rattle.proof_refines.specs.SenderRefinement.{find, messages_of, queue_of, SenderRefines}
use Rattle.proof_refines.specs.Rows.{offered_entry}
use Rattle.proof_refines.specs.Pauses.{unsent_of, give_up_rules, opens_next, IsPausedAs, ArePausedAs, PreparesPause}
use Rattle.proof_refines.proofs.FoundLemmas.{one_value, found_off, found_at, found_push_off}
use Rattle.proof_refines.proofs.QueuedLemmas.{queued_is}
use Rattle.proof_refines.proofs.AcceptLemmas.{written, unwritten}
use Rattle.proof_refines.proofs.PrepareLemmas.{Waits, waits}
use Rattle.proof_refines.proofs.ResetLemmas.{put_cases, off}

-- ---- the queue of a stream

-- what is left of it when it is prepared
record Front (ms : List Queued) : Type 0 where
  first : is_first_begun (filter is_partly ms) ≡ is_first_begun ms
  empty : (length (filter is_partly ms) == 0) ≡ not (is_first_begun ms)
  begun : (p : ℕ) (m : Queued) → find p (filter is_partly ms) ≡ Some m → is_some m.numbers ≡ true

front : (ms : List Queued) → are_in_order ms ≡ true → Front ms
front [] h = record { first = refl; empty = refl; begun = λ p m f. absurd (cc) }
front (m ∷ rest) h = go (is_partly m) refl (is_some m.numbers) refl
  where
    a : (is_begun_or_waiting m ≡ true) × (list_all is_unsent rest ≡ true)
    a = and_parts (is_begun_or_waiting m) (list_all is_unsent rest) h

    z : Waits rest
    z = waits rest a.1

    go : (b : Bool) → is_partly m ≡ b → (c : Bool) → is_some m.numbers ≡ c → Front (m ∷ rest)
    go true p true s =
        let l : filter is_partly (m ∷ rest) ≡ m ∷ [] = cond-true (is_partly m) (m ∷ filter is_partly rest) (filter is_partly rest) p ∙ ap (λ (r : List Queued). m ∷ r) z.none in
        record {
          first = ap is_first_begun l;
          empty = ap (λ (r : List Queued). length r == 0) l ∙ ap not (sym s);
          begun = λ q n f. only q n (sym (ap (find q) l) ∙ f);
        }
      where
        only : (q : ℕ) (n : Queued) → find q (m ∷ []) ≡ Some n → is_some n.numbers ≡ true
        only q n f = elim (cases_eq m.number q) [
          | inl e ↦ ap (λ (v : Queued). is_some v.numbers) (sym (one_value (find q (m ∷ [])) m n (found_at q m [] e) f)) ∙ s
          | inr d ↦ absurd (none_some (find q (m ∷ [])) n f (found_off q m [] d))
        ]
    go true p false s =
        absurd (not_both p (ap (λ n. nat_lt 0 n) (eqb-true m.offset 0 (sym (cond-false (is_some m.numbers) (nat_lt 0 m.offset) (m.offset == 0) s) ∙ a.0))))
    go false p true s = absurd (not_both (sym (cond-true (is_some m.numbers) (nat_lt 0 m.offset) (m.offset == 0) s) ∙ a.0) p)
    go false p false s =
        let l : filter is_partly (m ∷ rest) ≡ [] = cond-false (is_partly m) (m ∷ filter is_partly rest) (filter is_partly rest) p ∙ z.none in
        record {
          first = ap is_first_begun l ∙ sym s;
          empty = ap (λ (r : List Queued). length r == 0) l ∙ ap not (sym s);
          begun = λ q n f. absurd (none_some (find q (filter is_partly (m ∷ rest))) n f (ap (find q) l));
        }

-- where the first one isn't begun, none is
all_new : (ms : List Queued) → list_all is_unsent ms ≡ true → (p : ℕ) (m : Queued) → find p ms ≡ Some m → is_some m.numbers ≡ false
all_new [] h p m f = absurd (cc)
all_new (c ∷ rest) h p m f =
    let a = and_parts (is_unsent c) (list_all is_unsent rest) h in
    elim (cases_eq c.number p) [
      | inl e ↦
          ap (λ (v : Queued). is_some v.numbers) (sym (one_value (find p (c ∷ rest)) c m (found_at p c rest e) f))
          ∙ not-true (is_some c.numbers) (and_parts (not (is_some c.numbers)) (c.offset == 0) a.0).0
      | inr d ↦ all_new rest a.1 p m (sym (found_off p c rest d) ∙ f)
    ]

none_begun : (ms : List Queued) → are_in_order ms ≡ true → is_first_begun ms ≡ false → (p : ℕ) (m : Queued) → find p ms ≡ Some m → is_some m.numbers ≡ false
none_begun [] h n p m f = absurd (cc)
none_begun (c ∷ rest) h n p m f =
    let a = and_parts (is_begun_or_waiting c) (list_all is_unsent rest) h in
    elim (cases_eq c.number p) [
      | inl e ↦ ap (λ (v : Queued). is_some v.numbers) (sym (one_value (find p (c ∷ rest)) c m (found_at p c rest e) f)) ∙ n
      | inr d ↦ all_new rest a.1 p m (sym (found_off p c rest d) ∙ f)
    ]

pub unnumbered : (o : Option MessageNumbers) → is_some o ≡ false → o ≡ None
unnumbered None h = refl
unnumbered (Some n) h = cc

-- ---- a message is accepted

module _ (message : ℕ → Message) (lifecycle : ℕ → Option ℕ) (is_interleaved : Bool) (x : Epochs) (q : Queue) (s : Items) (sh : SenderRefines message lifecycle is_interleaved x.transfer q s) (h : ArePausedAs x q)
    (expires : Option ℕ) (limit : ℕ) where
  abbrev place : ℕ
  place = x.transfer.sender.accepted

  abbrev stream_of_place : ℕ
  stream_of_place = stream_of message place

  abbrev m : Queued
  m = offered_entry message lifecycle place expires limit

  abbrev y : Epochs
  y = goes message is_interleaved x (transfers accept)

  pushed_first : (ms : List Queued) → is_first_begun (ms ++ m ∷ []) ≡ is_first_begun ms
  pushed_first [] = refl
  pushed_first (c ∷ rest) = refl

  -- of what was queued before
  old : (k p : ℕ) (n : Queued) → find p (messages_of q k) ≡ Some n → y.epoch p ≡ x.epoch p
  old k p n f =
      let l = (sh.queue.messages.entries k p n f).accepted in
      put_off x.epoch place (x.raised stream_of_place) p (λ e. absurd (omega (arith, e, l)))

  pub accepting_keeps : ArePausedAs y (add stream_of_place m q)
  accepting_keeps k =
      elim (cases_eq k stream_of_place) [
        | inr d ↦
            let i = h k in
            subst (λ (z : Stream). IsPausedAs y k z) (sym (unwritten k stream_of_place (push m (stream stream_of_place q.streams)) q.streams d))
            (record { flows = i.flows; shut = i.shut; stopped = i.stopped; pending = i.pending; newest = λ p n f e. old k p n f ∙ i.newest p n f e })
        | inl e ↦
            let i = h stream_of_place in
            subst (λ z. IsPausedAs y z (stream z (add stream_of_place m q).streams)) (sym e)
            (subst (λ (z : Stream). IsPausedAs y stream_of_place z) (sym (written stream_of_place (push m (stream stream_of_place q.streams)) q.streams))
            (record {
              flows = i.flows;
              shut = i.shut;
              stopped = λ b. pushed_first (messages_of q stream_of_place) ∙ i.stopped b;
              pending = λ b. pushed_first (messages_of q stream_of_place) ∙ i.pending b;
              newest = λ p n f b. elim (cases_eq place p) [
                | inl c ↦ put_at x.epoch place (x.raised stream_of_place) p (sym c)
                | inr c ↦
                    let g = sym (found_push_off p (messages_of q stream_of_place) m c) ∙ f in
                    old stream_of_place p n g ∙ i.newest p n g b
              ];
            }))
      ]

-- ---- a stream is to be reset

module _ (message : ℕ → Message) (is_interleaved : Bool) where
  -- that messages are given up changes the transfer alone
  pub go_given : (ps : List ℕ) (x : Epochs) → go_all message is_interleaved x (map transfers (give_up_rules ps)) ≡ record x { transfer = run message is_interleaved x.transfer (give_up_rules ps) }
  go_given [] x = refl
  go_given (p ∷ ps) x = go_given ps (goes message is_interleaved x (transfers (give_up p)))

  may_given : (ps : List ℕ) (x : Epochs) → Happens message is_interleaved x.transfer (give_up_rules ps) → MayAll message is_interleaved x (map transfers (give_up_rules ps))
  may_given [] x h = tt
  may_given (p ∷ ps) x h = ((h.0, tt), may_given ps (goes message is_interleaved x (transfers (give_up p))) h.1)

  pub go_more : (es fs : List ResetEvent) (x : Epochs) → go_all message is_interleaved x (es ++ fs) ≡ go_all message is_interleaved (go_all message is_interleaved x es) fs
  go_more [] fs x = refl
  go_more (e ∷ es) fs x = go_more es fs (goes message is_interleaved x e)

  pub may_more : (es fs : List ResetEvent) (x : Epochs) → MayAll message is_interleaved x es → MayAll message is_interleaved (go_all message is_interleaved x es) fs → MayAll message is_interleaved x (es ++ fs)
  may_more [] fs x a b = b
  may_more (e ∷ es) fs x a b = (a.0, may_more es fs (goes message is_interleaved x e) a.1 b)

module _ {P : Type 0} (message : ℕ → Message) (lifecycle : ℕ → Option ℕ) (is_interleaved : Bool) (x : Epochs) (q : Queue) (s : Items) (sh : SenderRefines message lifecycle is_interleaved x.transfer q s) (h : ArePausedAs x q)
    (id : ℕ) (emitted : Emitted P) where
  abbrev t : Stream
  t = stream id q.streams

  abbrev after : Transfer
  after = run message is_interleaved x.transfer (give_up_rules (unsent_of q id))

  f : Front t.messages
  f = front t.messages (sh.queue.order.order id)

  -- with this in place of what was raised
  abbrev raised_to : (ℕ → ℕ) → Epochs
  raised_to r = record x { transfer = after; raised = r }

  -- another stream
  other : (r : ℕ → ℕ) (k : ℕ) → k ≢ id → r k ≡ x.raised k → IsPausedAs (raised_to r) k (stream k (prepare_reset id q emitted).queue.streams)
  other r k d same =
      let i = h k in
      subst (λ (z : Stream). IsPausedAs (raised_to r) k z) (sym (unwritten k id (prepare_stream t) q.streams d))
      (record {
        flows = λ e. same ∙ i.flows e;
        shut = λ e. same ∙ i.shut e;
        stopped = i.stopped;
        pending = i.pending;
        newest = λ p m g e. i.newest p m g e ∙ sym same;
      })

  -- the stream itself, which waits from now on
  itself : (r : ℕ → ℕ) → r id ≡ suc (x.opened id) → IsPausedAs (raised_to r) id (prepare_stream t)
  itself r waits = record {
    flows = λ e. absurd (is_shut t.pause (length (filter is_partly t.messages) == 0) e);
    shut = λ e. waits;
    stopped = λ e. f.first ∙ stops t.pause refl e;
    pending = λ e. f.first ∙ pends t.pause refl e;
    newest = λ p m g e. absurd (not_both (f.begun p m g) (ap is_some e));
  }
    where
      is_shut : (p : PauseState) (b : Bool) → pause_for_reset b p ≡ NotPaused → ⊥
      is_shut NotPaused true e = cc
      is_shut NotPaused false e = cc
      is_shut Pending b e = cc
      is_shut Paused b e = cc
      is_shut Resetting b e = cc

      stops : (p : PauseState) → t.pause ≡ p → is_stopped (pause_for_reset (length (filter is_partly t.messages) == 0) p) ≡ true → is_first_begun t.messages ≡ false
      stops NotPaused e g = by (is_first_begun t.messages) (f.empty) g
        where
          by : (b : Bool) → (length (filter is_partly t.messages) == 0) ≡ not b → is_stopped (pause_for_reset (length (filter is_partly t.messages) == 0) NotPaused) ≡ true → b ≡ false
          by false n g = refl
          by true n g = absurd (not_both g (ap (λ c. is_stopped (pause_for_reset c NotPaused)) n))
      stops Pending e g = cc
      stops Paused e g = (h id).stopped (ap is_stopped e)
      stops Resetting e g = (h id).stopped (ap is_stopped e)

      pends : (p : PauseState) → t.pause ≡ p → pause_for_reset (length (filter is_partly t.messages) == 0) p ≡ Pending → is_first_begun t.messages ≡ true
      pends NotPaused e g = by (is_first_begun t.messages) (f.empty) g
        where
          paused : Paused ≡ Pending → ⊥
          paused e = cc

          by : (b : Bool) → (length (filter is_partly t.messages) == 0) ≡ not b → pause_for_reset (length (filter is_partly t.messages) == 0) NotPaused ≡ Pending → b ≡ true
          by true n g = refl
          by false n g = absurd (paused (sym (ap (λ c. pause_for_reset c NotPaused) n) ∙ g))
      pends Pending e g = (h id).pending e
      pends Paused e g = cc
      pends Resetting e g = cc

  all : (r : ℕ → ℕ) → r id ≡ suc (x.opened id) → ((k : ℕ) → k ≢ id → r k ≡ x.raised k) → ArePausedAs (raised_to r) (prepare_reset id q emitted).queue
  all r waits off k =
      elim (cases_eq k id) [
        | inr d ↦ other r k d (off k d)
        | inl e ↦
            subst (λ z. IsPausedAs (raised_to r) z (stream z (prepare_reset id q emitted).queue.streams)) (sym e)
            (subst (λ (z : Stream). IsPausedAs (raised_to r) id z) (sym (written id (prepare_stream t) q.streams)) (itself r waits))
      ]

  module _ (may : Happens message is_interleaved x.transfer (give_up_rules (unsent_of q id))) where
    -- a stream that was open; one that waits already
    opens : (p : PauseState) → t.pause ≡ p → MayAll message is_interleaved (raised_to x.raised) (opens_next p id) × ArePausedAs (go_all message is_interleaved (raised_to x.raised) (opens_next p id)) (prepare_reset id q emitted).queue
    opens NotPaused e =
        let was : x.raised id ≡ x.opened id = (h id).flows e in (
          (was, tt),
          all (put x.raised id (suc (x.raised id))) (put_at x.raised id (suc (x.raised id)) id refl ∙ ap suc was) (λ k d. put_off x.raised id (suc (x.raised id)) k d),
        )
    opens Pending e = (tt, all x.raised ((h id).shut (λ c. pending_flows (sym e ∙ c))) (λ k d. refl))
      where
        pending_flows : Pending ≡ NotPaused → ⊥
        pending_flows e = cc
    opens Paused e = (tt, all x.raised ((h id).shut (λ c. paused_flows (sym e ∙ c))) (λ k d. refl))
      where
        paused_flows : Paused ≡ NotPaused → ⊥
        paused_flows e = cc
    opens Resetting e = (tt, all x.raised ((h id).shut (λ c. resetting_flows (sym e ∙ c))) (λ k d. refl))
      where
        resetting_flows : Resetting ≡ NotPaused → ⊥
        resetting_flows e = cc

    pub preparing_keeps : PreparesPause message is_interleaved x q id emitted
    preparing_keeps =
        let es = map transfers (give_up_rules (unsent_of q id)) in
        let there : go_all message is_interleaved x es ≡ raised_to x.raised = go_given message is_interleaved (unsent_of q id) x in
        let o = opens t.pause refl in
        record {
          may = may_more message is_interleaved es (opens_next t.pause id) x (may_given message is_interleaved (unsent_of q id) x may)
              (subst (λ (z : Epochs). MayAll message is_interleaved z (opens_next t.pause id)) (sym there) o.0);
          paused = subst (λ (z : Epochs). ArePausedAs z (prepare_reset id q emitted).queue)
              (sym (go_more message is_interleaved es (opens_next t.pause id) x ∙ ap (λ (z : Epochs). go_all message is_interleaved z (opens_next t.pause id)) there)) o.1;
        }

-- ---- a request, and its answer

module _ (message : ℕ → Message) (lifecycle : ℕ → Option ℕ) (is_interleaved : Bool) (x : Epochs) (q : Queue) (s : Items) (sh : SenderRefines message lifecycle is_interleaved x.transfer q s) (h : ArePausedAs x q) (id : ℕ) where
  -- of a stream that is ready for a request, nothing of an earlier epoch is queued
  module _ (ready : (stream id q.streams).pause ≡ Paused) where
    paused_flows : Paused ≡ NotPaused → ⊥
    paused_flows e = cc

    waits_now : x.raised id ≡ suc (x.opened id)
    waits_now = (h id).shut (λ e. paused_flows (sym ready ∙ e))

    settled : (p : ℕ) → p < x.transfer.sender.accepted → stream_of message p ≡ id → x.epoch p < x.raised id → IsSettled x.transfer.sender p
    settled p below on earlier = go (queue_of message x.transfer.sender (messages_of q) p) refl
      where
        go : (o : Option Waiting) → queue_of message x.transfer.sender (messages_of q) p ≡ o → IsSettled x.transfer.sender p
        go None e = sh.queue.messages.queued.dequeued p below e
        go (Some w) e =
            let z = queued_is message x.transfer.sender (messages_of q) p w e in
            let there : find p (messages_of q id) ≡ Some z.entry = ap (λ k. find p (messages_of q k)) (sym on) ∙ z.found_there in
            let none = unnumbered z.entry.numbers (none_begun (messages_of q id) (sh.queue.order.order id) ((h id).stopped (ap is_stopped ready)) p z.entry there) in
            let new = (h id).newest p z.entry there none in
            absurd (omega (arith, new, earlier))

    pub requesting_may : MayReset message is_interleaved x (send_request id)
    requesting_may = (waits_now, settled)

  pub requesting_keeps : (stream id q.streams).pause ≡ Paused → ArePausedAs (goes message is_interleaved x (send_request id)) (apply_reset_step Requested id q)
  requesting_keeps ready k =
      elim (cases_eq k id) [
        | inr d ↦
            let i = h k in
            subst (λ (z : Stream). IsPausedAs (goes message is_interleaved x (send_request id)) k z) (sym (off Requested id q k d))
            (record { flows = i.flows; shut = i.shut; stopped = i.stopped; pending = i.pending; newest = i.newest })
        | inl e ↦
            subst (λ z. IsPausedAs (goes message is_interleaved x (send_request id)) z (stream z (apply_reset_step Requested id q).streams)) (sym e)
            (elim (put_cases id (after_step Requested (stream id q.streams)) q.streams) [
              | inr n ↦ absurd (flows (sym ready ∙ ap (λ (z : Stream). z.pause) n.1))
              | inl t ↦
                  let i = h id in
                  subst (λ (z : Stream). IsPausedAs (goes message is_interleaved x (send_request id)) id z) (sym t)
                  (record {
                    flows = λ c. cc;
                    shut = λ c. waits_now ready;
                    stopped = λ c. i.stopped (ap is_stopped ready);
                    pending = λ c. cc;
                    newest = i.newest;
                  })
            ])
      ]
    where
      flows : Paused ≡ NotPaused → ⊥
      flows e = cc

  -- the answer to a reset that was performed
  pub committing_keeps : (stream id q.streams).pause ≡ Resetting → x.raised id ≤ x.performed id
      → MayReset message is_interleaved x (commit id) × ArePausedAs (goes message is_interleaved x (commit id)) (apply_reset_step Performed id q)
  committing_keeps asked done = ((waits, done), keeps)
    where
      flows : Resetting ≡ NotPaused → ⊥
      flows e = cc

      waits : x.raised id ≡ suc (x.opened id)
      waits = (h id).shut (λ e. flows (sym asked ∙ e))

      keeps : ArePausedAs (goes message is_interleaved x (commit id)) (apply_reset_step Performed id q)
      keeps k =
          elim (cases_eq k id) [
            | inr d ↦
                let i = h k in
                let same = put_off x.opened id (x.raised id) k d in
                subst (λ (z : Stream). IsPausedAs (goes message is_interleaved x (commit id)) k z) (sym (off Performed id q k d))
                (record { flows = λ e. i.flows e ∙ sym same; shut = λ e. i.shut e ∙ ap suc (sym same); stopped = i.stopped; pending = i.pending; newest = i.newest })
            | inl e ↦
                subst (λ z. IsPausedAs (goes message is_interleaved x (commit id)) z (stream z (apply_reset_step Performed id q).streams)) (sym e)
                (elim (put_cases id (after_step Performed (stream id q.streams)) q.streams) [
                  | inr n ↦ absurd (flows (sym asked ∙ ap (λ (z : Stream). z.pause) n.1))
                  | inl t ↦
                      let i = h id in
                      subst (λ (z : Stream). IsPausedAs (goes message is_interleaved x (commit id)) id z) (sym t)
                      (record {
                        flows = λ c. sym (put_at x.opened id (x.raised id) id refl);
                        shut = λ c. absurd (c refl);
                        stopped = λ c. cc;
                        pending = λ c. cc;
                        newest = i.newest;
                      })
                ])
          ]
