-- Each call leaves no stream in line that is stopped, and so none that is stopped sends.
use Rattle.std.proofs.Common.{◌≡◌, ◌≢◌, ℕ, zero, suc, ◌+◌, ◌<◌, Bool, true, false, cond, inl, inr, Option, Some, None, List, [], ◌∷◌, length, refl, sym, ap, ◌∙◌, subst}
use Rattle.std.specs.Prelude.{◌==◌, is_some}
use Rattle.std.proofs.lemmas.Bool.{cases_eq, cond-false, eq-eqb, false_from_ne_true}
use Rattle.sctp_state.specs.Events.{Emitted}
use Rattle.sctp_stream_scheduler.specs.StreamScheduler.{Scheduler, is_active, accept, peek}
use Rattle.sctp_tx_queue.specs.declared.send_queue.stream.ResetStep.{ResetStep}
use Rattle.sctp_tx_queue.specs.SendQueue as queue
use Rattle.sctp_tx_queue.specs.SendQueue.{Queued, Queue, Stream, Streams, stream, add, push, with_stream, is_stopped, front_left, sendable, set_sendable}
use Rattle.sctp_tx_queue.specs.Produced.{Produced, Turn, pause_if_pending, without_stale, streams_without_stale, streams_after, advance, next_fragment, in_line, begun_by, turn, next_stream, produce_within, produce}
use Rattle.sctp_tx_queue.specs.Settings.{with_threshold, with_priority, set_priority, set_low_threshold, front_discarded, without_front, streams_discarded, begun_without, discard_from, discard}
use Rattle.sctp_tx_queue.specs.Resets.{prepare_stream, prepare_reset, apply_reset_step, each_stepped}
use Rattle.sctp_tx_queue.specs.InOrder.{is_this, IsInOrder, IsNumbered}
use Rattle.sctp_tx_queue.proofs.InOrderLemmas.{set_bytes_mode, put_elsewhere, turn_in_order, line_mode}
use Rattle.sctp_tx_queue.proofs.NumberLemmas.{turn_numbered}
use Rattle.sctp_tx_queue.proofs.ProduceLemmas.{idles, gives, turned}
use Rattle.proof_protocol.specs.Resets.{Epochs}
use Rattle.proof_protocol.proofs.ToolsLemmas.{not_both}
use Rattle.proof_protocol.proofs.CommonLemmas.{none_some}
use Rattle.proof_refines.specs.Pauses.{ArePausedAs}
use Rattle.proof_refines.specs.Line.{are_ascending, IsInLine, CallsKeepLine}
use Rattle.proof_refines.proofs.FoundLemmas.{one_value}
use Rattle.proof_refines.proofs.ProduceLemmas.{stream_changed, is_other}
use Rattle.proof_refines.proofs.AcceptLemmas.{written, unwritten}
use Rattle.proof_refines.proofs.ResetLemmas.{off}
use Rattle.proof_refines.proofs.PauseRowLemmas.{turn_pauses}
use Rattle.proof_refines.proofs.LineLemmas.{AfterSetBytes, after_set_bytes, sent, peek_active}

-- ---- what the scheduler is given

sendable_flows : (s : Stream) → (sendable s == 0) ≡ false → is_stopped s.pause ≡ false
sendable_flows s h = go (is_stopped s.pause) refl
  where
    go : (b : Bool) → is_stopped s.pause ≡ b → is_stopped s.pause ≡ false
    go false e = e
    go true e = absurd (not_both (ap (λ (b : Bool). cond b 0 (front_left s.messages) == 0) e) h)

in_line_by : (q r : Queue) (id bytes : ℕ) (sch : Scheduler) → IsInLine q → AfterSetBytes id bytes sch r.scheduler → ((k : ℕ) → k ≢ id → is_active k sch ≡ true → is_active k q.scheduler ≡ true)
    → ((k : ℕ) → k ≢ id → stream k r.streams ≡ stream k q.streams) → ((bytes == 0) ≡ false → is_stopped (stream id r.streams).pause ≡ false)
    → (r.scheduler.is_interleaved ≡ true → r.begun ≡ None) → IsInLine r
in_line_by q r id bytes sch h after_set still elsewhere here whole = record {
  ascending = after_set.ascending;
  flows = λ k t. elim (after_set.active k t) [
    | inl c ↦ ap (λ (s : Stream). is_stopped s.pause) (elsewhere k c.0) ∙ h.flows k (still k c.0 c.1)
    | inr c ↦ subst (λ j. is_stopped (stream j r.streams).pause ≡ false) (sym c.0) (here c.1)
  ];
  whole = whole;
}

pub received_line : (q r : Queue) (id : ℕ) (s : Stream) → IsInLine q → r.scheduler ≡ set_sendable id s q.scheduler → stream id r.streams ≡ s
    → ((k : ℕ) → k ≢ id → stream k r.streams ≡ stream k q.streams) → (q.begun ≡ None → r.begun ≡ None) → IsInLine r
received_line q r id s h same here elsewhere none =
    in_line_by q r id (sendable s) q.scheduler h (subst (λ (z : Scheduler). AfterSetBytes id (sendable s) q.scheduler z) (sym same) (after_set_bytes id (sendable s) s.priority q.scheduler h.ascending))
    (λ k d t. t) elsewhere (λ e. ap (λ (z : Stream). is_stopped z.pause) here ∙ sendable_flows s e)
    (λ m. none (h.whole (sym (ap (λ (z : Scheduler). z.is_interleaved) same ∙ set_bytes_mode id (sendable s) s.priority q.scheduler) ∙ m)))

pub same_line : (q r : Queue) → r.scheduler ≡ q.scheduler → r.begun ≡ q.begun → ((k : ℕ) → (stream k r.streams).pause ≡ (stream k q.streams).pause) → IsInLine q → IsInLine r
same_line q r sch begun pauses h = record {
  ascending = ap (λ (z : Scheduler). are_ascending 0 z.times) sch ∙ h.ascending;
  flows = λ k t. ap is_stopped (pauses k) ∙ h.flows k (ap (λ (z : Scheduler). is_active k z) (sym sch) ∙ t);
  whole = λ m. begun ∙ h.whole (ap (λ (z : Scheduler). z.is_interleaved) (sym sch) ∙ m);
}

-- ---- the calls

added_line : (id : ℕ) (m : Queued) (q : Queue) → IsInLine q → IsInLine (add id m q)
added_line id m q h =
    let s : Stream = push m (stream id q.streams) in
    received_line q (add id m q) id s h refl (written id s q.streams) (λ k d. unwritten k id s q.streams d) (λ e. e)

prepared_line : {P : Type 0} (id : ℕ) (emitted : Emitted P) (q : Queue) → IsInLine q → IsInLine (prepare_reset id q emitted).queue
prepared_line id emitted q h =
    received_line q (prepare_reset id q emitted).queue id (stream id (prepare_reset id q emitted).queue.streams) h refl refl (λ k d. unwritten k id (prepare_stream (stream id q.streams)) q.streams d) (λ e. e)

stepped_line : (step : ResetStep) (id : ℕ) (q : Queue) → IsInLine q → IsInLine (apply_reset_step step id q)
stepped_line step id q h = received_line q (apply_reset_step step id q) id (stream id (apply_reset_step step id q).streams) h refl refl (off step id q) (λ e. e)

steps_line : (step : ResetStep) (ids : List ℕ) (q : Queue) → IsInLine q → IsInLine (each_stepped step ids q)
steps_line step [] q h = h
steps_line step (id ∷ ids) q h = steps_line step ids (apply_reset_step step id q) (stepped_line step id q h)

pub discarded_line : {P : Type 0} (id number : ℕ) (emitted : Emitted P) (q : Queue) → IsInLine q → IsInLine (discard id number q emitted).queue
discarded_line {P} id number emitted q h = go (front_discarded number s0.messages) refl
  where
    s0 : Stream
    s0 = stream id q.streams

    ss : Streams
    ss = streams_discarded id number q.streams

    elsewhere : (k : ℕ) → k ≢ id → stream k ss ≡ stream k q.streams
    elsewhere k d = put_elsewhere k id (without_front number s0.messages s0) q.streams (is_other k id d)

    kept : (ms : List Queued) → front_discarded number ms ≡ None → without_front number ms s0 ≡ s0
    kept [] e = refl
    kept (m ∷ rest) e = by (m.number == number) refl
      where
        by : (b : Bool) → (m.number == number) ≡ b → without_front number (m ∷ rest) s0 ≡ s0
        by true t = absurd (none_some (front_discarded number (m ∷ rest)) m.lifecycle (ap (λ b. cond b (Some m.lifecycle) None) t) e)
        by false t = cond-false (m.number == number) (record s0 { messages = rest; pause = pause_if_pending s0.pause }) s0 t

    to : Option (Option ℕ) → Queue
    to f = (discard_from id ss f q emitted).queue

    go : (f : Option (Option ℕ)) → front_discarded number s0.messages ≡ f → IsInLine (to (front_discarded number s0.messages))
    go None e = subst (λ f. IsInLine (to f)) (sym e) (same_line q (to None) refl refl each h)
      where
        each : (k : ℕ) → (stream k ss).pause ≡ (stream k q.streams).pause
        each k = elim (cases_eq k id) [
          | inr d ↦ ap (λ (s : Stream). s.pause) (elsewhere k d)
          | inl c ↦
              subst (λ j. (stream j ss).pause ≡ (stream j q.streams).pause) (sym c)
              (ap (λ (s : Stream). s.pause) (ap (λ (z : Stream). stream id (queue.put_stream id z q.streams)) (kept s0.messages e) ∙ stream_changed id (λ z. z) q.streams refl))
        ]
    go (Some l) e = subst (λ f. IsInLine (to f)) (sym e) (received_line q (to (Some l)) id (stream id ss) h refl refl elsewhere (λ n. ap (begun_without id) n))

set_line : (q r : Queue) (id : ℕ) (s : Stream) → r.scheduler ≡ q.scheduler → r.begun ≡ q.begun → r.streams ≡ queue.put_stream id s (with_stream id q.streams) → s.pause ≡ (stream id q.streams).pause
    → IsInLine q → IsInLine r
set_line q r id s sch begun streams pause h = same_line q r sch begun each h
  where
    each : (k : ℕ) → (stream k r.streams).pause ≡ (stream k q.streams).pause
    each k = elim (cases_eq k id) [
      | inr d ↦ ap (λ (z : Stream). z.pause) (ap (stream k) streams ∙ unwritten k id s q.streams d)
      | inl c ↦ subst (λ j. (stream j r.streams).pause ≡ (stream j q.streams).pause) (sym c) (ap (λ (z : Stream). z.pause) (ap (stream id) streams ∙ written id s q.streams) ∙ pause)
    ]

pub turned_line : {P : Type 0} (now id size : ℕ) (emitted : Emitted P) (q : Queue) → IsInLine q → IsInLine (turn now id size q emitted).queue
turned_line {P} now id size emitted q h = go (next_fragment id size (stream id ss)) refl
  where
    ss : Streams
    ss = streams_without_stale now id q.streams

    r : Queue
    r = (turn now id size q emitted).queue

    s : Stream
    s = stream id (streams_after id size ss)

    line : Option Produced → Scheduler
    line o = in_line id (sendable s) s.priority o q.scheduler

    elsewhere : (k : ℕ) → k ≢ id → stream k r.streams ≡ stream k q.streams
    elsewhere k d = put_elsewhere k id (advance size (stream id ss)) ss (is_other k id d) ∙ put_elsewhere k id (without_stale now (stream id q.streams)) q.streams (is_other k id d)

    unbegun : (b : Bool) → b ≡ true → (o : Option Produced) → begun_by id b o ≡ None
    unbegun b e None = refl
    unbegun b e (Some p) = ap (λ c. begun_by id c (Some p)) e ∙ by p.fragment.is_end
      where
        by : (c : Bool) → cond c None (cond true None (Some id)) ≡ None
        by true = refl
        by false = refl

    whole : r.scheduler.is_interleaved ≡ true → r.begun ≡ None
    whole m = unbegun q.scheduler.is_interleaved (sym (line_mode id (sendable s) s.priority (next_fragment id size (stream id ss)) q.scheduler) ∙ m) (next_fragment id size (stream id ss))

    go : (o : Option Produced) → next_fragment id size (stream id ss) ≡ o → IsInLine r
    go None e =
        in_line_by q r id 0 q.scheduler h (subst (λ z. AfterSetBytes id 0 q.scheduler (line z)) (sym e) (after_set_bytes id 0 0 q.scheduler h.ascending)) (λ k d t. t) elsewhere (λ z. absurd (not_both refl z)) whole
    go (Some p) e =
        let a = sent id q.scheduler h.ascending in
        in_line_by q r id (sendable s) (accept id q.scheduler) h
        (subst (λ z. AfterSetBytes id (sendable s) (accept id q.scheduler) (line z)) (sym e) (after_set_bytes id (sendable s) s.priority (accept id q.scheduler) a.ascending)) a.active elsewhere (sendable_flows s) whole

pub calls_keep_line : CallsKeepLine
calls_keep_line = record {
  new = λ o. record { ascending = refl; flows = λ k t. absurd (cc); whole = λ m. refl };
  accepting = added_line;
  preparing = λ id emitted. prepared_line id emitted;
  resetting = steps_line;
  discarding = λ id number emitted. discarded_line id number emitted;
  prioritised = λ id n q h. set_line q (set_priority id n q) id (with_priority n (stream id q.streams)) refl refl refl refl h;
  watched = λ id n emitted q h. set_line q (set_low_threshold id n q emitted).queue id (with_threshold n (stream id q.streams)) refl refl refl refl h;
  turning = λ now id size emitted. turned_line now id size emitted;
  mode = λ is_interleaved q none h. record { ascending = h.ascending; flows = h.flows; whole = λ m. none };
}

-- ---- the stream that sends

pub next_flows : (x : Epochs) (q : Queue) → IsInOrder q → IsInLine q → ArePausedAs x q → (id : ℕ) → next_stream q ≡ Some id → is_stopped (stream id q.streams).pause ≡ false
next_flows x q ordered line paused id e = go q.begun refl
  where
    next : Option ℕ → Option ℕ
    next o = cond (is_some o) o (peek q.scheduler)

    begun_flows : (j : ℕ) → q.begun ≡ Some j → j ≡ id → (m : Bool) → q.scheduler.is_interleaved ≡ m → is_stopped (stream id q.streams).pause ≡ false
    begun_flows j b s true m = absurd (none_some q.begun j b (line.whole m))
    begun_flows j b s false m =
        let first = ordered.begun m id ∙ (ap (is_this id) b ∙ eq-eqb id j (sym s)) in
        false_from_ne_true (is_stopped (stream id q.streams).pause) (λ t. not_both first ((paused id).stopped t))

    go : (o : Option ℕ) → q.begun ≡ o → is_stopped (stream id q.streams).pause ≡ false
    go None b = line.flows id (peek_active q.scheduler id (sym (ap next b) ∙ e))
    go (Some j) b = begun_flows j b (one_value (next_stream q) j id (ap next b) e) q.scheduler.is_interleaved refl

module _ {P : Type 0} (x : Epochs) (now size : ℕ) (some : 0 < size) where
  abbrev To : Turn P → Type 0
  To t = ArePausedAs x t.queue × IsInLine t.queue

  within : (n : ℕ) (q : Queue) (emitted : Emitted P) → IsInOrder q → IsNumbered q → IsInLine q → ArePausedAs x q → To (produce_within n now size q emitted)
  within zero q emitted ordered numbered line paused = (paused, line)
  within (suc n) q emitted ordered numbered line paused = go (next_stream q) refl (within n)
    where
      Rest : Type 0
      Rest = (r : Queue) (later : Emitted P) → IsInOrder r → IsNumbered r → IsInLine r → ArePausedAs x r → To (produce_within n now size r later)

      one : (id : ℕ) → next_stream q ≡ Some id → To (turn now id size q emitted)
      one id next = (turn_pauses x q ordered numbered paused now id size emitted (next_flows x q ordered line paused id next), turned_line now id size emitted q line)

      given : (id : ℕ) → next_stream q ≡ Some id → Rest → (made : Option Produced) → (turn now id size q emitted).made ≡ made → To (produce_within (suc n) now size q emitted)
      given id next rest None e =
          let t = turn now id size q emitted in
          let z = one id next in
          subst To (sym (turned n now size id q emitted next (sym e)))
          (rest t.queue t.emitted (turn_in_order now id size q emitted some next ordered) (turn_numbered now id size q emitted numbered) z.1 z.0)
      given id next rest (Some made) e = subst To (sym (gives n now size id q emitted made next (sym e))) (one id next)

      go : (o : Option ℕ) → next_stream q ≡ o → Rest → To (produce_within (suc n) now size q emitted)
      go None e rest = subst To (sym (idles n now size q emitted e)) (paused, line)
      go (Some id) e rest = given id e rest (turn now id size q emitted).made refl

  pub produces_pause : (q : Queue) (emitted : Emitted P) → IsInOrder q → IsNumbered q → IsInLine q → ArePausedAs x q → To (produce now size q emitted)
  produces_pause q emitted = within (length q.scheduler.times + 2) q emitted
