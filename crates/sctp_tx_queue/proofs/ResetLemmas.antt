-- Steps of resets, a stream at a time, and what is left of a stream that is to be reset.
use Rattle.std.proofs.Common.{◌≡◌, ℕ, zero, suc, ◌+◌, ◌<◌, ◌≤◌, Bool, true, false, cond, List, [], ◌∷◌, length, take, drop, get_or, sum_by, refl, ap, sym, ◌∙◌, arith, add-one}
use Rattle.std.specs.Prelude.{map, filter, ◌==◌, IsSome}
use Rattle.std.proofs.Math.Seq.{drop-cons}
use Rattle.std.proofs.lemmas.List.Sums.{sum_by-cons}
use Rattle.sctp_serial.specs.declared.api.StreamId.{StreamId}
use Rattle.sctp_tx_queue.specs.declared.send_queue.stream.ResetStep.{ResetStep}
use Rattle.sctp_tx_queue.specs.declared.send_queue.stream.ResetStep.TheVariants.{Requested, Performed, Refused}
use Rattle.sctp_tx_queue.specs.SendQueue.{Queue, Queued, Stream, Streams, remaining_bytes, stream, put_stream, with_stream, sendable, set_sendable}
use Rattle.sctp_state.specs.Events.{Emitted}
use Rattle.sctp_stream_scheduler.specs.StreamScheduler.{Scheduler, set_bytes_remaining}
use Rattle.std.specs.Map.{lookup}
use Rattle.std.specs.Ordering.{nat_cmp}
use Rattle.std.specs.BTreeMap.{is_at}
use Rattle.sctp_tx_queue.specs.Settings.{without_front}
use Rattle.sctp_tx_queue.specs.Produced.{pause_if_pending}
use Rattle.sctp_tx_queue.specs.Resets.{apply_reset_step, each_stepped, after_step, is_partly, prepare_stream, prepare_reset}
use Rattle.sctp_tx_queue.proofs.StreamsLemmas.{stream_put}

pub step_each : (step : ResetStep) (ids : List StreamId) (i : ℕ) (none : StreamId) (q r : Queue) → i < length ids → r ≡ apply_reset_step step (get_or ids i none).0 q
    → each_stepped step (map (λ id. id.0) (drop (i + 1) ids)) r ≡ each_stepped step (map (λ id. id.0) (drop i ids)) q
step_each step ids i none q r more after =
    ap (λ k. each_stepped step (map (λ id. id.0) (drop k ids)) r) (add-one i)
    ∙ ap (λ s. each_stepped step (map (λ id. id.0) (drop (suc i) ids)) s) after
    ∙ sym (ap (λ (xs : List StreamId). each_stepped step (map (λ id. id.0) xs) q) (drop-cons ids i none more))

-- one more of them took the step
more_stepped : (step : ResetStep) (ids : List StreamId) (i : ℕ) (none : StreamId) (q p r : Queue) → i < length ids → p ≡ each_stepped step (take i (map (λ id. id.0) ids)) q
    → r ≡ apply_reset_step step (get_or ids i none).0 p → r ≡ each_stepped step (take (suc i) (map (λ id. id.0) ids)) q
more_stepped step [] i none q p r more is after = absurd (omega (arith, more))
more_stepped step (id ∷ ids) zero none q p r more is after = after ∙ ap (λ x. apply_reset_step step id.0 x) is
more_stepped step (id ∷ ids) (suc i) none q p r more is after = more_stepped step ids i none (apply_reset_step step id.0 q) p r (omega (arith, more)) is after

pub stepped_more : (step : ResetStep) (ids : List StreamId) (i : ℕ) (none : StreamId) (q p r : Queue) → i < length ids → p ≡ each_stepped step (take i (map (λ id. id.0) ids)) q
    → r ≡ apply_reset_step step (get_or ids i none).0 p → r ≡ each_stepped step (take (i + 1) (map (λ id. id.0) ids)) q
stepped_more step ids i none q p r more is after = more_stepped step ids i none q p r more is after ∙ ap (λ k. each_stepped step (take k (map (λ id. id.0) ids)) q) (sym (add-one i))

pub partly_le : (ms : List Queued) → sum_by remaining_bytes (filter is_partly ms) ≤ sum_by remaining_bytes ms
partly_le [] = omega arith
partly_le (m ∷ rest) = go (is_partly m) (partly_le rest)
  where
    go : (b : Bool) → sum_by remaining_bytes (filter is_partly rest) ≤ sum_by remaining_bytes rest → sum_by remaining_bytes (cond b (m ∷ filter is_partly rest) (filter is_partly rest)) ≤ sum_by remaining_bytes (m ∷ rest)
    go true ih = omega (arith, ih, sum_by-cons remaining_bytes m rest, sum_by-cons remaining_bytes m (filter is_partly rest))
    go false ih = omega (arith, ih, sum_by-cons remaining_bytes m rest)

pub step_priority : (step : ResetStep) (s : Stream) → (after_step step s).priority ≡ s.priority
step_priority Requested s = refl
step_priority Performed s = refl
step_priority Refused s = refl

pub without_priority : (number : ℕ) (ms : List Queued) (s : Stream) → (without_front number ms s).priority ≡ s.priority
without_priority number [] s = refl
without_priority number (m ∷ rest) s = go (m.number == number)
  where
    go : (b : Bool) → (cond b (record s { messages = rest; pause = pause_if_pending s.pause }) s).priority ≡ s.priority
    go true = refl
    go false = refl

-- a stream is prepared once it is open and the scheduler knows what it has to send
pub prepared_is : {P : Type 0} (id : ℕ) (q : Queue) (mid after : Streams) (line : Scheduler) (emitted : Emitted P) → mid ≡ with_stream id q.streams → IsSome (lookup (is_at (nat_cmp id)) mid.entries) → stream id mid ≡ stream id q.streams
    → line ≡ set_bytes_remaining id (sendable (prepare_stream (stream id q.streams))) (stream id q.streams).priority q.scheduler → after ≡ put_stream id (prepare_stream (stream id mid)) mid
    → (let r : Queue = record q { streams = after; scheduler = line } in r) ≡ (prepare_reset id q emitted).queue
prepared_is id q mid after line emitted first there same is_line is_after = ap (λ x. queue x line) streams ∙ ap (λ x. queue done x) (is_line ∙ sym (ap (λ t. set_sendable id t q.scheduler) there_now))
  where
    queue : Streams → Scheduler → Queue
    queue x sch = record q { streams = x; scheduler = sch }

    s : Stream
    s = prepare_stream (stream id q.streams)

    done : Streams
    done = put_stream id s (with_stream id q.streams)

    streams : after ≡ done
    streams = is_after ∙ ap (λ t. put_stream id (prepare_stream t) mid) same ∙ ap (λ x. put_stream id s x) first

    there_now : stream id done ≡ s
    there_now = ap (λ x. stream id (put_stream id s x)) (sym first) ∙ stream_put id s mid there
