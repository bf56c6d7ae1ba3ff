-- The line of streams that have something to send: none of them is stopped for a reset.
use Rattle.std.specs.Prelude.{◌≡◌, ℕ, ◌<◌, Bool, true, false, None, Some, List}
use Rattle.std.specs.Map.{keys_of}
use Rattle.sctp_state.specs.Events.{Emitted}
use Rattle.sctp_state.specs.Options.{Options}
use Rattle.sctp_state.specs.Validity.{rises_from}
use Rattle.sctp_stream_scheduler.specs.StreamScheduler.{is_active}
use Rattle.sctp_tx_queue.specs.declared.send_queue.stream.ResetStep.{ResetStep}
use Rattle.sctp_tx_queue.specs.SendQueue.{Queued, Queue, queue, stream, add, is_stopped}
use Rattle.sctp_tx_queue.specs.Produced.{turn, next_stream, produce}
use Rattle.sctp_tx_queue.specs.Settings.{set_priority, set_low_threshold, set_mode, discard}
use Rattle.sctp_tx_queue.specs.Resets.{prepare_reset, each_stepped}
use Rattle.sctp_tx_queue.specs.InOrder.{IsInOrder, IsNumbered}
use Rattle.proof_protocol.specs.Resets.{Epochs}
use Rattle.proof_refines.specs.Pauses.{ArePausedAs}

-- each id is at least `least`, and above the one before it
abbrev pub are_ascending : {V : Type 0} → ℕ → List (ℕ × V) → Bool
are_ascending least es = rises_from least (keys_of es)

pub record IsInLine (q : Queue) : Type 0 where
  pub ascending : are_ascending 0 q.scheduler.times ≡ true
  pub flows : (k : ℕ) → is_active k q.scheduler ≡ true → is_stopped (stream k q.streams).pause ≡ false
  pub whole : q.scheduler.is_interleaved ≡ true → q.begun ≡ None

-- ---- from the first call on

abbrev pub KeepsLine : (Queue → Queue) → Type 0
KeepsLine f = (q : Queue) → IsInLine q → IsInLine (f q)

pub record CallsKeepLine : Type 0 where
  pub new : (o : Options) → IsInLine (queue o)
  pub accepting : (id : ℕ) (m : Queued) → KeepsLine (add id m)
  pub preparing : (id : ℕ) (emitted : Emitted (List ℕ)) → KeepsLine (λ q. (prepare_reset id q emitted).queue)
  pub resetting : (step : ResetStep) (ids : List ℕ) → KeepsLine (each_stepped step ids)
  pub discarding : (id number : ℕ) (emitted : Emitted (List ℕ)) → KeepsLine (λ q. (discard id number q emitted).queue)
  pub prioritised : (id n : ℕ) → KeepsLine (set_priority id n)
  pub watched : (id n : ℕ) (emitted : Emitted (List ℕ)) → KeepsLine (λ q. (set_low_threshold id n q emitted).queue)
  pub turning : (now id size : ℕ) (emitted : Emitted (List ℕ)) → KeepsLine (λ q. (turn now id size q emitted).queue)
  pub mode : (is_interleaved : Bool) (q : Queue) → q.begun ≡ None → IsInLine q → IsInLine (set_mode is_interleaved q)

-- ---- so no stream that is stopped sends

-- of a queue whose pauses agree with the epochs
abbrev pub InEachLine : (Epochs → Queue → Type 0) → Type 0
InEachLine P = (x : Epochs) (q : Queue) → IsInOrder q → IsNumbered q → IsInLine q → ArePausedAs x q → P x q

abbrev pub NextFlows : Type 0
NextFlows = InEachLine (λ x q. (id : ℕ) → next_stream q ≡ Some id → is_stopped (stream id q.streams).pause ≡ false)

-- and a fragment leaves pauses that agree with the epochs
abbrev pub ProducingPauses : Type 0
ProducingPauses = InEachLine (λ x q. (now size : ℕ) (emitted : Emitted (List ℕ)) → 0 < size → ArePausedAs x (produce now size q emitted).queue × IsInLine (produce now size q emitted).queue)
