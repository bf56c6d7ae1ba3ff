-- What of the queue stands in the way of a handover.
use Rattle.std.specs.Prelude.{ℕ, ◌&&◌, not, Bool, true, false, if◌then◌else◌, bit_or}
use Rattle.std.specs.List.{list_any}
use Rattle.std.specs.Map.{values_of}
use Rattle.sctp_tx_queue.specs.declared.send_queue.stream.PauseState.{PauseState}
use Rattle.sctp_tx_queue.specs.declared.send_queue.stream.PauseState.TheVariants.{NotPaused, Pending, Paused, Resetting}
use Rattle.sctp_tx_queue.specs.SendQueue.{Stream, Queue, is_empty}

-- a reset of the stream waits, or is to be answered
abbrev pub waits : PauseState → Bool
waits NotPaused = false
waits Pending = true
waits Paused = true
waits Resetting = true

abbrev pub has_reset_pending : Stream → Bool
has_reset_pending s = waits s.pause

-- messages count where none may be handed over
abbrev pub readiness : Bool → Queue → ℕ
readiness is_strict q = bit_or (if is_strict && not (is_empty q) then 2 else 0) (if list_any has_reset_pending (values_of q.streams.entries) then 16 else 0)
