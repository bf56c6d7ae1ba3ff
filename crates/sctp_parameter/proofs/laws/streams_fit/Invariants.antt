use Rattle.std.proofs.Common.{ℕ, ◌<◌, ◌^◌, get_or}
use Rattle.sctp_serial.specs.declared.api.StreamId.{StreamId}
use Rattle.sctp_parameter.proofs.laws.streams_fit.Given as goal

abbrev pub invariant-loop-stream : goal.invariant-loop-stream
invariant-loop-stream l = (k : ℕ) (d : StreamId) → k < l.stream-index → (get_or l.streams k d).0 < 2 ^ 16
