use Rattle.std.proofs.Common.{ℕ, ◌<◌, get_or}
use Rattle.sctp_serial.specs.declared.types.tsn.Tsn.{Tsn}
use Rattle.sctp_chunk.specs.Grammar.{FitsTsn}
use Rattle.sctp_packet.proofs.ranges.tsns_fit.Given as goal

abbrev pub invariant-loop-tsn : goal.invariant-loop-tsn
invariant-loop-tsn l = (k : ℕ) (d : Tsn) → k < l.tsn-index → FitsTsn (get_or l.tsns k d)
