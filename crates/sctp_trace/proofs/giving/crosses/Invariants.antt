use Rattle.std.proofs.Common.{◌≡◌, ◌++◌, drop}
use Rattle.sctp_trace.specs.Giving.{crosses, each_from, row_cross}
use Rattle.sctp_trace.proofs.giving.crosses.Given as goal

abbrev pub invariant-loop-at : goal.invariant-loop-at
invariant-loop-at l = l.found.items ++ each_from (row_cross l.conversation.rows.now) l.at (drop l.at l.conversation.rows.now) ≡ crosses l.conversation.rows.now
