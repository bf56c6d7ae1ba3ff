use Rattle.std.proofs.Common.{◌≡◌, ◌++◌, drop}
use Rattle.sctp_trace.specs.Giving.{arrows, each_from, row_arrow}
use Rattle.sctp_trace.proofs.giving.arrows.Given as goal

abbrev pub invariant-loop-at : goal.invariant-loop-at
invariant-loop-at l = l.found.items ++ each_from (row_arrow l.conversation.rows.now) l.at (drop l.at l.conversation.rows.now) ≡ arrows l.conversation.rows.now
