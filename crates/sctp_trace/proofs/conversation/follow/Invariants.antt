use Rattle.std.proofs.Common.{take}
use Rattle.sctp_trace.specs.Giving.{HasSent, HasGiven}
use Rattle.sctp_trace.proofs.conversation.follow.Given as goal

abbrev pub invariant-loop-at : goal.invariant-loop-at
invariant-loop-at l = record {
  sent : HasSent (take l.at l.rows) l.from l.sent;
  given : HasGiven (take l.at l.rows) l.from l.given;
}
