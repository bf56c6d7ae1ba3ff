use Rattle.std.proofs.Common.{rules}
use Rattle.sctp_calls.proofs.handover.hand_over.Goals as goal

pub returns-in_ok-leave-in-Open-clause-written : goal.returns-in_ok-leave-in-Open-clause-written
returns-in_ok-leave-in-Open-clause-written g c = search rules
