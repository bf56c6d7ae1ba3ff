use Rattle.std.proofs.Common.{rules}
use Rattle.sctp_supervision.proofs.timers.tick_cookie_wait.Goals as goal

pub returns-clause-waited : goal.returns-clause-waited
returns-clause-waited g c = search rules
