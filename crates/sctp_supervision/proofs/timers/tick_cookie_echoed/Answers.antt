use Rattle.std.proofs.Common.{rules}
use Rattle.sctp_supervision.proofs.timers.tick_cookie_echoed.Goals as goal

pub returns-clause-left : goal.returns-clause-left
returns-clause-left g c = search rules

pub returns-clause-timer : goal.returns-clause-timer
returns-clause-timer g c = search rules
