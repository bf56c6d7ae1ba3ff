use Rattle.std.proofs.Common.{arith}
use Rattle.sctp_tx_outstanding.proofs.messages.least_added.Goals as goal

pub returns-in-Some-clause-none : goal.returns-in-Some-clause-none
returns-in-Some-clause-none c = λ n above below. c.in-Some.ensures.least n above (omega (arith, below, c.min.ensures))

pub returns-in-None-clause-none : goal.returns-in-None-clause-none
returns-in-None-clause-none c = λ n above below. c.in-None.ensures.none n above
