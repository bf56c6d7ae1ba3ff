use Rattle.std.proofs.Common.{arith}
use Rattle.sctp_tx_outstanding.proofs.RunsLemmas.{clear_on}
use Rattle.sctp_tx_outstanding.proofs.runs.clear_from.Goals as goal

pub returns-clause-clear : goal.returns-clause-clear
returns-clause-clear c = λ b from less. clear_on c.args.bits c.args.bit b (omega arith) from (omega (arith, from, less, c.min.ensures))
