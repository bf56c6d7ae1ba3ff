use Rattle.proof_protocol.proofs.ShowsLemmas.{leave_all}
use Rattle.proof_protocol.proofs.sender.sack_comes.Goals as goal

pub returns-clause-may : goal.returns-clause-may
returns-clause-may c message is_interleaved x n point sent within = (leave_all message is_interleaved n point x sent within).0

pub returns-clause-leads : goal.returns-clause-leads
returns-clause-leads c message is_interleaved x n point sent within = (leave_all message is_interleaved n point x sent within).1
