use Rattle.proof_endpoint.proofs.ReceivedBackLemmas.{written_received, written_alone}
use Rattle.proof_endpoint.proofs.written_packets_are_received.Goals as goal

pub returns-clause-received : goal.returns-clause-received
returns-clause-received c = written_received

pub returns-clause-alone : goal.returns-clause-alone
returns-clause-alone c = written_alone
