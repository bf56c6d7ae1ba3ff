use Rattle.proof_endpoint.proofs.LawsLemmas.{stays_within, sends_at_most}
use Rattle.proof_endpoint.proofs.packets_are_within_the_mtu.Goals as goal

pub returns-clause-chunks : goal.returns-clause-chunks
returns-clause-chunks c = stays_within

pub returns-clause-bytes : goal.returns-clause-bytes
returns-clause-bytes c = sends_at_most
