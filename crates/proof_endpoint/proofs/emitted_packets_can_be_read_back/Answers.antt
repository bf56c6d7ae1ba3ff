use Rattle.proof_endpoint.proofs.SoundLawsLemmas.{can_be_read, can_be_read_refused, chunks_read_back}
use Rattle.proof_endpoint.proofs.SoundReceivedLemmas.{chunks_are_received, can_be_received}
use Rattle.proof_endpoint.proofs.emitted_packets_can_be_read_back.Goals as goal

pub returns-clause-chunks : goal.returns-clause-chunks
returns-clause-chunks c = chunks_read_back

pub returns-clause-as_put_in : goal.returns-clause-as_put_in
returns-clause-as_put_in c = chunks_are_received

pub returns-clause-bytes : goal.returns-clause-bytes
returns-clause-bytes c = can_be_read

pub returns-clause-refusals : goal.returns-clause-refusals
returns-clause-refusals c = can_be_read_refused

pub returns-clause-received : goal.returns-clause-received
returns-clause-received c = can_be_received
