use Rattle.proof_endpoint.proofs.MappedLemmas.{bytes_written}
use Rattle.proof_endpoint.proofs.bytes_are_written_chunks.Goals as goal

pub returns : goal.returns
returns c = record { calls = bytes_written }
