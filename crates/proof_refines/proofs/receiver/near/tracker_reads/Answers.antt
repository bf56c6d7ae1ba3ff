use Rattle.proof_refines.proofs.NearTsnLemmas.{tracker_reads}
use Rattle.proof_refines.proofs.receiver.near.tracker_reads.Goals as goal

pub returns : goal.returns
returns c = record { read = tracker_reads }
