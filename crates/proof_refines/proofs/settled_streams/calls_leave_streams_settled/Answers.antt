use Rattle.sctp_reassembly.specs.ReassemblyQueue.{Reassembly, reassembly}
use Rattle.std.proofs.Common.{true}
use Rattle.proof_refines.proofs.SettledStreamsLemmas.{settled_none, settled_add, settled_skip, settled_dropped, settled_point, settled_reset}
use Rattle.proof_refines.proofs.SettledQueueLemmas.{settled_restored}
use Rattle.proof_refines.proofs.settled_streams.calls_leave_streams_settled.Goals as goal

pub returns-clause-new : goal.returns-clause-new
returns-clause-new c b = settled_none b

pub returns-clause-add : goal.returns-clause-add
returns-clause-add c tsn f ss h = settled_add ss h tsn f

pub returns-clause-skip : goal.returns-clause-skip
returns-clause-skip c e ss h = settled_skip ss h e

pub returns-clause-drop_to : goal.returns-clause-drop_to
returns-clause-drop_to c tsn ss h = settled_dropped ss h tsn

pub returns-clause-forward : goal.returns-clause-forward
returns-clause-forward c tsn es ss h = settled_point tsn es ss h

pub returns-clause-reset : goal.returns-clause-reset
returns-clause-reset c ids ss h = settled_reset ss h ids

pub returns-clause-restored : goal.returns-clause-restored
returns-clause-restored c rx ss = let r : Reassembly = record (reassembly 0 true) { streams = ss } in settled_restored rx r
