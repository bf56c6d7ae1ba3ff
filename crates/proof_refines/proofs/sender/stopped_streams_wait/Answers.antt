use Rattle.proof_refines.proofs.LineRowLemmas.{calls_keep_line, next_flows, produces_pause}
use Rattle.proof_refines.proofs.sender.stopped_streams_wait.Goals as goal

pub returns : goal.returns
returns c = record {
  line = calls_keep_line;
  next = λ x q ordered numbered line paused id e. next_flows x q ordered line paused id e;
  produces = λ x q ordered numbered line paused now size emitted some. produces_pause x now size some q emitted ordered numbered line paused;
}
