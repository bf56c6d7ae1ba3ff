use Rattle.std.proofs.Common.{arith}
use Rattle.std.proofs.lemmas.Grind.{common_steps}
use Rattle.sctp_tx_queue.proofs.send_queue.messages.hand_over_all.Goals as goal

pub loop-message-preserved : goal.loop-message-preserved
loop-message-preserved c = grind (arith, common_steps)
