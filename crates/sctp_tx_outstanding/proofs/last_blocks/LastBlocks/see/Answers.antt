use Rattle.std.proofs.Common.{rules}
use Rattle.sctp_tx_outstanding.proofs.ReceivedLemmas.{knows_changed}
use Rattle.sctp_tx_outstanding.proofs.last_blocks.LastBlocks.see.Goals as goal

pub returns : goal.returns
returns c = knows_changed c.args.self.now c.args.how (search rules)
