use Rattle.std.proofs.Common.{◌∙◌}
use Rattle.sctp_tx_outstanding.proofs.ReceivedLemmas.{knows_pushed}
use Rattle.sctp_tx_outstanding.proofs.last_blocks.LastBlocks.take.Goals as goal

pub returns : goal.returns
returns c = λ is i e known. knows_pushed c.args.self.now is i (e ∙ c.if-acked.false) known
