use Rattle.std.proofs.Common.{◌++◌}
use Rattle.sctp_tx_outstanding.proofs.MessagesLemmas.{none_kept}
use Rattle.sctp_tx_outstanding.proofs.messages.Messages.begin.Goals as goal

pub returns : goal.returns
returns c = λ yes. none_kept (c.forget.new.self.sorted.items ++ c.forget.new.self.added.keys) c.forget.ensures.keys
