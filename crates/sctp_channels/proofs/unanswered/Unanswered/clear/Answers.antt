use Rattle.sctp_channels.proofs.UnansweredLemmas.{waiting_none}
use Rattle.sctp_channels.proofs.unanswered.Unanswered.clear.Goals as goal

pub invariant_of-self : goal.invariant_of-self
invariant_of-self c = waiting_none c.clear-2.new.self.keys c.clear.new.self.items c.clear-2.ensures.empty c.clear.ensures.items
