use Rattle.sctp_channels.proofs.UnansweredLemmas.{waiting_none}
use Rattle.sctp_channels.proofs.unanswered.Unanswered.new.Goals as goal

pub invariant_of-result : goal.invariant_of-result
invariant_of-result c = waiting_none c.new-2.result.keys c.new.result.items c.new-2.ensures.empty c.new.ensures.items
