use Rattle.sctp_channels.proofs.UnansweredLemmas.{waiting_less}
use Rattle.sctp_channels.proofs.unanswered.Unanswered.take_first.Goals as goal

pub invariant_of-self-2 : goal.invariant_of-self-2
invariant_of-self-2 c =
    waiting_less c.in_ok-id.id c.self.inside.waiting.keys c.remove.new.self.keys c.self.inside.streams.items c.take_first.new.queue.items c.self.invariant c.in_ok-id.ensures.taken c.remove.ensures.updates.0
