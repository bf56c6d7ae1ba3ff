use Rattle.std.proofs.Common.{◌∙◌}
use Rattle.sctp_endpoint.proofs.OutgoingLemmas.{none_short}
use Rattle.sctp_endpoint.proofs.outgoing_packet.OutgoingPacket.swap_memory.Goals as goal

pub invariant_of-self : goal.invariant_of-self
invariant_of-self c = record { small = c.self.invariant.small; short = none_short _ c.self.inside.limit (c.swap.ensures.x_after ∙ c.clear.ensures) }
