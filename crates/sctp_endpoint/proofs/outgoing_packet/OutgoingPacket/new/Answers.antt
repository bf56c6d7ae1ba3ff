use Rattle.sctp_endpoint.proofs.OutgoingLemmas.{none_short}
use Rattle.sctp_endpoint.proofs.outgoing_packet.OutgoingPacket.new.Goals as goal

pub invariant_of-result : goal.invariant_of-result
invariant_of-result c = record { small = c.requires; short = none_short _ c.args.limit c.new.ensures }
