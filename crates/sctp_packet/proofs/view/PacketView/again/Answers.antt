use Rattle.sctp_packet.proofs.view.PacketView.again.Goals as goal

pub invariant_of-result : goal.invariant_of-result
invariant_of-result c = c.self.invariant
