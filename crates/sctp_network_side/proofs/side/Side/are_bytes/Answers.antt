use Rattle.std.proofs.Common.{ap}
use Rattle.sctp_network_side.specs.SideView.{SideValue}
use Rattle.sctp_network_side.proofs.PacketLemmas.{from_place}
use Rattle.sctp_network_side.proofs.side.Side.are_bytes.Goals as goal

pub returns-in-Some : goal.returns-in-Some
returns-in-Some g c = record {
  bytes = from_place (λ bytes. bytes.items) c.self.inside.packets.items c.deref.result.now c.in-Some.packets.now c.args.first c.args.self.now.packets c.deref.ensures.value
      (ap (λ (side : SideValue _ _). side.packets) c.self.view_is) c.in-Some.ensures.lookup.0.2 c.packets_fit.ensures.fit;
}
