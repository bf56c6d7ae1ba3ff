use Rattle.std.proofs.Common.{◌≡◌, length, drop, ap, arith}
use Rattle.sctp_packet.specs.Packet.{unsummed_bytes}
use Rattle.sctp_packet.specs.PacketView.{header_tree}
use Rattle.sctp_packet.proofs.BuilderLemmas.{headed, headed_body, headed_whole, builder}
use Rattle.sctp_packet.proofs.builder.SctpPacketBuilder.set_written.Goals as goal

pub invariant_of-self : goal.invariant_of-self
invariant_of-self c =
    let full : length c.args.bytes.items ≡ c.self.inside.limit = rw (← c.self.view_is) at c.requires.full in
    let wrote : c.write_header.new.bytes ≡ unsummed_bytes (header_tree c.self.inside.header) (drop 12 c.args.bytes.items) = rw (c.deref_mut.ensures.value) at c.write_header.ensures in
    let whole = headed_whole (header_tree c.self.inside.header) c.args.bytes.len c.args.bytes.items c.write_header.new.bytes _ c.args.bytes.ok.0 c.requires.some wrote in
    record {
      packet = headed (header_tree c.self.inside.header) c.self.inside.limit c.args.bytes.items _ whole c.requires.some full;
      reserved = λ _. omega (arith, full, c.args.bytes.ok);
    }

pub returns : goal.returns
returns c =
    let wrote : c.write_header.new.bytes ≡ unsummed_bytes (header_tree c.self.inside.header) (drop 12 c.args.bytes.items) = rw (c.deref_mut.ensures.value) at c.write_header.ensures in
    let whole = headed_whole (header_tree c.self.inside.header) c.args.bytes.len c.args.bytes.items c.write_header.new.bytes _ c.args.bytes.ok.0 c.requires.some wrote in
    rw (← c.self.view_is) (ap (builder (header_tree c.self.inside.header) c.self.inside.limit c.self.inside.write_checksum) (headed_body (header_tree c.self.inside.header) c.self.inside.limit c.args.bytes.items _ whole))
