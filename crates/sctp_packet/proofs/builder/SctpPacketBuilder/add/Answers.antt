use Rattle.std.proofs.Common.{drop, ap, ◌∙◌}
use Rattle.sctp_packet.specs.Builder.{BuilderTree}
use Rattle.sctp_packet.specs.PacketView.{header_tree}
use Rattle.sctp_chunk.specs.Written.{chunk_bytes}
use Rattle.sctp_control_chunk.specs.ChunkView.{chunk_tree}
use Rattle.sctp_packet.proofs.BuilderLemmas.{still_packet, still_reserved, added_body, holds_more, builder, chunk_is_some}
use Rattle.sctp_packet.proofs.builder.SctpPacketBuilder.add.Goals as goal

pub invariant_of-self-in_default : goal.invariant_of-self-in_default
invariant_of-self-in_default c =
    let room = rw (← c.self.view_is) at c.requires.fits in
    record {
      packet = still_packet (header_tree c.self.inside.header) c.self.inside.limit c.self.inside.bytes.items c.push_chunk.new.bytes.items (chunk_bytes (chunk_tree c.args.chunk.now)) c.self.invariant.packet c.in_default.ensures.first c.in_default.ensures.more (chunk_is_some (chunk_tree c.args.chunk.now)) room;
      reserved = λ some. still_reserved c.self.inside.bytes.items c.self.inside.limit _ _ c.self.invariant.reserved c.in_default.ensures.reserved (λ before. (c.in_default.ensures.room before).capacity);
    }

pub returns-clause-ok : goal.returns-clause-ok
returns-clause-ok c =
    rw (← c.self.view_is) (ap (builder (header_tree c.self.inside.header) c.self.inside.limit c.self.inside.write_checksum)
    (added_body (header_tree c.self.inside.header) c.self.inside.limit c.self.inside.bytes.items c.push_chunk.new.bytes.items (chunk_bytes (chunk_tree c.args.chunk.now)) c.self.invariant.packet c.in_default.ensures.first c.in_default.ensures.more))

pub returns-clause-holds : goal.returns-clause-holds
returns-clause-holds c chunks held =
    holds_more (drop 12 c.self.inside.bytes.items) (drop 12 c.push_chunk.new.bytes.items) chunks (chunk_tree c.args.chunk.now)
    (ap (λ (b : BuilderTree). b.body) c.self.view_is ∙ held)
    (added_body (header_tree c.self.inside.header) c.self.inside.limit c.self.inside.bytes.items c.push_chunk.new.bytes.items (chunk_bytes (chunk_tree c.args.chunk.now)) c.self.invariant.packet c.in_default.ensures.first c.in_default.ensures.more)
