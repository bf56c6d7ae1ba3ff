use Rattle.std.proofs.Common.{sym, ◌∙◌}
use Rattle.sctp_endpoint.specs.WrittenChunks.{written_tree}
use Rattle.sctp_endpoint.proofs.OutgoingLemmas.{more_short_if, fits_as, length_as}
use Rattle.sctp_endpoint.proofs.outgoing_packet.OutgoingPacket.write.Goals as goal

pub returns-then-not-has_room_for-clause-test : goal.returns-then-not-has_room_for-clause-test
returns-then-not-has_room_for-clause-test g c =
    let t = written_tree c.args.written in
    let same = fits_as (g.T.SerializableTlv.item_of c.args.chunk.now) (g.T.SerializableTlv.parts_agree c.args.chunk.now) t c.args.self.now c.requires.same c.requires.whole in
    sym c.if-not-has_room_for.true ∙ (c.has_room_for.ensures.test ∙ same)

pub invariant_of-self-2 : goal.invariant_of-self-2
invariant_of-self-2 g c =
    let t = written_tree c.args.written in
    let room = rw (← c.self.view_is, length_as (g.T.SerializableTlv.item_of c.args.chunk.now) t c.requires.same) at c.has_room_for.ensures.room c.if-not-has_room_for.false in
    record {
      small = c.self.invariant.small;
      short = more_short_if c.write.result c.self.inside.chunks c.write.new.self t c.self.inside.limit c.write.ensures.ok c.write.ensures.err c.self.invariant.short room;
    }

pub returns-clause-test : goal.returns-clause-test
returns-clause-test g c =
    let t = written_tree c.args.written in
    let same = fits_as (g.T.SerializableTlv.item_of c.args.chunk.now) (g.T.SerializableTlv.parts_agree c.args.chunk.now) t c.args.self.now c.requires.same c.requires.whole in
    sym c.if-not-has_room_for.false ∙ (c.has_room_for.ensures.test ∙ same)
