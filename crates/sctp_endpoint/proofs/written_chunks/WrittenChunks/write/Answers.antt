use Rattle.sctp_endpoint.proofs.WrittenLemmas.{never_full, one_more}
use Rattle.sctp_endpoint.proofs.written_chunks.WrittenChunks.write.Goals as goal

pub invariant_of-self-2 : goal.invariant_of-self-2
invariant_of-self-2 g c =
    let i = g.T.SerializableTlv.item_of c.args.chunk.now in
    let never = never_full c.serialize_to.result i _ c.serialized_size.result _ c.requires.encodable c.serialized_size.ensures c.in_ok-make_room.ensures.room c.serialize_to.ensures.room.full in
    record { bytes = one_more c.serialize_to.result c.self.inside.bytes.items _ _ _ _ c.args.written i never c.self.invariant.bytes c.make_room.ensures.body c.in_ok-make_room.ensures.header c.in_ok-push.ensures.items c.requires.same c.serialize_to.ensures.wrote }
