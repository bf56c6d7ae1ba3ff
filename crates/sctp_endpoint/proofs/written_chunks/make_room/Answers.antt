use Rattle.std.proofs.Common.{refl, ◌∙◌, arith}
use Rattle.sctp_endpoint.proofs.WrittenLemmas.{header_room}
use Rattle.sctp_endpoint.proofs.written_chunks.make_room.Goals as goal

pub returns-clause-body : goal.returns-clause-body
returns-clause-body c =
    header_room c.extend_from_slice.result c.args.bytes.now.items _ _ _ (omega (arith, c.if-len-ge-COMMON_HEADER_SIZE.false, c.len.ensures, c.args.bytes.now.ok.0))
    (c.in_ok-reserve.ensures.items ∙ c.clear.ensures.items) refl c.extend_from_slice.ensures.items
