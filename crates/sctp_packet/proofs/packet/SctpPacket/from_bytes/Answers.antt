use Rattle.std.proofs.lemmas.Result.{err_from_is_err_and}
use Rattle.sctp_packet.proofs.ViewLemmas.{accepted_built, memory_refused}
use Rattle.sctp_packet.proofs.packet.SctpPacket.from_bytes.Goals as goal

pub returns-in_err-chunks-clause-refused : goal.returns-in_err-chunks-clause-refused
returns-in_err-chunks-clause-refused c =
    let p = err_from_is_err_and c.from_residual-in_err-chunks.result c.from_residual-in_err-chunks.ensures.1 in
    rw p.1 (memory_refused c.args.policy.now c.args.word c.args.bytes.now _ p.0 c.in_err-chunks.ensures.refused p.2)

pub returns-clause-packet : goal.returns-clause-packet
returns-clause-packet c =
    accepted_built c.args.policy.now c.args.word c.args.bytes.now c.in_ok-view.view _ _ _ c.in_ok-view.ensures.packet c.in_ok-chunks.ensures.ok c.header-common_header.ensures.header c.header-common_header.ensures.checksum
