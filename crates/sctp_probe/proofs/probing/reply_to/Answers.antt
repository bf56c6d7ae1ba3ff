use Rattle.std.proofs.Common.{arith}
use Rattle.sctp_packet.specs.ChunkView.{chunk_tree}
use Rattle.sctp_packet.specs.PacketView.{header_tree}
use Rattle.sctp_probe.proofs.ProbeLemmas.{reply_encodable, length_reply, reply_made}
use Rattle.sctp_probe.proofs.probing.reply_to.Goals as goal

pub add-requires-clause-encodable : goal.add-requires-clause-encodable
add-requires-clause-encodable c = rw c.reply_chunk-sack.ensures (reply_encodable c.args.tsn.0)

pub add-requires-clause-fits : goal.add-requires-clause-fits
add-requires-clause-fits c = rw (c.reply_chunk-sack.ensures, c.new-builder.ensures) (omega (arith, length_reply c.args.tsn.0))

pub returns : goal.returns
returns c =
    reply_made (header_tree c.args.header) 28 c.args.tsn.0 c.new-builder.result c.add.new.self (chunk_tree c.reply_chunk-sack.result) c.unsummed.result.now c.build.result.items
    c.word_of-word.result c.new-builder.ensures c.reply_chunk-sack.ensures c.in_ok-add.ensures.ok c.unsummed.ensures c.word_of-word.ensures c.build.ensures.packet
