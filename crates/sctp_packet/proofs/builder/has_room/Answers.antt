use Rattle.std.proofs.Common.{rules}
use Rattle.sctp_control_chunk.specs.ChunkView.{chunk_tree}
use Rattle.sctp_packet.proofs.BuilderLemmas.{size_of_chunk}
use Rattle.sctp_packet.proofs.builder.has_room.Goals as goal

pub returns : goal.returns
returns c = rw (← size_of_chunk (chunk_tree c.args.chunk.now) c.serialized_size-size.result c.requires c.serialized_size-size.ensures) (search rules)
