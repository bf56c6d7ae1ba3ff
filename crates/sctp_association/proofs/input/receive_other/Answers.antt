use Rattle.std.proofs.Common.{◌≡◌, IfOk, subst}
use Rattle.sctp_packet.specs.ChunkView.{chunk_tree}
use Rattle.sctp_packet.specs.Chunk.{ChunkTree}
use Rattle.sctp_packet.specs.Views.{raw_chunk}
use Rattle.sctp_packet.proofs.OneChunkLemmas.{one_chunk}
use Rattle.sctp_endpoint.specs.Views.{endpoint_of, after_chunk_of}
use Rattle.spec_endpoint.specs.Input as table
use Rattle.sctp_association.proofs.PlaceLemmas.{carries_none}
use Rattle.sctp_association.proofs.input.receive_other.Goals as goal

pub receive-requires : goal.receive-requires
receive-requires g c =
    carries_none (raw_chunk c.args.raw) (chunk_tree c.in_ok-chunk.chunk) c.requires.no_data c.requires.no_idata c.in_ok-chunk.ensures

pub returns-clause-ok : goal.returns-clause-ok
returns-clause-ok g c =
    λ t is.
    subst (λ (u : ChunkTree). IfOk c.receive.result (λ goes_on. after_chunk_of g.R.Rng.stream g.C.Checksum.word_of c.receive.new.state c.receive.new.context c.receive.new.rng goes_on
    ≡ table.receive c.args.tag u (endpoint_of g.R.Rng.stream g.C.Checksum.word_of c.args.state.now c.args.context.now c.args.rng.now)))
    (one_chunk (raw_chunk c.args.raw) (chunk_tree c.in_ok-chunk.chunk) t c.in_ok-chunk.ensures is) c.receive.ensures.ok
