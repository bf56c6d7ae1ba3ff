use Rattle.std.proofs.Common.{◌≡◌, IfOk, subst}
use Rattle.sctp_packet.specs.Chunk.{ChunkTree}
use Rattle.sctp_packet.specs.Views.{raw_chunk}
use Rattle.sctp_endpoint.specs.Views.{endpoint_of, after_chunk_of}
use Rattle.spec_endpoint.specs.Input as table
use Rattle.sctp_association.proofs.PlaceLemmas.{carries_it}
use Rattle.sctp_association.proofs.input.receive_in_place.Goals as goal

pub returns-in-Some-clause-ok : goal.returns-in-Some-clause-ok
returns-in-Some-clause-ok g c =
    λ t is.
    subst (λ (u : ChunkTree). IfOk c.receive_data.result (λ goes_on. after_chunk_of g.R.Rng.stream g.C.Checksum.word_of c.receive_data.new.state c.receive_data.new.context c.args.rng.now goes_on
    ≡ table.receive c.args.tag u (endpoint_of g.R.Rng.stream g.C.Checksum.word_of c.args.state.now c.args.context.now c.args.rng.now)))
    (carries_it (raw_chunk c.args.raw) c.in-Some.fragment t c.in-Some.ensures.data c.in-Some.ensures.idata c.in-Some.ensures.carrier is)
    (c.receive_data.ensures.ok c.args.tag (g.R.Rng.stream c.args.rng.now))
