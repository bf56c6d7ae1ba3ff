use Rattle.std.proofs.Common.{◌≡◌, ℕ, List, length}
use Rattle.sctp_packet.specs.Chunk.{ChunkTree}
use Rattle.sctp_packet.specs.View.{AreLeft}
use Rattle.spec_endpoint.specs.Association.{EndpointState}
use Rattle.spec_endpoint.specs.Input.{receive_all}
use Rattle.sctp_endpoint.specs.GoesOn.{Continues}
use Rattle.sctp_endpoint.specs.Views.{endpoint_of}
use Rattle.sctp_association.specs.Interrupted.{StopsAmong}
use Rattle.sctp_association.proofs.input.receive_all.Given as goal

-- what is done, and what is left, give the whole
abbrev pub invariant-loop-raw : goal.invariant-loop-raw
invariant-loop-raw g l = record {
  done : (chunks : List ChunkTree) → AreLeft l.fn.view chunks → (left : List ChunkTree) × AreLeft l.view left
      × (receive_all l.tag left (endpoint_of g.R.Rng.stream g.C.Checksum.word_of l.state l.context l.rng)
      ≡ receive_all l.tag chunks (endpoint_of g.R.Rng.stream g.C.Checksum.word_of l.fn.state l.fn.context l.fn.rng));
  stops : (chunks : List ChunkTree) → AreLeft l.fn.view chunks → (left : List ChunkTree) × AreLeft l.view left
      × ((now : EndpointState (List ℕ)) → StopsAmong l.tag left (endpoint_of g.R.Rng.stream g.C.Checksum.word_of l.state l.context l.rng) now
      → StopsAmong l.tag chunks (endpoint_of g.R.Rng.stream g.C.Checksum.word_of l.fn.state l.fn.context l.fn.rng) now);
  goes_on : Continues l.fn.context l.context;
}

abbrev pub decreases-loop-raw : goal.decreases-loop-raw
decreases-loop-raw g l = length l.view.rest
