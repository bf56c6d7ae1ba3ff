use Rattle.sctp_packet.specs.Views.{raw_chunk}
use Rattle.sctp_endpoint.specs.Views.{endpoint_state_of, sack_of}
use Rattle.sctp_association.proofs.PlaceLemmas.{sack_received}
use Rattle.sctp_association.proofs.input.receive_sack.Goals as goal

pub returns-clause-ok : goal.returns-clause-ok
returns-clause-ok g c =
    λ tag words t is.
    sack_received tag words (raw_chunk c.args.raw) (sack_of c.in_ok-sack.sack) t (endpoint_state_of g.C.Checksum.word_of c.args.state.now c.args.context.now)
    (endpoint_state_of g.C.Checksum.word_of c.handle_sack.new.state c.handle_sack.new.context) c.in_ok-sack.ensures is c.in_ok-handle_sack.ensures.ok
