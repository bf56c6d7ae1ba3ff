use Rattle.std.proofs.Common.{◌∙◌, ℕ, List, ap}
use Rattle.spec_endpoint.specs.Association.{EndpointState}
use Rattle.spec_endpoint.specs.Input.{has_data_chunk, receive_all}
use Rattle.sctp_endpoint.specs.Views.{endpoint_of, endpoint_state_of}
use Rattle.sctp_association.proofs.InterruptedLemmas.{stops_before, stops_behind, where_err}
use Rattle.sctp_association.proofs.input.handle_accepted_packet.Goals as goal

pub returns-in_err-repeat_if-clause-stops : goal.returns-in_err-repeat_if-clause-stops
returns-in_err-repeat_if-clause-stops g c =
    λ chunks from.
    let was = endpoint_of g.R.Rng.stream g.C.Checksum.word_of c.args.state.now c.args.context.now c.args.rng.now in
    let now = endpoint_state_of g.C.Checksum.word_of c.repeat_if.new.state c.repeat_if.new.context in
    where_err c.from_residual.result (stops_before c.args.tag chunks (has_data_chunk chunks) was now c.repeat_if.ensures.received c.repeat_if.ensures.goes_on.emitted.announced)

pub returns-clause-stops : goal.returns-clause-stops
returns-clause-stops g c =
    λ chunks from.
    let now = endpoint_state_of g.C.Checksum.word_of c.on_packet_end.new.state c.on_packet_end.new.context in
    let repeated = ap (λ (u : EndpointState (List ℕ)). receive_all c.args.tag chunks (record { endpoint_state = u; draws = g.R.Rng.stream c.args.rng.now })) (c.in_ok-repeat_if.ensures.ok chunks from) in
    where_err c.on_packet_end.result (stops_behind c.args.tag chunks _ (endpoint_of g.R.Rng.stream g.C.Checksum.word_of c.receive_all.new.state c.receive_all.new.context c.receive_all.new.rng)
    now (c.in_ok-receive_all.ensures.ok chunks from ∙ repeated) c.on_packet_end.ensures.received c.on_packet_end.ensures.goes_on.emitted.announced)
