use Rattle.std.proofs.Common.{ap, sym, ◌∙◌}
use Rattle.sctp_packet.specs.Packet.{HeaderTree}
use Rattle.spec_endpoint.specs.Input.{packet_refusal}
use Rattle.sctp_endpoint.specs.Views.{state_of}
use Rattle.sctp_handshake.proofs.OutlineLemmas.{few_refused}
use Rattle.sctp_handshake.proofs.validation.refusal_of.Goals as goal

pub returns : goal.returns
returns c =
    λ chunks from.
    let s = state_of c.args.state.now in
    c.validate_packet.ensures ∙ (few_refused c.of.result c.header.result.verification_tag chunks s (c.of.ensures chunks from) (sym c.if-has_more_counted.false ∙ c.has_more_counted.ensures chunks from)
    ∙ ap (λ (h : HeaderTree). packet_refusal h.verification_tag chunks s) c.header.ensures.header)
