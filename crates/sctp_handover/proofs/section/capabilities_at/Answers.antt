use Rattle.std.proofs.Common.{Bool, ap, ◌∙◌}
use Rattle.sctp_handover.proofs.OpenLemmas.{opened_capability}
use Rattle.sctp_handover.proofs.section.capabilities_at.Goals as goal

pub returns : goal.returns
returns c = λ k after fits e.
    let opened = e ∙ opened_capability k after in
    let partial_reliability_is = c.flags_at-partial_reliability.ensures k.partial_reliability k.message_interleaving k.reconfig k.zero_checksum _ opened in
    let negotiated_maximum_incoming_streams_is = c.number16_at-negotiated_maximum_incoming_streams.ensures k.negotiated_maximum_incoming_streams _ fits.incoming partial_reliability_is.1 in
    let negotiated_maximum_outgoing_streams_is = c.number16_at-negotiated_maximum_outgoing_streams.ensures k.negotiated_maximum_outgoing_streams _ fits.outgoing negotiated_maximum_incoming_streams_is.1 in
    (λ j. record { negotiated_maximum_incoming_streams = negotiated_maximum_incoming_streams_is.0 j; negotiated_maximum_outgoing_streams = negotiated_maximum_outgoing_streams_is.0 j; partial_reliability = (ap (λ (t : Bool × Bool × Bool × Bool). t.0) partial_reliability_is.0) j; message_interleaving = (ap (λ (t : Bool × Bool × Bool × Bool). t.1) partial_reliability_is.0) j; reconfig = (ap (λ (t : Bool × Bool × Bool × Bool). t.2) partial_reliability_is.0) j; zero_checksum = (ap (λ (t : Bool × Bool × Bool × Bool). t.3) partial_reliability_is.0) j }, negotiated_maximum_outgoing_streams_is.1)
