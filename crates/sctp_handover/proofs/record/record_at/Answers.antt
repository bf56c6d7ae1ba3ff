use Rattle.std.proofs.Common.{Bool, ap, ◌∙◌, arith, false}
use Rattle.sctp_handover.proofs.FieldLemmas.{state_back}
use Rattle.sctp_handover.proofs.OpenLemmas.{opened_record}
use Rattle.sctp_handover.specs.Bytes.{is_connected}
use Rattle.sctp_handover.proofs.record.record_at.Goals as goal

pub returns : goal.returns
returns c = λ h fits e.
    let opened = e ∙ opened_record h in
    let version_is = c.number32_at-version.ensures 1 _ (omega arith) opened in
    let is_connected_is = c.flags_at-is_connected.ensures (is_connected h.socket_state) false false false _ version_is.1 in
    let my_verification_tag_is = c.number32_at-my_verification_tag.ensures h.my_verification_tag _ fits.my_verification_tag is_connected_is.1 in
    let my_initial_tsn_is = c.number32_at-my_initial_tsn.ensures h.my_initial_tsn _ fits.my_initial_tsn my_verification_tag_is.1 in
    let peer_verification_tag_is = c.number32_at-peer_verification_tag.ensures h.peer_verification_tag _ fits.peer_verification_tag my_initial_tsn_is.1 in
    let peer_initial_tsn_is = c.number32_at-peer_initial_tsn.ensures h.peer_initial_tsn _ fits.peer_initial_tsn peer_verification_tag_is.1 in
    let tie_tag_is = c.number64_at-tie_tag.ensures h.tie_tag _ fits.tie_tag peer_initial_tsn_is.1 in
    let capabilities_is = c.capabilities_at.ensures h.capabilities _ fits.capabilities tie_tag_is.1 in
    let rx_is = c.in_ok-rx.ensures h.rx _ fits.rx capabilities_is.1 in
    let tx_is = c.in_ok-tx.ensures h.tx _ fits.tx rx_is.1 in
    λ j. record { my_verification_tag = my_verification_tag_is.0 j; my_initial_tsn = my_initial_tsn_is.0 j; peer_verification_tag = peer_verification_tag_is.0 j; peer_initial_tsn = peer_initial_tsn_is.0 j; tie_tag = tie_tag_is.0 j; capabilities = capabilities_is.0 j; rx = rx_is.0 j; tx = tx_is.0 j; socket_state = (c.state_of.ensures ∙ state_back _ h.socket_state (ap (λ (t : Bool × Bool × Bool × Bool). t.0) is_connected_is.0)) j }
