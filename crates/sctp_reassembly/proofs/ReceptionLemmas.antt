-- What a valid record says of what was received.
use Rattle.std.proofs.Common.{◌≡◌, true, ap, sym, ◌∙◌}
use Rattle.std.specs.Prelude.{◌&&◌, nat_lt}
use Rattle.sctp_state.specs.declared.api.handover.HandoverSocketState.{HandoverSocketState}
use Rattle.sctp_state.specs.declared.api.handover.HandoverSocketState.TheVariants.{Connected}
use Rattle.sctp_state.specs.Handover.{HandoverState}
use Rattle.sctp_state.specs.Validity.{is_valid_as, is_valid_state, is_valid_connection, is_valid_reception, is_valid_transmission}
use Rattle.std.proofs.lemmas.Bool.{and_parts}

pub valid_reception : (s : HandoverState) → s.socket_state ≡ Connected → is_valid_state s ≡ true → is_valid_reception s.capabilities.message_interleaving s.rx ≡ true
valid_reception s connected valid =
    let received = is_valid_reception s.capabilities.message_interleaving s.rx in
    let sent = is_valid_transmission s.capabilities.message_interleaving s.tx in
    let all : is_valid_connection s ≡ true = ap (λ (t : HandoverSocketState). is_valid_as t s) (sym connected) ∙ valid in
    let tagged = and_parts (nat_lt 0 s.my_verification_tag) (nat_lt 0 s.peer_verification_tag && (received && sent)) all in
    let both = and_parts (nat_lt 0 s.peer_verification_tag) (received && sent) tagged.1 in
    (and_parts received sent both.1).0
