-- Each part of a list has a byte at least.
use Rattle.std.specs.Prelude.{◌≡◌, ℕ, List, [], ◌∷◌, refl}
use Rattle.sctp_wire.specs.Field.{be16}
use Rattle.sctp_state.specs.Handover.{OutstandingData, StreamMessage}
use Rattle.sctp_state.specs.declared.api.handover.HandoverOrderedStream.{HandoverOrderedStream}
use Rattle.sctp_state.specs.declared.api.handover.HandoverOutgoingStream.{HandoverOutgoingStream}
use Rattle.sctp_state.specs.declared.api.handover.HandoverUnorderedStream.{HandoverUnorderedStream}
use Rattle.sctp_handover.specs.Bytes.{flag_bytes, data_bytes, message_bytes, ordered_bytes, outgoing_bytes, unordered_bytes}

abbrev pub HasBytes : List ℕ → Type 0
HasBytes bytes = (first : ℕ) × (rest : List ℕ) × (bytes ≡ first ∷ rest)

pub outgoing_has_bytes : (s : HandoverOutgoingStream) → HasBytes (outgoing_bytes s)
unfolding outgoing_bytes be16
outgoing_has_bytes s = (_, _, refl)

pub ordered_has_bytes : (s : HandoverOrderedStream) → HasBytes (ordered_bytes s)
unfolding ordered_bytes be16
ordered_has_bytes s = (_, _, refl)

pub unordered_has_bytes : (s : HandoverUnorderedStream) → HasBytes (unordered_bytes s)
unfolding unordered_bytes be16
unordered_has_bytes s = (_, _, refl)

pub message_has_bytes : (m : StreamMessage) → HasBytes (message_bytes m)
unfolding message_bytes flag_bytes
message_has_bytes m = (_, _, refl)

pub data_has_bytes : (d : OutstandingData) → HasBytes (data_bytes d)
unfolding data_bytes flag_bytes
data_has_bytes d = (_, _, refl)
