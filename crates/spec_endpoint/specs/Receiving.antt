-- What an end makes of bytes.
use Rattle.std.specs.Prelude.{◌≡◌, ℕ, Bool, true, false, Some, None, List}
use Rattle.sctp_wire.specs.declared.checksum.Policy.{Policy}
use Rattle.sctp_packet.specs.Packet.{PacketTree, Accepts, Refuses, IsFault}
use Rattle.sctp_packet.specs.declared.packet.PacketParseError.{PacketParseError}
use Rattle.sctp_state.specs.Options.{Options}
use Rattle.spec_endpoint.specs.Association.{State, Endpoint}
use Rattle.spec_endpoint.specs.Input.{packet_refusal, on_packet, on_no_packet}
use Rattle.spec_endpoint.specs.Wire.{word_at}

-- what is asked of the checksum of a packet that comes
abbrev pub policy_of : Options → Policy
policy_of o = record {
  disable_checksum_verification = o.disable_checksum_verification;
  zero_checksum_alternate_error_detection_method = record { 0 = o.zero_checksum_method };
}

-- What an end makes of bytes: of a packet what the table says, and else an error.
pub data Receives (word_of : List ℕ → ℕ) (bytes : List ℕ) (s t : Endpoint (List ℕ)) : Type 0 where
  read : (p : PacketTree) → Accepts (policy_of s.endpoint_state.context.options) (word_at word_of bytes) bytes p → t ≡ on_packet p s → Receives word_of bytes s t
  not_read : (fault : PacketParseError) → IsFault fault → Refuses (policy_of s.endpoint_state.context.options) (word_at word_of bytes) bytes fault
      → t ≡ on_no_packet s → Receives word_of bytes s t

-- Whether an end would refuse bytes: they are no packet, not one for its association, or one of more than 4 SACKs and COOKIE ECHOs.
pub data Judges (word_of : List ℕ → ℕ) (bytes : List ℕ) (o : Options) (s : State) (is_refused : Bool) : Type 0 where
  taken : (p : PacketTree) → Accepts (policy_of o) (word_at word_of bytes) bytes p → packet_refusal p.header.verification_tag p.chunks s ≡ None
      → is_refused ≡ false → Judges word_of bytes o s is_refused
  refused : (p : PacketTree) (text : List ℕ) → Accepts (policy_of o) (word_at word_of bytes) bytes p
      → packet_refusal p.header.verification_tag p.chunks s ≡ Some text → is_refused ≡ true → Judges word_of bytes o s is_refused
  unread : (fault : PacketParseError) → IsFault fault → Refuses (policy_of o) (word_at word_of bytes) bytes fault → is_refused ≡ true
      → Judges word_of bytes o s is_refused
