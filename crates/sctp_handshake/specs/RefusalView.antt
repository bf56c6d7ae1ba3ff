-- What is emitted of packets that aren't taken.
use Rattle.std.specs.Prelude.{ℕ, List, codes}
use Rattle.spec_endpoint.specs.Input.{wrong_tag_text}
use Rattle.sctp_handshake.specs.declared.validation.Refusal.{Refusal}
use Rattle.sctp_handshake.specs.declared.validation.Refusal.TheVariants as refusals

abbrev pub refusal_text : Refusal → List ℕ
refusal_text refusals.Abort = codes "ABORT chunk verification tag was wrong"
refusal_text refusals.ShutdownComplete = codes "SHUTDOWN_COMPLETE chunk verification tag was wrong"
refusal_text refusals.ShutdownAck = codes "SHUTDOWN_ACK chunk verification tag was wrong"
refusal_text refusals.ManyCounted = codes "More than 4 SACK and COOKIE ECHO chunks present in packet"
refusal_text refusals.NoSingleInit = codes "Only a single INIT chunk can be present in packets sent on verification_tag = 0"
refusal_text (refusals.WrongTag tag own) = wrong_tag_text tag own
