-- Chunks that are read back as soon as they can be written; and what an end uses of those that it receives.
use Rattle.std.specs.Prelude.{◌≡◌, ℕ, ◌<◌, ◌^◌, false, length}
use Rattle.sctp_wire.specs.Parameter.{ParameterTree, IsOfItsVariant, ParameterFits}
use Rattle.sctp_wire.specs.Cause.{CauseTree, CauseIsOfItsVariant, CauseFits}
use Rattle.sctp_wire.specs.ReadBack.{IsText}
use Rattle.sctp_packet.specs.Chunk.{ChunkTree, data_chunk, init_chunk, init_ack_chunk, heartbeat_request_chunk, heartbeat_ack_chunk, abort_chunk, error_chunk, cookie_echo_chunk, idata_chunk, re_config_chunk, unknown_chunk}
use Rattle.sctp_packet.specs.Written.{is_known_chunk}
use Rattle.sctp_packet.specs.Grammar.{Each, FitsChunk}
use Rattle.proof_endpoint.specs.Sound.{HasBytes}

pub record IsFairParameter (t : ParameterTree) : Type 0 where
  pub fits : ParameterFits t
  pub of_its_variant : IsOfItsVariant t

pub record IsFairCause (t : CauseTree) : Type 0 where
  pub fits : CauseFits t
  pub text : IsText t
  pub of_its_variant : CauseIsOfItsVariant t

-- what makes it readable, but for the lengths inside
abbrev pub IsFairInside : ChunkTree → Type 0
IsFairInside (init_chunk init) = Each IsFairParameter init.parameters
IsFairInside (init_ack_chunk init) = Each IsFairParameter init.parameters
IsFairInside (heartbeat_request_chunk parameters) = Each IsFairParameter parameters
IsFairInside (heartbeat_ack_chunk parameters) = Each IsFairParameter parameters
IsFairInside (re_config_chunk parameters) = Each IsFairParameter parameters
IsFairInside (abort_chunk reflected causes) = Each IsFairCause causes
IsFairInside (error_chunk causes) = Each IsFairCause causes
IsFairInside (cookie_echo_chunk cookie) = 0 < length cookie
IsFairInside (unknown_chunk typ flags value) = is_known_chunk typ ≡ false
IsFairInside chunk = Unit {0}

pub record IsFair (t : ChunkTree) : Type 0 where
  pub fits : FitsChunk t
  pub inside : IsFairInside t

-- what an end uses of a chunk that it receives
abbrev pub FitsReceived : ChunkTree → Type 0
FitsReceived (data_chunk tsn immediate f) = tsn < 2 ^ 32
FitsReceived (idata_chunk tsn immediate f) = tsn < 2 ^ 32
FitsReceived (init_chunk i) = i.initiate_tag < 2 ^ 32
FitsReceived (init_ack_chunk i) = (i.initiate_tag < 2 ^ 32) × Each HasBytes i.parameters
FitsReceived (heartbeat_request_chunk parameters) = Each IsFairParameter parameters
FitsReceived (re_config_chunk parameters) = Each IsFairParameter parameters
FitsReceived (cookie_echo_chunk cookie) = Each (λ (b : ℕ). b < 2 ^ 8) cookie
FitsReceived chunk = Unit {0}
