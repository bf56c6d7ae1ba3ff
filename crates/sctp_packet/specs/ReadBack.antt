-- What holds of a chunk that is read back once it was written.
use Rattle.std.specs.Prelude.{◌≡◌, ◌<◌, true, false, length, All}
use Rattle.sctp_wire.specs.Serialize.{IsEncodable}
use Rattle.sctp_wire.specs.Parameter.{ParameterFits, IsOfItsVariant}
use Rattle.sctp_wire.specs.Cause.{CauseFits, CauseIsOfItsVariant}
use Rattle.sctp_wire.specs.ReadBack.{ParameterReadsBack, CauseReadsBack, IsText}
use Rattle.sctp_chunk.specs.Chunk.{ChunkTree, init_chunk, init_ack_chunk, heartbeat_request_chunk, heartbeat_ack_chunk, abort_chunk, error_chunk, cookie_echo_chunk, re_config_chunk, unknown_chunk}
use Rattle.sctp_chunk.specs.Written.{chunk_item, chunk_is_whole, is_known_chunk}
use Rattle.sctp_chunk.specs.Grammar.{FitsChunk}

-- Each item's type is one of its variant, inside too; and a COOKIE ECHO has a cookie.
abbrev pub IsReadable : ChunkTree → Type 0
IsReadable (init_chunk init) = All ParameterReadsBack init.parameters
IsReadable (init_ack_chunk init) = All ParameterReadsBack init.parameters
IsReadable (heartbeat_request_chunk parameters) = All ParameterReadsBack parameters
IsReadable (heartbeat_ack_chunk parameters) = All ParameterReadsBack parameters
IsReadable (abort_chunk reflected causes) = All CauseReadsBack causes
IsReadable (error_chunk causes) = All CauseReadsBack causes
IsReadable (cookie_echo_chunk cookie) = 0 < length cookie
IsReadable (re_config_chunk parameters) = All ParameterReadsBack parameters
IsReadable (unknown_chunk typ flags value) = is_known_chunk typ ≡ false
IsReadable _ = Unit {0}

-- the chunk can be written, its numbers fit their fields, and it is readable
pub record ChunkReadsBack (t : ChunkTree) : Type 0 where
  pub encodable : IsEncodable (chunk_item t)
  pub whole : chunk_is_whole t ≡ true
  pub fits : FitsChunk t
  pub readable : IsReadable t

-- Each item's type is one that the tables give to its variant, inside too; and a COOKIE ECHO has a cookie. It is what is left to
-- ask of a chunk that can be written, since its numbers and texts are what their types say.
abbrev pub HasItsTypes : ChunkTree → Type 0
HasItsTypes (init_chunk init) = All IsOfItsVariant init.parameters
HasItsTypes (init_ack_chunk init) = All IsOfItsVariant init.parameters
HasItsTypes (heartbeat_request_chunk parameters) = All IsOfItsVariant parameters
HasItsTypes (heartbeat_ack_chunk parameters) = All IsOfItsVariant parameters
HasItsTypes (abort_chunk reflected causes) = All CauseIsOfItsVariant causes
HasItsTypes (error_chunk causes) = All CauseIsOfItsVariant causes
HasItsTypes (cookie_echo_chunk cookie) = 0 < length cookie
HasItsTypes (re_config_chunk parameters) = All IsOfItsVariant parameters
HasItsTypes (unknown_chunk typ flags value) = is_known_chunk typ ≡ false
HasItsTypes _ = Unit {0}

-- the numbers and texts of the items inside a chunk fit their fields
abbrev pub InsideFits : ChunkTree → Type 0
InsideFits (init_chunk init) = All ParameterFits init.parameters
InsideFits (init_ack_chunk init) = All ParameterFits init.parameters
InsideFits (heartbeat_request_chunk parameters) = All ParameterFits parameters
InsideFits (heartbeat_ack_chunk parameters) = All ParameterFits parameters
InsideFits (abort_chunk reflected causes) = All CauseFits causes × All IsText causes
InsideFits (error_chunk causes) = All CauseFits causes × All IsText causes
InsideFits (re_config_chunk parameters) = All ParameterFits parameters
InsideFits _ = Unit {0}
