-- What the program's values say, without where they lie in memory.
use Rattle.std.specs.Prelude.{map}
use Rattle.sctp_parameter.specs.ParameterViews.{parameter_tree}
use Rattle.sctp_error_cause.specs.CauseViews.{cause_tree}
use Rattle.sctp_control_chunk.specs.declared.shutdown.ShutdownChunk.{ShutdownChunk}
use Rattle.sctp_control_chunk.specs.declared.shutdown.ShutdownAckChunk.{ShutdownAckChunk}
use Rattle.sctp_control_chunk.specs.declared.shutdown.ShutdownCompleteChunk.{ShutdownCompleteChunk}
use Rattle.sctp_control_chunk.specs.declared.cookie.CookieEchoChunk.{CookieEchoChunk}
use Rattle.sctp_control_chunk.specs.declared.cookie.CookieAckChunk.{CookieAckChunk}
use Rattle.sctp_control_chunk.specs.declared.init.InitChunk.{InitChunk}
use Rattle.sctp_control_chunk.specs.declared.init.InitAckChunk.{InitAckChunk}
use Rattle.sctp_control_chunk.specs.declared.heartbeat.HeartbeatRequestChunk.{HeartbeatRequestChunk}
use Rattle.sctp_control_chunk.specs.declared.heartbeat.HeartbeatAckChunk.{HeartbeatAckChunk}
use Rattle.sctp_control_chunk.specs.declared.re_config.ReConfigChunk.{ReConfigChunk}
use Rattle.sctp_control_chunk.specs.declared.error.AbortChunk.{AbortChunk}
use Rattle.sctp_control_chunk.specs.declared.error.ErrorChunk.{ErrorChunk}
use Rattle.sctp_control_chunk.specs.declared.unknown.UnknownChunk.{UnknownChunk}
use Rattle.sctp_chunk.specs.Chunk.{ChunkTree, InitTree, init_chunk, init_ack_chunk, heartbeat_request_chunk, heartbeat_ack_chunk, re_config_chunk, abort_chunk, error_chunk, shutdown_chunk, shutdown_ack_chunk, shutdown_complete_chunk, cookie_echo_chunk, cookie_ack_chunk, unknown_chunk}

abbrev pub shutdown_tree : ShutdownChunk → ChunkTree
shutdown_tree c = shutdown_chunk c.cumulative_tsn_ack.0

abbrev pub shutdown_ack_tree : ShutdownAckChunk → ChunkTree
shutdown_ack_tree c = shutdown_ack_chunk

abbrev pub shutdown_complete_tree : ShutdownCompleteChunk → ChunkTree
shutdown_complete_tree c = shutdown_complete_chunk c.tag_reflected

abbrev pub cookie_echo_tree : CookieEchoChunk → ChunkTree
cookie_echo_tree c = cookie_echo_chunk c.cookie.items

abbrev pub cookie_ack_tree : CookieAckChunk → ChunkTree
cookie_ack_tree c = cookie_ack_chunk

abbrev pub unknown_tree : UnknownChunk → ChunkTree
unknown_tree c = unknown_chunk c.typ c.flags c.value.items

abbrev pub init_tree : InitChunk → InitTree
init_tree c = record {
  initiate_tag = c.initiate_tag;
  a_rwnd = c.a_rwnd;
  nbr_outbound_streams = c.nbr_outbound_streams;
  nbr_inbound_streams = c.nbr_inbound_streams;
  initial_tsn = c.initial_tsn.0;
  parameters = map parameter_tree c.parameters.items;
}

abbrev pub init_chunk_tree : InitChunk → ChunkTree
init_chunk_tree c = init_chunk (init_tree c)

abbrev pub init_ack_tree : InitAckChunk → InitTree
init_ack_tree c = record {
  initiate_tag = c.initiate_tag;
  a_rwnd = c.a_rwnd;
  nbr_outbound_streams = c.nbr_outbound_streams;
  nbr_inbound_streams = c.nbr_inbound_streams;
  initial_tsn = c.initial_tsn.0;
  parameters = map parameter_tree c.parameters.items;
}

abbrev pub init_ack_chunk_tree : InitAckChunk → ChunkTree
init_ack_chunk_tree c = init_ack_chunk (init_ack_tree c)

abbrev pub heartbeat_request_tree : HeartbeatRequestChunk → ChunkTree
heartbeat_request_tree c = heartbeat_request_chunk (map parameter_tree c.parameters.items)

abbrev pub heartbeat_ack_tree : HeartbeatAckChunk → ChunkTree
heartbeat_ack_tree c = heartbeat_ack_chunk (map parameter_tree c.parameters.items)

abbrev pub re_config_tree : ReConfigChunk → ChunkTree
re_config_tree c = re_config_chunk (map parameter_tree c.parameters.items)

abbrev pub abort_tree : AbortChunk → ChunkTree
abort_tree c = abort_chunk c.tag_reflected (map cause_tree c.error_causes.items)

abbrev pub error_tree : ErrorChunk → ChunkTree
error_tree c = error_chunk (map cause_tree c.error_causes.items)
