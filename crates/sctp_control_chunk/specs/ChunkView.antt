-- A chunk of any kind: what it says, without where it lies in memory.
use Rattle.sctp_control_chunk.specs.declared.chunk.Chunk.{Chunk}
use Rattle.sctp_control_chunk.specs.declared.chunk.Chunk.TheVariants as chunks
use Rattle.sctp_chunk.specs.Chunk.{ChunkTree}
use Rattle.sctp_chunk.specs.Views.{data_chunk_tree, sack_chunk_tree, forward_tsn_tree, idata_chunk_tree, i_forward_tsn_tree}
use Rattle.sctp_control_chunk.specs.Views.{init_chunk_tree, init_ack_chunk_tree, heartbeat_request_tree, heartbeat_ack_tree, abort_tree, shutdown_tree, shutdown_ack_tree, error_tree, cookie_echo_tree, cookie_ack_tree, shutdown_complete_tree, re_config_tree, unknown_tree}

abbrev pub chunk_tree : Chunk → ChunkTree
chunk_tree (chunks.Data c) = data_chunk_tree c
chunk_tree (chunks.Init c) = init_chunk_tree c
chunk_tree (chunks.InitAck c) = init_ack_chunk_tree c
chunk_tree (chunks.Sack c) = sack_chunk_tree c
chunk_tree (chunks.HeartbeatRequest c) = heartbeat_request_tree c
chunk_tree (chunks.HeartbeatAck c) = heartbeat_ack_tree c
chunk_tree (chunks.Abort c) = abort_tree c
chunk_tree (chunks.Shutdown c) = shutdown_tree c
chunk_tree (chunks.ShutdownAck c) = shutdown_ack_tree c
chunk_tree (chunks.Error c) = error_tree c
chunk_tree (chunks.CookieEcho c) = cookie_echo_tree c
chunk_tree (chunks.CookieAck c) = cookie_ack_tree c
chunk_tree (chunks.ShutdownComplete c) = shutdown_complete_tree c
chunk_tree (chunks.ReConfig c) = re_config_tree c
chunk_tree (chunks.ForwardTsn c) = forward_tsn_tree c
chunk_tree (chunks.IData c) = idata_chunk_tree c
chunk_tree (chunks.IForwardTsn c) = i_forward_tsn_tree c
chunk_tree (chunks.Unknown c) = unknown_tree c
