-- Chunks: RFC 9260 section 3.3, RFC 8260 section 2 (interleaving), RFC 3758 section 3.2 (forward TSN), RFC 6525 section
-- 3.1 (RE-CONFIG). What each says, without where it lies in memory.
use Rattle.std.specs.Prelude.{ℕ, Bool, true, false, List}
use Rattle.sctp_wire.specs.Parameter.{ParameterTree}
use Rattle.sctp_wire.specs.Cause.{CauseTree}
use Rattle.sctp_serial.specs.declared.types.tsn.Tsn.{Tsn}
use Rattle.sctp_chunk.specs.declared.sack.GapAckBlock.{GapAckBlock}
use Rattle.sctp_chunk.specs.declared.forward_tsn.SkippedStream.{SkippedStream}

-- what DATA and I-DATA carry: a fragment of a message
pub record FragmentTree : Type 0 where
  pub stream_id : ℕ
  pub is_unordered : Bool
  pub ssn : ℕ
  pub mid : ℕ
  pub fsn : ℕ
  pub ppid : ℕ
  pub payload : List ℕ
  pub is_beginning : Bool
  pub is_end : Bool

-- what INIT and INIT ACK say
pub record InitTree : Type 0 where
  pub initiate_tag : ℕ
  pub a_rwnd : ℕ
  pub nbr_outbound_streams : ℕ
  pub nbr_inbound_streams : ℕ
  pub initial_tsn : ℕ
  pub parameters : List ParameterTree

pub record SackTree : Type 0 where
  pub cumulative_tsn_ack : ℕ
  pub a_rwnd : ℕ
  pub gap_ack_blocks : List GapAckBlock
  pub duplicate_tsns : List Tsn

pub data ChunkTree : Type 0 where
  data_chunk : (tsn : ℕ) (immediate_ack : Bool) (fragment : FragmentTree) → ChunkTree
  init_chunk : (init : InitTree) → ChunkTree
  init_ack_chunk : (init : InitTree) → ChunkTree
  sack_chunk : (sack : SackTree) → ChunkTree
  heartbeat_request_chunk : (parameters : List ParameterTree) → ChunkTree
  heartbeat_ack_chunk : (parameters : List ParameterTree) → ChunkTree
  abort_chunk : (tag_reflected : Bool) (error_causes : List CauseTree) → ChunkTree
  shutdown_chunk : (cumulative_tsn_ack : ℕ) → ChunkTree
  shutdown_ack_chunk : ChunkTree
  error_chunk : (error_causes : List CauseTree) → ChunkTree
  cookie_echo_chunk : (cookie : List ℕ) → ChunkTree
  cookie_ack_chunk : ChunkTree
  shutdown_complete_chunk : (tag_reflected : Bool) → ChunkTree
  idata_chunk : (tsn : ℕ) (immediate_ack : Bool) (fragment : FragmentTree) → ChunkTree
  re_config_chunk : (parameters : List ParameterTree) → ChunkTree
  forward_tsn_chunk : (new_cumulative_tsn : ℕ) (skipped_streams : List SkippedStream) → ChunkTree
  i_forward_tsn_chunk : (new_cumulative_tsn : ℕ) (skipped_streams : List SkippedStream) → ChunkTree
  unknown_chunk : (typ flags : ℕ) (value : List ℕ) → ChunkTree

-- the chunk that carries a fragment under a TSN: I-DATA where messages are interleaved, else DATA
abbrev pub fragment_chunk : (is_interleaved is_immediate : Bool) → ℕ × FragmentTree → ChunkTree
fragment_chunk true is_immediate c = idata_chunk c.0 is_immediate c.1
fragment_chunk false is_immediate c = data_chunk c.0 is_immediate c.1
