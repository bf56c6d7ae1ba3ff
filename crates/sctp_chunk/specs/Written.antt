-- The item that is written for a chunk: type, flags and value (RFC 9260 section 3.2). One grammar for reader and writer.
use Rattle.std.specs.Prelude.{◌≡◌, ℕ, ◌+◌, Bool, true, false, if◌then◌else◌, ◌==◌, ◌||◌, not, bit_and, List, [], ◌++◌, length, map, refl}
use Rattle.std.specs.List.{flat_map, list_all}
use Rattle.sctp_serial.specs.declared.types.tsn.Tsn.{Tsn}
use Rattle.sctp_serial.specs.declared.types.StreamKey.{StreamKey}
use Rattle.sctp_serial.specs.declared.types.StreamKey.TheVariants as keys
use Rattle.sctp_wire.specs.Field.{be16, be32}
use Rattle.sctp_wire.specs.Item.{Item}
use Rattle.sctp_wire.specs.Serialize.{padded_item, inner_items}
use Rattle.sctp_wire.specs.Parameter.{parameter_item, parameter_is_whole}
use Rattle.sctp_wire.specs.Cause.{cause_item}
use Rattle.sctp_chunk.specs.declared.sack.GapAckBlock.{GapAckBlock}
use Rattle.sctp_chunk.specs.declared.forward_tsn.SkippedStream.{SkippedStream}
use Rattle.sctp_chunk.specs.declared.forward_tsn.SkippedStream.TheVariants as skips
use Rattle.sctp_chunk.specs.Chunk.{ChunkTree, FragmentTree, InitTree, SackTree, data_chunk, init_chunk, init_ack_chunk, sack_chunk, heartbeat_request_chunk, heartbeat_ack_chunk, abort_chunk, shutdown_chunk, shutdown_ack_chunk, error_chunk, cookie_echo_chunk, cookie_ack_chunk, shutdown_complete_chunk, idata_chunk, re_config_chunk, forward_tsn_chunk, i_forward_tsn_chunk, unknown_chunk}

abbrev pub chunk_type : ChunkTree → ℕ
chunk_type (data_chunk tsn immediate fragment) = 0
chunk_type (init_chunk init) = 1
chunk_type (init_ack_chunk init) = 2
chunk_type (sack_chunk sack) = 3
chunk_type (heartbeat_request_chunk parameters) = 4
chunk_type (heartbeat_ack_chunk parameters) = 5
chunk_type (abort_chunk reflected causes) = 6
chunk_type (shutdown_chunk tsn) = 7
chunk_type shutdown_ack_chunk = 8
chunk_type (error_chunk causes) = 9
chunk_type (cookie_echo_chunk cookie) = 10
chunk_type cookie_ack_chunk = 11
chunk_type (shutdown_complete_chunk reflected) = 14
chunk_type (idata_chunk tsn immediate fragment) = 64
chunk_type (re_config_chunk parameters) = 130
chunk_type (forward_tsn_chunk tsn skipped) = 192
chunk_type (i_forward_tsn_chunk tsn skipped) = 194
chunk_type (unknown_chunk typ flags value) = typ

-- the types of the chunks above
abbrev pub is_known_chunk : ℕ → Bool
is_known_chunk typ = (typ == 0) || ((typ == 1) || ((typ == 2) || ((typ == 3) || ((typ == 4) || ((typ == 5) || ((typ == 6) || ((typ == 7)
    || ((typ == 8) || ((typ == 9) || ((typ == 10) || ((typ == 11) || ((typ == 14) || ((typ == 64) || ((typ == 130) || ((typ == 192)
    || (typ == 194))))))))))))))))

-- ---- flags

-- whether a flag is set
abbrev pub flag : ℕ → ℕ → Bool
flag flags mask = not (bit_and flags mask == 0)

-- the flags I 8, U 4, B 2, E 1 of DATA and I-DATA (RFC 9260 section 3.3.1, RFC 8260 section 2.1)
abbrev pub fragment_flags : (immediate unordered beginning end : Bool) → ℕ
fragment_flags immediate unordered beginning end =
    (if immediate then 8 else 0) + ((if unordered then 4 else 0) + ((if beginning then 2 else 0) + (if end then 1 else 0)))

-- the flag T: the packet's tag is the one that the answered packet had (RFC 9260 section 8.5.1)
abbrev pub reflected_flag : Bool → ℕ
reflected_flag reflected = if reflected then 1 else 0

abbrev pub chunk_flags : ChunkTree → ℕ
chunk_flags (data_chunk tsn immediate f) = fragment_flags immediate f.is_unordered f.is_beginning f.is_end
chunk_flags (abort_chunk reflected causes) = reflected_flag reflected
chunk_flags (shutdown_complete_chunk reflected) = reflected_flag reflected
chunk_flags (idata_chunk tsn immediate f) = fragment_flags immediate f.is_unordered f.is_beginning f.is_end
chunk_flags (unknown_chunk typ flags value) = flags
chunk_flags _ = 0

-- ---- values

-- TSN, stream, number in the stream, protocol, payload (RFC 9260 section 3.3.1)
unfoldable pub data_value : ℕ → FragmentTree → List ℕ
data_value tsn f = be32 tsn ++ (be16 f.stream_id ++ (be16 f.ssn ++ (be32 f.ppid ++ f.payload)))

-- the field that a beginning has for its protocol, and any other fragment for its number (RFC 8260 section 2.1)
abbrev pub ppid_or_fsn : FragmentTree → ℕ
ppid_or_fsn f = if f.is_beginning then f.ppid else f.fsn

-- TSN, stream, a reserved field, number of the message, protocol or number of the fragment, payload
unfoldable pub idata_value : ℕ → ℕ → FragmentTree → List ℕ
idata_value reserved tsn f = be32 tsn ++ (be16 f.stream_id ++ (be16 reserved ++ (be32 f.mid ++ (be32 (ppid_or_fsn f) ++ f.payload))))

-- the fixed fields of INIT and INIT ACK (RFC 9260 section 3.3.2)
unfoldable pub init_fields : InitTree → List ℕ
init_fields t = be32 t.initiate_tag ++ (be32 t.a_rwnd ++ (be16 t.nbr_outbound_streams ++ (be16 t.nbr_inbound_streams ++ be32 t.initial_tsn)))

unfoldable pub block_bytes : GapAckBlock → List ℕ
block_bytes b = be16 b.start ++ be16 b.end

pub length_block_bytes : (b : GapAckBlock) → length (block_bytes b) ≡ 4
unfolding block_bytes be16
length_block_bytes b = refl

abbrev pub tsn_bytes : Tsn → List ℕ
tsn_bytes tsn = be32 tsn.0

-- cumulative TSN, window, counts of blocks and of duplicates, and these (RFC 9260 section 3.3.4)
unfoldable pub sack_value : SackTree → List ℕ
sack_value s = be32 s.cumulative_tsn_ack ++ (be32 s.a_rwnd ++ (be16 (length s.gap_ack_blocks) ++ (be16 (length s.duplicate_tsns)
    ++ (flat_map block_bytes s.gap_ack_blocks ++ flat_map tsn_bytes s.duplicate_tsns))))

-- the flag U of an entry of I-FORWARD-TSN (RFC 8260 section 2.3.1)
abbrev pub key_flag : StreamKey → ℕ
key_flag (keys.Ordered id) = 0
key_flag (keys.Unordered id) = 1

abbrev pub key_stream : StreamKey → ℕ
key_stream (keys.Ordered id) = id.0
key_stream (keys.Unordered id) = id.0

-- an entry of FORWARD-TSN (RFC 3758 section 3.2) or of I-FORWARD-TSN
unfoldable pub skip_bytes : SkippedStream → List ℕ
skip_bytes (skips.ForwardTsn id ssn) = be16 id.0 ++ be16 ssn.0
skip_bytes (skips.IForwardTsn key mid) = be16 (key_stream key) ++ (be16 (key_flag key) ++ be32 mid.0)

-- a new cumulative TSN, and what it skips
unfoldable pub forward_value : ℕ → List SkippedStream → List ℕ
forward_value tsn skipped = be32 tsn ++ flat_map skip_bytes skipped

unfoldable pub chunk_value : ChunkTree → List ℕ
chunk_value (data_chunk tsn immediate f) = data_value tsn f
chunk_value (init_chunk init) = init_fields init ++ inner_items (map parameter_item init.parameters)
chunk_value (init_ack_chunk init) = init_fields init ++ inner_items (map parameter_item init.parameters)
chunk_value (sack_chunk sack) = sack_value sack
chunk_value (heartbeat_request_chunk parameters) = inner_items (map parameter_item parameters)
chunk_value (heartbeat_ack_chunk parameters) = inner_items (map parameter_item parameters)
chunk_value (abort_chunk reflected causes) = inner_items (map cause_item causes)
chunk_value (shutdown_chunk tsn) = be32 tsn
chunk_value shutdown_ack_chunk = []
chunk_value (error_chunk causes) = inner_items (map cause_item causes)
chunk_value (cookie_echo_chunk cookie) = cookie
chunk_value cookie_ack_chunk = []
chunk_value (shutdown_complete_chunk reflected) = []
chunk_value (idata_chunk tsn immediate f) = idata_value 0 tsn f
chunk_value (re_config_chunk parameters) = inner_items (map parameter_item parameters)
chunk_value (forward_tsn_chunk tsn skipped) = forward_value tsn skipped
chunk_value (i_forward_tsn_chunk tsn skipped) = forward_value tsn skipped
chunk_value (unknown_chunk typ flags value) = value

-- the item that is written for the chunk
abbrev pub chunk_item : ChunkTree → Item
chunk_item t = record { first = chunk_type t; second = chunk_flags t; value = chunk_value t }

-- the bytes that are written for it, with zeros up to a multiple of 4
unfoldable pub chunk_bytes : ChunkTree → List ℕ
chunk_bytes t = padded_item (chunk_item t)

-- the bytes of chunks, one after the other
unfoldable pub chunks_bytes : List ChunkTree → List ℕ
chunks_bytes chunks = flat_map chunk_bytes chunks

-- ---- parts that agree

abbrev pub is_ssn_skip : SkippedStream → Bool
is_ssn_skip (skips.ForwardTsn id ssn) = true
is_ssn_skip (skips.IForwardTsn key mid) = false

abbrev pub is_mid_skip : SkippedStream → Bool
is_mid_skip (skips.ForwardTsn id ssn) = false
is_mid_skip (skips.IForwardTsn key mid) = true

-- Whether the chunk can be written apart from its length: skipped streams are of its kind, and its parameters are whole.
abbrev pub chunk_is_whole : ChunkTree → Bool
chunk_is_whole (init_chunk init) = list_all parameter_is_whole init.parameters
chunk_is_whole (init_ack_chunk init) = list_all parameter_is_whole init.parameters
chunk_is_whole (heartbeat_request_chunk parameters) = list_all parameter_is_whole parameters
chunk_is_whole (heartbeat_ack_chunk parameters) = list_all parameter_is_whole parameters
chunk_is_whole (re_config_chunk parameters) = list_all parameter_is_whole parameters
chunk_is_whole (forward_tsn_chunk tsn skipped) = list_all is_ssn_skip skipped
chunk_is_whole (i_forward_tsn_chunk tsn skipped) = list_all is_mid_skip skipped
chunk_is_whole _ = true
