-- Other names: other tags, ties and cookies, and TSNs and request numbers that begin elsewhere; and chunks under them.
use Rattle.std.specs.Prelude.{◌≡◌, ℕ, ◌==◌, option_map, List, length, map}
use Rattle.sctp_serial.specs.declared.types.tsn.Tsn.{Tsn}
use Rattle.sctp_serial.specs.SerialNumber.{serial_sum}
use Rattle.sctp_serial.specs.Unwrapped.{u32_space}
use Rattle.sctp_wire.specs.Parameter.{ParameterTree, heartbeat_info, state_cookie, outgoing_reset_request, incoming_reset_request, ssn_tsn_reset_request, reset_response, add_outgoing_streams_request, add_incoming_streams_request, supported_extensions, forward_tsn_supported, zero_checksum_acceptable, unknown_parameter}
use Rattle.sctp_packet.specs.Chunk.{ChunkTree, InitTree, SackTree, data_chunk, init_chunk, init_ack_chunk, sack_chunk, heartbeat_request_chunk, heartbeat_ack_chunk, abort_chunk, shutdown_chunk, shutdown_ack_chunk, error_chunk, cookie_echo_chunk, cookie_ack_chunk, shutdown_complete_chunk, idata_chunk, re_config_chunk, forward_tsn_chunk, i_forward_tsn_chunk, unknown_chunk}
use Rattle.sctp_packet.specs.Packet.{HeaderTree}

-- how an end is called otherwise
pub record Names : Type 0 where
  pub tag : ℕ → ℕ
  pub tie : ℕ → ℕ  -- of a control block
  pub cookie_tie : ℕ → ℕ  -- in a cookie that the end makes
  pub own : ℕ  -- how far the numbers move that the end gives: its TSNs, and its requests
  pub peer : ℕ  -- and its peer's
  pub cookie : List ℕ → List ℕ

-- the names that the peer sees
abbrev pub flip : Names → Names
flip n = record n { own = n.peer; peer = n.own }

-- different tags get different names, no tag stays none, and a cookie keeps its length
pub record AreNames (n : Names) : Type 0 where
  pub apart : (a b : ℕ) → (n.tag a == n.tag b) ≡ (a == b)
  pub none : n.tag 0 ≡ 0
  pub size : (cookie : List ℕ) → length (n.cookie cookie) ≡ length cookie

-- ---- numbers

abbrev pub move_by : (by : ℕ) → ℕ → ℕ
move_by by number = serial_sum u32_space number by

abbrev pub moved_tsn : (by : ℕ) → Tsn → Tsn
moved_tsn by tsn = record { 0 = move_by by tsn.0 }

-- ---- chunks, as the end sends them

abbrev pub named_parameter : Names → ParameterTree → ParameterTree
named_parameter n (heartbeat_info info) = heartbeat_info info
named_parameter n (state_cookie cookie) = state_cookie (n.cookie cookie)
named_parameter n (outgoing_reset_request number response tsn streams) =
    outgoing_reset_request (move_by n.own number) (move_by n.own response) (moved_tsn n.own tsn) streams
named_parameter n (incoming_reset_request number streams) = incoming_reset_request (move_by n.own number) streams
named_parameter n (ssn_tsn_reset_request typ value) = ssn_tsn_reset_request typ value
named_parameter n (reset_response number result sender receiver) =
    reset_response (move_by n.peer number) result (option_map (moved_tsn n.own) sender) (option_map (moved_tsn n.peer) receiver)
named_parameter n (add_outgoing_streams_request typ value) = add_outgoing_streams_request typ value
named_parameter n (add_incoming_streams_request typ value) = add_incoming_streams_request typ value
named_parameter n (supported_extensions types) = supported_extensions types
named_parameter n forward_tsn_supported = forward_tsn_supported
named_parameter n (zero_checksum_acceptable method) = zero_checksum_acceptable method
named_parameter n (unknown_parameter typ value) = unknown_parameter typ value

abbrev pub named_init : Names → InitTree → InitTree
named_init n i = record i {
  initiate_tag = n.tag i.initiate_tag;
  initial_tsn = move_by n.own i.initial_tsn;
  parameters = map (named_parameter n) i.parameters;
}

abbrev pub named_sack : Names → SackTree → SackTree
named_sack n k = record k { cumulative_tsn_ack = move_by n.peer k.cumulative_tsn_ack; duplicate_tsns = map (moved_tsn n.peer) k.duplicate_tsns }

-- causes stay as they are: of two ends that follow the table none names a number
abbrev pub named_chunk : Names → ChunkTree → ChunkTree
named_chunk n (data_chunk tsn immediate f) = data_chunk (move_by n.own tsn) immediate f
named_chunk n (idata_chunk tsn immediate f) = idata_chunk (move_by n.own tsn) immediate f
named_chunk n (init_chunk i) = init_chunk (named_init n i)
named_chunk n (init_ack_chunk i) = init_ack_chunk (named_init n i)
named_chunk n (sack_chunk k) = sack_chunk (named_sack n k)
named_chunk n (heartbeat_request_chunk parameters) = heartbeat_request_chunk parameters
named_chunk n (heartbeat_ack_chunk parameters) = heartbeat_ack_chunk parameters
named_chunk n (abort_chunk reflected causes) = abort_chunk reflected causes
named_chunk n (shutdown_chunk tsn) = shutdown_chunk (move_by n.peer tsn)
named_chunk n shutdown_ack_chunk = shutdown_ack_chunk
named_chunk n (error_chunk causes) = error_chunk causes
named_chunk n (cookie_echo_chunk cookie) = cookie_echo_chunk (n.cookie cookie)
named_chunk n cookie_ack_chunk = cookie_ack_chunk
named_chunk n (shutdown_complete_chunk reflected) = shutdown_complete_chunk reflected
named_chunk n (re_config_chunk parameters) = re_config_chunk (map (named_parameter n) parameters)
named_chunk n (forward_tsn_chunk tsn skipped) = forward_tsn_chunk (move_by n.own tsn) skipped
named_chunk n (i_forward_tsn_chunk tsn skipped) = i_forward_tsn_chunk (move_by n.own tsn) skipped
named_chunk n (unknown_chunk typ flags value) = unknown_chunk typ flags value

abbrev pub named_chunks : Names → List ChunkTree → List ChunkTree
named_chunks n chunks = map (named_chunk n) chunks

abbrev pub named_header : Names → HeaderTree → HeaderTree
named_header n h = record h { verification_tag = n.tag h.verification_tag }
