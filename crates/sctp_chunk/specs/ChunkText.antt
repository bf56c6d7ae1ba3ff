-- What is shown of a chunk: its name and its fields in the order of the wire, and the flags that are set.
use Rattle.std.specs.Prelude.{ℕ, Bool, if◌then◌else◌, ◌||◌, List, [], ◌∷◌, ◌++◌, length, map, codes}
use Rattle.std.specs.Fmt.{decimal}
use Rattle.sctp_serial.specs.declared.types.tsn.Tsn.{Tsn}
use Rattle.sctp_wire.specs.Show.{field, shown, bytes_text, join_texts}
use Rattle.sctp_chunk.specs.declared.sack.GapAckBlock.{GapAckBlock}
use Rattle.sctp_chunk.specs.declared.forward_tsn.SkippedStream.{SkippedStream}
use Rattle.sctp_chunk.specs.declared.forward_tsn.SkippedStream.TheVariants as skips
use Rattle.sctp_chunk.specs.Chunk.{ChunkTree, InitTree, data_chunk, init_chunk, init_ack_chunk, sack_chunk, heartbeat_request_chunk, heartbeat_ack_chunk, abort_chunk, shutdown_chunk, shutdown_ack_chunk, error_chunk, cookie_echo_chunk, cookie_ack_chunk, shutdown_complete_chunk, idata_chunk, re_config_chunk, forward_tsn_chunk, i_forward_tsn_chunk, unknown_chunk}
use Rattle.sctp_chunk.specs.Written.{key_stream, ppid_or_fsn}

abbrev pub letter : Bool → List ℕ → List ℕ
letter is_set text = if is_set then text else []

-- the flags that are set, none where none is
abbrev pub fragment_flags_text : (immediate unordered beginning end : Bool) → List ℕ
fragment_flags_text immediate unordered beginning end =
    if immediate || (unordered || (beginning || end))
    then codes ", flags=" ++ (letter immediate (codes "I") ++ (letter unordered (codes "U") ++ (letter beginning (codes "B") ++ letter end (codes "E"))))
    else []

abbrev pub reflected_text : Bool → List ℕ
reflected_text reflected = if reflected then codes ", flags=T" else []

abbrev pub block_text : GapAckBlock → List ℕ
block_text b = decimal b.start ++ (codes "-" ++ decimal b.end)

abbrev pub tsn_text : Tsn → List ℕ
tsn_text tsn = decimal tsn.0

abbrev pub skip_text : SkippedStream → List ℕ
skip_text (skips.ForwardTsn id ssn) = decimal id.0 ++ (codes "-" ++ decimal ssn.0)
skip_text (skips.IForwardTsn key mid) = decimal (key_stream key) ++ (codes "-" ++ decimal mid.0)

abbrev pub init_text : List ℕ → InitTree → List ℕ
init_text name t = shown name (field (codes "initiate_tag") (decimal t.initiate_tag) ∷ field (codes "a_rwnd") (decimal t.a_rwnd)
    ∷ field (codes "nbr_outbound_streams") (decimal t.nbr_outbound_streams) ∷ field (codes "nbr_inbound_streams") (decimal t.nbr_inbound_streams)
    ∷ field (codes "initial_tsn") (decimal t.initial_tsn) ∷ field (codes "parameters") (decimal (length t.parameters)) ∷ [])

-- a beginning shows its protocol, any other fragment its number
abbrev pub ppid_or_fsn_name : Bool → List ℕ
ppid_or_fsn_name beginning = if beginning then codes "ppid" else codes "fsn"

unfoldable pub chunk_text : ChunkTree → List ℕ
chunk_text (data_chunk tsn immediate f) = shown (codes "DATA") (field (codes "tsn") (decimal tsn) ∷ field (codes "stream_key") (decimal f.stream_id)
    ∷ field (codes "ssn") (decimal f.ssn) ∷ field (codes "ppid") (decimal f.ppid) ∷ field (codes "payload") (bytes_text f.payload) ∷ [])
    ++ fragment_flags_text immediate f.is_unordered f.is_beginning f.is_end
chunk_text (idata_chunk tsn immediate f) = shown (codes "I-DATA") (field (codes "tsn") (decimal tsn) ∷ field (codes "stream_key") (decimal f.stream_id)
    ∷ field (codes "mid") (decimal f.mid) ∷ field (ppid_or_fsn_name f.is_beginning) (decimal (ppid_or_fsn f)) ∷ field (codes "payload") (bytes_text f.payload) ∷ [])
    ++ fragment_flags_text immediate f.is_unordered f.is_beginning f.is_end
chunk_text (init_chunk t) = init_text (codes "INIT") t
chunk_text (init_ack_chunk t) = init_text (codes "INIT ACK") t
chunk_text (sack_chunk s) = shown (codes "SACK") (field (codes "cumulative_tsn_ack") (decimal s.cumulative_tsn_ack) ∷ field (codes "a_rwnd") (decimal s.a_rwnd)
    ∷ field (codes "gap_ack_blocks") (join_texts (map block_text s.gap_ack_blocks)) ∷ field (codes "duplicate_tsns") (join_texts (map tsn_text s.duplicate_tsns)) ∷ [])
chunk_text (heartbeat_request_chunk ps) = shown (codes "HEARTBEAT") (field (codes "parameters") (decimal (length ps)) ∷ [])
chunk_text (heartbeat_ack_chunk ps) = shown (codes "HEARTBEAT ACK") (field (codes "parameters") (decimal (length ps)) ∷ [])
chunk_text (abort_chunk reflected causes) = shown (codes "ABORT") (field (codes "error_causes") (decimal (length causes)) ∷ []) ++ reflected_text reflected
chunk_text (shutdown_chunk tsn) = shown (codes "SHUTDOWN") (field (codes "cumulative_tsn_ack") (decimal tsn) ∷ [])
chunk_text shutdown_ack_chunk = codes "SHUTDOWN ACK"
chunk_text (error_chunk causes) = shown (codes "ERROR") (field (codes "error_causes") (decimal (length causes)) ∷ [])
chunk_text (cookie_echo_chunk cookie) = shown (codes "COOKIE ECHO") (field (codes "cookie") (bytes_text cookie) ∷ [])
chunk_text cookie_ack_chunk = codes "COOKIE ACK"
chunk_text (shutdown_complete_chunk reflected) = codes "SHUTDOWN COMPLETE" ++ reflected_text reflected
chunk_text (re_config_chunk ps) = shown (codes "RE-CONFIG") (field (codes "parameters") (decimal (length ps)) ∷ [])
chunk_text (forward_tsn_chunk tsn skipped) = shown (codes "FORWARD-TSN") (field (codes "new_cumulative_tsn") (decimal tsn)
    ∷ field (codes "skipped_streams") (join_texts (map skip_text skipped)) ∷ [])
chunk_text (i_forward_tsn_chunk tsn skipped) = shown (codes "I-FORWARD-TSN") (field (codes "new_cumulative_tsn") (decimal tsn)
    ∷ field (codes "skipped_streams") (join_texts (map skip_text skipped)) ∷ [])
chunk_text (unknown_chunk typ flags value) = shown (codes "UNKNOWN CHUNK") (field (codes "typ") (decimal typ) ∷ field (codes "flags") (decimal flags)
    ∷ field (codes "value") (bytes_text value) ∷ [])
