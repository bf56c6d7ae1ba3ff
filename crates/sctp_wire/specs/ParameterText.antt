-- What is shown of a parameter: its name and its fields.
use Rattle.std.specs.Prelude.{ℕ, List, [], ◌∷◌, map, codes, Option, None, Some}
use Rattle.std.specs.Fmt.{decimal}
use Rattle.sctp_serial.specs.declared.api.StreamId.{StreamId}
use Rattle.sctp_serial.specs.declared.types.tsn.Tsn.{Tsn}
use Rattle.sctp_wire.specs.Parameter.{ParameterTree, heartbeat_info, state_cookie, outgoing_reset_request, incoming_reset_request, ssn_tsn_reset_request, reset_response, add_outgoing_streams_request, add_incoming_streams_request, supported_extensions, forward_tsn_supported, zero_checksum_acceptable, unknown_parameter}
use Rattle.sctp_wire.specs.Show.{FieldText, field, shown, bytes_text, join_texts}

abbrev pub stream_text : StreamId → List ℕ
stream_text id = decimal id.0

-- a TSN that is absent is no field
abbrev pub optional_tsn : List ℕ → Option Tsn → List FieldText → List FieldText
optional_tsn name None behind = behind
optional_tsn name (Some tsn) behind = field name (decimal tsn.0) ∷ behind

-- what is kept as it came
abbrev pub unknown_text : List ℕ → ℕ → List ℕ → List ℕ
unknown_text name typ value = shown name (field (codes "typ") (decimal typ) ∷ field (codes "value") (bytes_text value) ∷ [])

unfoldable pub parameter_text : ParameterTree → List ℕ
parameter_text (heartbeat_info info) = shown (codes "HEARTBEAT INFO") (field (codes "info") (bytes_text info) ∷ [])
parameter_text (state_cookie cookie) = shown (codes "STATE COOKIE") (field (codes "cookie") (bytes_text cookie) ∷ [])
parameter_text (outgoing_reset_request request response tsn streams) = shown (codes "OUTGOING RESET REQUEST")
    (field (codes "request_seq_nbr") (decimal request) ∷ field (codes "response_seq_nbr") (decimal response)
    ∷ field (codes "sender_last_assigned_tsn") (decimal tsn.0) ∷ field (codes "streams") (join_texts (map stream_text streams)) ∷ [])
parameter_text (incoming_reset_request request streams) = shown (codes "INCOMING RESET REQUEST")
    (field (codes "request_seq_nbr") (decimal request) ∷ field (codes "streams") (join_texts (map stream_text streams)) ∷ [])
parameter_text (ssn_tsn_reset_request typ value) = unknown_text (codes "UNKNOWN PARAMETER") typ value
parameter_text (reset_response response result sender receiver) = shown (codes "RESPONSE")
    (field (codes "response_seq_nbr") (decimal response) ∷ field (codes "result") (decimal result)
    ∷ optional_tsn (codes "sender_next_tsn") sender (optional_tsn (codes "receiver_next_tsn") receiver []))
parameter_text (add_outgoing_streams_request typ value) = unknown_text (codes "UNKNOWN PARAMETER") typ value
parameter_text (add_incoming_streams_request typ value) = unknown_text (codes "UNKNOWN PARAMETER") typ value
parameter_text (supported_extensions chunk_types) = shown (codes "SUPPORTED EXTENSIONS")
    (field (codes "chunk_types") (join_texts (map decimal chunk_types)) ∷ [])
parameter_text forward_tsn_supported = shown (codes "FORWARD TSN SUPPORTED") []
parameter_text (zero_checksum_acceptable method) = shown (codes "ZERO CHECKSUM ACCEPTABLE") (field (codes "method") (decimal method) ∷ [])
parameter_text (unknown_parameter typ value) = unknown_text (codes "UNKNOWN PARAMETER") typ value
