-- What is shown of a cause: its name and its fields.
use Rattle.std.specs.Prelude.{ℕ, List, [], ◌∷◌, map, codes}
use Rattle.std.specs.Fmt.{decimal}
use Rattle.sctp_wire.specs.Cause.{CauseTree, missing_mandatory_parameter, unrecognized_chunk, no_user_data, cookie_received_while_shutting_down, user_initiated_abort, protocol_violation, unknown_cause}
use Rattle.sctp_wire.specs.ParameterText.{unknown_text}
use Rattle.sctp_wire.specs.Show.{field, shown, bytes_text, join_texts}

unfoldable pub cause_text : CauseTree → List ℕ
cause_text (missing_mandatory_parameter types) = shown (codes "MISSING MANDATORY PARAMETER")
    (field (codes "missing_parameter_types") (join_texts (map decimal types)) ∷ [])
cause_text (unrecognized_chunk chunk) = shown (codes "UNRECOGNIZED CHUNK") (field (codes "chunk") (bytes_text chunk) ∷ [])
cause_text (no_user_data tsn) = shown (codes "NO USER DATA") (field (codes "tsn") (decimal tsn.0) ∷ [])
cause_text cookie_received_while_shutting_down = shown (codes "COOKIE RECEIVED WHILE SHUTTING DOWN") []
cause_text (user_initiated_abort reason) = shown (codes "USER INITIATED ABORT") (field (codes "reason") reason ∷ [])
cause_text (protocol_violation information) = shown (codes "PROTOCOL VIOLATION") (field (codes "information") information ∷ [])
cause_text (unknown_cause typ value) = unknown_text (codes "UNKNOWN CAUSE") typ value
