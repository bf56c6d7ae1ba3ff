-- What the program's causes say, without where they lie in memory.
use Rattle.std.specs.Prelude.{string_bytes}
use Rattle.sctp_error_cause.specs.declared.cause.MissingMandatoryParameterErrorCause.{MissingMandatoryParameterErrorCause}
use Rattle.sctp_error_cause.specs.declared.cause.UnrecognizedChunkErrorCause.{UnrecognizedChunkErrorCause}
use Rattle.sctp_error_cause.specs.declared.cause.NoUserDataErrorCause.{NoUserDataErrorCause}
use Rattle.sctp_error_cause.specs.declared.cause.CookieReceivedWhileShuttingDownErrorCause.{CookieReceivedWhileShuttingDownErrorCause}
use Rattle.sctp_error_cause.specs.declared.cause.UserInitiatedAbortErrorCause.{UserInitiatedAbortErrorCause}
use Rattle.sctp_error_cause.specs.declared.cause.ProtocolViolationErrorCause.{ProtocolViolationErrorCause}
use Rattle.sctp_error_cause.specs.declared.error_cause.ErrorCause.{ErrorCause}
use Rattle.sctp_error_cause.specs.declared.error_cause.ErrorCause.TheVariants as causes
use Rattle.sctp_wire.specs.Cause.{CauseTree, missing_mandatory_parameter, unrecognized_chunk, no_user_data, cookie_received_while_shutting_down, user_initiated_abort, protocol_violation, unknown_cause}

abbrev pub missing_mandatory_parameter_tree : MissingMandatoryParameterErrorCause → CauseTree
missing_mandatory_parameter_tree c = missing_mandatory_parameter c.missing_parameter_types.items

abbrev pub unrecognized_chunk_tree : UnrecognizedChunkErrorCause → CauseTree
unrecognized_chunk_tree c = unrecognized_chunk c.chunk.items

abbrev pub no_user_data_tree : NoUserDataErrorCause → CauseTree
no_user_data_tree c = no_user_data c.tsn

abbrev pub cookie_received_tree : CookieReceivedWhileShuttingDownErrorCause → CauseTree
cookie_received_tree c = cookie_received_while_shutting_down

abbrev pub user_initiated_abort_tree : UserInitiatedAbortErrorCause → CauseTree
user_initiated_abort_tree c = user_initiated_abort (string_bytes c.reason)

abbrev pub protocol_violation_tree : ProtocolViolationErrorCause → CauseTree
protocol_violation_tree c = protocol_violation (string_bytes c.information)

abbrev pub cause_tree : ErrorCause → CauseTree
cause_tree (causes.MissingMandatoryParameter c) = missing_mandatory_parameter_tree c
cause_tree (causes.UnrecognizedChunk c) = unrecognized_chunk_tree c
cause_tree (causes.NoUserData c) = no_user_data_tree c
cause_tree (causes.CookieReceivedWhileShuttingDown c) = cookie_received_tree c
cause_tree (causes.UserInitiatedAbort c) = user_initiated_abort_tree c
cause_tree (causes.ProtocolViolation c) = protocol_violation_tree c
cause_tree (causes.Unknown c) = unknown_cause c.typ c.value.items
