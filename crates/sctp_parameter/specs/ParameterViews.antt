-- What the program's parameters say, without where they lie in memory.
use Rattle.std.specs.Prelude.{ℕ}
use Rattle.sctp_parameter.specs.declared.parameter.HeartbeatInfoParameter.{HeartbeatInfoParameter}
use Rattle.sctp_parameter.specs.declared.parameter.StateCookieParameter.{StateCookieParameter}
use Rattle.sctp_parameter.specs.declared.parameter.SupportedExtensionsParameter.{SupportedExtensionsParameter}
use Rattle.sctp_parameter.specs.declared.parameter.ForwardTsnSupportedParameter.{ForwardTsnSupportedParameter}
use Rattle.sctp_parameter.specs.declared.parameter.ZeroChecksumAcceptableParameter.{ZeroChecksumAcceptableParameter}
use Rattle.sctp_parameter.specs.declared.parameters.Parameter.{Parameter}
use Rattle.sctp_parameter.specs.declared.parameters.Parameter.TheVariants as parameters
use Rattle.sctp_parameter.specs.declared.reset.OutgoingSsnResetRequestParameter.{OutgoingSsnResetRequestParameter}
use Rattle.sctp_parameter.specs.declared.reset.IncomingSsnResetRequestParameter.{IncomingSsnResetRequestParameter}
use Rattle.sctp_parameter.specs.declared.reset.ReconfigurationResponseParameter.{ReconfigurationResponseParameter}
use Rattle.sctp_parameter.specs.declared.reset.ReconfigurationResponseResult.{ReconfigurationResponseResult}
use Rattle.sctp_parameter.specs.declared.reset.ReconfigurationResponseResult.TheVariants.{SuccessNothingToDo, SuccessPerformed, Denied, ErrorWrongSSN, ErrorRequestAlreadyInProgress, ErrorBadSequenceNumber, InProgress}
use Rattle.sctp_wire.specs.Parameter.{ParameterTree, heartbeat_info, state_cookie, outgoing_reset_request, incoming_reset_request, ssn_tsn_reset_request, reset_response, add_outgoing_streams_request, add_incoming_streams_request, supported_extensions, forward_tsn_supported, zero_checksum_acceptable, unknown_parameter}

abbrev pub heartbeat_info_tree : HeartbeatInfoParameter → ParameterTree
heartbeat_info_tree p = heartbeat_info p.info.items

abbrev pub state_cookie_tree : StateCookieParameter → ParameterTree
state_cookie_tree p = state_cookie p.cookie.items

abbrev pub outgoing_tree : OutgoingSsnResetRequestParameter → ParameterTree
outgoing_tree p = outgoing_reset_request p.request_seq_nbr p.response_seq_nbr p.sender_last_assigned_tsn p.streams.items

abbrev pub incoming_tree : IncomingSsnResetRequestParameter → ParameterTree
incoming_tree p = incoming_reset_request p.request_seq_nbr p.streams.items

-- the number of a result (RFC 6525 section 4.4)
abbrev pub result_number : ReconfigurationResponseResult → ℕ
result_number SuccessNothingToDo = 0
result_number SuccessPerformed = 1
result_number Denied = 2
result_number ErrorWrongSSN = 3
result_number ErrorRequestAlreadyInProgress = 4
result_number ErrorBadSequenceNumber = 5
result_number InProgress = 6

abbrev pub response_tree : ReconfigurationResponseParameter → ParameterTree
response_tree p = reset_response p.response_seq_nbr (result_number p.result) p.sender_next_tsn p.receiver_next_tsn

abbrev pub supported_extensions_tree : SupportedExtensionsParameter → ParameterTree
supported_extensions_tree p = supported_extensions p.chunk_types.items

abbrev pub forward_tsn_supported_tree : ForwardTsnSupportedParameter → ParameterTree
forward_tsn_supported_tree p = forward_tsn_supported

abbrev pub zero_checksum_acceptable_tree : ZeroChecksumAcceptableParameter → ParameterTree
zero_checksum_acceptable_tree p = zero_checksum_acceptable p.method.0

abbrev pub parameter_tree : Parameter → ParameterTree
parameter_tree (parameters.HeartbeatInfo p) = heartbeat_info_tree p
parameter_tree (parameters.StateCookie p) = state_cookie_tree p
parameter_tree (parameters.OutgoingSsnResetRequest p) = outgoing_tree p
parameter_tree (parameters.IncomingSsnResetRequest p) = incoming_tree p
parameter_tree (parameters.SsnTsnResetRequest p) = ssn_tsn_reset_request p.typ p.value.items
parameter_tree (parameters.ReconfigurationResponse p) = response_tree p
parameter_tree (parameters.AddOutgoingStreamsRequest p) = add_outgoing_streams_request p.typ p.value.items
parameter_tree (parameters.AddIncomingStreamsRequest p) = add_incoming_streams_request p.typ p.value.items
parameter_tree (parameters.SupportedExtensions p) = supported_extensions_tree p
parameter_tree (parameters.ForwardTsnSupported p) = forward_tsn_supported_tree p
parameter_tree (parameters.ZeroChecksumAcceptable p) = zero_checksum_acceptable_tree p
parameter_tree (parameters.Unknown p) = unknown_parameter p.typ p.value.items
