-- What a socket refuses of the messages that C hands in.
use Rattle.std.specs.Prelude.{ℕ, List, map}
use Rattle.sctp_state.specs.declared.api.errors.SendError.{SendError}
use Rattle.sctp_c_records.specs.Records.{given_send_options}
use Rattle.sctp_c_records.specs.declared.message.OutgoingRecord.{OutgoingRecord}
use Rattle.sctp_c_records.specs.declared.message.SendRecord.{SendRecord}
use Rattle.sctp_c_calls.specs.Batch.{given_message}
use Rattle.spec_endpoint.specs.Calls as table
use Rattle.sctp_c.specs.Calls.{CSocket, end_of}

-- by place
abbrev pub refusals : List OutgoingRecord → SendRecord → CSocket → List (ℕ × SendError)
refusals messages options s = table.refusals 0 (map given_message messages) (given_send_options options) (table.shown_state s.state) (end_of s).endpoint_state.context
