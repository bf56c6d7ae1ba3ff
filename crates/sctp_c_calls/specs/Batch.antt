-- Messages that C hands in.
use Rattle.std.specs.Prelude.{nat_lt, Bool, List}
use Rattle.std.specs.List.{list_all}
use Rattle.sctp_serial.specs.Messages.{Message}
use Rattle.sctp_c_records.specs.declared.message.OutgoingRecord.{OutgoingRecord}

abbrev pub given_message : OutgoingRecord → Message
given_message m = record { stream = m.stream; ppid = m.ppid; payload = m.payload.now }

-- whether it is for a stream that there is
abbrev pub has_stream : OutgoingRecord → Bool
has_stream m = nat_lt m.stream 65536

abbrev pub have_streams : List OutgoingRecord → Bool
have_streams = list_all has_stream
