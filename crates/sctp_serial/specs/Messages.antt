-- Messages, as numbers and bytes.
use Rattle.std.specs.Prelude.{ℕ, List}
use Rattle.sctp_serial.specs.declared.api.Message as given

pub record Message : Type 0 where
  pub stream : ℕ
  pub ppid : ℕ
  pub payload : List ℕ

-- a message as the program has it
abbrev pub message_of : given.Message → Message
message_of m = record { stream = m.stream_id.0; ppid = m.ppid.0; payload = m.payload.items }
