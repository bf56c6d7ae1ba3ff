-- Data of a channel as a message of SCTP (RFC 8831 sections 6.6 and 8).
use Rattle.std.specs.Prelude.{ℕ, Option, Some, None, ◌==◌, cond, List, [], ◌∷◌}
use Rattle.sctp_serial.specs.Messages.{Message}
use Rattle.sctp_channels.specs.declared.payload.PayloadKind.{PayloadKind}
use Rattle.sctp_channels.specs.declared.payload.PayloadKind.TheVariants.{Text, Binary}
use Rattle.sctp_channels.specs.declared.payload.PayloadProtocol.{PayloadProtocol}
use Rattle.sctp_channels.specs.declared.payload.PayloadProtocol.TheVariants.{Control, Data, Empty, Part}

-- what a PPID says of a payload
abbrev pub protocol_of : ℕ → Option PayloadProtocol
protocol_of n = cond (n == 50) (Some Control) (cond (n == 51) (Some (Data Text)) (cond (n == 52) (Some (Part Binary)) (cond (n == 53) (Some (Data Binary))
    (cond (n == 54) (Some (Part Text)) (cond (n == 56) (Some (Empty Text)) (cond (n == 57) (Some (Empty Binary)) None))))))

-- what is handed out of a message that came whole; the byte of an empty one isn't
abbrev pub handed_out : Option PayloadProtocol → List ℕ → Option (PayloadKind × List ℕ)
handed_out (Some (Data kind)) payload = Some (kind, payload)
handed_out (Some (Empty kind)) payload = Some (kind, [])
handed_out _ payload = None

abbrev pub data_ppid : PayloadKind → List ℕ → ℕ
data_ppid Text [] = 56
data_ppid Text (b ∷ bytes) = 51
data_ppid Binary [] = 57
data_ppid Binary (b ∷ bytes) = 53

-- SCTP has no empty message: one zero byte is sent
abbrev pub data_payload : List ℕ → List ℕ
data_payload [] = 0 ∷ []
data_payload (b ∷ bytes) = b ∷ bytes

abbrev pub data_message : ℕ → PayloadKind → List ℕ → Message
data_message stream kind payload = record { stream = stream; ppid = data_ppid kind payload; payload = data_payload payload }
