-- The names of chunks by their types (RFC 9260 section 3.2, RFC 8260, RFC 6525, RFC 3758).
use Rattle.std.specs.Prelude.{ℕ, ◌==◌, if◌then◌else◌, List, codes}

abbrev pub chunk_name : ℕ → List ℕ
chunk_name kind =
    if kind == 0 then codes "DATA" else if kind == 1 then codes "INIT" else if kind == 2 then codes "INIT ACK"
    else if kind == 3 then codes "SACK" else if kind == 4 then codes "HEARTBEAT" else if kind == 5 then codes "HEARTBEAT ACK"
    else if kind == 6 then codes "ABORT" else if kind == 7 then codes "SHUTDOWN" else if kind == 8 then codes "SHUTDOWN ACK"
    else if kind == 9 then codes "ERROR" else if kind == 10 then codes "COOKIE ECHO" else if kind == 11 then codes "COOKIE ACK"
    else if kind == 14 then codes "SHUTDOWN COMPLETE" else if kind == 64 then codes "I-DATA" else if kind == 130 then codes "RE-CONFIG"
    else if kind == 192 then codes "FORWARD TSN" else if kind == 194 then codes "I-FORWARD TSN" else codes "UNKNOWN"
