-- What the rows of a conversation say of packets.
use Rattle.std.specs.Prelude.{ℕ, Bool, true, false, ◌&&◌, ◌==◌, List, codes}
use Rattle.sctp_trace.specs.declared.rows.End.{End}
use Rattle.sctp_trace.specs.declared.rows.End.TheVariants as ends
use Rattle.sctp_trace.specs.declared.rows.What.{What}
use Rattle.sctp_trace.specs.declared.rows.What.TheVariants as kinds
use Rattle.sctp_trace.specs.declared.rows.Row.{Row}

abbrev pub other : End → End
other ends.A = ends.B
other ends.B = ends.A

abbrev pub end_name : End → List ℕ
end_name ends.A = codes "a"
end_name ends.B = codes "b"

abbrev pub same_end : End → End → Bool
same_end ends.A ends.A = true
same_end ends.A ends.B = false
same_end ends.B ends.A = false
same_end ends.B ends.B = true

abbrev pub sends_number : Bool → ℕ → What → Bool
sends_number is_its number (kinds.Sent sent bytes label) = is_its && (sent == number)
sends_number is_its number (kinds.Given given) = false
sends_number is_its number (kinds.Note text) = false

-- whether the end sends its packet of this number in the row
abbrev pub sends : End → ℕ → Row → Bool
sends from number row = sends_number (same_end row.end from) number row.what

abbrev pub gives_number : Bool → ℕ → What → Bool
gives_number is_its number (kinds.Sent sent bytes label) = false
gives_number is_its number (kinds.Given given) = is_its && (given == number)
gives_number is_its number (kinds.Note text) = false

-- whether the packet of this number that the end sent is given in the row
abbrev pub is_given : End → ℕ → Row → Bool
is_given from number row = gives_number (same_end row.end (other from)) number row.what
