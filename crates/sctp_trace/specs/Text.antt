-- The ladder: a line a row, in which what a says stands left of the lifelines, packets between them, and what b says right of them.
use Rattle.std.specs.Prelude.{◌≡◌, ℕ, ◌-◌, ◌≤◌, List, [], ◌∷◌, ◌++◌, length, map, take, replicate, zero, suc, codes, string_bytes}
use Rattle.std.specs.List.{flat_map, AllPass}
use Rattle.std.specs.Fmt.{decimal}
use Rattle.sctp_trace.specs.declared.rows.End.{End}
use Rattle.sctp_trace.specs.declared.rows.End.TheVariants as ends
use Rattle.sctp_trace.specs.declared.rows.What.{What}
use Rattle.sctp_trace.specs.declared.rows.What.TheVariants as kinds
use Rattle.sctp_trace.specs.declared.rows.Row.{Row}
use Rattle.sctp_trace.specs.Giving.{times_given}
use Rattle.sctp_trace.specs.Ascii.{plain, is_printable}

-- as much of the text as fits the width
abbrev pub front_of : (width : ℕ) → (text : List ℕ) → List ℕ
front_of width text = map plain (take width text)

-- the front of the text, and spaces up to the width, behind it or before it
abbrev pub left_cell : (width : ℕ) → (text : List ℕ) → List ℕ
left_cell width text = front_of width text ++ replicate (width - length text) 32

abbrev pub right_cell : (width : ℕ) → (text : List ℕ) → List ℕ
right_cell width text = replicate (width - length text) 32 ++ front_of width text

-- what is said of a packet that was given so many times
abbrev pub mark : ℕ → List ℕ
mark zero = codes " lost: "
mark (suc zero) = codes ": "
mark (suc (suc more)) = codes " twice: "

abbrev pub sent_caption : (number times : ℕ) → (label : List ℕ) → List ℕ
sent_caption number times label = codes " " ++ (decimal number ++ (mark times ++ (label ++ codes " ")))

abbrev pub given_caption : (number : ℕ) → List ℕ
given_caption number = codes " " ++ (decimal number ++ codes " ")

-- where an arrow begins, and its head
abbrev pub arrow_start : List ℕ
arrow_start = codes "--"

abbrev pub arrow_head : End → List ℕ
arrow_head ends.A = codes "<-"
arrow_head ends.B = codes "->"

-- between the lifelines, 36 columns: two signs at the end's lifeline, and the caption beside them
abbrev pub packet_cell : End → (signs caption : List ℕ) → List ℕ
packet_cell ends.A signs caption = signs ++ left_cell 34 caption
packet_cell ends.B signs caption = right_cell 34 caption ++ signs

abbrev pub row_of_cells : (left middle right : List ℕ) → List ℕ
row_of_cells left middle right = left ++ (codes " |" ++ (middle ++ (codes "|" ++ (right ++ (10 ∷ [])))))

-- both lifelines, with nothing between them
abbrev pub lifelines : List ℕ
lifelines = codes " |" ++ (replicate 36 32 ++ codes "|")

-- what b says, behind a space
abbrev pub note_cell : List ℕ → List ℕ
note_cell text = codes " " ++ front_of 29 text

abbrev pub note_line : End → List ℕ → List ℕ
note_line ends.A text = row_of_cells (right_cell 29 text) (replicate 36 32) []
note_line ends.B text = row_of_cells (replicate 29 32) (replicate 36 32) (note_cell text)

abbrev pub packet_line : List ℕ → List ℕ
packet_line cell = row_of_cells (replicate 29 32) cell []

abbrev pub what_line : (all : List Row) → End → What → List ℕ
what_line all end (kinds.Sent number bytes label) = packet_line (packet_cell end arrow_start (sent_caption number (times_given all end number) (string_bytes label)))
what_line all end (kinds.Given number) = packet_line (packet_cell end (arrow_head end) (given_caption number))
what_line all end (kinds.Note text) = note_line end (string_bytes text)

abbrev pub line_of : (all : List Row) → Row → List ℕ
line_of all row = what_line all row.end row.what

-- the ends' names stand over their lifelines
abbrev pub heading : List ℕ
heading = row_of_cells (right_cell 29 (codes "a")) (replicate 36 32) (codes " b")

abbrev pub ladder_text : List Row → List ℕ
ladder_text rows = heading ++ flat_map (line_of rows) rows

-- printable ASCII of at most 98 columns, and the line's end
pub record IsLine (line : List ℕ) : Type 0 where
  pub text : List ℕ
  pub ended : line ≡ text ++ (10 ∷ [])
  pub fits : length text ≤ 98
  pub printable : AllPass is_printable text

abbrev pub EachLineFits : Type 0
EachLineFits = (rows : List Row) (row : Row) → IsLine (line_of rows row)
