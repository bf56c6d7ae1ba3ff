-- Arrows: one for each giving of a packet. Crosses: one for each packet that is never given.
use Rattle.std.specs.Prelude.{◌≡◌, ℕ, zero, suc, ◌+◌, Option, Some, None, List, [], ◌∷◌, ◌++◌, if◌then◌else◌}
use Rattle.std.specs.BTreeMap.{BTreeMap, get}
use Rattle.std.specs.List.{count_by}
use Rattle.std.specs.Option.{unwrap_or}
use Rattle.std.specs.Ordering.{nat_cmp}
use Rattle.sctp_trace.specs.declared.rows.End.{End}
use Rattle.sctp_trace.specs.declared.rows.What.{What}
use Rattle.sctp_trace.specs.declared.rows.What.TheVariants as kinds
use Rattle.sctp_trace.specs.declared.rows.Row.{Row}
use Rattle.sctp_trace.specs.declared.giving.Arrow.{Arrow}
use Rattle.sctp_trace.specs.declared.giving.Cross.{Cross}
use Rattle.sctp_trace.specs.Rows.{other, sends, is_given}

-- the first row, counted from `at`, in which the end sends its packet of this number
abbrev pub sending_from : (at : ℕ) → End → ℕ → List Row → Option ℕ
sending_from at from number [] = None
sending_from at from number (row ∷ rows) = if sends from number row then Some at else sending_from (at + 1) from number rows

abbrev pub sending : List Row → End → ℕ → Option ℕ
sending rows from number = sending_from 0 from number rows

-- in how many rows it is given
abbrev pub times_given : List Row → End → ℕ → ℕ
times_given rows from number = count_by (is_given from number) rows

-- the map has the row in which the end sends each packet
abbrev pub HasSent : List Row → End → BTreeMap ℕ ℕ → Type 0
HasSent rows from sent = (number : ℕ) → get nat_cmp sent number ≡ sending rows from number

-- the map has in how many rows each packet is given
abbrev pub HasGiven : List Row → End → BTreeMap ℕ ℕ → Type 0
HasGiven rows from given = (number : ℕ) → unwrap_or (get nat_cmp given number) 0 ≡ times_given rows from number

-- what f makes of each row and its place, counted from `at`
abbrev pub each_from : {X : Type 0} → (ℕ → Row → List X) → (at : ℕ) → List Row → List X
each_from f at [] = []
each_from f at (row ∷ rows) = f at row ++ each_from f (at + 1) rows

-- the arrow of a row, which is the `at`th of all
abbrev pub arrow_of : (all : List Row) → (at : ℕ) → End → What → List Arrow
arrow_of all at end (kinds.Sent number bytes label) = []
arrow_of all at end (kinds.Given number) = record { from = other end; number = number; sent = sending all (other end) number; given = at } ∷ []
arrow_of all at end (kinds.Note text) = []

abbrev pub row_arrow : (all : List Row) → (at : ℕ) → Row → List Arrow
row_arrow all at row = arrow_of all at row.end row.what

-- one for each giving, in their order
abbrev pub arrows : List Row → List Arrow
arrows rows = each_from (row_arrow rows) 0 rows

-- a cross where it was given in no row
abbrev pub cross_if_lost : (times : ℕ) → Cross → List Cross
cross_if_lost zero cross = cross ∷ []
cross_if_lost (suc times) cross = []

-- the cross of a row, which is the `at`th of all
abbrev pub cross_of : (all : List Row) → (at : ℕ) → End → What → List Cross
cross_of all at end (kinds.Sent number bytes label) = cross_if_lost (times_given all end number) (record { from = end; sent = at })
cross_of all at end (kinds.Given number) = []
cross_of all at end (kinds.Note text) = []

abbrev pub row_cross : (all : List Row) → (at : ℕ) → Row → List Cross
row_cross all at row = cross_of all at row.end row.what

-- one for each packet that is never given, in their order
abbrev pub crosses : List Row → List Cross
crosses rows = each_from (row_cross rows) 0 rows
