-- Each line of the ladder is printable ASCII of at most 98 columns.
use Rattle.std.proofs.Common.{◌≡◌, ℕ, ◌+◌, ◌-◌, ◌≤◌, List, [], ◌∷◌, ◌++◌, length, map, take, get_or, refl, ap, sym, ◌∙◌, arith, append_assoc, length-append}
use Rattle.std.proofs.lemmas.List.{length-map, length-replicate, length-take}
use Rattle.std.proofs.lemmas.List.Elements.{All-append, All-map, All-replicate, All-cons, All-nil}
use Rattle.std.specs.Prelude.{Bool, true, false, if◌then◌else◌, codes, replicate, string_bytes}
use Rattle.std.specs.List.{AllPass}
use Rattle.sctp_trace.specs.declared.rows.End.{End}
use Rattle.sctp_trace.specs.declared.rows.End.TheVariants as ends
use Rattle.sctp_trace.specs.declared.rows.What.{What}
use Rattle.sctp_trace.specs.declared.rows.What.TheVariants as kinds
use Rattle.sctp_trace.specs.declared.rows.Row.{Row}
use Rattle.sctp_trace.specs.Giving.{times_given}
use Rattle.sctp_trace.specs.Ascii.{is_printable, plain}
use Rattle.sctp_trace.specs.Text.{front_of, left_cell, right_cell, note_cell, sent_caption, given_caption, arrow_start, arrow_head, packet_cell, row_of_cells, note_line, packet_line, what_line, line_of, heading, IsLine}

abbrev Printable : ℕ → Type 0
Printable n = is_printable n ≡ true

-- printable ASCII of at most so many columns
pub record IsCell (width : ℕ) (cell : List ℕ) : Type 0 where
  pub fits : length cell ≤ width
  pub printable : AllPass is_printable cell

chosen : (is_its : Bool) (n : ℕ) → is_printable n ≡ is_its → is_printable (if is_its then n else 63) ≡ true
chosen true n e = e
chosen false n e = refl

plain_printable : (n : ℕ) → is_printable (plain n) ≡ true
plain_printable n = chosen (is_printable n) n refl

plains : (text : List ℕ) → AllPass is_printable (map plain text)
plains text = All-map Printable plain text (λ k d inside. plain_printable (get_or text k d))

spaces : (width : ℕ) → IsCell width (replicate width 32)
spaces width = record { fits = omega (arith, length-replicate {A = ℕ} width 32); printable = All-replicate Printable width 32 refl }

front_is : (width : ℕ) (text : List ℕ) → IsCell width (front_of width text)
front_is width text = record {
  fits = omega (arith, length-map (take width text) plain, length-take width text);
  printable = plains (take width text);
}

length_front : (width : ℕ) (text : List ℕ) → length (front_of width text) + (width - length text) ≤ width
length_front width text = omega (arith, length-map (take width text) plain, length-take width text)

left_is : (width : ℕ) (text : List ℕ) → IsCell width (left_cell width text)
left_is width text = record {
  fits = omega (
    arith,
    length_front width text,
    length-append (front_of width text) (replicate (width - length text) 32),
    length-replicate {A = ℕ} (width - length text) 32,
  );
  printable = All-append Printable (front_of width text) (replicate (width - length text) 32)
      (plains (take width text)) (All-replicate Printable (width - length text) 32 refl);
}

right_is : (width : ℕ) (text : List ℕ) → IsCell width (right_cell width text)
right_is width text = record {
  fits = omega (
    arith,
    length_front width text,
    length-append (replicate (width - length text) 32) (front_of width text),
    length-replicate {A = ℕ} (width - length text) 32,
  );
  printable = All-append Printable (replicate (width - length text) 32) (front_of width text)
      (All-replicate Printable (width - length text) 32 refl) (plains (take width text));
}

note_is : (text : List ℕ) → IsCell 30 (note_cell text)
note_is text = record {
  fits = omega (arith, length-map (take 29 text) plain, length-take 29 text);
  printable = All-cons Printable 32 (front_of 29 text) refl (plains (take 29 text));
}

empty : IsCell 30 []
empty = record { fits = omega arith; printable = All-nil Printable }

-- two cells side by side
joined_is : (m n : ℕ) (left right : List ℕ) → IsCell m left → IsCell n right → IsCell (m + n) (left ++ right)
joined_is m n left right l r = record {
  fits = omega (arith, l.fits, r.fits, length-append left right);
  printable = All-append Printable left right l.printable r.printable;
}

signs_are : (a b : ℕ) → Printable a → Printable b → IsCell 2 (a ∷ b ∷ [])
signs_are a b pa pb = record { fits = omega arith; printable = All-cons Printable a (b ∷ []) pa (All-cons Printable b [] pb (All-nil Printable)) }

start_is : IsCell 2 arrow_start
start_is = signs_are 45 45 refl refl

head_is : (end : End) → IsCell 2 (arrow_head end)
head_is ends.A = signs_are 60 45 refl refl
head_is ends.B = signs_are 45 62 refl refl

packet_is : (end : End) (signs caption : List ℕ) → IsCell 2 signs → IsCell 36 (packet_cell end signs caption)
packet_is ends.A signs caption is = joined_is 2 34 signs (left_cell 34 caption) is (left_is 34 caption)
packet_is ends.B signs caption is = joined_is 34 2 (right_cell 34 caption) signs (right_is 34 caption) is

cells_are_a_line : (left middle right : List ℕ) → IsCell 29 left → IsCell 36 middle → IsCell 30 right → IsLine (row_of_cells left middle right)
cells_are_a_line left middle right l m r = record {
  text = left ++ (32 ∷ 124 ∷ (middle ++ (124 ∷ right)));
  ended = sym (append_assoc left (32 ∷ 124 ∷ (middle ++ (124 ∷ right))) (10 ∷ [])
      ∙ ap (λ (rest : List ℕ). left ++ (32 ∷ 124 ∷ rest)) (append_assoc middle (124 ∷ right) (10 ∷ [])));
  fits = omega (
    arith,
    l.fits,
    m.fits,
    r.fits,
    length-append left (32 ∷ 124 ∷ (middle ++ (124 ∷ right))),
    length-append middle (124 ∷ right),
  );
  printable = All-append Printable left (32 ∷ 124 ∷ (middle ++ (124 ∷ right))) l.printable
      (All-cons Printable 32 (124 ∷ (middle ++ (124 ∷ right))) refl (All-cons Printable 124 (middle ++ (124 ∷ right)) refl
      (All-append Printable middle (124 ∷ right) m.printable (All-cons Printable 124 right refl r.printable))));
}

note_fits : (end : End) (text : List ℕ) → IsLine (note_line end text)
note_fits ends.A text = cells_are_a_line (right_cell 29 text) (replicate 36 32) [] (right_is 29 text) (spaces 36) empty
note_fits ends.B text = cells_are_a_line (replicate 29 32) (replicate 36 32) (note_cell text) (spaces 29) (spaces 36) (note_is text)

packet_fits : (cell : List ℕ) → IsCell 36 cell → IsLine (packet_line cell)
packet_fits cell is = cells_are_a_line (replicate 29 32) cell [] (spaces 29) is empty

what_fits : (all : List Row) (end : End) (what : What) → IsLine (what_line all end what)
what_fits all end (kinds.Sent number bytes label) =
    let caption : List ℕ = sent_caption number (times_given all end number) (string_bytes label) in
    packet_fits (packet_cell end arrow_start caption) (packet_is end arrow_start caption start_is)
what_fits all end (kinds.Given number) =
    packet_fits (packet_cell end (arrow_head end) (given_caption number)) (packet_is end (arrow_head end) (given_caption number) (head_is end))
what_fits all end (kinds.Note text) = note_fits end (string_bytes text)

pub lines_fit : (all : List Row) (row : Row) → IsLine (line_of all row)
lines_fit all row = what_fits all row.end row.what

pub heading_fits : IsLine heading
heading_fits =
    cells_are_a_line (right_cell 29 (codes "a")) (replicate 36 32) (codes " b") (right_is 29 (codes "a")) (spaces 36)
    (record { fits = omega arith; printable = All-cons Printable 32 (98 ∷ []) refl (All-cons Printable 98 [] refl (All-nil Printable)) })
