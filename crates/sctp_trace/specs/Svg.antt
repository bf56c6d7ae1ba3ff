-- The chart: an element in which one group has an arrow for each giving, and one a cross for each packet that is never given.
use Rattle.std.specs.Prelude.{◌≡◌, ℕ, ◌+◌, ◌*◌, List, [], ◌∷◌, ◌++◌, map, string_bytes}
use Rattle.std.specs.Fmt.{decimal}
use Rattle.std.specs.List.{AllZip}
use Rattle.std.specs.Option.{unwrap_or}
use Rattle.sctp_trace.specs.declared.rows.End.{End}
use Rattle.sctp_trace.specs.declared.rows.End.TheVariants as ends
use Rattle.sctp_trace.specs.declared.rows.Row.{Row}
use Rattle.sctp_trace.specs.declared.giving.Arrow.{Arrow}
use Rattle.sctp_trace.specs.declared.giving.Cross.{Cross}
use Rattle.sctp_trace.specs.declared.svg.Point.{Point}
use Rattle.sctp_trace.specs.declared.xml.Tag.TheVariants as tags
use Rattle.sctp_trace.specs.declared.xml.Key.{Key}
use Rattle.sctp_trace.specs.declared.xml.Key.TheVariants as keys
use Rattle.sctp_trace.specs.declared.xml.Attribute.{Attribute}
use Rattle.sctp_trace.specs.declared.xml.Element.{Element}
use Rattle.sctp_trace.specs.declared.xml.Element.TheViews.{out-Element}
use Rattle.sctp_trace.specs.Rows.{other}
use Rattle.sctp_trace.specs.Giving.{arrows, crosses}
use Rattle.sctp_trace.specs.Xml.{xml_bytes}

-- how far an end's lifeline stands from the left
abbrev pub lifeline_at : End → ℕ
lifeline_at ends.A = 330
lifeline_at ends.B = 670

-- how far a row stands from the top, from 0 on
abbrev pub height_at : ℕ → ℕ
height_at row = row * 14 + 40

-- a row at the lifeline of an end
abbrev pub place_at : End → (row : ℕ) → Point
place_at end row = record { x = lifeline_at end; y = height_at row }

-- an attribute as its name and the bytes of its value
abbrev pub shown : Attribute → Key × List ℕ
shown attribute = (attribute.key, string_bytes attribute.value)

abbrev pub number_shown : Key × ℕ → Key × List ℕ
number_shown number = (number.0, decimal number.1)

abbrev pub class_shown : List ℕ → List (Key × List ℕ)
class_shown [] = []
class_shown (byte ∷ bytes) = (keys.Class, byte ∷ bytes) ∷ []

abbrev pub ends_shown : (from to : Point) → List (Key × List ℕ)
ends_shown from to = (keys.X1, decimal from.x) ∷ (keys.Y1, decimal from.y) ∷ (keys.X2, decimal to.x) ∷ (keys.Y2, decimal to.y) ∷ []

-- a line from the one point to the other
pub record IsLineBetween (from to : Point) (element : Element) : Type 0 where
  pub class : List ℕ
  pub is_line : (out-Element element).tag ≡ tags.Line
  pub points : map shown (out-Element element).attributes.items ≡ class_shown class ++ ends_shown from to

-- the first of the element's children is a line from the one point to the other
pub record BeginsWithLine (from to : Point) (group : Element) : Type 0 where
  pub line : Element
  pub behind : List Element
  pub first : (out-Element group).children.items ≡ line ∷ behind
  pub between : IsLineBetween from to line

-- from the row of the sending, at its end's lifeline, to that of the giving at the other one
abbrev pub IsArrow : Arrow → Element → Type 0
IsArrow arrow group = BeginsWithLine (place_at arrow.from (unwrap_or arrow.sent arrow.given)) (place_at (other arrow.from) arrow.given) group

-- where the cross of a packet stands, half the way to the other lifeline
abbrev pub cross_at : (row : ℕ) → Point
cross_at row = record { x = 500; y = height_at row + 5 }

-- from the row of the sending, at its end's lifeline, to the cross
abbrev pub IsCross : Cross → Element → Type 0
IsCross cross group = BeginsWithLine (place_at cross.from cross.sent) (cross_at cross.sent) group

abbrev pub HasArrows : List Row → Element → Type 0
HasArrows rows group = AllZip IsArrow (arrows rows) (out-Element group).children.items

abbrev pub HasCrosses : List Row → Element → Type 0
HasCrosses rows group = AllZip IsCross (crosses rows) (out-Element group).children.items

-- behind elements stand such groups
pub record AreDrawn (rows : List Row) (before all : List Element) : Type 0 where
  pub given : Element
  pub lost : Element
  pub appended : all ≡ before ++ (given ∷ lost ∷ [])
  pub arrows_drawn : HasArrows rows given
  pub crosses_drawn : HasCrosses rows lost

-- two of the element's children are such groups
pub record IsPicture (rows : List Row) (root : Element) : Type 0 where
  pub before : List Element
  pub given : Element
  pub lost : Element
  pub behind : List Element
  pub within : (out-Element root).children.items ≡ before ++ (given ∷ lost ∷ behind)
  pub arrows_drawn : HasArrows rows given
  pub crosses_drawn : HasCrosses rows lost

-- the bytes are such an element, written
pub record IsChart (rows : List Row) (bytes : List ℕ) : Type 0 where
  pub root : Element
  pub whole : bytes ≡ xml_bytes root
  pub drawn : IsPicture rows root
