-- A tree of elements as XML. Text is printable ASCII; what would be markup is written as a reference.
use Rattle.std.specs.Prelude.{ℕ, ◌==◌, List, [], ◌∷◌, ◌++◌, codes, string_bytes, if◌then◌else◌}
use Rattle.std.specs.List.{flat_map}
use Rattle.sctp_trace.specs.declared.xml.Tag.{Tag}
use Rattle.sctp_trace.specs.declared.xml.Tag.TheVariants as tags
use Rattle.sctp_trace.specs.declared.xml.Key.{Key}
use Rattle.sctp_trace.specs.declared.xml.Key.TheVariants as keys
use Rattle.sctp_trace.specs.declared.xml.Attribute.{Attribute}
use Rattle.sctp_trace.specs.declared.xml.Element.{Element}
use Rattle.sctp_trace.specs.declared.xml.Element.TheOpen.{Element-F}
use Rattle.sctp_trace.specs.declared.xml.Element.TheFolds.{fold-Element}
use Rattle.sctp_trace.specs.Ascii.{plain}

abbrev pub tag_name : Tag → List ℕ
tag_name tags.Svg = codes "svg"
tag_name tags.Style = codes "style"
tag_name tags.Group = codes "g"
tag_name tags.Line = codes "line"
tag_name tags.Path = codes "path"
tag_name tags.Text = codes "text"

abbrev pub key_name : Key → List ℕ
key_name keys.Xmlns = codes "xmlns"
key_name keys.ViewBox = codes "viewBox"
key_name keys.Width = codes "width"
key_name keys.Height = codes "height"
key_name keys.Class = codes "class"
key_name keys.X = codes "x"
key_name keys.Y = codes "y"
key_name keys.X1 = codes "x1"
key_name keys.Y1 = codes "y1"
key_name keys.X2 = codes "x2"
key_name keys.Y2 = codes "y2"
key_name keys.D = codes "d"

-- `"` 34, `&` 38, `'` 39, `<` 60, `>` 62
unfoldable pub escaped_code : ℕ → List ℕ
escaped_code n =
    if n == 34 then codes "&quot;" else if n == 38 then codes "&amp;" else if n == 39 then codes "&apos;"
    else if n == 60 then codes "&lt;" else if n == 62 then codes "&gt;" else (plain n ∷ [])

abbrev pub escape : List ℕ → List ℕ
escape text = flat_map escaped_code text

abbrev pub attribute_bytes : Attribute → List ℕ
attribute_bytes a = codes " " ++ (key_name a.key ++ (codes "=\"" ++ (escape (string_bytes a.value) ++ codes "\"")))

abbrev pub opening : Tag → List Attribute → List ℕ
opening tag attributes = codes "<" ++ (tag_name tag ++ (flat_map attribute_bytes attributes ++ codes ">"))

abbrev pub closing : Tag → List ℕ
closing tag = codes "</" ++ (tag_name tag ++ codes ">\n")

-- an element whose children are written
abbrev pub element_step : Element-F (List ℕ) → List ℕ
element_step e = opening e.tag e.attributes.items ++ (escape (string_bytes e.text) ++ (flat_map (λ (child : List ℕ). child) e.children.items ++ closing e.tag))

-- an element: its attributes, its text, and its children
abbrev pub xml_bytes : Element → List ℕ
xml_bytes = fold-Element (List ℕ) element_step
