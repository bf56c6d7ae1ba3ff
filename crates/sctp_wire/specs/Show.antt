-- How chunks, parameters and causes are shown: a name, and then each field in the order of the wire as `, name=text`.
use Rattle.std.specs.Prelude.{ℕ, List, [], ◌∷◌, ◌++◌, length, codes}
use Rattle.std.specs.List.{flat_map}
use Rattle.std.specs.Fmt.{decimal}

-- a field's name and its text
pub record FieldText : Type 0 where
  pub name : List ℕ
  pub text : List ℕ

-- the fields one after the other, each behind a comma
abbrev pub fields_text : List FieldText → List ℕ
fields_text [] = []
fields_text (f ∷ fs) = codes ", " ++ (f.name ++ (codes "=" ++ (f.text ++ fields_text fs)))

-- the name and the fields
abbrev pub shown : List ℕ → List FieldText → List ℕ
shown name fields = name ++ fields_text fields

abbrev pub field : List ℕ → List ℕ → FieldText
field name text = record { name = name; text = text }

-- bytes are shown by their number
abbrev pub bytes_text : List ℕ → List ℕ
bytes_text bytes = decimal (length bytes) ++ codes " bytes"

-- a list is shown entry by entry, joined by `/`
abbrev pub behind_slashes : List (List ℕ) → List ℕ
behind_slashes texts = flat_map (λ text. codes "/" ++ text) texts

unfoldable pub join_texts : List (List ℕ) → List ℕ
join_texts [] = []
join_texts (text ∷ texts) = text ++ behind_slashes texts
