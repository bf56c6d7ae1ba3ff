-- The equation of `written`, by which an element is written part by part.
use Rattle.std.proofs.Common.{◌≡◌, ◌++◌, List, ℕ, [], ◌∷◌, map, ap, ◌∙◌, sym, refl, append_assoc}
use Rattle.std.specs.Prelude.{string_bytes}
use Rattle.std.specs.List.{flat_map}
use Rattle.sctp_trace.specs.declared.xml.Attribute.{Attribute}
use Rattle.sctp_trace.specs.declared.xml.Element.{Element}
use Rattle.sctp_trace.specs.declared.xml.Element.TheViews.{out-Element}
use Rattle.sctp_trace.specs.declared.xml.Element.TheFolds.{fold_out-Element}
use Rattle.sctp_trace.specs.Xml.{element_step, xml_bytes, opening, closing, escape}

joined : (children : List Element) → flat_map (λ (child : List ℕ). child) (map xml_bytes children) ≡ flat_map xml_bytes children
joined [] = refl
joined (e ∷ es) = ap (λ (rest : List ℕ). xml_bytes e ++ rest) (joined es)

pub written_out : (e : Element) → xml_bytes e ≡ opening (out-Element e).tag (out-Element e).attributes.items
    ++ (escape (string_bytes (out-Element e).text) ++ (flat_map xml_bytes (out-Element e).children.items ++ closing (out-Element e).tag))
written_out e = fold_out-Element (List ℕ) element_step e
    ∙ ap (λ (inner : List ℕ). opening (out-Element e).tag (out-Element e).attributes.items ++ (escape (string_bytes (out-Element e).text) ++ (inner ++ closing (out-Element e).tag))) (joined (out-Element e).children.items)

-- what four writers appended in turn is the element
pub written_in_parts : (e : Element) (old a b d f : List ℕ) (attributes : List Attribute) (text : List ℕ)
    → attributes ≡ (out-Element e).attributes.items → text ≡ string_bytes (out-Element e).text
    → a ≡ old ++ opening (out-Element e).tag attributes → b ≡ a ++ escape text
    → d ≡ b ++ flat_map xml_bytes (out-Element e).children.items → f ≡ d ++ closing (out-Element e).tag
    → f ≡ old ++ xml_bytes e
written_in_parts e old a b d f attributes text is_attributes is_text opened is_second inside closed =
    let front : List ℕ = opening (out-Element e).tag (out-Element e).attributes.items in
    let words : List ℕ = escape (string_bytes (out-Element e).text) in
    let inner : List ℕ = flat_map xml_bytes (out-Element e).children.items in
    let last : List ℕ = closing (out-Element e).tag in
    let first : a ≡ old ++ front = opened ∙ ap (λ (x : List Attribute). old ++ opening (out-Element e).tag x) is_attributes in
    let second : b ≡ (old ++ front) ++ words = is_second ∙ (ap (λ (x : List ℕ). a ++ escape x) is_text ∙ ap (λ (x : List ℕ). x ++ words) first) in
    let third : d ≡ ((old ++ front) ++ words) ++ inner = inside ∙ ap (λ (x : List ℕ). x ++ inner) second in
    closed
    ∙ (ap (λ (x : List ℕ). x ++ last) third
    ∙ (append_assoc ((old ++ front) ++ words) inner last
    ∙ (append_assoc (old ++ front) words (inner ++ last)
    ∙ (append_assoc old front (words ++ (inner ++ last)) ∙ ap (λ (x : List ℕ). old ++ x) (sym (written_out e))))))
