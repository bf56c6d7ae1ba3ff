-- Elements that are put together, and places that are known in two ways.
use Rattle.std.proofs.Common.{◌≡◌, ℕ, ◌+◌, ◌<◌, List, [], ◌∷◌, ◌++◌, take, length, get_or, append_assoc, ap, sym, subst, ◌∙◌}
use Rattle.std.proofs.lemmas.List.{take_more}
use Rattle.std.proofs.lemmas.Slice.Zip.{all_zipped_more}
use Rattle.std.specs.List.{AllZip}
use Rattle.sctp_trace.specs.declared.rows.Row.{Row}
use Rattle.sctp_trace.specs.declared.svg.Point.{Point}
use Rattle.sctp_trace.specs.declared.xml.Element.{Element}
use Rattle.sctp_trace.specs.declared.xml.Element.TheViews.{out-Element}
use Rattle.sctp_trace.specs.Svg.{IsLineBetween, BeginsWithLine, AreDrawn, IsPicture}

-- what is drawn before the words, with them, is a picture
pub pictured : (rows : List Row) (before drawn all : List Element) (words root : Element) → AreDrawn rows before drawn → all ≡ drawn ++ (words ∷ [])
    → (out-Element root).children.items ≡ all → IsPicture rows root
pictured rows before drawn all words root is pushed made = record {
  before = before;
  given = is.given;
  lost = is.lost;
  behind = words ∷ [];
  within = made
      ∙ (pushed
      ∙ (ap (λ (l : List Element). l ++ (words ∷ [])) is.appended ∙ append_assoc before (is.given ∷ is.lost ∷ []) (words ∷ [])));
  arrows_drawn = is.arrows_drawn;
  crosses_drawn = is.crosses_drawn;
}

-- a group that begins with a line, whose ends are known otherwise
pub begins : (from to p q : Point) (line : Element) (behind : List Element) (group : Element) → from ≡ p → to ≡ q
    → IsLineBetween from to line → (out-Element group).children.items ≡ line ∷ behind → BeginsWithLine p q group
begins from to p q line behind group e f is made = record {
  line = line;
  behind = behind;
  first = made;
  between = subst (λ (x : Point). IsLineBetween x q line) e (subst (λ (y : Point). IsLineBetween from y line) f is);
}

-- a loop that has made an element for each item before, and makes one for this item
pub drawn_more : {A B : Type 0} (R : A → B → Type 0) (xs : List A) (ys zs : List B) (i : ℕ) (d : A) (y : B) → i < length xs
    → AllZip R (take i xs) ys → R (get_or xs i d) y → zs ≡ ys ++ (y ∷ []) → AllZip R (take (i + 1) xs) zs
drawn_more {A} {B} R xs ys zs i d y inside before here put =
    subst (λ (ws : List B). AllZip R (take (i + 1) xs) ws) (sym put)
    (subst (λ (vs : List A). AllZip R vs (ys ++ (y ∷ []))) (sym (take_more xs i d inside)) (all_zipped_more R (take i xs) ys (get_or xs i d) y before here))
