-- Parts of a list, one after the other.
use Rattle.std.proofs.Common.{◌≡◌, ◌+◌, ◌<◌, ◌≤◌, ℕ, zero, suc, List, [], ◌∷◌, ◌++◌, length, get_or, map, take, drop, All, refl, sym, ap, subst, ◌∙◌, append_assoc, arith}
use Rattle.std.specs.List.{flat_map}
use Rattle.std.proofs.lemmas.List.{drop_all, flat_map_more, length-append, length-map, map-append, take_all, take_more}
use Rattle.std.proofs.lemmas.List.Elements.{All-push}
use Rattle.sctp_wire.specs.Field.{be64}
use Rattle.sctp_handover.specs.Bounds.{ListFits}
use Rattle.sctp_handover.specs.Bytes.{list_bytes}
use Rattle.sctp_handover.specs.Parts.{HasBytes}
use Rattle.sctp_handover.specs.Reads.{Finds}

longer : (bytes more : List ℕ) → HasBytes bytes → length more < length (bytes ++ more)
longer bytes more some =
    let one : length bytes ≡ suc (length some.1) = ap (λ (b : List ℕ). length b) some.2 in
    let both = length-append bytes more in
    omega (arith, one, both)

module _ {X : Type 0} (spelled : X → List ℕ) where
  split : (xs : List X) (place : ℕ) (d : X) → place < length xs → drop place xs ≡ get_or xs place d ∷ drop (suc place) xs
  split [] place d short = absurd (omega (arith, short))
  split (x ∷ xs) zero d short = refl
  split (x ∷ xs) (suc n) d short = split xs n d (omega (arith, short))

  begins : (xs : List X) (after rest : List ℕ) (place : ℕ) (d : X) → place < length xs → rest ≡ flat_map spelled (drop place xs) ++ after
      → rest ≡ spelled (get_or xs place d) ++ (flat_map spelled (drop (suc place) xs) ++ after)
  begins xs after rest place d short er =
      er ∙ ap (λ (ys : List X). flat_map spelled ys ++ after) (split xs place d short) ∙ append_assoc (spelled (get_or xs place d)) (flat_map spelled (drop (suc place) xs)) after

  -- each part takes a byte
  pub goes_on : ((x : X) → HasBytes (spelled x)) → (Fits : X → Type 0) (xs : List X) (after rest left : List ℕ) (place : ℕ) (v : X) → All Fits xs → place < length xs
      → rest ≡ flat_map spelled (drop place xs) ++ after → Finds spelled Fits rest v left → length left < length rest
  goes_on some Fits xs after rest left place v all short er finds =
      let x : X = get_or xs place v in
      let more : List ℕ = flat_map spelled (drop (suc place) xs) ++ after in
      let found = finds x more (all place v short) (begins xs after rest place v short er) in
      let less = longer (spelled x) more (some x) in
      let is : length left ≡ length more = ap (λ (b : List ℕ). length b) found.1 in
      let whole : length rest ≡ length (spelled x ++ more) = ap (λ (b : List ℕ). length b) (begins xs after rest place v short er) in
      omega (arith, less, is, whole)

  pub one_more : (Fits : X → Type 0) (xs : List X) (after rest left : List ℕ) (place : ℕ) (v : X) (vs : List X) → All Fits xs → place < length xs
      → vs ≡ take place xs → rest ≡ flat_map spelled (drop place xs) ++ after → Finds spelled Fits rest v left
      → (vs ++ v ∷ [] ≡ take (place + 1) xs) × (left ≡ flat_map spelled (drop (place + 1) xs) ++ after)
  one_more Fits xs after rest left place v vs all short ev er finds =
      let x : X = get_or xs place v in
      let next : suc place ≡ place + 1 = omega arith in
      let found = finds x (flat_map spelled (drop (suc place) xs) ++ after) (all place v short) (begins xs after rest place v short er) in (
        ap (λ (ys : List X). ys ++ v ∷ []) ev ∙ ap (λ (y : X). take place xs ++ y ∷ []) found.0 ∙ sym (take_more xs place v short),
        found.1 ∙ ap (λ (k : ℕ). flat_map spelled (drop k xs) ++ after) next,
      )

  pub all_of : (xs : List X) (after rest : List ℕ) (place : ℕ) (vs : List X) → length xs ≤ place
      → vs ≡ take place xs → rest ≡ flat_map spelled (drop place xs) ++ after → (vs ≡ xs) × (rest ≡ after)
  all_of xs after rest place vs long ev er = (
    ev ∙ take_all place xs long,
    er ∙ ap (λ (ys : List X). flat_map spelled ys ++ after) (drop_all place xs long),
  )

pub same_list : {X : Type 0} (xs : List X) → xs ≡ map (λ (x : X). x) xs
same_list {X = X} [] = refl
same_list {X = X} (x ∷ xs) = ap (λ (ys : List X). x ∷ ys) (same_list xs)

pub list_fits : {X : Type 0} {Fits : X → Type 0} (xs ys : List X) → xs ≡ ys → ListFits Fits xs → ListFits Fits ys
list_fits {Fits = Fits} xs ys e fits = subst (λ zs. ListFits Fits zs) e fits

pub same_list_fits : {X : Type 0} {Fits : X → Type 0} (xs ys : List X) → xs ≡ ys → ListFits Fits (map (λ x. x) xs) → ListFits Fits ys
same_list_fits xs ys e fits = list_fits _ _ (sym (same_list xs) ∙ e) fits

-- one more number that is written, and the last one
module _ {X : Type 0} (spelled : X → List ℕ) where
  pub number_on : (ns : List X) (i : ℕ) (d : X) (o w v : List ℕ) → i < length ns
      → w ≡ o ++ flat_map spelled (take i ns) → v ≡ w ++ spelled (get_or ns i d) → v ≡ o ++ flat_map spelled (take (i + 1) ns)
  number_on ns i d o w v short before e =
      e ∙ ap (λ (bs : List ℕ). bs ++ spelled (get_or ns i d)) before
      ∙ flat_map_more spelled o (take i ns) (get_or ns i d)
      ∙ ap (λ (ms : List X). o ++ flat_map spelled ms) (sym (take_more ns i d short))

  pub all_written : (ns : List X) (i : ℕ) (o w : List ℕ) → length ns ≤ i → w ≡ o ++ flat_map spelled (take i ns) → w ≡ o ++ flat_map spelled ns
  all_written ns i o w long e = e ∙ ap (λ (ms : List X). o ++ flat_map spelled ms) (take_all i ns long)

-- one more part that is written
module _ {X V : Type 0} (value : X → V) where
  with_one : (xs : List X) (i : ℕ) (x : X) → i < length xs → x ≡ get_or xs i x → map value (take i xs) ++ value x ∷ [] ≡ map value (take (i + 1) xs)
  with_one xs i x short is =
      sym (map-append value (take i xs) (x ∷ []))
      ∙ ap (λ (y : X). map value (take i xs ++ y ∷ [])) is
      ∙ ap (λ (ys : List X). map value ys) (sym (take_more xs i x short))

  pub written_on : (spelled : V → List ℕ) (xs : List X) (i : ℕ) (x : X) (o w v : List ℕ) → i < length xs → x ≡ get_or xs i x
      → w ≡ o ++ flat_map spelled (map value (take i xs)) → v ≡ w ++ spelled (value x) → v ≡ o ++ flat_map spelled (map value (take (i + 1) xs))
  written_on spelled xs i x o w v short is before e =
      e ∙ ap (λ (bs : List ℕ). bs ++ spelled (value x)) before
      ∙ flat_map_more spelled o (map value (take i xs)) (value x)
      ∙ ap (λ (vs : List V). o ++ flat_map spelled vs) (with_one xs i x short is)

  pub fit_on : (Fits : V → Type 0) (xs : List X) (i : ℕ) (x : X) → i < length xs → x ≡ get_or xs i x
      → All Fits (map value (take i xs)) → Fits (value x) → All Fits (map value (take (i + 1) xs))
  fit_on Fits xs i x short is before one = subst (λ vs. All Fits vs) (with_one xs i x short is) (All-push Fits (map value (take i xs)) (value x) before one)

  pub parts_written : (spelled : V → List ℕ) (xs : List X) (i : ℕ) (o w : List ℕ) → length xs ≤ i
      → w ≡ o ++ flat_map spelled (map value (take i xs)) → w ≡ o ++ flat_map spelled (map value xs)
  parts_written spelled xs i o w long e = e ∙ ap (λ (ys : List X). o ++ flat_map spelled (map value ys)) (take_all i xs long)

  pub parts_fit : (Fits : V → Type 0) (xs : List X) (i : ℕ) → length xs ≤ i → All Fits (map value (take i xs)) → All Fits (map value xs)
  parts_fit Fits xs i long fit = subst (λ ys. All Fits (map value ys)) (take_all i xs long) fit

  pub list_written : (spelled : V → List ℕ) (xs : List X) (o w v : List ℕ) (n : ℕ) → n ≡ length xs
      → w ≡ o ++ be64 n → v ≡ w ++ flat_map spelled (map value xs) → v ≡ o ++ list_bytes spelled (map value xs)
  unfolding list_bytes
  list_written spelled xs o w v n many before e = rw (e, before, many, length-map xs value) (append_assoc o (be64 (length xs)) (flat_map spelled (map value xs)))
