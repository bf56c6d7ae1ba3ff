-- Items that were written are taken from the front again.
use Rattle.std.proofs.Common.{◌≡◌, ℕ, suc, List, [], ◌∷◌, ◌++◌, length, map, refl, sym, ap, subst, ◌∙◌, append_assoc, arith}
use Rattle.std.specs.Prelude.{replicate, All}
use Rattle.std.specs.List.{flat_map}
use Rattle.std.proofs.lemmas.List.{append-nil, length-replicate}
use Rattle.std.proofs.lemmas.List.Concat.{flat_map-cons}
use Rattle.sctp_item.specs.Item.{Item, item_bytes, padding, Takes, ParsesAll}
use Rattle.sctp_wire.specs.Serialize.{IsEncodable, padded_item, inner_items, item_of_type, type_of}

pub type_of_typed : (typ : ℕ) (value : List ℕ) → typ ≡ type_of (item_of_type typ value)
type_of_typed typ value = omega arith

pub takes_padded : (i : Item) (rest : List ℕ) → IsEncodable i → Takes (padded_item i ++ rest) i rest
unfolding padded_item
takes_padded i rest fits =
    let len : length (replicate {A = ℕ} (padding (length i.value)) 0) ≡ padding (length i.value) = length-replicate (padding (length i.value)) 0 in
    record {
      pad = replicate (padding (length i.value)) 0;
      joined = append_assoc (item_bytes i) (replicate (padding (length i.value)) 0) rest;
      fits = fits;
      pad_fits = omega (arith, len);
      only_last = λ short. absurd (omega (arith, len, short));
    }

pub takes_last : (i : Item) → IsEncodable i → Takes (item_bytes i) i []
takes_last i fits = record {
  pad = [];
  joined = sym (append-nil (item_bytes i));
  fits = fits;
  pad_fits = omega arith;
  only_last = λ short. refl;
}

-- what holds of each element holds of each but the first
later : {X : Type 0} (P : X → Type 0) (x : X) (xs : List X) → All P (x ∷ xs) → All P xs
later P x xs h k d less = h (suc k) d (omega arith)

pub parses_all_padded : {X : Type 0} (R : Item → X → Type 0) (f : X → Item) (P : X → Type 0)
    → ((x : X) → P x → IsEncodable (f x) × R (f x) x)
    → (xs : List X) (rest : List ℕ) → All P xs → ParsesAll R (flat_map (λ x. padded_item (f x)) xs ++ rest) xs rest
parses_all_padded R f P each [] rest h = refl
parses_all_padded R f P each (x ∷ xs) rest h =
    let one = each x (h 0 x (omega arith)) in
    let behind : List ℕ = flat_map (λ y. padded_item (f y)) xs ++ rest in
    let split : flat_map (λ y. padded_item (f y)) (x ∷ xs) ++ rest ≡ padded_item (f x) ++ behind =
    ap (λ (b : List ℕ). b ++ rest) (flat_map-cons (λ y. padded_item (f y)) x xs)
    ∙ append_assoc (padded_item (f x)) (flat_map (λ y. padded_item (f y)) xs) rest in (
      f x,
      behind,
      subst (λ (b : List ℕ). Takes b (f x) behind) (sym split) (takes_padded (f x) behind one.0),
      one.1,
      parses_all_padded R f P each xs rest (later P x xs h),
    )

pub parses_all_inner : {X : Type 0} (R : Item → X → Type 0) (f : X → Item) (P : X → Type 0)
    → ((x : X) → P x → IsEncodable (f x) × R (f x) x)
    → (xs : List X) → All P xs → ParsesAll R (inner_items (map f xs)) xs []
unfolding inner_items
parses_all_inner R f P each [] h = refl
parses_all_inner R f P each (x ∷ []) h =
    let one = each x (h 0 x (omega arith)) in
    (f x, [], takes_last (f x) one.0, one.1, refl)
parses_all_inner R f P each (x ∷ y ∷ xs) h =
    let one = each x (h 0 x (omega arith)) in (
      f x,
      inner_items (map f (y ∷ xs)),
      takes_padded (f x) (inner_items (map f (y ∷ xs))) one.0,
      one.1,
      parses_all_inner R f P each (y ∷ xs) (later P x (y ∷ xs) h),
    )
