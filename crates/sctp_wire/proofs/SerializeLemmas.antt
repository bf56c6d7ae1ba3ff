-- Lengths of written items, and lists of items from the back.
use Rattle.std.proofs.Common.{◌≡◌, Bool, true, ℕ, ◌+◌, ◌-◌, ◌*◌, ◌%◌, ◌<◌, ◌≤◌, ◌≢◌, ◌^◌, min, List, [], ◌∷◌, ◌++◌, length, take, drop, map, refl, sym, ap, ◌∙◌, append_assoc, zero, suc, get_or, arith}
use Rattle.std.specs.Prelude.{replicate, nat_lt}
use Rattle.std.specs.List.{flat_map}
use Rattle.std.proofs.lemmas.List.{length-append, length-replicate, map_more, map-append, take-append-drop}
use Rattle.std.proofs.lemmas.Bool.{ltb-true, and_parts}
use Rattle.std.proofs.lemmas.List.Concat.{flat_map-cons}
use Rattle.std.proofs.lemmas.Nat.{mod-mul-add}
use Rattle.sctp_item.specs.Item.{Item, item_bytes, padding}
use Rattle.sctp_wire.specs.Field.{be16}
use Rattle.sctp_wire.specs.Serialize.{IsEncodable, is_encodable, padded_item, inner_items}

pub length_item_bytes : (i : Item) → length (item_bytes i) ≡ 4 + length i.value
length_item_bytes i = omega arith

pub length_padded_item : (i : Item) → length (padded_item i) ≡ 4 + (length i.value + padding (length i.value))
unfolding padded_item
length_padded_item i = omega (arith, length-append i.value (replicate (padding (length i.value)) 0), length-replicate {A = ℕ} (padding (length i.value)) 0)

pub zeros : (n : ℕ) → n < 4 → take {A = ℕ} n (0 ∷ 0 ∷ 0 ∷ []) ≡ replicate {A = ℕ} n 0
zeros zero h = refl
zeros (suc zero) h = refl
zeros (suc (suc zero)) h = refl
zeros (suc (suc (suc zero))) h = refl
zeros (suc (suc (suc (suc n)))) h = absurd (omega arith)

-- a header and a value behind it are the item
pub item_written : (o w k : List ℕ) (n : ℕ) (i : Item) → w ≡ o ++ (k ++ be16 (4 + n)) → k ≡ i.first ∷ i.second ∷ [] → n ≡ length i.value → w ++ i.value ≡ o ++ item_bytes i
unfolding be16
item_written o w k n i e ke ne = rw (e, ke, ne) (append_assoc o ((i.first ∷ i.second ∷ []) ++ be16 (4 + length i.value)) i.value)

-- one more item behind the others, and their padding between
pub inner_items_more : (is : List Item) (i : Item)
    → inner_items (is ++ i ∷ []) ≡ inner_items is ++ (replicate (padding (length (inner_items is))) 0 ++ item_bytes i)
unfolding inner_items padded_item
inner_items_more [] i = refl
inner_items_more (j ∷ []) i =
    let e : padding (length (item_bytes j)) ≡ padding (length j.value) = omega (arith, length_item_bytes j) in
    append_assoc (item_bytes j) (replicate (padding (length j.value)) 0) (item_bytes i) ∙ ap (λ (k : ℕ). item_bytes j ++ (replicate k 0 ++ item_bytes i)) (sym e)
inner_items_more (j ∷ k ∷ is) i =
    let more = inner_items_more (k ∷ is) i in
    let len : padding (length (padded_item j ++ inner_items (k ∷ is))) ≡ padding (length (inner_items (k ∷ is))) = omega (arith, length-append (padded_item j) (inner_items (k ∷ is)), length_padded_item j) in
    ap (λ (x : List ℕ). padded_item j ++ x) more ∙ sym (append_assoc (padded_item j) (inner_items (k ∷ is)) _) ∙ ap (λ (p : ℕ). (padded_item j ++ inner_items (k ∷ is)) ++ (replicate p 0 ++ item_bytes i)) (sym len)

-- its length
pub length_inner_items_more : (is : List Item) (i : Item)
    → length (inner_items (is ++ i ∷ [])) ≡ length (inner_items is) + (padding (length (inner_items is)) + (4 + length i.value))
length_inner_items_more is i = omega (
  arith,
  ap length (inner_items_more is i),
  length-append (inner_items is) (replicate (padding (length (inner_items is))) 0 ++ item_bytes i),
  length-append (replicate (padding (length (inner_items is))) 0) (item_bytes i),
  length-replicate {A = ℕ} (padding (length (inner_items is))) 0,
  length_item_bytes i,
)

-- a sum of lengths that stops at the greatest number
pub size_more : (is : List Item) (i : Item) (size padded valued more : ℕ) → size ≡ min (length (inner_items is)) (2 ^ 64 - 1)
    → padded ≡ min (size + padding size) (2 ^ 64 - 1) → valued ≡ min (padded + min (length i.value) (2 ^ 64 - 1)) (2 ^ 64 - 1)
    → more ≡ min (valued + 4) (2 ^ 64 - 1) → more ≡ min (length (inner_items (is ++ i ∷ []))) (2 ^ 64 - 1)
size_more is i size padded valued more a b c d = omega (arith, length_inner_items_more is i)

-- one more item read off the front of a list
pub taken_more : {X : Type 0} (f : X → Item) (xs : List X) (i : ℕ) (x : X) → i < length xs → x ≡ get_or xs i x
    → map f (take (i + 1) xs) ≡ map f (take i xs) ++ f x ∷ []
taken_more f xs i x low e = map_more f xs i x low ∙ ap (λ y. map f (take i xs) ++ f y ∷ []) (sym e)

-- an item behind others and their padding
pub written_more : (o w z v : List ℕ) (is more : List Item) (i : Item) (padded : ℕ) → w ≡ o ++ inner_items is → padded ≡ padding (length (inner_items is))
    → z ≡ w ++ replicate padded 0 → v ≡ z ++ item_bytes i → more ≡ is ++ i ∷ [] → v ≡ o ++ inner_items more
written_more o w z v is more i padded a b c d e =
    rw (d, c, b, a, e, inner_items_more is i) (simp append_assoc)

pub padding_more : (is more : List Item) (i : Item) → more ≡ is ++ i ∷ [] → padding (length i.value) ≡ padding (length (inner_items more))
padding_more is more i e = rw e (omega (arith, length_inner_items_more is i))

-- entries of one width
pub length_entries : {E : Type 0} (f : E → List ℕ) (width : ℕ) → ((e : E) → length (f e) ≡ width) → (es : List E) → length (flat_map f es) ≡ length es * width
length_entries f width each [] = omega arith
length_entries f width each (e ∷ es) =
    let more = length_entries f width each es in
    ap length (flat_map-cons f e es) ∙ length-append (f e) (flat_map f es) ∙ omega (arith, each e, more)

-- fewer bytes than one entry behind some entries
pub cut_short : {E : Type 0} (f : E → List ℕ) (width : ℕ) → ((e : E) → length (f e) ≡ width) → (es : List E) (bytes rest : List ℕ)
    → bytes ≡ flat_map f es ++ rest → 0 < length rest → length rest < width → length bytes % width ≢ 0
cut_short f width each es bytes rest e some short none =
    let len : length bytes ≡ length es * width + length rest = ap length e ∙ length-append (flat_map f es) rest ∙ ap (λ (k : ℕ). k + length rest) (length_entries f width each es) in
    let left : length rest ≡ 0 = sym (mod-mul-add (length es) width (length rest) short) ∙ ap (λ (k : ℕ). k % width) (sym len) ∙ none in
    omega arith

pub item_padded : (o w : List ℕ) (i : Item) (n : ℕ) → w ≡ o ++ item_bytes i → n ≡ padding (length i.value) → w ++ replicate n 0 ≡ o ++ padded_item i
unfolding padded_item
item_padded o w i n a b = rw (a, b) (append_assoc o (item_bytes i) (replicate (padding (length i.value)) 0))

encodable_parts : (i : Item) (whole : Bool) → is_encodable i whole ≡ true → IsEncodable i × (whole ≡ true)
encodable_parts i whole e =
    let parts = and_parts (nat_lt (4 + length i.value) (2 ^ 16)) whole e in
    (ltb-true (4 + length i.value) (2 ^ 16) parts.0, parts.1)

-- items at the front of others take no more than all of them
inner_front : (is js : List Item) → length (inner_items is) ≤ length (inner_items (is ++ js))
unfolding inner_items
inner_front [] js = omega arith
inner_front (i ∷ []) [] = omega arith
inner_front (i ∷ []) (j ∷ js) = omega (arith, length-append (padded_item i) (inner_items (j ∷ js)), length_padded_item i, length_item_bytes i)
inner_front (i ∷ k ∷ is) js =
    omega (arith, inner_front (k ∷ is) js, length-append (padded_item i) (inner_items (k ∷ is)), length-append (padded_item i) (inner_items (k ∷ is ++ js)))

-- one more item fits where all of them do
pub item_fits : {X : Type 0} (f : X → Item) (xs : List X) (i : ℕ) (x : X) → i < length xs → x ≡ get_or xs i x
    → length (inner_items (map f (take i xs))) + (padding (length (inner_items (map f (take i xs)))) + (4 + length (f x).value)) ≤ length (inner_items (map f xs))
item_fits f xs i x low e =
    let more = taken_more f xs i x low e in
    let split : map f (take (i + 1) xs) ++ map f (drop (i + 1) xs) ≡ map f xs = sym (map-append f (take (i + 1) xs) (drop (i + 1) xs)) ∙ ap (map f) (take-append-drop (i + 1) xs) in
    omega (arith, ap length (ap inner_items more), length_inner_items_more (map f (take i xs)) (f x), inner_front (map f (take (i + 1) xs)) (map f (drop (i + 1) xs)), ap length (ap inner_items split))
