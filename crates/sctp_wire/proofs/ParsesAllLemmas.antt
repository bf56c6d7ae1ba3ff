-- The bytes determine the items, and what the items stand for.
use Rattle.std.proofs.Common.{◌≡◌, ℕ, ◌+◌, ◌^◌, ◌<◌, ◌≤◌, List, [], ◌∷◌, ◌++◌, length, take, drop, refl, sym, ap, subst, ◌∙◌, arith, inl, inr}
use Rattle.std.specs.Int.{w16, from_be_bytes, to_be_bytes}
use Rattle.std.proofs.lemmas.List.{take_at, drop_at, length-append}
use Rattle.std.proofs.lemmas.Bool.{cases_lt}
use Rattle.std.proofs.lemmas.Nat.{from_be_bytes-to_be_bytes_2}
use Rattle.sctp_item.specs.Item.{Item, item_bytes, padding, Takes, ParsesAll, FailsToParse}

-- two lists that are cut at the same place
pub cut_same : (a x b y : List ℕ) → length a ≡ length b → a ++ x ≡ b ++ y → (a ≡ b) × (x ≡ y)
cut_same a x b y len e = (
  sym (take_at a x (length a) refl) ∙ ap (take (length a)) e ∙ take_at b y (length a) (sym len),
  sym (drop_at a x (length a) refl) ∙ ap (drop (length a)) e ∙ drop_at b y (length a) (sym len),
)

-- the length that two spelled lengths share
same_len : (m n : ℕ) (x y : List ℕ) → 4 + m < 2 ^ 16 → 4 + n < 2 ^ 16 → to_be_bytes w16 (4 + m) ++ x ≡ to_be_bytes w16 (4 + n) ++ y → (m ≡ n) × (x ≡ y)
same_len m n x y hm hn e =
    let parts = cut_same (to_be_bytes w16 (4 + m)) x (to_be_bytes w16 (4 + n)) y refl e in
    let back : 4 + m ≡ 4 + n = sym (from_be_bytes-to_be_bytes_2 (4 + m) hm) ∙ ap (from_be_bytes w16) parts.0 ∙ from_be_bytes-to_be_bytes_2 (4 + n) hn in
    (omega arith, parts.1)

-- the padding of one length is missing in both readings or in neither
same_rest : (p : ℕ) (x rest y after : List ℕ) → length x ≤ p → length y ≤ p → (length x < p → rest ≡ []) → (length y < p → after ≡ []) → x ++ rest ≡ y ++ after → rest ≡ after
same_rest p x rest y after hx hy nx ny e =
    let total : length x + length rest ≡ length y + length after = omega (arith, length-append x rest, length-append y after, ap length e) in
    elim (cases_lt (length x) p) [
      | inl short ↦
          let none = nx short in
          let empty : length rest ≡ 0 = ap length none in
          elim (cases_lt (length y) p) [
            | inl short_too ↦ none ∙ sym (ny short_too)
            | inr long ↦ absurd (omega arith)
          ]
      | inr long ↦
          elim (cases_lt (length y) p) [
            | inl short ↦ let none = ny short in let empty : length after ≡ 0 = ap length none in absurd (omega arith)
            | inr long_too ↦ (cut_same x rest y after (omega arith) e).1
          ]
    ]

abbrev made : ℕ → ℕ → List ℕ → Item
made a b v = record { first = a; second = b; value = v }

same_item : (a b : ℕ) (v : List ℕ) (c d : ℕ) (w : List ℕ) → a ≡ c → b ≡ d → v ≡ w → made a b v ≡ made c d w
same_item a b v c d w p q r = ap (λ (x : ℕ). made x b v) p ∙ ap (λ (x : ℕ). made c x v) q ∙ ap (λ (x : List ℕ). made c d x) r

pub one_item_lem : (bytes rest after : List ℕ) (i j : Item) → Takes bytes i rest → Takes bytes j after → (i ≡ j) × (rest ≡ after)
one_item_lem bytes rest after i j t s =
    let e : item_bytes i ++ (t.pad ++ rest) ≡ item_bytes j ++ (s.pad ++ after) = sym t.joined ∙ s.joined in
    let first : i.first ≡ j.first = cc in
    let second : i.second ≡ j.second = cc in
    let tails : (to_be_bytes w16 (4 + length i.value) ++ i.value) ++ (t.pad ++ rest) ≡ (to_be_bytes w16 (4 + length j.value) ++ j.value) ++ (s.pad ++ after) = ap (drop 2) e in
    let grouped : to_be_bytes w16 (4 + length i.value) ++ (i.value ++ (t.pad ++ rest)) ≡ to_be_bytes w16 (4 + length j.value) ++ (j.value ++ (s.pad ++ after)) = tails in
    let behind = same_len (length i.value) (length j.value) _ _ t.fits s.fits grouped in
    let values = cut_same i.value (t.pad ++ rest) j.value (s.pad ++ after) behind.0 behind.1 in
    let p : padding (length i.value) ≡ padding (length j.value) = ap padding behind.0 in
    (same_item i.first i.second i.value j.first j.second j.value first second values.0, same_rest (padding (length i.value)) t.pad rest s.pad after t.pad_fits (omega (arith, s.pad_fits, p)) t.only_last (λ short. s.only_last (omega (arith, short, p))) values.1)

nothing_taken : (bytes : List ℕ) (i : Item) (rest : List ℕ) → bytes ≡ [] → Takes bytes i rest → ⊥
nothing_taken bytes i rest e t =
    let n : length (item_bytes i ++ (t.pad ++ rest)) ≡ 0 = ap length (sym t.joined ∙ e) in
    omega (arith, n, length-append (item_bytes i) (t.pad ++ rest))

-- an item is at least four bytes
pub takes_four : (bytes : List ℕ) (i : Item) (rest : List ℕ) → Takes bytes i rest → length rest + 4 ≤ length bytes
takes_four bytes i rest t =
    omega (arith, ap length t.joined, length-append (item_bytes i) (t.pad ++ rest), length-append t.pad rest)

-- one more item at the end
pub ParsesAll_push : {X : Type 0} (R : Item → X → Type 0) (bytes : List ℕ) (xs : List X) (mid : List ℕ) (i : Item) (x : X) (rest : List ℕ)
    → ParsesAll R bytes xs mid → Takes mid i rest → R i x → ParsesAll R bytes (xs ++ x ∷ []) rest
ParsesAll_push R bytes [] mid i x rest t taken means = (i, rest, subst (λ (b : List ℕ). Takes b i rest) (sym t) taken, means, refl)
ParsesAll_push R bytes (y ∷ xs) mid i x rest t taken means = (t.0, t.1, t.2, t.3, ParsesAll_push R t.1 xs mid i x rest t.4 taken means)

-- where an item stands for one value at most, the bytes are the same values
pub one_tiling : {X : Type 0} (R : Item → X → Type 0) → ((i : Item) (x y : X) → R i x → R i y → x ≡ y)
    → (bytes : List ℕ) (xs ys : List X) → ParsesAll R bytes xs [] → ParsesAll R bytes ys [] → xs ≡ ys
one_tiling R one bytes [] [] t s = refl
one_tiling R one bytes [] (y ∷ ys) t s = absurd (nothing_taken bytes s.0 s.1 t s.2)
one_tiling R one bytes (x ∷ xs) [] t s = absurd (nothing_taken bytes t.0 t.1 s t.2)
one_tiling {X} R one bytes (x ∷ xs) (y ∷ ys) t s =
    let same = one_item_lem bytes t.1 s.1 t.0 s.0 t.2 s.2 in
    let first : x ≡ y = one s.0 x y (subst (λ (i : Item). R i x) same.0 t.3) s.3 in
    let others : xs ≡ ys = one_tiling R one s.1 xs ys (subst (λ (b : List ℕ). ParsesAll R b xs []) same.1 t.4) s.4 in
    ap (λ (z : X). z ∷ xs) first ∙ ap (λ (zs : List X). y ∷ zs) others

-- bytes are values, or they break
whole_or_broken : {X : Type 0} (R : Item → X → Type 0) (bytes : List ℕ) (xs front : List X) (rest : List ℕ)
    → ParsesAll R bytes xs [] → ParsesAll R bytes front rest → 0 < length rest → ((i : Item) (after : List ℕ) (x : X) → Takes rest i after → R i x → ⊥) → ⊥
whole_or_broken R bytes [] [] rest t s some stuck = let n : length rest ≡ 0 = ap length (sym s ∙ t) in omega arith
whole_or_broken R bytes [] (y ∷ ys) rest t s some stuck = nothing_taken bytes s.0 s.1 t s.2
whole_or_broken R bytes (x ∷ xs) [] rest t s some stuck = stuck t.0 t.1 x (subst (λ (b : List ℕ). Takes b t.0 t.1) s t.2) t.3
whole_or_broken R bytes (x ∷ xs) (y ∷ ys) rest t s some stuck =
    let same = one_item_lem bytes t.1 s.1 t.0 s.0 t.2 s.2 in
    whole_or_broken R s.1 xs ys rest (subst (λ (b : List ℕ). ParsesAll R b xs []) same.1 t.4) s.4 some stuck

pub whole_not_broken : {X : Type 0} (R : Item → X → Type 0) (bytes : List ℕ) (xs : List X) → ParsesAll R bytes xs [] → FailsToParse R bytes → ⊥
whole_not_broken R bytes xs t b = whole_or_broken R bytes xs b.front b.rest t b.parses b.some b.stuck
