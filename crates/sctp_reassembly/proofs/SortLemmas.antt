-- Entries of a forward point in the order of their streams: a stable sort by stream gives them.
use Rattle.std.proofs.Common.{◌≡◌, ℕ, zero, suc, ◌<◌, ◌≤◌, Bool, true, false, cond, List, [], ◌∷◌, ◌++◌, length, get_or, filter, nat_cmp, is_lt, refl, sym, ap, ◌∙◌, arith, inl, inr, suc-le-suc, zero-le, append_assoc, append-nil}
use Rattle.std.proofs.lemmas.Bool.{cond-true, cond-false, cases_Bool, cases_lt, lt-ltb, le-ltb}
use Rattle.std.proofs.lemmas.Bool.Decides.{nat_tests}
use Rattle.std.proofs.lemmas.List.Elements.{filter-append}
use Rattle.std.specs.List.Sorted.{ties, IsNonDecreasingBy, IsStableByKey}
use Rattle.sctp_chunk.specs.declared.forward_tsn.SkippedStream.{SkippedStream}
use Rattle.sctp_reassembly.specs.ReassemblyStreams.{skipped_id, put_skip, put_each, by_stream}

-- ---- entries of one stream

abbrev is_beside : SkippedStream → SkippedStream → Bool
is_beside = ties (λ x y. is_lt (nat_cmp (skipped_id x) (skipped_id y)))

tied : (m n : ℕ) → ties (λ x y. is_lt (nat_cmp x y)) m n ≡ true → m ≡ n
tied m n h = grind (arith, nat_tests)

ties_from : (m n : ℕ) → m ≡ n → ties (λ x y. is_lt (nat_cmp x y)) m n ≡ true
ties_from m n h = grind (arith, nat_tests)

untied : (m n : ℕ) → m < n → ties (λ x y. is_lt (nat_cmp x y)) m n ≡ false
untied m n h = grind (arith, nat_tests)

one_stream : (x y : SkippedStream) → is_beside x y ≡ true → skipped_id x ≡ skipped_id y
one_stream x y = tied (skipped_id x) (skipped_id y)

filter_keeps_first : (x y : SkippedStream) (ys : List SkippedStream) → is_beside x y ≡ true → filter (is_beside x) (y ∷ ys) ≡ y ∷ filter (is_beside x) ys
filter_keeps_first x y ys h = cond-true _ _ _ h

filter_drops_first : (x y : SkippedStream) (ys : List SkippedStream) → is_beside x y ≡ false → filter (is_beside x) (y ∷ ys) ≡ filter (is_beside x) ys
filter_drops_first x y ys h = cond-false _ _ _ h

filter_keeps_itself : (y : SkippedStream) (ys : List SkippedStream) → filter (is_beside y) (y ∷ ys) ≡ y ∷ filter (is_beside y) ys
filter_keeps_itself y ys = filter_keeps_first y y ys (ties_from (skipped_id y) (skipped_id y) refl)

-- ---- ascending streams

abbrev AreFrom : ℕ → List SkippedStream → Type 0
AreFrom n [] = Unit {0}
AreFrom n (y ∷ ys) = (n ≤ skipped_id y) × AreFrom n ys

abbrev Rise : List SkippedStream → Type 0
Rise [] = Unit {0}
Rise (y ∷ ys) = AreFrom (skipped_id y) ys × Rise ys

from_lower : (n m : ℕ) (ys : List SkippedStream) → n ≤ m → AreFrom m ys → AreFrom n ys
from_lower n m [] le h = tt
from_lower n m (y ∷ ys) le h = let first = h.0 in (omega arith, from_lower n m ys le h.1)

from_at : (n : ℕ) (ys : List SkippedStream) → ((j : ℕ) (d : SkippedStream) → j < length ys → n ≤ skipped_id (get_or ys j d)) → AreFrom n ys
from_at n [] h = tt
from_at n (y ∷ ys) h = (h zero y (suc-le-suc zero-le), from_at n ys (λ j d lt. h (suc j) d (suc-le-suc lt)))

rise_sorted : (ys : List SkippedStream) → IsNonDecreasingBy skipped_id ys → Rise ys
rise_sorted [] h = tt
rise_sorted (y ∷ ys) h = (
  from_at (skipped_id y) ys (λ j d lt. h zero (suc j) d zero-le (suc-le-suc lt)),
  rise_sorted ys (λ i j d le lt. h (suc i) (suc j) d (suc-le-suc le) (suc-le-suc lt)),
)

-- none of a stream below all of them
none_below : (x : SkippedStream) (n : ℕ) (ys : List SkippedStream) → skipped_id x < n → AreFrom n ys → filter (is_beside x) ys ≡ []
none_below x n [] less h = refl
none_below x n (y ∷ ys) less h = filter_drops_first x y ys (untied (skipped_id x) (skipped_id y) (omega (arith, less, h.0))) ∙ none_below x n ys less h.1

not_below : (x y : SkippedStream) (n : ℕ) (ys es : List SkippedStream) → AreFrom n ys → filter (is_beside x) ys ≡ y ∷ es → n ≤ skipped_id x
not_below x y n ys es h some = elim (cases_lt (skipped_id x) n) [
  | inl less ↦ let none = sym (none_below x n ys less h) ∙ some in absurd (cc)
  | inr least ↦ least
]

-- ---- an entry is put

put_before : (e d : SkippedStream) (ds : List SkippedStream) → skipped_id e < skipped_id d → put_skip e (d ∷ ds) ≡ e ∷ (d ∷ ds)
put_before e d ds less = cond-true _ _ _ (lt-ltb _ _ less)

put_behind : (e d : SkippedStream) (ds : List SkippedStream) → skipped_id d ≤ skipped_id e → put_skip e (d ∷ ds) ≡ d ∷ put_skip e ds
put_behind e d ds least = cond-false _ _ _ (le-ltb _ _ least)

put_from : (n : ℕ) (e : SkippedStream) (xs : List SkippedStream) → n ≤ skipped_id e → AreFrom n xs → AreFrom n (put_skip e xs)
put_from n e [] le h = (le, tt)
put_from n e (d ∷ ds) le h = elim (cases_lt (skipped_id e) (skipped_id d)) [
  | inl less ↦ rw (put_before e d ds less) (le, h)
  | inr least ↦ rw (put_behind e d ds least) (h.0, put_from n e ds le h.1)
]

put_rises : (e : SkippedStream) (xs : List SkippedStream) → Rise xs → Rise (put_skip e xs)
put_rises e [] h = (tt, tt)
put_rises e (d ∷ ds) h = elim (cases_lt (skipped_id e) (skipped_id d)) [
  | inl less ↦ rw (put_before e d ds less) ((omega (arith, less), from_lower (skipped_id e) (skipped_id d) ds (omega (arith, less)) h.0), h)
  | inr least ↦ rw (put_behind e d ds least) (put_from (skipped_id d) e ds least h.0, put_rises e ds h.1)
]

-- it comes behind those of its stream
put_beside : (x e : SkippedStream) (xs : List SkippedStream) → Rise xs → filter (is_beside x) (put_skip e xs) ≡ filter (is_beside x) (xs ++ e ∷ [])
put_beside x e [] h = refl
put_beside x e (d ∷ ds) h = elim (cases_lt (skipped_id e) (skipped_id d)) [
  | inl less ↦
      ap (filter (is_beside x)) (put_before e d ds less)
      ∙ elim (cases_Bool (is_beside x e)) [
        | inl with ↦
            let none : filter (is_beside x) (d ∷ ds) ≡ [] = none_below x (skipped_id d) (d ∷ ds) (omega (arith, less, one_stream x e with)) (omega arith, h.0) in
            filter_keeps_first x e (d ∷ ds) with ∙ ap (λ t. e ∷ t) none ∙ sym (filter_keeps_first x e [] with) ∙ ap (λ t. t ++ filter (is_beside x) (e ∷ [])) (sym none) ∙ sym (filter-append (is_beside x) (d ∷ ds) (e ∷ []))
        | inr without ↦
            filter_drops_first x e (d ∷ ds) without ∙ sym (append-nil _) ∙ ap (λ t. filter (is_beside x) (d ∷ ds) ++ t) (sym (filter_drops_first x e [] without)) ∙ sym (filter-append (is_beside x) (d ∷ ds) (e ∷ []))
      ]
  | inr least ↦
      ap (filter (is_beside x)) (put_behind e d ds least) ∙ ap (λ t. cond (is_beside x d) (d ∷ t) t) (put_beside x e ds h.1)
]

each_rises : (es xs : List SkippedStream) → Rise xs → Rise (put_each es xs)
each_rises [] xs h = h
each_rises (e ∷ es) xs h = each_rises es (put_skip e xs) (put_rises e xs h)

each_beside : (x : SkippedStream) (es xs : List SkippedStream) → Rise xs → filter (is_beside x) (put_each es xs) ≡ filter (is_beside x) (xs ++ es)
each_beside x [] xs h = ap (filter (is_beside x)) (sym (append-nil xs))
each_beside x (e ∷ es) xs h =
    each_beside x es (put_skip e xs) (put_rises e xs h) ∙ filter-append (is_beside x) (put_skip e xs) es
    ∙ ap (λ t. t ++ filter (is_beside x) es) (put_beside x e xs h) ∙ sym (filter-append (is_beside x) (xs ++ e ∷ []) es)
    ∙ ap (filter (is_beside x)) (append_assoc xs (e ∷ []) es)

-- ---- ascending lists with the same entries of each stream, in the same order, are one

same_entries : (ys zs : List SkippedStream) → Rise ys → Rise zs → ((x : SkippedStream) → filter (is_beside x) ys ≡ filter (is_beside x) zs) → ys ≡ zs
same_entries [] [] left right same = refl
same_entries [] (z ∷ zs) left right same = let clash = same z ∙ filter_keeps_itself z zs in absurd (cc)
same_entries (y ∷ ys) [] left right same = let clash = sym (same y) ∙ filter_keeps_itself y ys in absurd (cc)
same_entries (y ∷ ys) (z ∷ zs) left right same =
    let up = not_below y y (skipped_id z) (z ∷ zs) _ (omega arith, right.0) (sym (same y) ∙ filter_keeps_itself y ys) in
    let down = not_below z z (skipped_id y) (y ∷ ys) _ (omega arith, left.0) (same z ∙ filter_keeps_itself z zs) in
    let heads = sym (filter_keeps_itself y ys) ∙ same y ∙ filter_keeps_first y z zs (ties_from (skipped_id y) (skipped_id z) (omega (arith, up, down))) in
    let head : y ≡ z = cc in
    let tails : (x : SkippedStream) → filter (is_beside x) ys ≡ filter (is_beside x) zs =
    λ x. elim (cases_Bool (is_beside x y)) [
      | inl with ↦
          let both = sym (filter_keeps_first x y ys with) ∙ same x ∙ filter_keeps_first x z zs (ap (is_beside x) (sym head) ∙ with) in cc
      | inr without ↦
          sym (filter_drops_first x y ys without) ∙ same x ∙ filter_drops_first x z zs (ap (is_beside x) (sym head) ∙ without)
    ] in
    ap (λ w. w ∷ ys) head ∙ ap (λ l. z ∷ l) (same_entries ys zs left.1 right.1 tails)

pub sorted_by_stream : (es sorted : List SkippedStream) → IsNonDecreasingBy skipped_id sorted → IsStableByKey skipped_id nat_cmp es sorted → sorted ≡ by_stream es
sorted_by_stream es sorted rises stable =
    same_entries sorted (by_stream es) (rise_sorted sorted rises) (each_rises es [] tt) (λ x. stable x ∙ sym (each_beside x es [] tt))
