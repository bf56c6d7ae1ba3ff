-- Streams that are taken out of a map one after the other are those that are named.
use Rattle.std.proofs.Common.{◌≡◌, ℕ, ◌+◌, ◌<◌, ◌≤◌, ◌==◌, ◌||◌, Bool, true, false, cond, List, [], ◌∷◌, Some, None, length, drop, get_or, refl, ap, sym, ◌∙◌, arith}
use Rattle.std.specs.Prelude.{not, filter, sum_by, option_map, unwrap_or}
use Rattle.std.specs.List.{list_any}
use Rattle.std.specs.List.Sorted.{IsStrictlySortedBy}
use Rattle.std.specs.Ordering.{nat_cmp}
use Rattle.std.specs.Map.{lookup, remove_entry, keys_of, values_of}
use Rattle.std.specs.BTreeMap.{is_at}
use Rattle.std.proofs.lemmas.Cmp.{nat_cmp_total, eq_by_cmp_equiv}
use Rattle.std.proofs.lemmas.List.{drop_more, drop_all}
use Rattle.std.proofs.lemmas.Map.{NonePasses}
use Rattle.std.proofs.lemmas.Map.Entries.{none_past_head, sum_by-remove_entry}
use Rattle.std.proofs.lemmas.Map.Keys.{sorted_tail, IsDistinct-from_sorted}
use Rattle.sctp_serial.specs.declared.api.StreamId.{StreamId}
use Rattle.sctp_reassembly.specs.ReassemblyStreams.{Entries, forget}
use Rattle.sctp_serial.proofs.NumberLemmas.{at_equal}

module _ {S : Type 0} where
  -- without the stream
  abbrev pub removed : ℕ → Entries S → Entries S
  removed id es = remove_entry (is_at (nat_cmp id)) es

  -- without those that are named
  abbrev pub without : List StreamId → Entries S → Entries S
  without ids es = filter (λ e. not (list_any (λ i. i.0 == e.0) ids)) es

  none_removed : (id : ℕ) (es : Entries S) → NonePasses (is_at (nat_cmp id)) es → removed id es ≡ es
  none_removed id [] h = refl
  none_removed id (e ∷ es) h = go (is_at (nat_cmp id) e.0) h.0 (none_removed id es h.1)
    where
      go : (b : Bool) → b ≡ false → removed id es ≡ es → cond b es (e ∷ removed id es) ≡ e ∷ es
      go true h ih = absurd (cc)
      go false h ih = ap (λ t. e ∷ t) ih

  pub one_removed : (i : StreamId) (more : List StreamId) (es : Entries S) → IsStrictlySortedBy nat_cmp (keys_of es) → without (i ∷ more) es ≡ without more (removed i.0 es)
  one_removed i more [] s = refl
  one_removed i more (e ∷ es) s = go (i.0 == e.0) refl (one_removed i more es (sorted_tail nat_cmp e.0 (keys_of es) s)) ∙ ap (λ b. without more (cond b es (e ∷ removed i.0 es))) (sym (at_equal i.0 e.0))
    where
      later : is_at (nat_cmp i.0) e.0 ≡ true → removed i.0 es ≡ es
      later h = none_removed i.0 es (none_past_head (eq_by_cmp_equiv nat_cmp_total) i.0 e es (IsDistinct-from_sorted nat_cmp (keys_of (e ∷ es)) s) h)

      go : (b : Bool) → (i.0 == e.0) ≡ b → without (i ∷ more) es ≡ without more (removed i.0 es)
          → cond (not (b || list_any (λ i. i.0 == e.0) more)) (e ∷ without (i ∷ more) es) (without (i ∷ more) es) ≡ without more (cond b es (e ∷ removed i.0 es))
      go true h ih = ih ∙ ap (without more) (later (at_equal i.0 e.0 ∙ h))
      go false h ih = ap (λ t. cond (not (list_any (λ i. i.0 == e.0) more)) (e ∷ t) t) ih

  none_without : (es : Entries S) → without [] es ≡ es
  none_without [] = refl
  none_without (e ∷ es) = ap (λ t. e ∷ t) (none_without es)

  -- a loop over the ids: one more is taken out, and all are
  pub takes_one : (ids : List StreamId) (i : ℕ) (d : StreamId) (es new old : Entries S) → i < length ids → IsStrictlySortedBy nat_cmp (keys_of es) → new ≡ removed (get_or ids i d).0 es
      → without (drop i ids) es ≡ without ids old → without (drop (i + 1) ids) new ≡ without ids old
  takes_one ids i d es new old l s made h =
      ap (without (drop (i + 1) ids)) made ∙ (sym (one_removed (get_or ids i d) (drop (i + 1) ids) es s) ∙ (ap (λ t. without t es) (sym (drop_more ids i d l)) ∙ h))

  pub takes_all : (ids : List StreamId) (i : ℕ) (es old : Entries S) → length ids ≤ i → without (drop i ids) es ≡ without ids old → es ≡ without ids old
  takes_all ids i es old l h = sym (none_without es) ∙ (ap (λ t. without t es) (sym (drop_all i ids l)) ∙ h)

  none_left : (es : Entries S) → filter (λ e. false) es ≡ []
  none_left [] = refl
  none_left (e ∷ es) = none_left es

  pub all_forgotten : (ids : List StreamId) (es : Entries S) → (length ids == 0) ≡ true → [] ≡ forget ids es
  all_forgotten ids es h = sym (ap (λ b. filter (λ e. not (b || list_any (λ i. i.0 == e.0) ids)) es) h ∙ none_left es)

  pub named_forgotten : (ids : List StreamId) (es : Entries S) → (length ids == 0) ≡ false → without ids es ≡ forget ids es
  named_forgotten ids es h = ap (λ b. filter (λ e. not (b || list_any (λ i. i.0 == e.0) ids)) es) (sym h)

module _ {S : Type 0} (weight : S → ℕ) where
  pub sum_removed : (id : ℕ) (es : Entries S) (v : S) → Some v ≡ lookup (is_at (nat_cmp id)) es → sum_by weight (values_of (removed id es)) + weight v ≡ sum_by weight (values_of es)
  sum_removed id es v at = ap (λ o. sum_by weight (values_of (removed id es)) + unwrap_or (option_map weight o) 0) at ∙ sum_by-remove_entry weight (is_at (nat_cmp id)) es

  pub sum_absent : (id : ℕ) (es : Entries S) → None ≡ lookup (is_at (nat_cmp id)) es → sum_by weight (values_of (removed id es)) ≡ sum_by weight (values_of es)
  sum_absent id es at =
      let sums = ap (λ o. sum_by weight (values_of (removed id es)) + unwrap_or (option_map weight o) 0) at ∙ sum_by-remove_entry weight (is_at (nat_cmp id)) es in
      omega (arith, sums)
