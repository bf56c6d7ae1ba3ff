-- A forward point goes on item by item.
use Rattle.std.proofs.Common.{◌≡◌, ℕ, zero, suc, ◌+◌, ◌≤◌, Bool, true, false, cond, List, [], ◌∷◌, length, refl, ap, sym, ◌∙◌, arith}
use Rattle.std.specs.Prelude.{◌&&◌, not, nat_le, Option, Some, None, slice_get}
use Rattle.sctp_tx_outstanding.specs.declared.skips.SkipEntry.{SkipEntry}
use Rattle.sctp_tx_outstanding.specs.Item.{Item, is_abandoned}
use Rattle.sctp_tx_outstanding.specs.OutstandingData.{Items}
use Rattle.sctp_tx_outstanding.specs.Forward.{ForwardPoint, entry_of, size_with, stops, passes, pass_item, passes_of, is_next, entry_in, with_entry, walk, walk_from}

pub yes : (b : Bool) (f g : ForwardPoint) → b ≡ true → cond b f g ≡ f
yes true f g h = refl
yes false f g h = cc

no : (b : Bool) (f g : ForwardPoint) → b ≡ false → cond b f g ≡ g
no true f g h = cc
no false f g h = refl

walk_on : (most : ℕ) (s : Items) (f : ForwardPoint) (k : ℕ) (is : List Item) → passes_of most s f (slice_get is k) ≡ true
    → walk_from (suc k) most s (record { count = suc f.count; entries = with_entry (entry_in s.is_interleaved (slice_get is k)) f.entries }) is ≡ walk_from k most s f is
walk_on most s f zero [] h = cc
walk_on most s f zero (i ∷ is) h = sym (yes (passes most s f i) (walk most s (pass_item s f i) is) f h)
walk_on most s f (suc k) [] h = cc
walk_on most s f (suc k) (i ∷ is) h = walk_on most s f k is h

walk_off : (most : ℕ) (s : Items) (f : ForwardPoint) (k : ℕ) (is : List Item) → passes_of most s f (slice_get is k) ≡ false → f ≡ walk_from k most s f is
walk_off most s f zero [] h = refl
walk_off most s f zero (i ∷ is) h = sym (no (passes most s f i) (walk most s (pass_item s f i) is) f h)
walk_off most s f (suc k) [] h = refl
walk_off most s f (suc k) (i ∷ is) h = walk_off most s f k is h

walk_end : (most : ℕ) (s : Items) (f : ForwardPoint) (k : ℕ) (is : List Item) → length is ≤ k → f ≡ walk_from k most s f is
walk_end most s f zero [] h = refl
walk_end most s f zero (i ∷ is) h = absurd (omega (arith, h))
walk_end most s f (suc k) [] h = refl
walk_end most s f (suc k) (i ∷ is) h = walk_end most s f k is (omega (arith, h))

abbrev pub at : ℕ → List SkipEntry → ForwardPoint
at k es = record { count = k; entries = es }

pub next_passes : (most : ℕ) (s : Items) (k : ℕ) (es : List SkipEntry) (o : Option Item) → stops k s ≡ false → is_next s.is_interleaved most es o ≡ passes_of most s (at k es) o
next_passes most s k es None h = refl
next_passes most s k es (Some i) h = ap (λ b. is_abandoned i && (not b && nat_le (size_with s.is_interleaved (entry_of s.is_interleaved i) es) most)) (sym h)

module _ (most : ℕ) (s : Items) (k : ℕ) (es : List SkipEntry) (whole : ForwardPoint) (so_far : walk_from k most s (at k es) s.kept ≡ whole) where
  pub forward_on : (js : List SkipEntry) → passes_of most s (at k es) (slice_get s.kept k) ≡ true → js ≡ with_entry (entry_in s.is_interleaved (slice_get s.kept k)) es
      → walk_from (k + 1) most s (at (k + 1) js) s.kept ≡ whole
  forward_on js h e =
      let up : k + 1 ≡ suc k = omega arith in
      ap (λ n. walk_from n most s (at n js) s.kept) up ∙ ap (λ xs. walk_from (suc k) most s (at (suc k) xs) s.kept) e ∙ walk_on most s (at k es) k s.kept h ∙ so_far

  pub forward_off : passes_of most s (at k es) (slice_get s.kept k) ≡ false → at k es ≡ whole
  forward_off h = walk_off most s (at k es) k s.kept h ∙ so_far

  pub forward_end : length s.kept ≤ k → at k es ≡ whole
  forward_end h = walk_end most s (at k es) k s.kept h ∙ so_far
