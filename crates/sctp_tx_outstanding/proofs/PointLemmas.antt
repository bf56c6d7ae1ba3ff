-- What a forward point passes, and what it names.
use Rattle.std.proofs.Common.{◌≡◌, inl, inr, ℕ, suc, ◌+◌, ◌≤◌, ◌<◌, Bool, true, false, cond, Option, Some, None, List, [], ◌∷◌, length, take, refl, ap, sym, subst, ◌∙◌, arith}
use Rattle.std.specs.Prelude.{◌&&◌, ◌||◌, ◌==◌, not, nat_lt, nat_le, slice_get, if◌then◌else◌}
use Rattle.std.specs.List.{list_all}
use Rattle.std.proofs.lemmas.Bool.{cases_lt, and_from, and_parts, not-true}
use Rattle.std.proofs.lemmas.Bool.Decides.{nat_tests}
use Rattle.sctp_tx_outstanding.specs.declared.skips.SkipEntry.{SkipEntry}
use Rattle.sctp_tx_outstanding.specs.Item.{Item, is_abandoned}
use Rattle.sctp_tx_outstanding.specs.OutstandingData.{Items}
use Rattle.sctp_tx_outstanding.specs.Forward.{ForwardPoint, is_first_given_up, entry_of, is_before, is_same, is_alike, put_entry, with_entry, size_with, stops, passes, pass_item, walk, forward_point}
use Rattle.sctp_tx_outstanding.specs.Point.{named_number, number_in, last_number, IsPoint}
use Rattle.sctp_tx_outstanding.proofs.EntriesLemmas.{point_fits, point_ascends}

-- ---- entries

-- what comes before an entry is of another stream or order than what is alike to it
pub apart : (a b c : ℕ) (u v w : Bool) → (nat_lt a b || ((a == b) && (not u && v))) ≡ true → ((c == b) && is_same w v) ≡ true → ((c == a) && is_same w u) ≡ false
apart a b c true true true before alike = grind (arith, nat_tests)
apart a b c true true false before alike = grind (arith, nat_tests)
apart a b c true false true before alike = grind (arith, nat_tests)
apart a b c true false false before alike = grind (arith, nat_tests)
apart a b c false true true before alike = grind (arith, nat_tests)
apart a b c false true false before alike = grind (arith, nat_tests)
apart a b c false false true before alike = grind (arith, nat_tests)
apart a b c false false false before alike = grind (arith, nat_tests)

-- what is alike to the same is alike
pub alike_both : (a b c : ℕ) (u v w : Bool) → ((a == b) && is_same u v) ≡ true → ((c == a) && is_same w u) ≡ ((c == b) && is_same w v)
alike_both a b c true true w alike = grind (arith, nat_tests)
alike_both a b c true false w alike = grind (arith, nat_tests)
alike_both a b c false true w alike = grind (arith, nat_tests)
alike_both a b c false false w alike = grind (arith, nat_tests)

module _ (e d c : SkipEntry) (cs : List SkipEntry) (ih : named_number e (put_entry d cs) ≡ cond (is_alike e d) (Some d.number) (named_number e cs)) where
  abbrev rest : Option ℕ
  rest = named_number e cs

  -- behind an entry that comes before it
  behind : (mine : Bool) → is_before c d ≡ true → is_alike e d ≡ mine → cond (is_alike e c) (Some c.number) (named_number e (put_entry d cs)) ≡ cond mine (Some d.number) (cond (is_alike e c) (Some c.number) rest)
  behind true before em =
      let off : is_alike e c ≡ false = apart c.stream_id.0 d.stream_id.0 e.stream_id.0 c.is_unordered d.is_unordered e.is_unordered before em in
      ap (λ b. cond b (Some c.number) (named_number e (put_entry d cs))) off ∙ ih ∙ ap (λ b. cond b (Some d.number) rest) em
  behind false before em = ap (λ (o : Option ℕ). cond (is_alike e c) (Some c.number) o) (ih ∙ ap (λ b. cond b (Some d.number) rest) em)

  -- in the place of one that is alike
  instead : (mine : Bool) → is_alike d c ≡ true → is_alike e d ≡ mine → cond (is_alike e d) (Some d.number) rest ≡ cond mine (Some d.number) (cond (is_alike e c) (Some c.number) rest)
  instead true same em = ap (λ b. cond b (Some d.number) rest) em
  instead false same em =
      let other : is_alike e c ≡ false = sym (alike_both d.stream_id.0 c.stream_id.0 e.stream_id.0 d.is_unordered c.is_unordered e.is_unordered same) ∙ em in
      ap (λ b. cond b (Some d.number) rest) em ∙ sym (ap (λ b. cond b (Some c.number) rest) other)

  -- before it
  ahead_of : (mine : Bool) → is_alike e d ≡ mine → named_number e (d ∷ c ∷ cs) ≡ cond mine (Some d.number) (cond (is_alike e c) (Some c.number) rest)
  ahead_of mine em = ap (λ b. cond b (Some d.number) (cond (is_alike e c) (Some c.number) rest)) em

  put_in_lem : (before same : Bool) → is_before c d ≡ before → is_alike d c ≡ same
      → named_number e (cond before (c ∷ put_entry d cs) (cond same (d ∷ cs) (d ∷ c ∷ cs))) ≡ cond (is_alike e d) (Some d.number) (cond (is_alike e c) (Some c.number) rest)
  put_in_lem true same eb es = behind (is_alike e d) eb refl
  put_in_lem false true eb es = instead (is_alike e d) es refl
  put_in_lem false false eb es = ahead_of (is_alike e d) refl

named_is : (e d : SkipEntry) (cs : List SkipEntry) → named_number e (put_entry d cs) ≡ cond (is_alike e d) (Some d.number) (named_number e cs)
named_is e d [] = refl
named_is e d (c ∷ cs) = put_in_lem e d c cs (named_is e d cs) (is_before c d) (is_alike d c) refl refl

pub with_is : (e : SkipEntry) (o : Option SkipEntry) (cs : List SkipEntry) → named_number e (with_entry o cs) ≡ number_in e o (named_number e cs)
with_is e None cs = refl
with_is e (Some d) cs = named_is e d cs

-- ---- the walk

module _ (most : ℕ) (s : Items) where
  -- n more items were passed
  record Walked (f : ForwardPoint) (is : List Item) (n : ℕ) (after : ForwardPoint) : Type 0 where
    count : after.count ≡ f.count + n
    within : n ≤ length is
    given_up : list_all is_abandoned (take n is) ≡ true
    names : (e : SkipEntry) → named_number e after.entries ≡ last_number s.is_interleaved e (named_number e f.entries) (take n is)
    unbroken : (k : ℕ) → f.count ≤ k → k < f.count + n → stops k s ≡ false

  stands : (f : ForwardPoint) (is : List Item) → Walked f is 0 f
  stands f is = record {
    count = omega arith;
    within = omega arith;
    given_up = refl;
    names = λ e. refl;
    unbroken = λ k le lt. absurd (omega (arith, le, lt));
  }

  goes_on_lem : (f : ForwardPoint) (i : Item) (is : List Item) (n : ℕ) (after : ForwardPoint) → passes most s f i ≡ true → Walked (pass_item s f i) is n after → Walked f (i ∷ is) (suc n) after
  goes_on_lem f i is n after e h =
      let a = and_parts (is_abandoned i) (not (stops f.count s) && nat_le (size_with s.is_interleaved (entry_of s.is_interleaved i) f.entries) most) e in
      let b = and_parts (not (stops f.count s)) (nat_le (size_with s.is_interleaved (entry_of s.is_interleaved i) f.entries) most) a.1 in
      record {
        count = omega (arith, h.count);
        within = omega (arith, h.within);
        given_up = and_from (is_abandoned i) (list_all is_abandoned (take n is)) a.0 h.given_up;
        names = λ x. h.names x ∙ ap (λ (o : Option ℕ). last_number s.is_interleaved x o (take n is)) (with_is x (entry_of s.is_interleaved i) f.entries);
        unbroken = λ k le lt. elim (cases_lt f.count k) [ inl p ↦ h.unbroken k p (omega (arith, lt)) | inr p ↦ here k (omega (arith, le, p)) (not-true (stops f.count s) b.0) ];
      }
    where
      here : (k : ℕ) → f.count ≡ k → stops f.count s ≡ false → stops k s ≡ false
      here k e h = subst (λ j. stops j s ≡ false) e h

  walked : (f : ForwardPoint) (is : List Item) → (n : ℕ) × Walked f is n (walk most s f is)
  walked f [] = (0, stands f [])
  walked f (i ∷ is) = go (passes most s f i) refl (walked (pass_item s f i) is) where
    go : (b : Bool) → passes most s f i ≡ b → (n : ℕ) × Walked (pass_item s f i) is n (walk most s (pass_item s f i) is) → (n : ℕ) × Walked f (i ∷ is) n (if b then walk most s (pass_item s f i) is else f)
    go true e h = (suc h.0, goes_on_lem f i is h.0 (walk most s (pass_item s f i) is) e h.1)
    go false e h = (0, stands f (i ∷ is))

-- ---- the whole

abbrev nothing : ForwardPoint
nothing = record { count = 0; entries = [] }

small_first : (m : Bool) (o : Option SkipEntry) (most : ℕ) → 16 ≤ most → nat_le (size_with m o []) most ≡ true
small_first true None most h = grind (arith, nat_tests)
small_first true (Some e) most h = grind (arith, nat_tests)
small_first false None most h = grind (arith, nat_tests)
small_first false (Some e) most h = grind (arith, nat_tests)

first_passes : (most : ℕ) (s : Items) (i : Item) → is_abandoned i ≡ true → 16 ≤ most → passes most s nothing i ≡ true
first_passes most s i abandoned room = and_from (is_abandoned i) _ abandoned (small_first s.is_interleaved (entry_of s.is_interleaved i) most room)

at_least_lem : (most : ℕ) (s : Items) (f : ForwardPoint) (is : List Item) → f.count ≤ (walk most s f is).count
at_least_lem most s f is = let h = walked most s f is in omega (arith, h.1.count)

goes_ahead : (most : ℕ) (s : Items) (is : List Item) → is_first_given_up is ≡ true → 16 ≤ most → 0 < (walk most s nothing is).count
goes_ahead most s [] abandoned room = absurd (cc)
goes_ahead most s (i ∷ is) abandoned room =
    let later : 1 ≤ (walk most s (pass_item s nothing i) is).count = at_least_lem most s (pass_item s nothing i) is in
    subst (λ b. 0 < (if b then walk most s (pass_item s nothing i) is else nothing).count) (sym (first_passes most s i abandoned room)) later

pub points_are_sound : (most : ℕ) (s : Items) → IsPoint most s (forward_point most s)
points_are_sound most s =
    let h = walked most s nothing s.kept in
    let f : ForwardPoint = forward_point most s in
    let n : h.0 ≡ f.count = omega (arith, h.1.count) in
    record {
      within = omega (arith, h.1.within, n);
      given_up = subst (λ k. list_all is_abandoned (take k s.kept) ≡ true) n h.1.given_up;
      named = λ e. subst (λ k. named_number e f.entries ≡ last_number s.is_interleaved e None (take k s.kept)) n (h.1.names e);
      ascends = point_ascends most s s.kept;
      fits = point_fits most s s.kept;
      unbroken = λ k lt. h.1.unbroken k (omega arith) (omega (arith, lt, n));
      ahead = λ due room. goes_ahead most s s.kept (and_parts s.is_partial (is_first_given_up s.kept) due).1 room;
    }

-- ---- where it ends

module _ (most : ℕ) (s : Items) where
  -- so many more items were passed, and the next one can't be
  ends : (f : ForwardPoint) (is : List Item) → (n : ℕ) × ((walk most s f is).count ≡ f.count + n) × ((i : Item) → slice_get is n ≡ Some i → passes most s (walk most s f is) i ≡ false)
  ends f [] = (0, omega arith, λ i e. absurd (cc))
  ends f (i ∷ is) = go (passes most s f i) refl (ends (pass_item s f i) is) where
    go : (b : Bool) → passes most s f i ≡ b
        → (n : ℕ) × ((walk most s (pass_item s f i) is).count ≡ (pass_item s f i).count + n) × ((j : Item) → slice_get is n ≡ Some j → passes most s (walk most s (pass_item s f i) is) j ≡ false)
        → (n : ℕ) × ((if b then walk most s (pass_item s f i) is else f).count ≡ f.count + n)
        × ((j : Item) → slice_get (i ∷ is) n ≡ Some j → passes most s (if b then walk most s (pass_item s f i) is else f) j ≡ false)
    go true e h = (suc h.0, omega (arith, h.1), λ j ej. h.2 j ej)
    go false e h = (0, omega arith, λ j ej. here j cc)
      where
        here : (j : Item) → i ≡ j → passes most s f j ≡ false
        here j same = subst (λ x. passes most s f x ≡ false) same e

pub points_go_far : (most : ℕ) (s : Items) (i : Item) → slice_get s.kept (forward_point most s).count ≡ Some i → passes most s (forward_point most s) i ≡ false
points_go_far most s i there =
    let h = ends most s nothing s.kept in
    let n : h.0 ≡ (forward_point most s).count = omega (arith, h.1) in
    h.2 i (subst (λ k. slice_get s.kept k ≡ Some i) (sym n) there)
