-- Entries of a forward point ascend, and with them the chunk has room.
use Rattle.std.proofs.Common.{◌≡◌, ℕ, zero, suc, ◌+◌, ◌*◌, ◌≤◌, ◌<◌, Bool, true, false, cond, Option, Some, None, List, [], ◌∷◌, length, slice_index_or, refl, ap, sym, subst, ◌∙◌, arith}
use Rattle.std.specs.Prelude.{◌&&◌, ◌||◌, ◌==◌, not, nat_lt, nat_le, if◌then◌else◌}
use Rattle.std.specs.List.{list_all, list_any, AllWithin}
use Rattle.std.specs.List.Sorted.{IsNonDecreasingBy, IsPartitionedBy}
use Rattle.std.proofs.lemmas.List.Sorted.{IsPartitionedBy-ltb}
use Rattle.std.proofs.Math.Bool.{or-false}
use Rattle.std.proofs.lemmas.Bool.{eqb-true, leb-true, lt-ltb, ltb-false, ltb-true, or_from, and_parts}
use Rattle.std.proofs.lemmas.Bool.Decides.{nat_tests}
use Rattle.sctp_tx_outstanding.specs.declared.skips.SkipEntry.{SkipEntry}
use Rattle.sctp_tx_outstanding.specs.Item.{Item, is_abandoned}
use Rattle.sctp_tx_outstanding.specs.OutstandingData.{Items, when}
use Rattle.sctp_tx_outstanding.specs.Forward.{ForwardPoint, entry_of, is_before, is_same, is_alike, put_entry, with_entry, count_with, size_with, stops, passes, pass_item, walk, entries_before, is_alike_at}
use Rattle.sctp_tx_outstanding.specs.Point.{Ascend}
use Rattle.sctp_serial.proofs.NumberLemmas.{less_differs, greater_differs}

-- ---- the order of entries is that of numbers

abbrev pub place : ℕ → Bool → ℕ
place a true = 2 * a + 1
place a false = 2 * a

abbrev pub rank : SkipEntry → ℕ
rank e = place e.stream_id.0 e.is_unordered

before_place : (a b : ℕ) (u v : Bool) → (nat_lt a b || ((a == b) && (not u && v))) ≡ nat_lt (place a u) (place b v)
before_place a b true true = grind (arith, nat_tests)
before_place a b true false = grind (arith, nat_tests)
before_place a b false true = grind (arith, nat_tests)
before_place a b false false = grind (arith, nat_tests)

alike_place : (a b : ℕ) (u v : Bool) → ((a == b) && is_same u v) ≡ (place a u == place b v)
alike_place a b true true = grind (arith, nat_tests)
alike_place a b true false = grind (arith, nat_tests)
alike_place a b false true = grind (arith, nat_tests)
alike_place a b false false = grind (arith, nat_tests)

is_below : (a b : ℕ) → (a == b) ≡ false → a ≤ b → a < b
is_below a b h le = grind (arith, nat_tests)

pub before_is : (e d : SkipEntry) → is_before e d ≡ nat_lt (rank e) (rank d)
before_is e d = before_place e.stream_id.0 d.stream_id.0 e.is_unordered d.is_unordered

pub alike_is : (e d : SkipEntry) → is_alike e d ≡ (rank e == rank d)
alike_is e d = alike_place e.stream_id.0 d.stream_id.0 e.is_unordered d.is_unordered

-- ---- entries that ascend from a rank on

abbrev pub Rising : ℕ → List SkipEntry → Type 0
Rising lo [] = Unit {0}
Rising lo (e ∷ es) = (lo ≤ rank e) × Rising (suc (rank e)) es

module _ (e d : SkipEntry) (ds : List SkipEntry) (lo : ℕ) (least : lo ≤ rank e) (h : Rising lo (d ∷ ds)) (ih : suc (rank d) ≤ rank e → Rising (suc (rank d)) (put_entry e ds)) where
  put_rises : (before same : Bool) → is_before d e ≡ before → is_alike e d ≡ same → Rising lo (cond before (d ∷ put_entry e ds) (cond same (e ∷ ds) (e ∷ d ∷ ds)))
  put_rises true same b s = (h.0, ih (ltb-true (rank d) (rank e) (sym (before_is d e) ∙ b)))
  put_rises false true b s = (least, subst (λ k. Rising (suc k) ds) (sym (eqb-true (rank e) (rank d) (sym (alike_is e d) ∙ s))) h.1)
  put_rises false false b s =
      let up : rank e ≤ rank d = ltb-false (rank d) (rank e) (sym (before_is d e) ∙ b) in
      let less : rank e < rank d = is_below (rank e) (rank d) (sym (alike_is e d) ∙ s) up in
      (least, (less, h.1))

named_rises : (e : SkipEntry) (lo : ℕ) (ds : List SkipEntry) → lo ≤ rank e → Rising lo ds → Rising lo (put_entry e ds)
named_rises e lo [] least h = (least, tt)
named_rises e lo (d ∷ ds) least h = put_rises e d ds lo least h (λ le. named_rises e (suc (rank d)) ds le h.1) (is_before d e) (is_alike e d) refl refl

with_rises : (o : Option SkipEntry) (ds : List SkipEntry) → Rising 0 ds → Rising 0 (with_entry o ds)
with_rises None ds h = h
with_rises (Some e) ds h = named_rises e 0 ds (omega arith) h

-- ---- one more entry makes the list no longer than it was counted

none_alike : (e : SkipEntry) (lo : ℕ) (ds : List SkipEntry) → rank e < lo → Rising lo ds → list_any (is_alike e) ds ≡ false
none_alike e lo [] less h = refl
none_alike e lo (d ∷ ds) less h =
    or_from (is_alike e d) (list_any (is_alike e) ds) (alike_is e d ∙ less_differs (rank e) (rank d) (omega (arith, less, h.0)))
    (none_alike e (suc (rank d)) ds (omega (arith, less, h.0)) h.1)

-- behind an entry that comes before it, what is alike is counted alone
counts_on : (a b : Bool) → a ≡ false → when (not (a || b)) 1 ≡ when (not b) 1
counts_on a b h = ap (λ x. when (not (x || b)) 1) h

counts_one : (b : Bool) → b ≡ false → when (not b) 1 ≡ 1
counts_one b h = ap (λ x. when (not x) 1) h

module _ (e d : SkipEntry) (ds : List SkipEntry) (lo : ℕ) (h : Rising lo (d ∷ ds)) (ih : length (put_entry e ds) ≤ count_with (Some e) ds) where
  put_length : (before same : Bool) → is_before d e ≡ before → is_alike e d ≡ same → length (cond before (d ∷ put_entry e ds) (cond same (e ∷ ds) (e ∷ d ∷ ds))) ≤ count_with (Some e) (d ∷ ds)
  put_length true same b s =
      let less : rank d < rank e = ltb-true (rank d) (rank e) (sym (before_is d e) ∙ b) in
      let off : is_alike e d ≡ false = alike_is e d ∙ greater_differs (rank d) (rank e) less in
      let more : when (not (is_alike e d || list_any (is_alike e) ds)) 1 ≡ when (not (list_any (is_alike e) ds)) 1 = counts_on (is_alike e d) (list_any (is_alike e) ds) off in
      omega (arith, ih, more)
  put_length false true b s = omega arith
  put_length false false b s =
      let up : rank e ≤ rank d = ltb-false (rank d) (rank e) (sym (before_is d e) ∙ b) in
      let less : rank e < rank d = is_below (rank e) (rank d) (sym (alike_is e d) ∙ s) up in
      let none : list_any (is_alike e) (d ∷ ds) ≡ false = none_alike e (rank d) (d ∷ ds) less (omega arith, h.1) in
      let one : when (not (list_any (is_alike e) (d ∷ ds))) 1 ≡ 1 = counts_one (list_any (is_alike e) (d ∷ ds)) none in
      omega (arith, one)

named_length : (e : SkipEntry) (lo : ℕ) (ds : List SkipEntry) → Rising lo ds → length (put_entry e ds) ≤ count_with (Some e) ds
named_length e lo [] h = omega arith
named_length e lo (d ∷ ds) h = put_length e d ds lo h (named_length e (suc (rank d)) ds h.1) (is_before d e) (is_alike e d) refl refl

with_length_lem : (o : Option SkipEntry) (ds : List SkipEntry) → Rising 0 ds → length (with_entry o ds) ≤ count_with o ds
with_length_lem None ds h = omega arith
with_length_lem (Some e) ds h = named_length e 0 ds h

-- ---- the walk

abbrev room : (is_interleaved : Bool) → List SkipEntry → ℕ
room m es = size_with m None es

with_room : (m : Bool) (o : Option SkipEntry) (ds : List SkipEntry) → Rising 0 ds → room m (with_entry o ds) ≤ size_with m o ds
with_room true o ds h = let l = with_length_lem o ds h in omega (arith, l)
with_room false o ds h = let l = with_length_lem o ds h in omega (arith, l)

second : (a b c : Bool) → a && (b && c) ≡ true → c ≡ true
second true true c h = h
second true false c h = absurd (cc)
second false b c h = absurd (cc)

module _ (most : ℕ) (s : Items) where
  has_room : (f : ForwardPoint) (i : Item) → Rising 0 f.entries → passes most s f i ≡ true → room s.is_interleaved (pass_item s f i).entries ≤ most
  has_room f i h e =
      let o : Option SkipEntry = entry_of s.is_interleaved i in
      let fits : size_with s.is_interleaved o f.entries ≤ most = leb-true _ most (second (is_abandoned i) (not (stops f.count s)) (nat_le (size_with s.is_interleaved o f.entries) most) e) in
      let less = with_room s.is_interleaved o f.entries h in
      omega (arith, fits, less)

  rises : (f : ForwardPoint) (is : List Item) → Rising 0 f.entries → Rising 0 (walk most s f is).entries
  rises f [] h = h
  rises f (i ∷ is) h = go (passes most s f i) (rises (pass_item s f i) is (with_rises (entry_of s.is_interleaved i) f.entries h)) where
    go : (b : Bool) → Rising 0 (walk most s (pass_item s f i) is).entries → Rising 0 (if b then walk most s (pass_item s f i) is else f).entries
    go true later = later
    go false later = h

  goes_in : (f : ForwardPoint) (is : List Item) → Rising 0 f.entries → room s.is_interleaved f.entries ≤ most → room s.is_interleaved (walk most s f is).entries ≤ most
  goes_in f [] h fits = fits
  goes_in f (i ∷ is) h fits = go (passes most s f i) refl (λ e. goes_in (pass_item s f i) is (with_rises (entry_of s.is_interleaved i) f.entries h) (has_room f i h e)) where
    go : (b : Bool) → passes most s f i ≡ b → (passes most s f i ≡ true → room s.is_interleaved (walk most s (pass_item s f i) is).entries ≤ most)
        → room s.is_interleaved (if b then walk most s (pass_item s f i) is else f).entries ≤ most
    go true e later = later e
    go false e later = fits

  abbrev nothing : ForwardPoint
  nothing = record { count = 0; entries = [] }

  pub point_fits : (is : List Item) → 0 < (walk most s nothing is).count → size_with s.is_interleaved None (walk most s nothing is).entries ≤ most
  point_fits [] some = absurd (omega (arith, some))
  point_fits (i ∷ is) some = go (passes most s nothing i) refl some where
    go : (b : Bool) → passes most s nothing i ≡ b → 0 < (if b then walk most s (pass_item s nothing i) is else nothing).count
        → room s.is_interleaved (if b then walk most s (pass_item s nothing i) is else nothing).entries ≤ most
    go true e some = goes_in (pass_item s nothing i) is (with_rises (entry_of s.is_interleaved i) [] tt) (has_room nothing i tt e)
    go false e some = absurd (omega (arith, some))

-- ---- ascending entries

all_before : (e : SkipEntry) (lo : ℕ) (ds : List SkipEntry) → rank e < lo → Rising lo ds → list_all (is_before e) ds ≡ true
all_before e lo [] less h = refl
all_before e lo (d ∷ ds) less h =
    ap (λ b. b && list_all (is_before e) ds) (before_is e d ∙ lt-ltb (rank e) (rank d) (omega (arith, less, h.0)))
    ∙ all_before e (suc (rank d)) ds (omega (arith, less, h.0)) h.1

ascend : (lo : ℕ) (ds : List SkipEntry) → Rising lo ds → Ascend ds
ascend lo [] h = tt
ascend lo (d ∷ ds) h = (all_before d (suc (rank d)) ds (omega arith) h.1, ascend (suc (rank d)) ds h.1)

pub point_ascends : (most : ℕ) (s : Items) (is : List Item) → Ascend (walk most s (record { count = 0; entries = [] }) is).entries
point_ascends most s is = ascend 0 (walk most s (record { count = 0; entries = [] }) is).entries (rises most s (record { count = 0; entries = [] }) is tt)

-- ---- found by halves

starts : (lo : ℕ) (e : SkipEntry) (es : List SkipEntry) → lo ≤ rank e → Ascend (e ∷ es) → Rising lo (e ∷ es)
starts lo e [] le h = (le, tt)
starts lo e (d ∷ ds) le h =
    let before = and_parts (is_before e d) (list_all (is_before e) ds) h.0 in
    let less : rank e < rank d = ltb-true (rank e) (rank d) (sym (before_is e d) ∙ before.0) in
    (le, starts (suc (rank e)) d ds (omega (arith, less)) h.1)

pub rising : (es : List SkipEntry) → Ascend es → Rising 0 es
rising [] h = tt
rising (e ∷ es) h = starts 0 e es (omega arith) h

pub ascends_with : (o : Option SkipEntry) (es : List SkipEntry) → Ascend es → Ascend (with_entry o es)
ascends_with o es h = ascend 0 (with_entry o es) (with_rises o es (rising es h))

at_least_at : (lo : ℕ) (es : List SkipEntry) → Rising lo es → (k : ℕ) (d : SkipEntry) → k < length es → lo ≤ rank (slice_index_or es k d)
at_least_at lo [] h k d less = absurd (omega (arith, less))
at_least_at lo (e ∷ es) h zero d less = h.0
at_least_at lo (e ∷ es) h (suc k) d less = let later = at_least_at (suc (rank e)) es h.1 k d (omega (arith, less)) in omega (arith, h.0, later)

not_falling : (lo : ℕ) (es : List SkipEntry) → Rising lo es → IsNonDecreasingBy rank es
not_falling lo [] h i j d le less = absurd (omega (arith, less))
not_falling lo (e ∷ es) h zero zero d le less = omega arith
not_falling lo (e ∷ es) h zero (suc j) d le less = let later = at_least_at (suc (rank e)) es h.1 j d (omega (arith, less)) in omega (arith, later)
not_falling lo (e ∷ es) h (suc i) zero d le less = absurd (omega (arith, le))
not_falling lo (e ∷ es) h (suc i) (suc j) d le less = not_falling (suc (rank e)) es h.1 i j d (omega (arith, le)) (omega (arith, less))

pub parted : (e : SkipEntry) (es : List SkipEntry) → Ascend es → IsPartitionedBy (λ d. is_before d e) es
parted e es h i j d le less before =
    let ranked = IsPartitionedBy-ltb rank es (rank e) (not_falling 0 es (rising es h)) i j d le less (sym (before_is (slice_index_or es j d) e) ∙ before) in
    before_is (slice_index_or es i d) e ∙ ranked

pub place_is : (e : SkipEntry) (es : List SkipEntry) (n : ℕ) → n ≤ length es → AllWithin (λ d. is_before d e ≡ true) es 0 n → AllWithin (λ d. is_before d e ≡ false) es n (length es)
    → n ≡ entries_before e es
place_is e [] n le below from = omega (arith, le)
place_is e (d ∷ ds) zero le below from = sym (ap (λ b. cond b (suc (entries_before e ds)) 0) (from 0 d (omega arith) (omega arith)))
place_is e (d ∷ ds) (suc n) le below from =
    let later : n ≡ entries_before e ds =
    place_is e ds n (omega (arith, le)) (λ k x low high. below (suc k) x (omega arith) (omega (arith, high))) (λ k x low high. from (suc k) x (omega (arith, low)) (omega (arith, high))) in
    ap (λ k. suc k) later ∙ sym (ap (λ b. cond b (suc (entries_before e ds)) 0) (below 0 d (omega arith) (omega arith)))

module _ (e d : SkipEntry) (ds : List SkipEntry) (h : Rising (suc (rank d)) ds) (ih : is_alike_at e (entries_before e ds) ds ≡ list_any (is_alike e) ds) where
  found_by : (before : Bool) → is_before d e ≡ before → is_alike_at e (cond before (suc (entries_before e ds)) 0) (d ∷ ds) ≡ (is_alike e d || list_any (is_alike e) ds)
  found_by true before =
      let less : rank d < rank e = ltb-true (rank d) (rank e) (sym (before_is d e) ∙ before) in
      ih ∙ sym (ap (λ b. b || list_any (is_alike e) ds) (alike_is e d ∙ greater_differs (rank d) (rank e) less))
  found_by false before =
      let up : rank e ≤ rank d = ltb-false (rank d) (rank e) (sym (before_is d e) ∙ before) in
      sym (or-false (is_alike e d)) ∙ sym (ap (λ b. is_alike e d || b) (none_alike e (suc (rank d)) ds (omega (arith, up)) h))

alike_found : (e : SkipEntry) (lo : ℕ) (es : List SkipEntry) → Rising lo es → is_alike_at e (entries_before e es) es ≡ list_any (is_alike e) es
alike_found e lo [] h = refl
alike_found e lo (d ∷ ds) h = found_by e d ds h.1 (alike_found e (suc (rank d)) ds h.1) (is_before d e) refl

-- if any is alike, the one at its place is
pub named_at : (e : SkipEntry) (es : List SkipEntry) (n : ℕ) → n ≡ entries_before e es → Ascend es → is_alike_at e n es ≡ list_any (is_alike e) es
named_at e es n at h = ap (λ k. is_alike_at e k es) at ∙ alike_found e 0 es (rising es h)
