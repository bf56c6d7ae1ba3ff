-- A forward point begins with what is known of the first items.
use Rattle.std.proofs.Common.{◌≡◌, inl, inr, ℕ, zero, suc, ◌+◌, ◌≤◌, ◌<◌, ◌++◌, Bool, true, false, cond, Option, Some, None, List, [], ◌∷◌, length, length-append, filter, take, refl, ap, sym, subst, ◌∙◌, arith}
use Rattle.std.specs.Prelude.{◌||◌, ◌==◌, ◌*◌, not, option_map, slice_get, slice_index_or, IfSome}
use Rattle.std.specs.Option.{IsSome}
use Rattle.std.proofs.lemmas.Option.{slice_get_past, slice_get_read}
use Rattle.std.specs.List.{list_all, list_any}
use Rattle.std.proofs.lemmas.Bool.{cases_lt, and_from, and_parts, eqb-true, le-leb}
use Rattle.std.proofs.lemmas.Bool.Decides.{nat_tests}
use Rattle.std.proofs.lemmas.List.{take-append-le}
use Rattle.sctp_tx_outstanding.specs.declared.skips.SkipEntry.{SkipEntry}
use Rattle.sctp_tx_outstanding.specs.declared.skips.Touched.{Touched}
use Rattle.sctp_tx_outstanding.specs.declared.kept.Change.{Change}
use Rattle.sctp_tx_outstanding.specs.declared.kept.Change.TheVariants as changes
use Rattle.sctp_tx_outstanding.specs.Change.{apply_change}
use Rattle.sctp_tx_outstanding.specs.Item.{Item, is_abandoned}
use Rattle.sctp_tx_outstanding.specs.Keeps.{Remains}
use Rattle.sctp_tx_outstanding.specs.OutstandingData.{Items, change_at, when}
use Rattle.sctp_tx_outstanding.specs.Forward.{ForwardPoint, entry_of, entry_size, is_alike, is_before, put_entry, with_entry, count_with, size_with, stops, passes, is_next, entry_in, pass_item, walk, walk_from, forward_point}
use Rattle.sctp_tx_outstanding.specs.Point.{Ascend, named_number, last_number}
use Rattle.sctp_tx_outstanding.specs.Touched.{entries_in, find, last_touch, touch_by, touched_with, is_kept, kept_of}
use Rattle.sctp_tx_outstanding.specs.Passed.{ArePassed, BeginsPoint, entries_over}
use Rattle.sctp_tx_outstanding.proofs.EntriesLemmas.{place, rank, alike_is, Rising, rising, ascends_with}
use Rattle.sctp_tx_outstanding.proofs.ForwardLemmas.{at, yes}
use Rattle.sctp_tx_outstanding.proofs.ItemsStayLemmas.{by_ack, by_uncover, by_nack, by_resending, by_missing}
use Rattle.sctp_tx_outstanding.proofs.PointLemmas.{with_is}
use Rattle.sctp_tx_outstanding.proofs.TotalsLemmas.{length_change}
use Rattle.sctp_tx_outstanding.proofs.TouchedLemmas.{first_gone, kept_more, push_kept, touched_entries, kept_ascends, find_kept, kept_once, number_of, last_is_number, named_is_found}
use Rattle.sctp_serial.proofs.NumberLemmas.{less_differs}

-- what a look-up finds at a place
pub looked_up : {B : Type 0} (now : B → Item) (is : List Item) (n k : ℕ) (o : Option B) → n ≡ length is → (IsSome o → k < n) × (k < n → IsSome o) → IfSome o (λ b. now b ≡ slice_index_or is k (now b)) → option_map now o ≡ slice_get is k
looked_up now is n k None len inside at = elim (cases_lt k n) [
  | inl within ↦ let some = inside.1 within in absurd (cc)
  | inr beyond ↦ sym (slice_get_past is k (omega (arith, len, beyond)))
]
looked_up now is n k (Some b) len inside at = sym (slice_get_read is n k (now b) len (inside.0 refl) at)

-- ---- items come, leave and change

pub passed_left : (m : Bool) (i : Item) (is : List Item) (count left : ℕ) (ts : List Touched) → ArePassed m (i ∷ is) (suc count) left ts → ArePassed m is count (suc left) ts
passed_left m i is count left ts h = record {
  within = omega (arith, h.within);
  given_up = (and_parts (is_abandoned i) (list_all is_abandoned (take count is)) h.given_up).1;
  ascends = h.ascends;
  named = λ e. sym (kept_more left (find e ts)) ∙ ap (λ (o : Option Touched). kept_of (suc left) o) (h.named e) ∙ first_gone m e left i (take count is);
}

pub passed_before : (m : Bool) (is js : List Item) (count left : ℕ) (ts : List Touched) → ArePassed m is count left ts → ArePassed m (is ++ js) count left ts
passed_before m is js count left ts h =
    let same : take count is ≡ take count (is ++ js) = sym (take-append-le count is js h.within) in
    record {
      within = omega (arith, h.within, length-append is js);
      given_up = subst (λ (ks : List Item). list_all is_abandoned ks ≡ true) same h.given_up;
      ascends = h.ascends;
      named = λ e. h.named e ∙ ap (λ (ks : List Item). last_touch m e left None ks) same;
    }

all_next : (n : ℕ) (is : List Item) (i : Item) → slice_get is n ≡ Some i → is_abandoned i ≡ true → list_all is_abandoned (take n is) ≡ true → list_all is_abandoned (take (suc n) is) ≡ true
all_next n [] i here up h = absurd (cc)
all_next zero (j ∷ is) i here up h =
    let same : i ≡ j = cc in
    and_from (is_abandoned j) true (subst (λ (x : Item). is_abandoned x ≡ true) same up) refl
all_next (suc n) (j ∷ is) i here up h =
    let parts = and_parts (is_abandoned j) (list_all is_abandoned (take n is)) h in
    and_from (is_abandoned j) (list_all is_abandoned (take (suc n) is)) parts.0 (all_next n is i here up parts.1)

is_within : (n : ℕ) (is : List Item) (i : Item) → slice_get is n ≡ Some i → suc n ≤ length is
is_within n [] i here = absurd (cc)
is_within zero (j ∷ is) i here = omega arith
is_within (suc n) (j ∷ is) i here = let ih = is_within n is i here in omega (arith, ih)

passed_on : (m : Bool) (is : List Item) (count left : ℕ) (ts : List Touched) (i : Item) → slice_get is count ≡ Some i → is_abandoned i ≡ true → ArePassed m is count left ts
    → ArePassed m is (suc count) left (touched_with (entry_of m i) (left + count) ts)
passed_on m is count left ts i here up h = record {
  within = is_within count is i here;
  given_up = all_next count is i here up h.given_up;
  ascends = subst Ascend (sym (touched_entries (entry_of m i) (left + count) ts)) (ascends_with (entry_of m i) (entries_in ts) h.ascends);
  named = λ e. push_kept m e left count is i ts here (h.named e);
}

pub passed_next : (m : Bool) (most : ℕ) (is : List Item) (count left : ℕ) (ts us : List Touched) → is_next m most (entries_in ts) (slice_get is count) ≡ true
    → us ≡ touched_with (entry_in m (slice_get is count)) (left + count) ts → ArePassed m is count left ts → ArePassed m is (suc count) left us
passed_next m most is count left ts us next put h = go (slice_get is count) refl where
  go : (o : Option Item) → slice_get is count ≡ o → ArePassed m is (suc count) left us
  go None here =
      let none : is_next m most (entries_in ts) None ≡ true = ap (λ (o : Option Item). is_next m most (entries_in ts) o) (sym here) ∙ next in
      absurd (cc)
  go (Some i) here =
      let some : is_next m most (entries_in ts) (Some i) ≡ true = ap (λ (o : Option Item). is_next m most (entries_in ts) o) (sym here) ∙ next in
      let up = (and_parts (is_abandoned i) _ some).0 in
      subst (λ (xs : List Touched). ArePassed m is (suc count) left xs) (sym (put ∙ ap (λ (o : Option Item). touched_with (entry_in m o) (left + count) ts) here)) (passed_on m is count left ts i here up h)

pub passed_kept : (m : Bool) (is : List Item) (count left : ℕ) (ts : List Touched) → ArePassed m is count left ts → ArePassed m is count left (filter (λ t. is_kept left t) ts)
passed_kept m is count left ts h = record {
  within = h.within;
  given_up = h.given_up;
  ascends = kept_ascends left ts h.ascends;
  named = λ e. ap (λ (o : Option Touched). kept_of left o) (find_kept left e ts h.ascends) ∙ kept_once left (find e ts) ∙ h.named e;
}

-- ---- items change

remains : (how : Change) (i : Item) → Remains i (apply_change how i)
remains changes.Ack i = by_ack i
remains changes.Uncover i = by_uncover i
remains (changes.Nack indication fast) i = by_nack indication fast i
remains changes.Retransmit i = by_resending i
remains changes.MissFast i = by_missing i
remains changes.Abandon i = record { fragment = refl; number = refl; given_up = λ e. refl }

same_entry : (how : Change) (m : Bool) (i : Item) → entry_of m (apply_change how i) ≡ entry_of m i
same_entry changes.Ack m i = refl
same_entry changes.Uncover m i = refl
same_entry (changes.Nack indication fast) m i = refl
same_entry changes.Retransmit m i = refl
same_entry changes.MissFast m i = refl
same_entry changes.Abandon m i = refl

module _ (how : Change) where
  all_changed : (k n : ℕ) (is : List Item) → list_all is_abandoned (take n is) ≡ true → list_all is_abandoned (take n (change_at k (apply_change how) is)) ≡ true
  all_changed k zero is h = refl
  all_changed k (suc n) [] h = refl
  all_changed zero (suc n) (i ∷ is) h =
      let parts = and_parts (is_abandoned i) (list_all is_abandoned (take n is)) h in
      and_from (is_abandoned (apply_change how i)) (list_all is_abandoned (take n is)) ((remains how i).given_up parts.0) parts.1
  all_changed (suc k) (suc n) (i ∷ is) h =
      let parts = and_parts (is_abandoned i) (list_all is_abandoned (take n is)) h in
      and_from (is_abandoned i) (list_all is_abandoned (take n (change_at k (apply_change how) is))) parts.0 (all_changed k n is parts.1)

  last_changed : (m : Bool) (e : SkipEntry) (first : ℕ) (found : Option Touched) (k n : ℕ) (is : List Item) → last_touch m e first found (take n is) ≡ last_touch m e first found (take n (change_at k (apply_change how) is))
  last_changed m e first found k zero is = refl
  last_changed m e first found k (suc n) [] = refl
  last_changed m e first found zero (suc n) (i ∷ is) = ap (λ (o : Option SkipEntry). last_touch m e (suc first) (touch_by e first o found) (take n is)) (sym (same_entry how m i))
  last_changed m e first found (suc k) (suc n) (i ∷ is) = last_changed m e (suc first) (touch_by e first (entry_of m i) found) k n is

  pub passed_changed : (m : Bool) (k : ℕ) (is : List Item) (count left : ℕ) (ts : List Touched) → ArePassed m is count left ts → ArePassed m (change_at k (apply_change how) is) count left ts
  passed_changed m k is count left ts h = record {
    within = omega (arith, h.within, length_change k (apply_change how) is);
    given_up = all_changed k count is h.given_up;
    ascends = h.ascends;
    named = λ e. h.named e ∙ last_changed m e left None k count is;
  }

-- ---- entries that ascend are told by what they name

unnamed : (e : SkipEntry) (lo : ℕ) (ds : List SkipEntry) → rank e < lo → Rising lo ds → named_number e ds ≡ None
unnamed e lo [] less h = refl
unnamed e lo (d ∷ ds) less h =
    ap (λ b. cond b (Some d.number) (named_number e ds)) (alike_is e d ∙ less_differs (rank e) (rank d) (omega (arith, less, h.0))) ∙ unnamed e (suc (rank d)) ds (omega (arith, less, h.0)) h.1

itself : (n : ℕ) → (n == n) ≡ true
itself n = grind (arith, nat_tests)

names_first : (e d : SkipEntry) (ds : List SkipEntry) → rank e ≡ rank d → named_number e (d ∷ ds) ≡ Some d.number
names_first e d ds same =
    let alike : is_alike e d ≡ true = alike_is e d ∙ ap (λ n. n == rank d) same ∙ itself (rank d) in
    ap (λ b. cond b (Some d.number) (named_number e ds)) alike

entry_is : (e d : SkipEntry) → e.stream_id.0 ≡ d.stream_id.0 → e.is_unordered ≡ d.is_unordered → e.number ≡ d.number → e ≡ d
entry_is e d a b c = λ j. record { stream_id = record { 0 = a j }; is_unordered = b j; number = c j }

ranked : (a b : ℕ) (u v : Bool) → place a u ≡ place b v → (a ≡ b) × (u ≡ v)
ranked a b true true h = (omega (arith, h), refl)
ranked a b true false h = absurd (omega (arith, h))
ranked a b false true h = absurd (omega (arith, h))
ranked a b false false h = (omega (arith, h), refl)

module _ (e d : SkipEntry) (es ds : List SkipEntry) (lo : ℕ) (he : Rising lo (e ∷ es)) (hd : Rising lo (d ∷ ds)) (same : (x : SkipEntry) → named_number x (e ∷ es) ≡ named_number x (d ∷ ds)) where
  not_less : rank e < rank d → ⊥
  not_less less =
      let here : named_number e (e ∷ es) ≡ Some e.number = names_first e e es refl in
      let none : named_number e (d ∷ ds) ≡ None = unnamed e (rank d) (d ∷ ds) less (omega arith, hd.1) in
      let e1 : Some e.number ≡ None = sym here ∙ same e ∙ none in
      absurd (cc)

  not_more : rank d < rank e → ⊥
  not_more less =
      let here : named_number d (d ∷ ds) ≡ Some d.number = names_first d d ds refl in
      let none : named_number d (e ∷ es) ≡ None = unnamed d (rank e) (e ∷ es) less (omega arith, he.1) in
      let e1 : Some d.number ≡ None = sym here ∙ sym (same d) ∙ none in
      absurd (cc)

  same_rank : rank e ≡ rank d
  same_rank = elim (cases_lt (rank e) (rank d)) [
    | inl less ↦ absurd (not_less less)
    | inr from ↦ elim (cases_lt (rank d) (rank e)) [
      | inl more ↦ absurd (not_more more)
      | inr to ↦ omega (arith, from, to)
    ]
  ]

  same_first : e ≡ d
  same_first =
      let parts = ranked e.stream_id.0 d.stream_id.0 e.is_unordered d.is_unordered same_rank in
      let numbers : Some e.number ≡ Some d.number = sym (names_first e e es refl) ∙ same e ∙ names_first e d ds same_rank in
      let number : e.number ≡ d.number = cc in
      entry_is e d parts.0 parts.1 number

  same_behind : (x : SkipEntry) → named_number x es ≡ named_number x ds
  same_behind x = go (is_alike x e) refl where
    alike : is_alike x e ≡ is_alike x d
    alike = ap (λ (z : SkipEntry). is_alike x z) same_first

    go : (b : Bool) → is_alike x e ≡ b → named_number x es ≡ named_number x ds
    go true h =
        let at_e : rank x ≡ rank e = eqb-true (rank x) (rank e) (sym (alike_is x e) ∙ h) in
        unnamed x (suc (rank e)) es (omega (arith, at_e)) he.1 ∙ sym (unnamed x (suc (rank d)) ds (omega (arith, at_e, same_rank)) hd.1)
    go false h =
        sym (ap (λ b. cond b (Some e.number) (named_number x es)) h) ∙ same x ∙ ap (λ b. cond b (Some d.number) (named_number x ds)) (sym alike ∙ h)

same_entries : (lo : ℕ) (es ds : List SkipEntry) → Rising lo es → Rising lo ds → ((x : SkipEntry) → named_number x es ≡ named_number x ds) → es ≡ ds
same_entries lo [] [] he hd same = refl
same_entries lo [] (d ∷ ds) he hd same =
    let e1 : None ≡ Some d.number = same d ∙ names_first d d ds refl in
    absurd (cc)
same_entries lo (e ∷ es) [] he hd same =
    let e1 : None ≡ Some e.number = sym (same e) ∙ names_first e e es refl in
    absurd (cc)
same_entries lo (e ∷ es) (d ∷ ds) he hd same =
    let up : rank e ≡ rank d = same_rank e d es ds lo he hd same in
    let rest : es ≡ ds =
    same_entries (suc (rank e)) es ds he.1 (subst (λ n. Rising (suc n) ds) (sym up) hd.1) (same_behind e d es ds lo he hd same) in
    ap (λ (z : SkipEntry). z ∷ es) (same_first e d es ds lo he hd same) ∙ ap (λ (zs : List SkipEntry). d ∷ zs) rest

over_ascends : (m : Bool) (es : List SkipEntry) (is : List Item) → Ascend es → Ascend (entries_over m es is)
over_ascends m es [] h = h
over_ascends m es (i ∷ is) h = over_ascends m (with_entry (entry_of m i) es) is (ascends_with (entry_of m i) es h)

over_names : (m : Bool) (e : SkipEntry) (es : List SkipEntry) (is : List Item) → named_number e (entries_over m es is) ≡ last_number m e (named_number e es) is
over_names m e es [] = refl
over_names m e es (i ∷ is) = over_names m e (with_entry (entry_of m i) es) is ∙ ap (λ (o : Option ℕ). last_number m e o is) (with_is e (entry_of m i) es)

module _ (m : Bool) (is : List Item) (count left : ℕ) (ts : List Touched) (h : ArePassed m is count left ts) where
  abbrev kept : List Touched
  kept = filter (λ t. is_kept left t) ts

  same_names : (e : SkipEntry) → named_number e (entries_in kept) ≡ named_number e (entries_over m [] (take count is))
  same_names e =
      named_is_found e kept ∙ ap (λ (o : Option Touched). number_of o) (find_kept left e ts h.ascends ∙ h.named e) ∙ last_is_number m e left None (take count is)
      ∙ sym (over_names m e [] (take count is))

  pub entries_are : entries_in (filter (λ t. is_kept left t) ts) ≡ entries_over m [] (take count is)
  entries_are = same_entries 0 (entries_in kept) (entries_over m [] (take count is)) (rising (entries_in kept) (kept_ascends left ts h.ascends))
      (rising (entries_over m [] (take count is)) (over_ascends m [] (take count is) tt)) same_names

-- ---- the walk goes on from there

or_less : (a b : Bool) → when (not (a || b)) 1 ≤ when (not b) 1
or_less true true = omega arith
or_less true false = omega arith
or_less false true = omega arith
or_less false false = omega arith

at_most_one : (b : Bool) → when b 1 ≤ 1
at_most_one true = omega arith
at_most_one false = omega arith

module _ (e d : SkipEntry) (ds : List SkipEntry) (ih : count_with (Some e) ds ≤ length (put_entry e ds)) where
  longer_by : (before same : Bool) → is_alike e d ≡ same → count_with (Some e) (d ∷ ds) ≤ length (cond before (d ∷ put_entry e ds) (cond same (e ∷ ds) (e ∷ d ∷ ds)))
  longer_by true same eq = let le = or_less (is_alike e d) (list_any (is_alike e) ds) in omega (arith, ih, le)
  longer_by false true eq =
      let none : when (not (is_alike e d || list_any (is_alike e) ds)) 1 ≡ 0 = ap (λ x. when (not (x || list_any (is_alike e) ds)) 1) eq in
      omega (arith, none)
  longer_by false false eq = let le = at_most_one (not (list_any (is_alike e) (d ∷ ds))) in omega (arith, le)

longer : (e : SkipEntry) (ds : List SkipEntry) → count_with (Some e) ds ≤ length (put_entry e ds)
longer e [] = omega arith
longer e (d ∷ ds) = longer_by e d ds (longer e ds) (is_before d e) (is_alike e d) refl

with_longer : (o : Option SkipEntry) (ds : List SkipEntry) → count_with o ds ≤ length (with_entry o ds)
with_longer None ds = omega arith
with_longer (Some e) ds = longer e ds

no_shorter : (o : Option SkipEntry) (ds : List SkipEntry) → length ds ≤ count_with o ds
no_shorter None ds = omega arith
no_shorter (Some e) ds = omega arith

over_longer : (m : Bool) (es : List SkipEntry) (is : List Item) → length es ≤ length (entries_over m es is)
over_longer m es [] = omega arith
over_longer m es (i ∷ is) =
    let a = over_longer m (with_entry (entry_of m i) es) is in
    let b = with_longer (entry_of m i) es in
    let c = no_shorter (entry_of m i) es in
    omega (arith, a, b, c)

sized : (m : Bool) (a b most : ℕ) → a ≤ b → 8 + entry_size m * b ≤ most → 8 + entry_size m * a ≤ most
sized true a b most le h = omega (arith, le, h)
sized false a b most le h = omega (arith, le, h)

module _ (most : ℕ) (s : Items) where
  passes_here : (f : ForwardPoint) (i : Item) (is : List Item) → is_abandoned i ≡ true → stops f.count s ≡ false → size_with s.is_interleaved None (entries_over s.is_interleaved f.entries (i ∷ is)) ≤ most → passes most s f i ≡ true
  passes_here f i is up clear fits =
      let m = s.is_interleaved in
      let o : Option SkipEntry = entry_of m i in
      let a = with_longer o f.entries in
      let b = over_longer m (with_entry o f.entries) is in
      let room : size_with m o f.entries ≤ most = sized m (count_with o f.entries) (length (entries_over m f.entries (i ∷ is))) most (omega (arith, a, b)) fits in
      and_from (is_abandoned i) _ up (and_from (not (stops f.count s)) _ (ap (λ x. not x) clear) (le-leb _ most room))

  walk_over : (n : ℕ) (f : ForwardPoint) (is : List Item) → n ≤ length is → list_all is_abandoned (take n is) ≡ true → ((k : ℕ) → f.count ≤ k → k < f.count + n → stops k s ≡ false)
      → size_with s.is_interleaved None (entries_over s.is_interleaved f.entries (take n is)) ≤ most
      → walk_from n most s (at (f.count + n) (entries_over s.is_interleaved f.entries (take n is))) is ≡ walk most s f is
  walk_over zero f is le up clear fits =
      let same : f.count + 0 ≡ f.count = omega arith in
      ap (λ k. walk most s (at k f.entries) is) same
  walk_over (suc n) f [] le up clear fits = absurd (omega (arith, le))
  walk_over (suc n) f (i ∷ is) le up clear fits =
      let parts = and_parts (is_abandoned i) (list_all is_abandoned (take n is)) up in
      let es = entries_over s.is_interleaved f.entries (take (suc n) (i ∷ is)) in
      let same : f.count + suc n ≡ suc f.count + n = omega arith in
      let here : passes most s f i ≡ true = passes_here f i (take n is) parts.0 (clear f.count (omega arith) (omega arith)) fits in
      ap (λ k. walk_from n most s (at k es) is) same
      ∙ walk_over n (pass_item s f i) is (omega (arith, le)) parts.1 (λ k from to. clear k (omega (arith, from)) (omega (arith, to))) fits
      ∙ sym (yes (passes most s f i) (walk most s (pass_item s f i) is) f here)

  pub begun_walk : (end : ℕ) (f : ForwardPoint) → BeginsPoint most end s.is_interleaved s.kept f → ((k : ℕ) → k < end → stops k s ≡ false)
      → walk_from f.count most s (at f.count f.entries) s.kept ≡ forward_point most s
  begun_walk end f h clear = go f.count refl where
    go : (n : ℕ) → f.count ≡ n → walk_from f.count most s (at f.count f.entries) s.kept ≡ forward_point most s
    go zero none =
        let bare : f.entries ≡ [] = h.entries ∙ ap (λ n. entries_over s.is_interleaved [] (take n s.kept)) none in
        ap (λ n. walk_from n most s (at n f.entries) s.kept) none ∙ ap (λ (es : List SkipEntry). walk most s (at 0 es) s.kept) bare
    go (suc n) some =
        let fits = subst (λ (es : List SkipEntry). size_with s.is_interleaved None es ≤ most) h.entries (h.fits (omega (arith, some))) in
        let count : 0 + f.count ≡ f.count = omega arith in
        ap (λ (es : List SkipEntry). walk_from f.count most s (at f.count es) s.kept) h.entries
        ∙ sym (ap (λ n. walk_from f.count most s (at n (entries_over s.is_interleaved [] (take f.count s.kept))) s.kept) count)
        ∙ walk_over f.count (at 0 []) s.kept h.within h.given_up (λ k from to. clear k (omega (arith, to, h.ends))) fits

  pub begun_ascends : (end : ℕ) (f : ForwardPoint) → BeginsPoint most end s.is_interleaved s.kept f → Ascend f.entries
  begun_ascends end f h = subst Ascend (sym h.entries) (over_ascends s.is_interleaved [] (take f.count s.kept) tt)

pub begun : (most end : ℕ) (m : Bool) (is : List Item) (count left : ℕ) (ts : List Touched) → ArePassed m is count left ts → count ≤ end
    → size_with m None (entries_in (filter (λ t. is_kept left t) ts)) ≤ most → BeginsPoint most end m is (at count (entries_in (filter (λ t. is_kept left t) ts)))
begun most end m is count left ts h ends fits = record { ends = ends; within = h.within; given_up = h.given_up; entries = entries_are m is count left ts h; fits = λ some. fits }
