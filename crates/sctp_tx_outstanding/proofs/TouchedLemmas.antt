-- Streams that items touch.
use Rattle.std.proofs.Common.{◌≡◌, ℕ, zero, suc, ◌+◌, ◌≤◌, ◌<◌, Bool, true, false, cond, Option, Some, None, List, [], ◌∷◌, length, slice_set, slice_index_or, filter, take, map, refl, ap, sym, subst, ◌∙◌, arith}
use Rattle.std.specs.Prelude.{nat_le, slice_get}
use Rattle.std.specs.List.{list_all, insert, AllWithin}
use Rattle.std.specs.List.Sorted.{IsPartitionedBy}
use Rattle.std.proofs.lemmas.List.{length-map}
use Rattle.std.proofs.lemmas.Bool.{and_from, and_parts, eqb-true, le-leb, ltb-true}
use Rattle.std.proofs.lemmas.Bool.Decides.{nat_tests}
use Rattle.sctp_serial.proofs.NumberLemmas.{less_differs}
use Rattle.sctp_tx_outstanding.specs.declared.skips.SkipEntry.{SkipEntry}
use Rattle.sctp_tx_outstanding.specs.declared.skips.Touched.{Touched}
use Rattle.sctp_tx_outstanding.specs.Item.{Item}
use Rattle.sctp_tx_outstanding.specs.Forward.{entry_of, is_before, is_alike, is_alike_at, put_entry, with_entry, entries_before}
use Rattle.sctp_tx_outstanding.specs.Point.{Ascend, named_number, number_in, last_number}
use Rattle.sctp_tx_outstanding.specs.Touched.{entries_in, put_touched, touched_with, find, touch_by, last_touch, is_kept, kept_of}
use Rattle.sctp_tx_outstanding.proofs.EntriesLemmas.{rank, before_is, alike_is, parted}
use Rattle.sctp_tx_outstanding.proofs.PointLemmas.{apart, alike_both}

-- ---- one is put

with_entries : (t u : Touched) (us : List Touched) (before same : Bool)
    → entries_in (cond before (u ∷ put_touched t us) (cond same (t ∷ us) (t ∷ u ∷ us))) ≡ cond before (u.entry ∷ entries_in (put_touched t us)) (cond same (t.entry ∷ entries_in us) (t.entry ∷ u.entry ∷ entries_in us))
with_entries t u us true same = refl
with_entries t u us false true = refl
with_entries t u us false false = refl

put_entries : (t : Touched) (us : List Touched) → entries_in (put_touched t us) ≡ put_entry t.entry (entries_in us)
put_entries t [] = refl
put_entries t (u ∷ us) =
    with_entries t u us (is_before u.entry t.entry) (is_alike t.entry u.entry)
    ∙ ap (λ (es : List SkipEntry). cond (is_before u.entry t.entry) (u.entry ∷ es) (cond (is_alike t.entry u.entry) (t.entry ∷ entries_in us) (t.entry ∷ u.entry ∷ entries_in us))) (put_entries t us)

pub touched_entries : (o : Option SkipEntry) (k : ℕ) (ts : List Touched) → entries_in (touched_with o k ts) ≡ with_entry o (entries_in ts)
touched_entries None k ts = refl
touched_entries (Some e) k ts = put_entries (record { entry = e; last = k }) ts

module _ (e : SkipEntry) (t u : Touched) (us : List Touched) (ih : find e (put_touched t us) ≡ cond (is_alike e t.entry) (Some t) (find e us)) where
  abbrev rest : Option Touched
  rest = find e us

  behind : (mine : Bool) → is_before u.entry t.entry ≡ true → is_alike e t.entry ≡ mine → cond (is_alike e u.entry) (Some u) (find e (put_touched t us)) ≡ cond mine (Some t) (cond (is_alike e u.entry) (Some u) rest)
  behind true before em =
      let off : is_alike e u.entry ≡ false = apart u.entry.stream_id.0 t.entry.stream_id.0 e.stream_id.0 u.entry.is_unordered t.entry.is_unordered e.is_unordered before em in
      ap (λ b. cond b (Some u) (find e (put_touched t us))) off ∙ ih ∙ ap (λ b. cond b (Some t) rest) em
  behind false before em = ap (λ (o : Option Touched). cond (is_alike e u.entry) (Some u) o) (ih ∙ ap (λ b. cond b (Some t) rest) em)

  instead : (mine : Bool) → is_alike t.entry u.entry ≡ true → is_alike e t.entry ≡ mine → cond (is_alike e t.entry) (Some t) rest ≡ cond mine (Some t) (cond (is_alike e u.entry) (Some u) rest)
  instead true same em = ap (λ b. cond b (Some t) rest) em
  instead false same em =
      let other : is_alike e u.entry ≡ false = sym (alike_both t.entry.stream_id.0 u.entry.stream_id.0 e.stream_id.0 t.entry.is_unordered u.entry.is_unordered e.is_unordered same) ∙ em in
      ap (λ b. cond b (Some t) rest) em ∙ sym (ap (λ b. cond b (Some u) rest) other)

  find_put_by : (before same : Bool) → is_before u.entry t.entry ≡ before → is_alike t.entry u.entry ≡ same
      → find e (cond before (u ∷ put_touched t us) (cond same (t ∷ us) (t ∷ u ∷ us))) ≡ cond (is_alike e t.entry) (Some t) (cond (is_alike e u.entry) (Some u) rest)
  find_put_by true same eb es = behind (is_alike e t.entry) eb refl
  find_put_by false true eb es = instead (is_alike e t.entry) es refl
  find_put_by false false eb es = refl

find_put : (e : SkipEntry) (t : Touched) (us : List Touched) → find e (put_touched t us) ≡ cond (is_alike e t.entry) (Some t) (find e us)
find_put e t [] = refl
find_put e t (u ∷ us) = find_put_by e t u us (find_put e t us) (is_before u.entry t.entry) (is_alike t.entry u.entry) refl refl

pub find_touched : (e : SkipEntry) (o : Option SkipEntry) (k : ℕ) (ts : List Touched) → find e (touched_with o k ts) ≡ touch_by e k o (find e ts)
find_touched e None k ts = refl
find_touched e (Some d) k ts = find_put e (record { entry = d; last = k }) ts

-- ---- the code's way to put one

yes : (a : Bool) (xs ys : List Touched) → a ≡ true → xs ≡ cond a xs ys
yes true xs ys h = refl
yes false xs ys h = cc

no : (a : Bool) (xs ys : List Touched) → a ≡ false → ys ≡ cond a xs ys
no true xs ys h = cc
no false xs ys h = refl

module _ (t u : Touched) (us : List Touched) (n : ℕ) where
  abbrev Put : Bool → List Touched
  Put b = cond b (u ∷ put_touched t us) (cond (is_alike t.entry u.entry) (t ∷ us) (t ∷ u ∷ us))

  set_first : (b : Bool) → (is_alike_at t.entry n (entries_in us) ≡ true → slice_set us n t ≡ put_touched t us) → is_alike_at t.entry (cond b (suc n) 0) (entries_in (u ∷ us)) ≡ true
      → slice_set (u ∷ us) (cond b (suc n) 0) t ≡ Put b
  set_first true ih same = ap (λ xs. u ∷ xs) (ih same)
  set_first false ih same = yes (is_alike t.entry u.entry) (t ∷ us) (t ∷ u ∷ us) same

  insert_first : (b : Bool) → (is_alike_at t.entry n (entries_in us) ≡ false → insert us n t ≡ put_touched t us) → is_alike_at t.entry (cond b (suc n) 0) (entries_in (u ∷ us)) ≡ false
      → insert (u ∷ us) (cond b (suc n) 0) t ≡ Put b
  insert_first true ih other = ap (λ xs. u ∷ xs) (ih other)
  insert_first false ih other = no (is_alike t.entry u.entry) (t ∷ us) (t ∷ u ∷ us) other

put_set : (t : Touched) (us : List Touched) → is_alike_at t.entry (entries_before t.entry (entries_in us)) (entries_in us) ≡ true
    → slice_set us (entries_before t.entry (entries_in us)) t ≡ put_touched t us
put_set t [] h = cc
put_set t (u ∷ us) h = set_first t u us (entries_before t.entry (entries_in us)) (is_before u.entry t.entry) (put_set t us) h

put_insert : (t : Touched) (us : List Touched) → is_alike_at t.entry (entries_before t.entry (entries_in us)) (entries_in us) ≡ false
    → insert us (entries_before t.entry (entries_in us)) t ≡ put_touched t us
put_insert t [] h = refl
put_insert t (u ∷ us) h = insert_first t u us (entries_before t.entry (entries_in us)) (is_before u.entry t.entry) (put_insert t us) h

pub put_set_at : (t : Touched) (us : List Touched) (n : ℕ) → n ≡ entries_before t.entry (entries_in us) → is_alike_at t.entry n (entries_in us) ≡ true → slice_set us n t ≡ put_touched t us
put_set_at t us n at h = ap (λ k. slice_set us k t) at ∙ put_set t us (ap (λ k. is_alike_at t.entry k (entries_in us)) (sym at) ∙ h)

pub put_insert_at : (t : Touched) (us : List Touched) (n : ℕ) → n ≡ entries_before t.entry (entries_in us) → is_alike_at t.entry n (entries_in us) ≡ false → insert us n t ≡ put_touched t us
put_insert_at t us n at h = ap (λ k. insert us k t) at ∙ put_insert t us (ap (λ k. is_alike_at t.entry k (entries_in us)) (sym at) ∙ h)

pub alike_here : (e : SkipEntry) (k : ℕ) (ts : List Touched) (x : Touched) → k < length ts → is_alike e (slice_index_or ts k x).entry ≡ is_alike_at e k (entries_in ts)
alike_here e k [] x h = absurd (omega (arith, h))
alike_here e zero (t ∷ ts) x h = refl
alike_here e (suc k) (t ∷ ts) x h = alike_here e k ts x (omega (arith, h))

pub alike_beyond : (e : SkipEntry) (k : ℕ) (ts : List Touched) → length ts ≤ k → false ≡ is_alike_at e k (entries_in ts)
alike_beyond e k [] h = refl
alike_beyond e zero (t ∷ ts) h = absurd (omega (arith, h))
alike_beyond e (suc k) (t ∷ ts) h = alike_beyond e k ts (omega (arith, h))

pub indexed : (ts : List Touched) (k : ℕ) (x : Touched) → slice_index_or (entries_in ts) k x.entry ≡ (slice_index_or ts k x).entry
indexed [] k x = refl
indexed (t ∷ ts) zero x = refl
indexed (t ∷ ts) (suc k) x = indexed ts k x

pub entries_length : (ts : List Touched) → length (entries_in ts) ≡ length ts
entries_length ts = length-map ts (λ t. t.entry)

pub map_entries : {X : Type 0} (f : SkipEntry → X) (ts : List Touched) → map (λ t. f t.entry) ts ≡ map f (entries_in ts)
map_entries f [] = refl
map_entries f (t ∷ ts) = ap (λ xs. f t.entry ∷ xs) (map_entries f ts)

pub within_entries : (p : SkipEntry → Type 0) (ts : List Touched) (a b : ℕ) → AllWithin (λ t. p t.entry) ts a b → AllWithin p (entries_in ts) a b
within_entries p ts a b h = λ k x low high. subst p (sym (indexed ts k (record { entry = x; last = 0 }))) (h k (record { entry = x; last = 0 }) low high)

pub within_entries_to : (p : SkipEntry → Type 0) (ts : List Touched) (a : ℕ) → AllWithin (λ t. p t.entry) ts a (length ts) → AllWithin p (entries_in ts) a (length (entries_in ts))
within_entries_to p ts a h = subst (λ n. AllWithin p (entries_in ts) a n) (sym (entries_length ts)) (within_entries p ts a (length ts) h)

pub parted_by_entry : (e : SkipEntry) (ts : List Touched) → Ascend (entries_in ts) → IsPartitionedBy (λ t. is_before t.entry e) ts
parted_by_entry e ts h i j t le less before =
    let later : is_before (slice_index_or (entries_in ts) j t.entry) e ≡ true = ap (λ (d : SkipEntry). is_before d e) (indexed ts j t) ∙ before in
    let sooner = parted e (entries_in ts) h i j t.entry le (omega (arith, less, entries_length ts)) later in
    ap (λ (d : SkipEntry). is_before d e) (sym (indexed ts i t)) ∙ sooner

-- ---- what the last item says

kept_touch : (j k : ℕ) (e : SkipEntry) (o : Option SkipEntry) (found : Option Touched) → j ≤ k → kept_of j (touch_by e k o found) ≡ touch_by e k o (kept_of j found)
kept_touch j k e None found le = refl
kept_touch j k e (Some d) found le = go (is_alike e d) where
  go : (b : Bool) → kept_of j (cond b (Some (record { entry = d; last = k })) found) ≡ cond b (Some (record { entry = d; last = k })) (kept_of j found)
  go true = ap (λ b. cond b (Some (record { entry = d; last = k })) None) (le-leb j k le)
  go false = refl

kept_last : (m : Bool) (e : SkipEntry) (j k : ℕ) (found : Option Touched) (is : List Item) → j ≤ k → kept_of j (last_touch m e k found is) ≡ last_touch m e k (kept_of j found) is
kept_last m e j k found [] le = refl
kept_last m e j k found (i ∷ is) le =
    kept_last m e j (suc k) (touch_by e k (entry_of m i) found) is (omega (arith, le)) ∙ ap (λ (o : Option Touched). last_touch m e (suc k) o is) (kept_touch j k e (entry_of m i) found le)

gone : (e : SkipEntry) (k : ℕ) (o : Option SkipEntry) → kept_of (suc k) (touch_by e k o None) ≡ None
gone e k None = refl
gone e k (Some d) = go (is_alike e d) where
  above : nat_le (suc k) k ≡ false
  above = grind (arith, nat_tests)

  go : (b : Bool) → kept_of (suc k) (cond b (Some (record { entry = d; last = k })) None) ≡ None
  go true = ap (λ (b : Bool). cond b (Some (record { entry = d; last = k })) None) above
  go false = refl

pub first_gone : (m : Bool) (e : SkipEntry) (k : ℕ) (i : Item) (is : List Item) → kept_of (suc k) (last_touch m e k None (i ∷ is)) ≡ last_touch m e (suc k) None is
first_gone m e k i is = kept_last m e (suc k) (suc k) (touch_by e k (entry_of m i) None) is (omega arith) ∙ ap (λ (o : Option Touched). last_touch m e (suc k) o is) (gone e k (entry_of m i))

pub kept_more : (k : ℕ) (o : Option Touched) → kept_of (suc k) (kept_of k o) ≡ kept_of (suc k) o
kept_more k None = refl
kept_more k (Some t) = go (nat_le k t.last) (nat_le (suc k) t.last) refl refl where
  go : (a b : Bool) → nat_le k t.last ≡ a → nat_le (suc k) t.last ≡ b → kept_of (suc k) (cond a (Some t) None) ≡ cond (nat_le (suc k) t.last) (Some t) None
  go true b ea eb = refl
  go false true ea eb = absurd (grind (arith, nat_tests))
  go false false ea eb = sym (ap (λ x. cond x (Some t) None) eb)

pub last_next : (m : Bool) (e : SkipEntry) (k n : ℕ) (found : Option Touched) (is : List Item) (i : Item) → slice_get is n ≡ Some i
    → last_touch m e k found (take (suc n) is) ≡ touch_by e (k + n) (entry_of m i) (last_touch m e k found (take n is))
last_next m e k n found [] i at = absurd (cc)
last_next m e k zero found (j ∷ is) i at =
    let same : j ≡ i = cc in
    let here : k ≡ k + 0 = omega arith in
    ap (λ (x : Item). touch_by e k (entry_of m x) found) same ∙ ap (λ n. touch_by e n (entry_of m i) found) here
last_next m e k (suc n) found (j ∷ is) i at =
    let up : suc k + n ≡ k + suc n = omega arith in
    last_next m e (suc k) n (touch_by e k (entry_of m j) found) is i at
    ∙ ap (λ x. touch_by e x (entry_of m i) (last_touch m e (suc k) (touch_by e k (entry_of m j) found) (take n is))) up

pub push_kept : (m : Bool) (e : SkipEntry) (left n : ℕ) (is : List Item) (i : Item) (ts : List Touched) → slice_get is n ≡ Some i → kept_of left (find e ts) ≡ last_touch m e left None (take n is)
    → kept_of left (find e (touched_with (entry_of m i) (left + n) ts)) ≡ last_touch m e left None (take (suc n) is)
push_kept m e left n is i ts at h =
    ap (λ (o : Option Touched). kept_of left o) (find_touched e (entry_of m i) (left + n) ts) ∙ kept_touch left (left + n) e (entry_of m i) (find e ts) (omega arith)
    ∙ ap (λ (o : Option Touched). touch_by e (left + n) (entry_of m i) o) h ∙ sym (last_next m e left n None is i at)

-- ---- those that left are dropped

far : (e a c : SkipEntry) → is_before a c ≡ true → is_alike e a ≡ true → is_alike e c ≡ false
far e a c before alike =
    let same : rank e ≡ rank a = eqb-true (rank e) (rank a) (sym (alike_is e a) ∙ alike) in
    let less : rank a < rank c = ltb-true (rank a) (rank c) (sym (before_is a c) ∙ before) in
    alike_is e c ∙ less_differs (rank e) (rank c) (omega (arith, same, less))

none_found : (e a : SkipEntry) (ts : List Touched) → list_all (is_before a) (entries_in ts) ≡ true → is_alike e a ≡ true → find e ts ≡ None
none_found e a [] before alike = refl
none_found e a (t ∷ ts) before alike =
    let parts = and_parts (is_before a t.entry) (list_all (is_before a) (entries_in ts)) before in
    ap (λ b. cond b (Some t) (find e ts)) (far e a t.entry parts.0 alike) ∙ none_found e a ts parts.1 alike

module _ (left : ℕ) where
  abbrev kept : List Touched → List Touched
  kept ts = filter (λ t. is_kept left t) ts

  stay_with : (a : SkipEntry) (t : Touched) (ts : List Touched) (b : Bool) → is_before a t.entry ≡ true → list_all (is_before a) (entries_in (kept ts)) ≡ true → list_all (is_before a) (entries_in (cond b (t ∷ kept ts) (kept ts))) ≡ true
  stay_with a t ts true here rest = and_from (is_before a t.entry) (list_all (is_before a) (entries_in (kept ts))) here rest
  stay_with a t ts false here rest = rest

  all_stay : (a : SkipEntry) (ts : List Touched) → list_all (is_before a) (entries_in ts) ≡ true → list_all (is_before a) (entries_in (kept ts)) ≡ true
  all_stay a [] h = refl
  all_stay a (t ∷ ts) h =
      let parts = and_parts (is_before a t.entry) (list_all (is_before a) (entries_in ts)) h in
      stay_with a t ts (is_kept left t) parts.0 (all_stay a ts parts.1)

  ascend_with : (t : Touched) (ts : List Touched) (b : Bool) → list_all (is_before t.entry) (entries_in (kept ts)) ≡ true → Ascend (entries_in (kept ts)) → Ascend (entries_in (cond b (t ∷ kept ts) (kept ts)))
  ascend_with t ts true before rest = (before, rest)
  ascend_with t ts false before rest = rest

  pub kept_ascends : (ts : List Touched) → Ascend (entries_in ts) → Ascend (entries_in (kept ts))
  kept_ascends [] h = tt
  kept_ascends (t ∷ ts) h = ascend_with t ts (is_kept left t) (all_stay t.entry ts h.0) (kept_ascends ts h.1)

  find_with : (e : SkipEntry) (t : Touched) (ts : List Touched) (b a : Bool) → list_all (is_before t.entry) (entries_in ts) ≡ true → find e (kept ts) ≡ kept_of left (find e ts) → is_kept left t ≡ b → is_alike e t.entry ≡ a
      → find e (cond b (t ∷ kept ts) (kept ts)) ≡ kept_of left (cond a (Some t) (find e ts))
  find_with e t ts true true before ih eb ea = ap (λ a. cond a (Some t) (find e (kept ts))) ea ∙ sym (ap (λ b. cond b (Some t) None) eb)
  find_with e t ts true false before ih eb ea = ap (λ a. cond a (Some t) (find e (kept ts))) ea ∙ ih
  find_with e t ts false true before ih eb ea = ih ∙ ap (λ (o : Option Touched). kept_of left o) (none_found e t.entry ts before ea) ∙ sym (ap (λ b. cond b (Some t) None) eb)
  find_with e t ts false false before ih eb ea = ih

  pub find_kept : (e : SkipEntry) (ts : List Touched) → Ascend (entries_in ts) → find e (kept ts) ≡ kept_of left (find e ts)
  find_kept e [] h = refl
  find_kept e (t ∷ ts) h = find_with e t ts (is_kept left t) (is_alike e t.entry) h.0 (find_kept e ts h.1) refl refl

  pub kept_once : (o : Option Touched) → kept_of left (kept_of left o) ≡ kept_of left o
  kept_once None = refl
  kept_once (Some t) = go (is_kept left t) refl where
    go : (b : Bool) → is_kept left t ≡ b → kept_of left (cond b (Some t) None) ≡ cond b (Some t) None
    go true eb = ap (λ b. cond b (Some t) None) eb
    go false eb = refl

-- ---- numbers alone

abbrev pub number_of : Option Touched → Option ℕ
number_of None = None
number_of (Some t) = Some t.entry.number

touch_number : (e : SkipEntry) (k : ℕ) (o : Option SkipEntry) (found : Option Touched) → number_of (touch_by e k o found) ≡ number_in e o (number_of found)
touch_number e k None found = refl
touch_number e k (Some d) found = go (is_alike e d) where
  go : (b : Bool) → number_of (cond b (Some (record { entry = d; last = k })) found) ≡ cond b (Some d.number) (number_of found)
  go true = refl
  go false = refl

pub last_is_number : (m : Bool) (e : SkipEntry) (k : ℕ) (found : Option Touched) (is : List Item) → number_of (last_touch m e k found is) ≡ last_number m e (number_of found) is
last_is_number m e k found [] = refl
last_is_number m e k found (i ∷ is) = last_is_number m e (suc k) (touch_by e k (entry_of m i) found) is ∙ ap (λ (o : Option ℕ). last_number m e o is) (touch_number e k (entry_of m i) found)

named_with : (t : Touched) (b : Bool) (named : Option ℕ) (found : Option Touched) → named ≡ number_of found → cond b (Some t.entry.number) named ≡ number_of (cond b (Some t) found)
named_with t true named found h = refl
named_with t false named found h = h

pub named_is_found : (e : SkipEntry) (ts : List Touched) → named_number e (entries_in ts) ≡ number_of (find e ts)
named_is_found e [] = refl
named_is_found e (t ∷ ts) = named_with t (is_alike e t.entry) (named_number e (entries_in ts)) (find e ts) (named_is_found e ts)
