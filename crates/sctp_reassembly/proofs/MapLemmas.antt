-- Entries of a map by the ranks of their keys.
use Rattle.std.proofs.Common.{◌≡◌, ℕ, suc, ◌<◌, ◌≤◌, true, cond, ◌&&◌, not, Option, Some, None, List, [], ◌∷◌, ◌++◌, refl, ap, sym, subst, ◌∙◌, inl, inr, arith, append_assoc}
use Rattle.std.specs.Prelude.{IfNone, map, IfSome}
use Rattle.std.proofs.lemmas.List.{map-append}
use Rattle.sctp_fragments.specs.declared.interval.Entry.{Entry}
use Rattle.std.proofs.Common.{Ordering, Equal, Greater, Less}
use Rattle.std.proofs.lemmas.Bool.{cases_lt, le-ltb, eq-eqb, ne_eqb}
use Rattle.std.specs.Map.{lookup, remove_entry, set_value, values_of}
use Rattle.std.specs.Ordering.{is_eq, is_le, nat_cmp, match_ordering}
use Rattle.std.specs.BTreeMap.{is_at, insert_entry}
use Rattle.std.specs.BTreeMap.Range.{entries_between}
use Rattle.std.specs.declared.ops.Bound.TheVariants.{Unbounded, Included, Excluded}
use Rattle.sctp_serial.proofs.NumberLemmas.{nat_cmp_less}
use Rattle.sctp_fragments.specs.declared.interval.Interval.{Interval}
use Rattle.sctp_fragments.specs.ReassemblyKey.{rank_at}
use Rattle.sctp_fragments.specs.Runs.{last_of, end_of, AreRuns}
use Rattle.sctp_fragments.specs.Held.{Held, rank_of, goes_on}
use Rattle.sctp_fragments.specs.Interval.{held_of, run_of, lists_of}
use Rattle.sctp_fragments.proofs.RunLemmas.{end_of_append}
use Rattle.sctp_fragments.specs.Entries.{items_of}
use Rattle.sctp_fragments.specs.declared.interval.entries.Entries.{Entries}
use Rattle.sctp_reassembly.specs.Places.{AreNamed, AreLow, AreHigh, IsSplit, IsWithin, IsChanged, HasRoom, runs_at, last_key, first_key_of}

pub nat_cmp_same : (k a : ℕ) → k ≡ a → nat_cmp k a ≡ Equal
nat_cmp_same k a e = rw (le-ltb k a (omega (arith, e)), eq-eqb k a e) refl

nat_cmp_more : (k a : ℕ) → a < k → nat_cmp k a ≡ Greater
nat_cmp_more k a h = rw (le-ltb k a (omega (arith, h)), ne_eqb k a (omega (arith, h))) refl

module _ {K : Type 0} (cmp : K → K → Ordering) (is_key : K → Type 0) (rank : K → ℕ) (by_rank : (x y : K) → is_key x → is_key y → cmp x y ≡ nat_cmp (rank x) (rank y)) where
  pub cmp_less : (k a : K) → is_key k → is_key a → rank k < rank a → cmp k a ≡ Less
  cmp_less k a p q h = by_rank k a p q ∙ nat_cmp_less (rank k) (rank a) h

  cmp_more : (k a : K) → is_key k → is_key a → rank a < rank k → cmp k a ≡ Greater
  cmp_more k a p q h = by_rank k a p q ∙ nat_cmp_more (rank k) (rank a) h

  pub cmp_same : (k a : K) → is_key k → is_key a → rank k ≡ rank a → cmp k a ≡ Equal
  cmp_same k a p q h = by_rank k a p q ∙ nat_cmp_same (rank k) (rank a) h

  module _ {X : Type 0} (k : K) (p : is_key k) where
    pub lookup_mid : (ps qs : List (K × X)) (x : X) → AreLow is_key rank (rank k) ps → lookup (is_at (cmp k)) (ps ++ (k, x) ∷ qs) ≡ Some x
    lookup_mid [] qs x low = ap (λ (o : Ordering). cond (is_eq o) (Some x) (lookup (is_at (cmp k)) qs)) (cmp_same k k p p refl)
    lookup_mid (e ∷ ps) qs x low =
        ap (λ (o : Ordering). cond (is_eq o) (Some e.1) (lookup (is_at (cmp k)) (ps ++ (k, x) ∷ qs))) (cmp_more k e.0 p low.0 low.1.0) ∙ lookup_mid ps qs x low.1.1

    pub remove_mid : (ps qs : List (K × X)) (x : X) → AreLow is_key rank (rank k) ps → remove_entry (is_at (cmp k)) (ps ++ (k, x) ∷ qs) ≡ ps ++ qs
    remove_mid [] qs x low = ap (λ (o : Ordering). cond (is_eq o) qs ((k, x) ∷ remove_entry (is_at (cmp k)) qs)) (cmp_same k k p p refl)
    remove_mid (e ∷ ps) qs x low =
        ap (λ (o : Ordering). cond (is_eq o) (ps ++ (k, x) ∷ qs) (e ∷ remove_entry (is_at (cmp k)) (ps ++ (k, x) ∷ qs))) (cmp_more k e.0 p low.0 low.1.0)
        ∙ ap (λ (t : List (K × X)). e ∷ t) (remove_mid ps qs x low.1.1)

    pub set_mid : (ps qs : List (K × X)) (x y : X) → AreLow is_key rank (rank k) ps → set_value (is_at (cmp k)) (ps ++ (k, x) ∷ qs) y ≡ ps ++ (k, y) ∷ qs
    set_mid [] qs x y low = ap (λ (o : Ordering). cond (is_eq o) ((k, y) ∷ qs) ((k, x) ∷ set_value (is_at (cmp k)) qs y)) (cmp_same k k p p refl)
    set_mid (e ∷ ps) qs x y low =
        ap (λ (o : Ordering). cond (is_eq o) ((e.0, y) ∷ (ps ++ (k, x) ∷ qs)) (e ∷ set_value (is_at (cmp k)) (ps ++ (k, x) ∷ qs) y)) (cmp_more k e.0 p low.0 low.1.0)
        ∙ ap (λ (t : List (K × X)). e ∷ t) (set_mid ps qs x y low.1.1)

    pub insert_mid : (ps qs : List (K × X)) (x : X) → AreLow is_key rank (rank k) ps → AreHigh is_key rank (suc (rank k)) qs → insert_entry cmp (ps ++ qs) k x ≡ ps ++ (k, x) ∷ qs
    insert_mid [] [] x low high = refl
    insert_mid [] (e ∷ qs) x low high =
        ap (λ (o : Ordering). match_ordering o ((k, x) ∷ e ∷ qs) ((e.0, x) ∷ qs) (e ∷ insert_entry cmp qs k x)) (cmp_less k e.0 p high.0 (omega (arith, high.1.0)))
    insert_mid (e ∷ ps) qs x low high =
        ap (λ (o : Ordering). match_ordering o ((k, x) ∷ e ∷ (ps ++ qs)) ((e.0, x) ∷ (ps ++ qs)) (e ∷ insert_entry cmp (ps ++ qs) k x)) (cmp_more k e.0 p low.0 low.1.0)
        ∙ ap (λ (t : List (K × X)). e ∷ t) (insert_mid ps qs x low.1.1 high)

    below_none : (qs : List (K × X)) → AreHigh is_key rank (rank k) qs → entries_between cmp Unbounded (Excluded k) qs ≡ []
    below_none [] high = refl
    below_none (e ∷ qs) high =
        elim (cases_lt (rank k) (rank e.0)) [
          | inl less ↦ ap (λ (o : Ordering). cond (true && not (is_le o)) (e ∷ entries_between cmp Unbounded (Excluded k) qs) (entries_between cmp Unbounded (Excluded k) qs)) (cmp_less k e.0 p high.0 less) ∙ below_none qs high.1.1
          | inr more ↦ ap (λ (o : Ordering). cond (true && not (is_le o)) (e ∷ entries_between cmp Unbounded (Excluded k) qs) (entries_between cmp Unbounded (Excluded k) qs)) (cmp_same k e.0 p high.0 (omega (arith, high.1.0, more))) ∙ below_none qs high.1.1
        ]

    pub below_is : (ps qs : List (K × X)) → AreLow is_key rank (rank k) ps → AreHigh is_key rank (rank k) qs → entries_between cmp Unbounded (Excluded k) (ps ++ qs) ≡ ps
    below_is [] qs low high = below_none qs high
    below_is (e ∷ ps) qs low high =
        ap (λ (o : Ordering). cond (true && not (is_le o)) (e ∷ entries_between cmp Unbounded (Excluded k) (ps ++ qs)) (entries_between cmp Unbounded (Excluded k) (ps ++ qs))) (cmp_more k e.0 p low.0 low.1.0)
        ∙ ap (λ (t : List (K × X)). e ∷ t) (below_is ps qs low.1.1 high)

    from_all : (qs : List (K × X)) → AreHigh is_key rank (rank k) qs → entries_between cmp (Included k) Unbounded qs ≡ qs
    from_all [] high = refl
    from_all (e ∷ qs) high =
        elim (cases_lt (rank k) (rank e.0)) [
          | inl less ↦ ap (λ (o : Ordering). cond (is_le o && true) (e ∷ entries_between cmp (Included k) Unbounded qs) (entries_between cmp (Included k) Unbounded qs)) (cmp_less k e.0 p high.0 less) ∙ ap (λ (t : List (K × X)). e ∷ t) (from_all qs high.1.1)
          | inr more ↦ ap (λ (o : Ordering). cond (is_le o && true) (e ∷ entries_between cmp (Included k) Unbounded qs) (entries_between cmp (Included k) Unbounded qs)) (cmp_same k e.0 p high.0 (omega (arith, high.1.0, more))) ∙ ap (λ (t : List (K × X)). e ∷ t) (from_all qs high.1.1)
        ]

    pub from_is : (ps qs : List (K × X)) → AreLow is_key rank (rank k) ps → AreHigh is_key rank (rank k) qs → entries_between cmp (Included k) Unbounded (ps ++ qs) ≡ qs
    from_is [] qs low high = from_all qs high
    from_is (e ∷ ps) qs low high =
        ap (λ (o : Ordering). cond (is_le o && true) (e ∷ entries_between cmp (Included k) Unbounded (ps ++ qs)) (entries_between cmp (Included k) Unbounded (ps ++ qs))) (cmp_more k e.0 p low.0 low.1.0)
        ∙ from_is ps qs low.1.1 high

    pub below_split : (es ps qs : List (K × X)) → IsSplit is_key rank (rank k) es ps qs → entries_between cmp Unbounded (Excluded k) es ≡ ps
    below_split es ps qs s = ap (entries_between cmp Unbounded (Excluded k)) s.is ∙ below_is ps qs s.low s.high

    pub from_split : (es ps qs : List (K × X)) → IsSplit is_key rank (rank k) es ps qs → entries_between cmp (Included k) Unbounded es ≡ qs
    from_split es ps qs s = ap (entries_between cmp (Included k) Unbounded) s.is ∙ from_is ps qs s.low s.high

module _ {K X : Type 0} where
  last_key_end : (t : List (K × X)) (e : K × X) → last_key (t ++ e ∷ []) ≡ Some e.0
  last_key_end [] e = refl
  last_key_end (x ∷ []) e = refl
  last_key_end (x ∷ (y ∷ t)) e = last_key_end (y ∷ t) e

  pub last_read : (ps t : List (K × X)) (e : K × X) → ps ≡ t ++ e ∷ [] → Some e.0 ≡ last_key ps
  last_read ps t e is = sym (ap last_key is ∙ last_key_end t e)

module _ {K : Type 0} (is_key : K → Type 0) (number index : K → ℕ) where
  abbrev lists : List (K × Interval K) → List (List Held)
  lists es = lists_of (held_of number index) (values_of es)

  within_parts : (n : ℕ) (h : Held) (hs r : List Held) → r ≡ h ∷ hs → IsWithin n r → (rank_of h ≤ n) × (n ≤ rank_of (last_of h hs))
  within_parts n h hs r is w = subst (IsWithin n) is w

  -- the keys behind a run are above each rank up to its end
  pub rises_behind : (n : ℕ) (d : Held) (es : List (K × Interval K)) → AreNamed is_key number index es → AreRuns rank_of goes_on (Some d) (lists es) → n ≤ rank_of d → AreHigh is_key (rank_at number index) (suc n) es
  rises_behind n d [] named runs h = tt
  rises_behind n d (e ∷ es) named runs h = go (run_of (held_of number index) e.1) refl runs (λ d rs l. rises_behind n d es named.1.1 rs l)
    where
      go : (r : List Held) → run_of (held_of number index) e.1 ≡ r → AreRuns rank_of goes_on (Some d) (r ∷ lists es)
          → ((d : Held) → AreRuns rank_of goes_on (Some d) (lists es) → n ≤ rank_of d → AreHigh is_key (rank_at number index) (suc n) es) → AreHigh is_key (rank_at number index) (suc n) (e ∷ es)
      go [] is rs more = absurd rs
      go (x ∷ xs) is rs more =
          let w = within_parts (rank_at number index e.0) x xs (run_of (held_of number index) e.1) is named.1.0 in
          (named.0, (omega (arith, h, rs.0.0, w.0), more (last_of x xs) rs.1.1 (omega (arith, h, rs.0.0, w.0, w.1))))

  pub record SplitFor (n : ℕ) (es : List (K × Interval K)) : Type 0 where
    pub ps : List (K × Interval K)
    pub qs : List (K × Interval K)
    pub split : IsSplit is_key (rank_at number index) n es ps qs

  weaker : (m n : ℕ) (es : List (K × Interval K)) → m ≤ n → AreHigh is_key (rank_at number index) n es → AreHigh is_key (rank_at number index) m es
  weaker m n [] l h = tt
  weaker m n (e ∷ es) l h = (h.0, (omega (arith, l, h.1.0), weaker m n es l h.1.1))

  pub split_for : (n : ℕ) (before : Option Held) (es : List (K × Interval K)) → AreNamed is_key number index es → AreRuns rank_of goes_on before (lists es) → SplitFor n es
  split_for n before [] named runs = record { ps = []; qs = []; split = record { is = refl; low = tt; high = tt } }
  split_for n before (e ∷ es) named runs = go (run_of (held_of number index) e.1) refl runs (λ d rs. split_for n (Some d) es named.1.1 rs)
    where
      go : (r : List Held) → run_of (held_of number index) e.1 ≡ r → AreRuns rank_of goes_on before (r ∷ lists es) → ((d : Held) → AreRuns rank_of goes_on (Some d) (lists es) → SplitFor n es) → SplitFor n (e ∷ es)
      go [] is rs more = absurd rs
      go (x ∷ xs) is rs more =
          let w = within_parts (rank_at number index e.0) x xs (run_of (held_of number index) e.1) is named.1.0 in
          elim (cases_lt (rank_at number index e.0) n) [
            | inl less ↦
                let s = more (last_of x xs) rs.1.1 in
                record { ps = e ∷ s.ps; qs = s.qs; split = record { is = ap (λ (t : List (K × Interval K)). e ∷ t) s.split.is; low = (named.0, (less, s.split.low)); high = s.split.high } }
            | inr from ↦
                record {
                  ps = [];
                  qs = e ∷ es;
                  split = record {
                    is = refl;
                    low = tt;
                    high = (named.0, (from, weaker n (suc (rank_at number index e.0)) es (omega (arith, from)) (rises_behind (rank_at number index e.0) (last_of x xs) es named.1.1 rs.1.1 w.1)));
                  };
                }
          ]

  high_at : (n : ℕ) (ps qs : List (K × Interval K)) (e : K × Interval K) → AreHigh is_key (rank_at number index) n (ps ++ e ∷ qs) → n ≤ rank_at number index e.0
  high_at n [] qs e h = h.1.0
  high_at n (d ∷ ps) qs e h = high_at n ps qs e h.1.1

  -- the keys before one are below it
  pub lows : (before : Option Held) (ps qs : List (K × Interval K)) (e : K × Interval K) → AreNamed is_key number index (ps ++ e ∷ qs) → AreRuns rank_of goes_on before (lists (ps ++ e ∷ qs)) → AreLow is_key (rank_at number index) (rank_at number index e.0) ps
  lows before [] qs e named runs = tt
  lows before (d ∷ ps) qs e named runs = go (run_of (held_of number index) d.1) refl runs (λ b rs. lows (Some b) ps qs e named.1.1 rs)
    where
      go : (r : List Held) → run_of (held_of number index) d.1 ≡ r → AreRuns rank_of goes_on before (r ∷ lists (ps ++ e ∷ qs))
          → ((b : Held) → AreRuns rank_of goes_on (Some b) (lists (ps ++ e ∷ qs)) → AreLow is_key (rank_at number index) (rank_at number index e.0) ps) → AreLow is_key (rank_at number index) (rank_at number index e.0) (d ∷ ps)
      go [] is rs more = absurd rs
      go (x ∷ xs) is rs more =
          let w = within_parts (rank_at number index d.0) x xs (run_of (held_of number index) d.1) is named.1.0 in
          let up = high_at (suc (rank_at number index d.0)) ps qs e (rises_behind (rank_at number index d.0) (last_of x xs) (ps ++ e ∷ qs) named.1.1 rs.1.1 w.1) in
          (named.0, (omega (arith, up), more (last_of x xs) rs.1.1))

  pub named_key : (ps qs : List (K × Interval K)) (e : K × Interval K) → AreNamed is_key number index (ps ++ e ∷ qs) → is_key e.0
  named_key [] qs e named = named.0
  named_key (d ∷ ps) qs e named = named_key ps qs e named.1.1

-- the last entry of some
pub record Snoc {K : Type 0} (ps : List (K × Interval K)) : Type 0 where
  pub front : List (K × Interval K)
  pub key : K
  pub interval : Interval K
  pub is : ps ≡ front ++ (key, interval) ∷ []

pub snoc : {K : Type 0} (d : K × Interval K) (ps : List (K × Interval K)) → Snoc (d ∷ ps)
snoc d [] = record { front = []; key = d.0; interval = d.1; is = refl }
snoc d (e ∷ ps) = let s = snoc e ps in record { front = d ∷ s.front; key = s.key; interval = s.interval; is = ap (λ t. d ∷ t) s.is }

-- an interval under its key is changed
module _ {K : Type 0} (cmp : K → K → Ordering) (is_key : K → Type 0) (number index : K → ℕ) (by_rank : (x y : K) → is_key x → is_key y → cmp x y ≡ nat_cmp (rank_at number index x) (rank_at number index y)) (k : K) (p : is_key k)
    (es ps qs : List (K × Interval K)) (i : Interval K) (is : es ≡ ps ++ (k, i) ∷ qs) (low : AreLow is_key (rank_at number index) (rank_at number index k) ps) where
  there : lookup (is_at (cmp k)) es ≡ Some i
  there = ap (lookup (is_at (cmp k))) is ∙ lookup_mid cmp is_key (rank_at number index) by_rank k p ps qs i low

  pub read_there : (d : Interval K) → Some d ≡ lookup (is_at (cmp k)) es → d ≡ i
  read_there d found = inside (found ∙ there)
    where
      inside : Some d ≡ Some i → d ≡ i
      inside h = cc

  pub not_absent : {Z : Type 0} → None ≡ lookup (is_at (cmp k)) es → Z
  not_absent none = absurd (apart (none ∙ there))
    where
      apart : None ≡ Some i → ⊥
      apart h = cc

  pub changed_at : (new : List (K × Interval K)) (d w : Interval K) (run : List Held) → Some d ≡ lookup (is_at (cmp k)) es → new ≡ set_value (is_at (cmp k)) es w → (d ≡ i → run_of (held_of number index) w ≡ run) → IsChanged number index ps qs k run new
  changed_at new d w run found made run_is = record {
    interval = w;
    is = made ∙ (ap (λ (t : List (K × Interval K)). set_value (is_at (cmp k)) t w) is ∙ set_mid cmp is_key (rank_at number index) by_rank k p ps qs i w low);
    run_is = run_is (read_there d found);
  }

  pub room_at : (new : List (K × Interval K)) (d w : Interval K) (run : List Held) (Fits : Entries K → Type 0) → Some d ≡ lookup (is_at (cmp k)) es → new ≡ set_value (is_at (cmp k)) es w → (d ≡ i → run_of (held_of number index) w ≡ run)
      → Fits w.entries.value → HasRoom number index ps qs k run Fits new
  room_at new d w run Fits found made run_is room = record {
    interval = w;
    is = made ∙ (ap (λ (t : List (K × Interval K)). set_value (is_at (cmp k)) t w) is ∙ set_mid cmp is_key (rank_at number index) by_rank k p ps qs i w low);
    run_is = run_is (read_there d found);
    room = room;
  }

  pub removed_at : (new : List (K × Interval K)) → new ≡ remove_entry (is_at (cmp k)) es → new ≡ ps ++ qs
  removed_at new made = made ∙ (ap (remove_entry (is_at (cmp k))) is ∙ remove_mid cmp is_key (rank_at number index) by_rank k p ps qs i low)

pub taken_at : {K : Type 0} (cmp : K → K → Ordering) (is_key : K → Type 0) (number index : K → ℕ) (by_rank : (x y : K) → is_key x → is_key y → cmp x y ≡ nat_cmp (rank_at number index x) (rank_at number index y)) (k : K) (p : is_key k)
    (es : List (K × Interval K)) (r : Option (Interval K)) (new : List (K × Interval K)) → r ≡ lookup (is_at (cmp k)) es → new ≡ remove_entry (is_at (cmp k)) es
    → IfSome r (λ i. (ps qs : List (K × Interval K)) (d : Interval K) → es ≡ ps ++ (k, d) ∷ qs → AreLow is_key (rank_at number index) (rank_at number index k) ps → (i ≡ d) × (new ≡ ps ++ qs))
taken_at cmp is_key number index by_rank k p es None new found out = tt
taken_at cmp is_key number index by_rank k p es (Some i) new found out = λ ps qs d is low. (read_there cmp is_key number index by_rank k p es ps qs d is low i found, removed_at cmp is_key number index by_rank k p es ps qs d is low new out)

-- one that is there goes
pub taken_there : {K : Type 0} (P : Type 0) (cmp : K → K → Ordering) (is_key : K → Type 0) (number index : K → ℕ) (by_rank : (x y : K) → is_key x → is_key y → cmp x y ≡ nat_cmp (rank_at number index x) (rank_at number index y)) (k : K) (p : is_key k)
    (es ps qs : List (K × Interval K)) (d : Interval K) (r : Option (Interval K)) → es ≡ ps ++ (k, d) ∷ qs → AreLow is_key (rank_at number index) (rank_at number index k) ps → r ≡ lookup (is_at (cmp k)) es → IfNone r P
taken_there P cmp is_key number index by_rank k p es ps qs d None is low found = not_absent cmp is_key number index by_rank k p es ps qs d is low found
taken_there P cmp is_key number index by_rank k p es ps qs d (Some i) is low found = tt

-- the entries that are read at a split
module _ {K : Type 0} (is_key : K → Type 0) (number index : K → ℕ) where
  pub runs_append : (xs ys : List (K × Interval K)) → runs_at number index (xs ++ ys) ≡ runs_at number index xs ++ runs_at number index ys
  runs_append [] ys = refl
  runs_append (x ∷ xs) ys = ap (λ (t : List (List Held)). run_of (held_of number index) x.1 ∷ t) (runs_append xs ys)

  pub record LastOf (es ps qs : List (K × Interval K)) (k : K) : Type 0 where
    pub front : List (K × Interval K)
    pub interval : Interval K
    pub ends : ps ≡ front ++ (k, interval) ∷ []
    pub is : es ≡ front ++ (k, interval) ∷ qs
    pub low : AreLow is_key (rank_at number index) (rank_at number index k) front

  some_inside : {X : Type 0} (x y : X) → Some x ≡ Some y → x ≡ y
  some_inside x y h = cc

  pub last_of_split : (es ps qs : List (K × Interval K)) (n : ℕ) (k : K) → IsSplit is_key (rank_at number index) n es ps qs → AreNamed is_key number index es → AreRuns rank_of goes_on None (runs_at number index es) → Some k ≡ last_key ps → LastOf es ps qs k
  last_of_split es [] qs n k s named runs last = absurd (cc)
  last_of_split es (d ∷ ps) qs n k s named runs last =
      let t = snoc d ps in
      let same : t.key ≡ k = some_inside t.key k (last_read (d ∷ ps) t.front (t.key, t.interval) t.is ∙ sym last) in
      let ends : d ∷ ps ≡ t.front ++ (k, t.interval) ∷ [] = t.is ∙ ap (λ (j : K). t.front ++ (j, t.interval) ∷ []) same in
      let is : es ≡ t.front ++ (k, t.interval) ∷ qs = s.is ∙ (ap (λ (z : List (K × Interval K)). z ++ qs) ends ∙ append_assoc t.front ((k, t.interval) ∷ []) qs) in
      record {
        front = t.front;
        interval = t.interval;
        ends = ends;
        is = is;
        low = lows is_key number index None t.front qs (k, t.interval) (subst (AreNamed is_key number index) is named) (subst (λ (z : List (K × Interval K)). AreRuns rank_of goes_on None (runs_at number index z)) is runs);
      }

  -- what ends in front of a split
  pub end_is : (ps front : List (K × Interval K)) (k : K) (i : Interval K) (h : Held) (hs : List Held) → ps ≡ front ++ (k, i) ∷ [] → run_of (held_of number index) i ≡ h ∷ hs → end_of None (runs_at number index ps) ≡ Some (last_of h hs)
  end_is ps front k i h hs ends run =
      ap (end_of None) (ap (runs_at number index) ends ∙ (runs_append front ((k, i) ∷ []) ∙ ap (λ (t : List Held). runs_at number index front ++ t ∷ []) run))
      ∙ end_of_append {E = Held} rank_of goes_on None (runs_at number index front) ((h ∷ hs) ∷ [])

  pub record FirstOf (es ps qs : List (K × Interval K)) (k : K) : Type 0 where
    pub interval : Interval K
    pub back : List (K × Interval K)
    pub begins : qs ≡ (k, interval) ∷ back
    pub is : es ≡ ps ++ (k, interval) ∷ back
    pub low : AreLow is_key (rank_at number index) (rank_at number index k) ps

  pub first_of_split : (es ps qs : List (K × Interval K)) (n : ℕ) (k : K) → IsSplit is_key (rank_at number index) n es ps qs → AreNamed is_key number index es → AreRuns rank_of goes_on None (runs_at number index es) → Some k ≡ first_key_of qs → FirstOf es ps qs k
  first_of_split es ps [] n k s named runs first = absurd (cc)
  first_of_split es ps (d ∷ qs) n k s named runs first =
      let same : d.0 ≡ k = some_inside d.0 k (sym first) in
      let begins : d ∷ qs ≡ (k, d.1) ∷ qs = ap (λ (j : K). (j, d.1) ∷ qs) same in
      let is : es ≡ ps ++ (k, d.1) ∷ qs = s.is ∙ ap (λ (z : List (K × Interval K)). ps ++ z) begins in
      record {
        interval = d.1;
        back = qs;
        begins = begins;
        is = is;
        low = lows is_key number index None ps qs (k, d.1) (subst (AreNamed is_key number index) is named) (subst (λ (z : List (K × Interval K)). AreRuns rank_of goes_on None (runs_at number index z)) is runs);
      }

module _ {K : Type 0} (cmp : K → K → Ordering) (is_key : K → Type 0) (number index : K → ℕ) (by_rank : (x y : K) → is_key x → is_key y → cmp x y ≡ nat_cmp (rank_at number index x) (rank_at number index y)) where
  low_weaker : {X : Type 0} (m n : ℕ) (es : List (K × X)) → m ≤ n → AreLow is_key (rank_at number index) m es → AreLow is_key (rank_at number index) n es
  low_weaker m n [] l h = tt
  low_weaker m n (e ∷ es) l h = (h.0, (omega (arith, l, h.1.0), low_weaker m n es l h.1.1))

  low_append : {X : Type 0} (n : ℕ) (xs ys : List (K × X)) → AreLow is_key (rank_at number index) n xs → AreLow is_key (rank_at number index) n ys → AreLow is_key (rank_at number index) n (xs ++ ys)
  low_append n [] ys h k = k
  low_append n (x ∷ xs) ys h k = (h.0, (h.1.0, low_append n xs ys h.1.1 k))

  module _ (a b : K) (p : is_key a) (q : is_key b) (ascend : rank_at number index a < rank_at number index b) where
    pub low_second : {X : Type 0} (ps : List (K × X)) (i : X) → AreLow is_key (rank_at number index) (rank_at number index a) ps → AreLow is_key (rank_at number index) (rank_at number index b) (ps ++ (a, i) ∷ [])
    low_second ps i low = low_append (rank_at number index b) ps ((a, i) ∷ []) (low_weaker (rank_at number index a) (rank_at number index b) ps (omega (arith, ascend)) low) (p, (ascend, tt))

    pub second_is : {X : Type 0} (es ps qs : List (K × X)) (i j : X) → es ≡ ps ++ (a, i) ∷ ((b, j) ∷ qs) → es ≡ (ps ++ (a, i) ∷ []) ++ (b, j) ∷ qs
    second_is es ps qs i j is = is ∙ sym (append_assoc ps ((a, i) ∷ []) ((b, j) ∷ qs))

    -- the second one goes
    pub record SecondGone (ps qs : List (K × Interval K)) (i j moved : Interval K) (left : List (K × Interval K)) : Type 0 where
      pub moved_is : moved ≡ j
      pub left_is : left ≡ ps ++ (a, i) ∷ qs

    pub second_gone : (es left ps qs : List (K × Interval K)) (i j moved : Interval K) → es ≡ ps ++ (a, i) ∷ ((b, j) ∷ qs) → AreLow is_key (rank_at number index) (rank_at number index a) ps → Some moved ≡ lookup (is_at (cmp b)) es → left ≡ remove_entry (is_at (cmp b)) es → SecondGone ps qs i j moved left
    second_gone es left ps qs i j moved is low found out =
        let two = second_is es ps qs i j is in
        let low_b = low_second ps i low in
        record {
          moved_is = read_there cmp is_key number index by_rank b q es (ps ++ (a, i) ∷ []) qs j two low_b moved found;
          left_is = removed_at cmp is_key number index by_rank b q es (ps ++ (a, i) ∷ []) qs j two low_b left out ∙ append_assoc ps ((a, i) ∷ []) qs;
        }

    -- the first one goes
    pub record FirstGone (ps qs : List (K × Interval K)) (i j moved : Interval K) (left : List (K × Interval K)) : Type 0 where
      pub moved_is : moved ≡ i
      pub left_is : left ≡ ps ++ (b, j) ∷ qs

    pub first_gone : (es left ps qs : List (K × Interval K)) (i j moved : Interval K) → es ≡ ps ++ (a, i) ∷ ((b, j) ∷ qs) → AreLow is_key (rank_at number index) (rank_at number index a) ps → Some moved ≡ lookup (is_at (cmp a)) es → left ≡ remove_entry (is_at (cmp a)) es → FirstGone ps qs i j moved left
    first_gone es left ps qs i j moved is low found out = record {
      moved_is = read_there cmp is_key number index by_rank a p es ps ((b, j) ∷ qs) i is low moved found;
      left_is = removed_at cmp is_key number index by_rank a p es ps ((b, j) ∷ qs) i is low left out;
    }

    pub low_b : {X : Type 0} (ps : List (K × X)) → AreLow is_key (rank_at number index) (rank_at number index a) ps → AreLow is_key (rank_at number index) (rank_at number index b) ps
    low_b ps low = low_weaker (rank_at number index a) (rank_at number index b) ps (omega (arith, ascend)) low

-- the entries of two with one between them
pub run_joined : {K : Type 0} (f : Entry K → Held) (new : List (Entry K)) (d e : Interval K) (x : Entry K) (rs ts : List Held) → new ≡ (items_of d.entries.value) ++ x ∷ (items_of e.entries.value) → run_of f d ≡ rs → run_of f e ≡ ts → map f new ≡ rs ++ f x ∷ ts
run_joined f new d e x rs ts made left right =
    ap (map f) made ∙ (map-append f (items_of d.entries.value) (x ∷ (items_of e.entries.value)) ∙ (ap (λ (t : List Held). t ++ f x ∷ run_of f e) left ∙ ap (λ (t : List Held). rs ++ f x ∷ t) right))
