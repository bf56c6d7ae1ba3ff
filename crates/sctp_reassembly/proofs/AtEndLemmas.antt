-- The last entry of the map, and what comes behind it.
use Rattle.std.proofs.Common.{◌≡◌, ℕ, ◌-◌, ◌<◌, ◌≤◌, Bool, true, false, Option, Some, None, List, [], ◌∷◌, ◌++◌, length, slice_get, refl, ap, sym, subst, ◌∙◌, arith, append-nil}
use Rattle.std.specs.Prelude.{nat_lt}
use Rattle.sctp_fragments.specs.declared.interval.Interval.{Interval}
use Rattle.sctp_fragments.specs.ReassemblyKey.{rank_at}
use Rattle.sctp_fragments.specs.Runs.{last_of, end_of, is_held, is_next, AreRuns, IsBelow}
use Rattle.sctp_fragments.specs.Held.{Held, rank_of, goes_on}
use Rattle.sctp_fragments.specs.Interval.{held_of, run_of}
use Rattle.sctp_fragments.proofs.PlaceLemmas.{cons, some_run, emitted_less}
use Rattle.sctp_fragments.proofs.RunLemmas.{AreRuns_back}
use Rattle.sctp_reassembly.specs.Places.{AreNamed, AreLow, AreJoined, Holds, IsWithin, runs_at, previous_of}
use Rattle.sctp_reassembly.proofs.MapLemmas.{lows, runs_append}
use Rattle.sctp_reassembly.proofs.JoinedLemmas.{ends_at, apart_before, goes_before, named_mid}

last_at : {X : Type 0} (d : X) (es : List X) (e : X) → slice_get (d ∷ es) (length es) ≡ Some e → (front : List X) × (d ∷ es ≡ front ++ e ∷ [])
last_at d [] e h = let same : d ≡ e = cc in ([], ap (λ (x : _). x ∷ []) same)
last_at d (x ∷ es) e h = let r = last_at x es e h in (d ∷ r.0, ap (λ t. d ∷ t) r.1)

pub last_is : {X : Type 0} (es : List X) (e : X) → slice_get es (length es - 1) ≡ Some e → (front : List X) × (es ≡ front ++ e ∷ [])
last_is [] e h = absurd (cc)
last_is (d ∷ es) e h = last_at d es e (subst (λ (n : ℕ). slice_get (d ∷ es) n ≡ Some e) (omega arith) h)

pub not_none : {X : Type 0} (es : List X) → (0 < length es → false ≡ true) → es ≡ []
not_none [] h = refl
not_none (e ∷ es) h = absurd (apart (h (omega arith)))
  where
    apart : false ≡ true → ⊥
    apart h = cc

module _ {K : Type 0} (is_key : K → Type 0) (number index : K → ℕ) where
  abbrev runs : List (K × Interval K) → List (List Held)
  runs es = runs_at number index es

  low_more : (m n : ℕ) (es : List (K × Interval K)) (k : K) (i : Interval K) → AreLow is_key (rank_at number index) m es → m ≤ n → is_key k → rank_at number index k < n → AreLow is_key (rank_at number index) n (es ++ (k, i) ∷ [])
  low_more m n [] k i low upto key less = (key, (less, tt))
  low_more m n (e ∷ es) k i low upto key less = (low.0, (omega (arith, low.1.0, upto), low_more m n es k i low.1.1 upto key less))

  named_end : (front : List (K × Interval K)) (k : K) (i : Interval K) → AreNamed is_key number index (front ++ (k, i) ∷ []) → is_key k
  named_end [] k i named = named.0
  named_end (e ∷ front) k i named = named_end front k i named.1.1

  module _ (es front : List (K × Interval K)) (k : K) (i : Interval K) (is : es ≡ front ++ (k, i) ∷ []) (named : AreNamed is_key number index es) (all : AreRuns rank_of goes_on None (runs es)) where
    low_front : AreLow is_key (rank_at number index) (rank_at number index k) front
    low_front = lows is_key number index None front [] (k, i) (subst (AreNamed is_key number index) is named) (subst (λ (t : List (K × Interval K)). AreRuns rank_of goes_on None (runs t)) is all)

    pub last_runs : (before : Option Held) × AreRuns rank_of goes_on before (run_of (held_of number index) i ∷ [])
    last_runs =
        let whole : runs es ≡ runs front ++ run_of (held_of number index) i ∷ [] = ap runs is ∙ runs_append is_key number index front ((k, i) ∷ []) in
        (end_of None (runs front), AreRuns_back rank_of goes_on None (runs front) (run_of (held_of number index) i ∷ []) (subst (AreRuns rank_of goes_on None) whole all))

    pub holds_last : (n : ℕ) → is_held rank_of n (run_of (held_of number index) i) ≡ true → (h : Holds is_key number index n k es) × (i ≡ h.interval)
    holds_last n held = (record { front = front; interval = i; back = []; is = is; low = low_front; held = held }, refl)

    -- an item behind the end of all
    module _ (x e : Held) (r : Bool) (less : r ≡ true) (is_less : r ≡ nat_lt (rank_of e) (rank_of x)) (last : (h : Held) (hs : List Held) → run_of (held_of number index) i ≡ h ∷ hs → e ≡ last_of h hs) where
      low_all : AreLow is_key (rank_at number index) (rank_of x) es
      low_all =
          let c = cons (run_of (held_of number index) i) (some_run (held_of number index) i) in
          let w = subst (IsWithin (rank_at number index k)) c.is (named_mid is_key number index front [] k i (subst (AreNamed is_key number index) is named)) in
          let behind : rank_of e < rank_of x = emitted_less r (rank_of e) (rank_of x) less is_less in
          let up : rank_at number index k < rank_of x = omega (arith, w.1, behind, ap rank_of (last c.head c.tail c.is)) in
          subst (AreLow is_key (rank_at number index) (rank_of x)) (sym is) (low_more (rank_at number index k) (rank_of x) front k i low_front (omega (arith, up)) (named_end front k i (subst (AreNamed is_key number index) is named)) up)

      ends : end_of None (runs es) ≡ Some e
      ends = ends_at is_key number index es front k i e is last

      at_end : (before : Option K) → IsBelow rank_of (rank_of x) (end_of None (runs es)) × (before ≡ previous_of number index x es) → AreJoined is_key number index es x before None
      at_end before b = record {
        ps = es;
        qs = [];
        split = record { is = sym (append-nil es); low = low_all; high = tt };
        below = b.0;
        leads = tt;
        before_is = b.1;
        behind_is = refl;
      }

      pub goes_at_end : (s : Bool) → s ≡ is_next rank_of goes_on e x → s ≡ true → AreJoined is_key number index es x (Some k) None
      goes_at_end s goes on = at_end (Some k) (goes_before is_key number index x es front k i e r s is ends is_less less goes on)

      pub apart_at_end : (s : Bool) → s ≡ is_next rank_of goes_on e x → s ≡ false → AreJoined is_key number index es x None None
      apart_at_end s goes off = at_end None (apart_before is_key number index x es e r s ends is_less less goes off)

  pub none_at_end : (es : List (K × Interval K)) (x : Held) → es ≡ [] → AreJoined is_key number index es x None None
  none_at_end es x none = subst (λ (t : List (K × Interval K)). AreJoined is_key number index t x None None) (sym none) (record { ps = []; qs = []; split = record { is = refl; low = tt; high = tt }; below = tt; leads = tt; before_is = refl; behind_is = refl })
