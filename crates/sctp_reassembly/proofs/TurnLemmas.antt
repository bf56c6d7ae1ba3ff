-- Intervals by the number of the message at which they begin: of those below a number, and of those above it, none is in turn.
use Rattle.std.proofs.Common.{◌≡◌, ℕ, suc, ◌<◌, ◌≤◌, ◌==◌, Bool, true, false, cond, Option, Some, None, List, [], ◌∷◌, ◌++◌, length, refl, ap, sym, subst, ◌∙◌, arith}
use Rattle.std.specs.Prelude.{◌&&◌, ◌^◌, nat_lt, max}
use Rattle.std.proofs.lemmas.Bool.{lt-ltb}
use Rattle.std.proofs.lemmas.Bool.Decides.{nat_tests}
use Rattle.sctp_fragments.specs.declared.interval.Interval.{Interval}
use Rattle.sctp_fragments.specs.ReassemblyKey.{pair_rank, rank_at}
use Rattle.sctp_fragments.specs.Runs.{flat, last_of, end_of, is_held, put_in, with_item, from_rank, AreRuns, AllBelow, IsBelow}
use Rattle.sctp_fragments.specs.Held.{Held, rank_of, goes_on, intervals_of, is_complete, is_in_turn, NoneInTurn, IsTaken}
use Rattle.sctp_fragments.specs.Interval.{held_of, run_of, AreIndexed, StartsFrom, first_below, without_first}
use Rattle.sctp_fragments.proofs.RunLemmas.{flat_append, AreRuns_front, AreRuns_back, AllBelow_runs, linked_rises}
use Rattle.sctp_reassembly.specs.Delivery.{OrderedStream, deliver, at_rest, ordered_forward}
use Rattle.sctp_reassembly.specs.Places.{AreNamed, AreLow, IsWithin, runs_at}
use Rattle.sctp_reassembly.specs.Finished.{is_earlier, NoneEarlier}
use Rattle.sctp_reassembly.proofs.MapLemmas.{runs_append}
use Rattle.sctp_reassembly.proofs.FindLemmas.{not_found}
use Rattle.sctp_reassembly.proofs.DeliverLemmas.{deliver_ends}

-- ---- places of 64 bits

pub indexed_append : (xs ys : List Held) → AreIndexed xs → AreIndexed ys → AreIndexed (xs ++ ys)
indexed_append [] ys h k = k
indexed_append (x ∷ xs) ys h k = (h.0, indexed_append xs ys h.1 k)

indexed_front : (xs ys : List Held) → AreIndexed (xs ++ ys) → AreIndexed xs
indexed_front [] ys h = tt
indexed_front (x ∷ xs) ys h = (h.0, indexed_front xs ys h.1)

pub indexed_back : (xs ys : List Held) → AreIndexed (xs ++ ys) → AreIndexed ys
indexed_back [] ys h = h
indexed_back (x ∷ xs) ys h = indexed_back xs ys h.1

put_indexed : (x : Held) (hs : List Held) → x.index < 2 ^ 64 → AreIndexed hs → AreIndexed (put_in rank_of x hs)
put_indexed x [] s h = (s, tt)
put_indexed x (e ∷ es) s h = go (nat_lt (rank_of x) (rank_of e)) (put_indexed x es s h.1)
  where
    go : (b : Bool) → AreIndexed (put_in rank_of x es) → AreIndexed (cond b (x ∷ (e ∷ es)) (e ∷ put_in rank_of x es))
    go true ih = (s, h)
    go false ih = (h.0, ih)

pub with_indexed : (x : Held) (hs : List Held) → x.index < 2 ^ 64 → AreIndexed hs → AreIndexed (with_item rank_of x hs)
with_indexed x hs s h = go (is_held rank_of (rank_of x) hs)
  where
    go : (b : Bool) → AreIndexed (cond b hs (put_in rank_of x hs))
    go true = h
    go false = put_indexed x hs s h

pub taken_indexed : (old run new : List Held) → IsTaken old run new → AreIndexed old → AreIndexed new
taken_indexed old run new t h =
    let both : AreIndexed (flat t.front ++ (run ++ flat t.back)) = subst AreIndexed t.split h in
    subst AreIndexed (sym t.rest) (indexed_append (flat t.front) (flat t.back) (indexed_front (flat t.front) (run ++ flat t.back) both) (indexed_back run (flat t.back) (indexed_back (flat t.front) (run ++ flat t.back) both)))

pub indexed_first : (ls new : List (List Held)) (n bytes : ℕ) → AreRuns rank_of goes_on None ls → first_below n ls ≡ true
    → ((e : Held) (es : List Held) (rs : List (List Held)) → ls ≡ (e ∷ es) ∷ rs → (bytes ≡ length e.fragment.payload) × (new ≡ without_first es rs)) → AreIndexed (flat ls) → AreIndexed (flat new)
indexed_first [] new n bytes r k made h = cc
indexed_first ([] ∷ rs) new n bytes r k made h = absurd r
indexed_first ((e ∷ es) ∷ rs) new n bytes r k made h =
    let m = made e es rs refl in
    subst (λ (t : List (List Held)). AreIndexed (flat t)) (sym m.1) (go es h.1)
  where
    go : (ds : List Held) → AreIndexed (ds ++ flat rs) → AreIndexed (flat (without_first ds rs))
    go [] i = i
    go (d ∷ ds) i = i

-- ---- runs that aren't in turn

and_false : (a b : Bool) → b ≡ false → (a && b) ≡ false
and_false true b h = h
and_false false b h = refl

of_another : (n : ℕ) (e : Held) (es : List Held) → (e.number == n) ≡ false → is_in_turn n (e ∷ es) ≡ false
of_another n e es h = and_false (is_complete (e ∷ es)) (e.number == n) h

above_is : (a i m n : ℕ) → i < 2 ^ 64 → pair_rank n 0 ≤ m → m < pair_rank a i → n ≤ a
above_is a i m n s h k = omega (arith, s, h, k)

above_differs : (a n : ℕ) → suc n ≤ a → (a == n) ≡ false
above_differs a n h = grind (arith, nat_tests)

none_above : (d : Held) (rs : List (List Held)) (n : ℕ) → AreRuns rank_of goes_on (Some d) rs → AreIndexed (flat rs) → pair_rank (suc n) 0 ≤ rank_of d → NoneInTurn n rs
none_above d [] n r i h = tt
none_above d ([] ∷ rs) n r i h = absurd r
none_above d ((e ∷ es) ∷ rs) n r i h =
    let up : suc n ≤ e.number = above_is e.number e.index (rank_of d) (suc n) i.0 h r.0.0 in (
      of_another n e es (above_differs e.number n up),
      none_above (last_of e es) rs n r.1.1 (indexed_back es (flat rs) i.1) (omega (arith, h, r.0.0, linked_rises rank_of goes_on e es r.1.0)),
    )

pub none_append : (n : ℕ) (xs ys : List (List Held)) → NoneInTurn n xs → NoneInTurn n ys → NoneInTurn n (xs ++ ys)
none_append n [] ys h k = k
none_append n (x ∷ xs) ys h k = (h.0, none_append n xs ys h.1 k)

starts_below : (before : Option Held) (e : Held) (es : List Held) (rs : List (List Held)) → AreRuns rank_of goes_on before ((e ∷ es) ∷ rs) → IsBelow rank_of (rank_of e) before
starts_below None e es rs h = tt
starts_below (Some d) e es rs h = h.0.0

-- runs around the one that begins with e
module _ (ps qs : List (List Held)) (e : Held) (es : List Held) (runs : AreRuns rank_of goes_on None (ps ++ (e ∷ es) ∷ qs)) where
  from_here : AreRuns rank_of goes_on (end_of None ps) ((e ∷ es) ∷ qs)
  from_here = AreRuns_back rank_of goes_on None ps ((e ∷ es) ∷ qs) runs

  lower : AllBelow rank_of (rank_of e) (flat ps)
  lower = AllBelow_runs rank_of goes_on None (rank_of e) ps (AreRuns_front rank_of goes_on None ps ((e ∷ es) ∷ qs) runs) (starts_below (end_of None ps) e es qs from_here)

  module _ (indexed : AreIndexed (flat (ps ++ (e ∷ es) ∷ qs))) where
    later : AreIndexed (flat qs)
    later =
        indexed_back es (flat qs) (indexed_back (flat ps) ((e ∷ es) ++ flat qs) (subst AreIndexed (flat_append ps ((e ∷ es) ∷ qs)) indexed)).1

    starts_on : (n : ℕ) → n ≤ e.number → StartsFrom n qs
    starts_on n h = go qs from_here.1.1 later
      where
        go : (rs : List (List Held)) → AreRuns rank_of goes_on (Some (last_of e es)) rs → AreIndexed (flat rs) → StartsFrom n rs
        go [] r i = tt
        go ([] ∷ rs) r i = absurd r
        go ((d ∷ ds) ∷ rs) r i = above_is d.number d.index (rank_of (last_of e es)) n i.0 (omega (arith, h, linked_rises rank_of goes_on e es from_here.1.0)) r.0.0

    pub none_from : (n : ℕ) → n ≤ e.number → (e.number == n) ≡ false → NoneInTurn n ((e ∷ es) ∷ qs)
    none_from n h other =
        (of_another n e es other, none_above (last_of e es) qs n from_here.1.1 later (omega (arith, more e.number n h other, linked_rises rank_of goes_on e es from_here.1.0)))
      where
        more : (a n : ℕ) → n ≤ a → (a == n) ≡ false → suc n ≤ a
        more a n h other = grind (arith, nat_tests)

-- ---- in the map

module _ {K : Type 0} (is_key : K → Type 0) (number index : K → ℕ) where
  -- under keys below that before which no message with the number begins, none is in turn
  pub none_low : (n m : ℕ) (es : List (K × Interval K)) → AreNamed is_key number index es → AreLow is_key (rank_at number index) m es → NoneEarlier n m (runs_at number index es) → NoneInTurn n (runs_at number index es)
  none_low n m [] named low h = tt
  none_low n m (e ∷ es) named low h = (go (run_of (held_of number index) e.1) named.1.0 h.0, none_low n m es named.1.1 low.1.1 h.1)
    where
      either : (a b : Bool) → b ≡ true → (a && b) ≡ false → a ≡ false
      either false b on h = refl
      either true true on h = h
      either true false on h = absurd (cc)

      go : (r : List Held) → IsWithin (rank_at number index e.0) r → is_earlier n m r ≡ false → is_in_turn n r ≡ false
      go [] w h = absurd w
      go (d ∷ ds) w h = either (is_in_turn n (d ∷ ds)) (nat_lt (rank_of d) m) (lt-ltb (rank_of d) m (omega (arith, w.0, low.1.0))) h

  -- one more that is not
  pub none_then : (n : ℕ) (front : List (K × Interval K)) (k : K) (i : Interval K) (r : Bool) → NoneInTurn n (runs_at number index front) → r ≡ is_in_turn n (run_of (held_of number index) i) → r ≡ false → NoneInTurn n (runs_at number index (front ++ (k, i) ∷ []))
  none_then n front k i r none is off =
      subst (NoneInTurn n) (sym (runs_append is_key number index front ((k, i) ∷ []))) (none_append n (runs_at number index front) (run_of (held_of number index) i ∷ []) none (sym is ∙ off, tt))

-- ---- a forward point by which the next number stays

pub passes_next : (n : ℕ) (s : OrderedStream) (hs : List Held) → suc n ≤ s.next → hs ≡ from_rank rank_of (pair_rank (suc n) 0) s.held → NoneInTurn s.next (intervals_of hs) → ordered_forward n s ≡ at_rest s.next hs
passes_next n s hs h left none =
    ap (λ (m : ℕ). deliver m (from_rank rank_of (pair_rank (suc n) 0) s.held)) (most (suc n) s.next h)
    ∙ (ap (deliver s.next) (sym left) ∙ deliver_ends s.next hs (not_found (is_in_turn s.next) (intervals_of hs) none))
  where
    most : (a b : ℕ) → a ≤ b → max a b ≡ b
    most a b h = omega (arith, h)
