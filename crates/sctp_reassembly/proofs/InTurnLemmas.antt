-- The first interval that is in turn, in the map.
use Rattle.std.proofs.Common.{◌≡◌, ℕ, ◌<◌, ◌==◌, Bool, true, false, Option, Some, None, List, [], ◌∷◌, ◌++◌, refl, ap, sym, subst, ◌∙◌, arith, append_assoc}
use Rattle.std.specs.Prelude.{IfSome, IfNone}
use Rattle.std.specs.Option.{option_to_list}
use Rattle.std.proofs.Common.{Ordering}
use Rattle.std.specs.Map.{lookup, remove_entry}
use Rattle.std.specs.Ordering.{nat_cmp}
use Rattle.std.specs.BTreeMap.{is_at}
use Rattle.std.proofs.lemmas.Bool.Decides.{nat_tests}
use Rattle.sctp_fragments.specs.declared.interval.Interval.{Interval}
use Rattle.sctp_fragments.specs.ReassemblyKey.{rank_at}
use Rattle.sctp_fragments.specs.Runs.{flat, AreRuns}
use Rattle.sctp_fragments.specs.Held.{Held, rank_of, goes_on, is_in_turn, NoneInTurn}
use Rattle.sctp_fragments.specs.Interval.{held_of, run_of, lists_of, entries_of, AreIndexed}
use Rattle.sctp_fragments.proofs.PlaceLemmas.{cons, some_run}
use Rattle.sctp_reassembly.specs.Places.{AreNamed, IsSplit, all_of, runs_at}
use Rattle.sctp_reassembly.specs.Turns.{IsFirstOut, IsFirstPassing}
use Rattle.sctp_reassembly.specs.Finished.{is_earlier, NoneEarlier}
use Rattle.sctp_reassembly.proofs.DeliverLemmas.{NonePass_front}
use Rattle.sctp_reassembly.proofs.MapLemmas.{read_there, removed_at, not_absent, runs_append, lows}
use Rattle.sctp_reassembly.proofs.PutLemmas.{named_front}
use Rattle.sctp_reassembly.proofs.HolderLemmas.{named_without}
use Rattle.sctp_reassembly.proofs.TurnLemmas.{none_low, none_then, none_from, none_append, indexed_back}

module _ {K : Type 0} (is_key : K → Type 0) (number index : K → ℕ) where
  abbrev runs : List (K × Interval K) → List (List Held)
  runs es = runs_at number index es

  pub passed_at : (n m : ℕ) (es ps qs rest : List (K × Interval K)) → AreNamed is_key number index es → IsSplit is_key (rank_at number index) m es ps qs → qs ≡ rest → NoneEarlier n m (runs es) → (front : List (K × Interval K)) × ((es ≡ front ++ rest) × NoneInTurn n (runs front))
  passed_at n m es ps qs rest named s same earlier =
      let front = NonePass_front (is_earlier n m) (runs ps) (runs qs) (subst (NoneEarlier n m) (ap runs s.is ∙ runs_append is_key number index ps qs) earlier) in
      (ps, (s.is ∙ ap (λ (t : List (K × Interval K)). ps ++ t) same, none_low is_key number index n m ps (named_front is_key number index ps qs (subst (AreNamed is_key number index) s.is named)) s.low front))

  -- the search is at an entry, behind those that it passed
  module _ (n : ℕ) (es front rest back : List (K × Interval K)) (k : K) (i : Interval K) (named : AreNamed is_key number index es) (all : AreRuns rank_of goes_on None (runs es)) (split : es ≡ front ++ rest) (steps : rest ≡ (k, i) ∷ back) (none : NoneInTurn n (runs front)) where
    at : es ≡ front ++ (k, i) ∷ back
    at = split ∙ ap (λ (t : List (K × Interval K)). front ++ t) steps

    pub first_passing : (r : Bool) → r ≡ is_in_turn n (run_of (held_of number index) i) → r ≡ true → IsFirstPassing is_key number index (is_in_turn n) k es
    first_passing r is on = record {
      front = front;
      interval = i;
      back = back;
      is = at;
      low = lows is_key number index None front back (k, i) (subst (AreNamed is_key number index) at named) (subst (λ (t : List (K × Interval K)). AreRuns rank_of goes_on None (runs t)) at all);
      passes = sym is ∙ on;
      none = none;
    }

    pub passed_on : (r : Bool) → r ≡ is_in_turn n (run_of (held_of number index) i) → r ≡ false → (front' : List (K × Interval K)) × ((es ≡ front' ++ back) × NoneInTurn n (runs front'))
    passed_on r is off = (front ++ (k, i) ∷ [], (at ∙ sym (append_assoc front ((k, i) ∷ []) back), none_then is_key number index n front k i r none is off))

    whole : runs es ≡ runs front ++ run_of (held_of number index) i ∷ runs back
    whole = ap runs at ∙ runs_append is_key number index front ((k, i) ∷ back)

    pub none_above_it : (d : Held) → AreIndexed (flat (runs es)) → ((h : Held) (hs : List Held) → run_of (held_of number index) i ≡ h ∷ hs → d ≡ h) → n < d.number → NoneInTurn n (runs es)
    none_above_it d small first above =
        let c = cons (run_of (held_of number index) i) (some_run (held_of number index) i) in
        let here : runs es ≡ runs front ++ (c.head ∷ c.tail) ∷ runs back = whole ∙ ap (λ (t : List Held). runs front ++ t ∷ runs back) c.is in
        let up : n < c.head.number = subst (λ (h : Held). n < h.number) (first c.head c.tail c.is) above in
        subst (NoneInTurn n) (sym here)
        (none_append n (runs front) ((c.head ∷ c.tail) ∷ runs back) none
        (none_from (runs front) (runs back) c.head c.tail (subst (AreRuns rank_of goes_on None) here all) (subst (λ (t : List (List Held)). AreIndexed (flat t)) here small) n (omega (arith, up)) (differs c.head.number n up)))
      where
        differs : (a n : ℕ) → n < a → (a == n) ≡ false
        differs a n h = grind (arith, nat_tests)

  -- ---- the first interval

  same_interval : (i j : Interval K) → Some j ≡ Some i → j ≡ i
  same_interval i j h = cc

  pub first_out : (n : ℕ) (first first' : Option (Interval K)) (later later' : List (K × Interval K)) (r : Option (Interval K)) (i : Interval K) (b : Bool) → first ≡ Some i → r ≡ Some i → all_of (Some i) later ≡ option_to_list r ++ all_of first' later' → b ≡ is_in_turn n (run_of (held_of number index) i) → b ≡ true
      → IfSome r (λ j. IsFirstOut (is_in_turn n) (lists_of (held_of number index) (all_of first later)) (run_of (held_of number index) j) (lists_of (held_of number index) (all_of first' later')))
  first_out n first first' later later' None i b is same others turn on = tt
  first_out n first first' later later' (Some j) i b is same others turn on = record {
    out = record { front = []; back = lists_of (held_of number index) (all_of first' later'); is = ap (λ (o : Option (Interval K)). lists_of (held_of number index) (all_of o later)) is ∙ ap (lists_of (held_of number index)) others; left = refl };
    passes = ap (λ (t : Interval K). is_in_turn n (run_of (held_of number index) t)) (same_interval i j same) ∙ (sym turn ∙ on);
    none = tt;
  }

  module _ (n : ℕ) (first : Option (Interval K)) (later : List (K × Interval K)) (i : Interval K) (is : first ≡ Some i) where
    lists_are : lists_of (held_of number index) (all_of first later) ≡ run_of (held_of number index) i ∷ runs later
    lists_are = ap (λ (o : Option (Interval K)). lists_of (held_of number index) (all_of o later)) is

    pub later_indexed : AreIndexed (entries_of (held_of number index) (all_of first later)) → AreIndexed (flat (runs later))
    later_indexed h = indexed_back (run_of (held_of number index) i) (flat (runs later)) (subst (λ (t : List (List Held)). AreIndexed (flat t)) lists_are h)

    pub later_earlier : (m : ℕ) → NoneEarlier n m (lists_of (held_of number index) (all_of first later)) → NoneEarlier n m (runs later)
    later_earlier m h = (subst (NoneEarlier n m) lists_are h).1

    -- what the map has under the key goes
    module _ (b : Bool) (turn : b ≡ is_in_turn n (run_of (held_of number index) i)) (off : b ≡ false) (k : K) (j : IsFirstPassing is_key number index (is_in_turn n) k later) where
      later_first_out : (new : List (K × Interval K)) (d : Interval K) → d ≡ j.interval → new ≡ j.front ++ j.back → IsFirstOut (is_in_turn n) (lists_of (held_of number index) (all_of first later)) (run_of (held_of number index) d) (run_of (held_of number index) i ∷ runs new)
      later_first_out new d same left = record {
        out = record {
          front = run_of (held_of number index) i ∷ runs j.front;
          back = runs j.back;
          is = lists_are ∙ ap (λ (t : List (List Held)). run_of (held_of number index) i ∷ t) (ap runs j.is ∙ (runs_append is_key number index j.front ((k, j.interval) ∷ j.back) ∙ ap (λ (t : Interval K). runs j.front ++ run_of (held_of number index) t ∷ runs j.back) (sym same)));
          left = ap (λ (t : List (List Held)). run_of (held_of number index) i ∷ t) (ap runs left ∙ runs_append is_key number index j.front j.back);
        };
        passes = ap (λ (t : Interval K). is_in_turn n (run_of (held_of number index) t)) same ∙ j.passes;
        none = (sym turn ∙ off, j.none);
      }

      module _ (cmp : K → K → Ordering) (by_rank : (x y : K) → is_key x → is_key y → cmp x y ≡ nat_cmp (rank_at number index x) (rank_at number index y)) (p : is_key k) (r : Option (Interval K)) (new : List (K × Interval K)) (found : r ≡ lookup (is_at (cmp k)) later) where
        pub turn_out : new ≡ remove_entry (is_at (cmp k)) later → IfSome r (λ d. IsFirstOut (is_in_turn n) (lists_of (held_of number index) (all_of first later)) (run_of (held_of number index) d) (run_of (held_of number index) i ∷ runs new))
        turn_out made = go r found
          where
            go : (r : Option (Interval K)) → r ≡ lookup (is_at (cmp k)) later → IfSome r (λ d. IsFirstOut (is_in_turn n) (lists_of (held_of number index) (all_of first later)) (run_of (held_of number index) d) (run_of (held_of number index) i ∷ runs new))
            go None found = tt
            go (Some d) found =
                later_first_out new d (read_there cmp is_key number index by_rank k p later j.front j.back j.interval j.is j.low d found) (removed_at cmp is_key number index by_rank k p later j.front j.back j.interval j.is j.low new made)

        pub turn_found : (P : Type 0) → IfNone r P
        turn_found P = go r found
          where
            go : (r : Option (Interval K)) → r ≡ lookup (is_at (cmp k)) later → IfNone r P
            go None found = not_absent cmp is_key number index by_rank k p later j.front j.back j.interval j.is j.low found
            go (Some d) found = tt

        pub turn_named : AreNamed is_key number index later → new ≡ remove_entry (is_at (cmp k)) later → AreNamed is_key number index new
        turn_named named made =
            subst (AreNamed is_key number index) (sym (removed_at cmp is_key number index by_rank k p later j.front j.back j.interval j.is j.low new made)) (named_without is_key number index j.front j.back k j.interval (subst (AreNamed is_key number index) j.is named))
