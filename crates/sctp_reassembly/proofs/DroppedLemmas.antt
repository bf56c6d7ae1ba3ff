-- What lies before a key.
use Rattle.std.proofs.Common.{◌≡◌, ℕ, suc, ◌<◌, ◌≤◌, ◌==◌, Bool, true, false, not, Option, Some, None, List, [], ◌∷◌, ◌++◌, refl, ap, sym, subst, ◌∙◌, inl, inr}
use Rattle.std.proofs.lemmas.Bool.{cases_lt, lt-ltb}
use Rattle.sctp_fragments.specs.declared.interval.Interval.{Interval}
use Rattle.sctp_fragments.specs.Runs.{is_next, last_of, end_of, flat, from_rank, AllBelow, IsBelow, IsLinked, AreRuns}
use Rattle.sctp_fragments.specs.Held.{Held, rank_of, goes_on, ends, intervals_of, is_complete, NonePass}
use Rattle.sctp_fragments.specs.Interval.{held_of, lists_of, run_of}
use Rattle.sctp_fragments.proofs.PlaceLemmas.{cons, some_run}
use Rattle.sctp_fragments.proofs.RunLemmas.{end_of_append, from_rank_runs, AllBelow_runs}
use Rattle.sctp_reassembly.specs.Places.{all_of, runs_at}
use Rattle.sctp_reassembly.proofs.ListLemmas.{second_false, intervals_flat}
use Rattle.sctp_reassembly.proofs.MapLemmas.{runs_append}

none_from : (n : ℕ) (hs : List Held) → AllBelow rank_of n hs → from_rank rank_of n hs ≡ []
none_from n [] below = refl
none_from n (h ∷ hs) below = rw (lt-ltb (rank_of h) n below.0) (none_from n hs below.1)

-- where the last fragment is before the key, all are
pub drops_all : (n : ℕ) (rs : List (List Held)) → AreRuns rank_of goes_on None rs → IsBelow rank_of n (end_of None rs) → from_rank rank_of n (flat rs) ≡ []
drops_all n rs h below = none_from n (flat rs) (AllBelow_runs rank_of goes_on None n rs h below)

-- ---- what stays

apart : false ≡ true → ⊥
apart h = cc

-- no message comes to be by what goes: what is left of an interval that lost its beginning has none
module _ (test : List Held → Bool) (only : (r : List Held) → test r ≡ true → is_complete r ≡ true) (n : ℕ) where
  no_message : (e d : Held) (ds : List Held) → is_next rank_of goes_on e d ≡ true → test (d ∷ ds) ≡ false
  no_message e d ds next = go (test (d ∷ ds)) refl
    where
      go : (b : Bool) → test (d ∷ ds) ≡ b → b ≡ false
      go false is = refl
      go true is = absurd (apart (sym (second_false (rank_of d == suc (rank_of e)) (not e.fragment.is_end) d.fragment.is_beginning (ends (last_of d ds)) next) ∙ only (d ∷ ds) is))

  all_stay : (e : Held) (es : List Held) (rs : List (List Held)) → AreRuns rank_of goes_on None ((e ∷ es) ∷ rs) → n ≤ rank_of e → test (e ∷ es) ≡ false → NonePass test rs → NonePass test (intervals_of (from_rank rank_of n (e ∷ (es ++ flat rs))))
  all_stay e es rs runs from off none =
      subst (λ (t : List Held). NonePass test (intervals_of t)) (sym (from_rank_runs rank_of goes_on n e es rs runs from)) (subst (NonePass test) (sym (intervals_flat ((e ∷ es) ∷ rs) runs)) (off, none))

  rest_stays : (e : Held) (es : List Held) (rs : List (List Held)) → IsLinked rank_of goes_on e es → AreRuns rank_of goes_on (Some (last_of e es)) rs → NonePass test rs → NonePass test (intervals_of (from_rank rank_of n (flat rs))) → NonePass test (intervals_of (from_rank rank_of n (es ++ flat rs)))
  rest_stays e [] rs linked runs none others = others
  rest_stays e (d ∷ ds) rs linked runs none others = elim (cases_lt (rank_of d) n) [
    | inl less ↦ rw (lt-ltb (rank_of d) n less) (rest_stays d ds rs linked.1 runs none others)
    | inr more ↦ all_stay d ds rs (tt, (linked.1, runs)) more (no_message e d ds linked.0) none
  ]

  none_kept : (before : Option Held) (rs : List (List Held)) → AreRuns rank_of goes_on before rs → NonePass test rs → NonePass test (intervals_of (from_rank rank_of n (flat rs)))
  none_kept before [] runs none = tt
  none_kept before ([] ∷ rs) runs none = absurd runs
  none_kept before ((e ∷ es) ∷ rs) runs none = elim (cases_lt (rank_of e) n) [
    | inl less ↦ rw (lt-ltb (rank_of e) n less) (rest_stays e es rs runs.1.0 runs.1.1 none.1 (none_kept (Some (last_of e es)) rs runs.1.1 none.1))
    | inr more ↦ all_stay e es rs (tt, runs.1) more none.0 none.1
  ]

  pub none_stays : (rs : List (List Held)) (old new : List Held) → AreRuns rank_of goes_on None rs → flat rs ≡ old → new ≡ from_rank rank_of n old → NonePass test (intervals_of old) → NonePass test (intervals_of new)
  none_stays rs old new runs is made none =
      let all : NonePass test rs = subst (NonePass test) (intervals_flat rs runs) (subst (λ (t : List Held). NonePass test (intervals_of t)) (sym is) none) in
      subst (λ (t : List Held). NonePass test (intervals_of t)) (sym (made ∙ ap (from_rank rank_of n) (sym is))) (none_kept None rs runs all)

module _ {K : Type 0} (is_key : K → Type 0) (number index : K → ℕ) where
  all_with : (first : Option (Interval K)) (later front : List (K × Interval K)) (k : K) (i : Interval K) → later ≡ front ++ (k, i) ∷ []
      → lists_of (held_of number index) (all_of first later) ≡ lists_of (held_of number index) (all_of first front) ++ run_of (held_of number index) i ∷ []
  all_with None later front k i is = ap (runs_at number index) is ∙ runs_append is_key number index front ((k, i) ∷ [])
  all_with (Some j) later front k i is = ap (λ (t : List (List Held)). run_of (held_of number index) j ∷ t) (ap (runs_at number index) is ∙ runs_append is_key number index front ((k, i) ∷ []))

  end_with : (rs : List (List Held)) (i : Interval K) (e : Held) (n : ℕ) → ((h : Held) (hs : List Held) → run_of (held_of number index) i ≡ h ∷ hs → e ≡ last_of h hs) → rank_of e < n → IsBelow rank_of n (end_of None (rs ++ run_of (held_of number index) i ∷ []))
  end_with rs i e n last less =
      let c = cons (run_of (held_of number index) i) (some_run (held_of number index) i) in
      let is : end_of None (rs ++ run_of (held_of number index) i ∷ []) ≡ Some e =
      ap (λ (r : List Held). end_of None (rs ++ r ∷ [])) c.is ∙ (end_of_append rank_of goes_on None rs ((c.head ∷ c.tail) ∷ []) ∙ ap Some (sym (last c.head c.tail c.is))) in
      subst (IsBelow rank_of n) (sym is) less

  -- the last one of the map
  pub ends_later : (first : Option (Interval K)) (later front : List (K × Interval K)) (k : K) (i : Interval K) (e : Held) (n : ℕ) → later ≡ front ++ (k, i) ∷ []
      → ((h : Held) (hs : List Held) → run_of (held_of number index) i ≡ h ∷ hs → e ≡ last_of h hs) → rank_of e < n → IsBelow rank_of n (end_of None (lists_of (held_of number index) (all_of first later)))
  ends_later first later front k i e n is last less =
      subst (λ (t : List (List Held)). IsBelow rank_of n (end_of None t)) (sym (all_with first later front k i is)) (end_with (lists_of (held_of number index) (all_of first front)) i e n last less)
