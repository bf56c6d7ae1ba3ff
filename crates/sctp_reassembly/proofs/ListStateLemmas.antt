-- A single fragment, as an interval list has it.
use Rattle.std.proofs.Common.{◌≡◌, ℕ, ◌≤◌, Bool, true, false, cond, Option, Some, None, List, [], ◌∷◌, ◌++◌, length, refl, ap, sym, subst, ◌∙◌, arith, length-append}
use Rattle.std.specs.Map.{values_of}
use Rattle.std.specs.Prelude.{Result, Ok, Err, OnOk, OnErr}
use Rattle.sctp_fragments.specs.declared.interval.Entry.{Entry}
use Rattle.sctp_fragments.specs.declared.interval.Interval.{Interval}
use Rattle.sctp_fragments.specs.Interval.{held_of, run_of, entries_of}
use Rattle.sctp_fragments.specs.Held.{Held, rank_of, intervals_of}
use Rattle.sctp_fragments.specs.Runs.{is_held, put_in, with_item}
use Rattle.sctp_fragments.proofs.PlaceLemmas.{some_run}
use Rattle.sctp_reassembly.specs.Places.{all_of, IsLed}
use Rattle.sctp_reassembly.specs.Listed.{IsListed}
use Rattle.sctp_reassembly.specs.ListState.{IsLone}
use Rattle.sctp_reassembly.proofs.ListLemmas.{intervals_flat}
use Rattle.sctp_reassembly.proofs.CountLemmas.{put_length}

-- one fragment leaves no place for later intervals
module _ {K : Type 0} (f : Entry K → Held) where
  pub none_later : (first : Option (Interval K)) (later : List (K × Interval K)) → IsLed first later → length (entries_of f (all_of first later)) ≤ 1 → later ≡ []
  none_later None later led few = led
  none_later (Some i) [] led few = refl
  none_later (Some i) (e ∷ es) led few =
      let rest = entries_of f (values_of es) in
      absurd (omega (arith, few, some_run f i, some_run f e.1, length-append (run_of f i) (run_of f e.1 ++ rest), length-append (run_of f e.1) rest))

module _ {K : Type 0} (is_key : K → Type 0) (number index : K → ℕ) where
  pub nothing_listed : (later : List (K × Interval K)) → later ≡ [] → IsListed is_key number index None later 0 0
  nothing_listed later none = subst (λ (l : List (K × Interval K)). IsListed is_key number index None l 0 0) (sym none) (record { kept = record { runs = tt; named = tt; led = refl; counted = refl; small = tt }; counted = refl })

module _ {K : Type 0} (number index : K → ℕ) where
  -- the only interval of a single fragment
  pub lone_is : (i : Interval K) → IsLone number index i → (front back : List (List Held)) (r : List Held) → intervals_of (entries_of (held_of number index) (i ∷ [])) ≡ front ++ r ∷ back → run_of (held_of number index) i ≡ r
  lone_is i lone front back r runs = go front (sym (intervals_flat (run_of (held_of number index) i ∷ []) lone.runs) ∙ runs)
    where
      go : (fs : List (List Held)) → run_of (held_of number index) i ∷ [] ≡ fs ++ r ∷ back → run_of (held_of number index) i ≡ r
      go [] is = cc
      go (d ∷ []) is = absurd (cc)
      go (d ∷ (e ∷ ds)) is = absurd (cc)

-- where a fragment comes, or fails to, none goes
pub keeps_length : {T E : Type 0} (r : Result T E) (x : Held) (old new : List Held) → OnOk r (new ≡ with_item rank_of x old) → OnErr r (new ≡ old) → length old ≤ length new
keeps_length (Ok v) x old new ok err = go (is_held rank_of (rank_of x) old) (ap length ok)
  where
    go : (b : Bool) → length new ≡ length (cond b old (put_in rank_of x old)) → length old ≤ length new
    go true same = omega (arith, same)
    go false more = omega (arith, more, put_length x old)
keeps_length (Err e) x old new ok err = omega (arith, ap length err)
