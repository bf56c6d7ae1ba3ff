-- What calls leave of the intervals of fragments in order.
use Rattle.std.proofs.Common.{◌≡◌, ℕ, suc, ◌≤◌, Bool, true, false, cond, Option, Some, None, List, [], ◌∷◌, ◌++◌, length, refl, sym, subst, inl, inr, arith}
use Rattle.std.specs.Prelude.{◌==◌, not}
use Rattle.std.proofs.lemmas.Bool.{lt-ltb, cases_lt, cases_Bool}
use Rattle.sctp_fragments.specs.Runs.{is_next, from_rank, last_of, attach, flat, AreRuns}
use Rattle.sctp_fragments.specs.Held.{Held, rank_of, goes_on, intervals_of, NonePass, NoneComplete, without_first_of, left_by}
use Rattle.proof_refines.specs.SettledStreams.{AreInOrder}
use Rattle.sctp_fragments.proofs.RunLemmas.{AreRuns_without, runs_of_flat, flat_runs_of, from_rank_runs}
use Rattle.sctp_reassembly.proofs.FindLemmas.{without_none}
use Rattle.sctp_reassembly.proofs.ListLemmas.{second_false}

-- ---- without the first interval that passes a test

module _ (test : List Held → Bool) where
  without_runs : (before : Option Held) (rs : List (List Held)) → AreRuns rank_of goes_on before rs → AreRuns rank_of goes_on before (without_first_of test rs)
  without_runs before [] h = tt
  without_runs before ([] ∷ rs) h = absurd h
  without_runs before ((e ∷ es) ∷ rs) h = go (without_runs (Some (last_of e es)) rs h.1.1) (test (e ∷ es))
    where
      go : AreRuns rank_of goes_on (Some (last_of e es)) (without_first_of test rs) → (b : Bool) → AreRuns rank_of goes_on before (cond b rs ((e ∷ es) ∷ without_first_of test rs))
      go rest true = AreRuns_without rank_of goes_on before [] rs (e ∷ es) h
      go rest false = (h.0, (h.1.0, rest))

  pub left_intervals : (hs : List Held) → AreInOrder hs → intervals_of (left_by test hs) ≡ without_first_of test (intervals_of hs)
  left_intervals hs h = runs_of_flat rank_of goes_on None (without_first_of test (intervals_of hs)) (without_runs None (intervals_of hs) h)

  pub left_order : (hs : List Held) → AreInOrder hs → AreInOrder (left_by test hs)
  left_order hs h = subst (AreRuns rank_of goes_on None) (sym (left_intervals hs h)) (without_runs None (intervals_of hs) h)

  -- where one at most passes
  pub without_one : (front back : List (List Held)) (run : List Held) → NonePass test (front ++ back) → NonePass test (without_first_of test (front ++ run ∷ back))
  without_one [] back run none = go (test run) refl
    where
      go : (b : Bool) → test run ≡ b → NonePass test (cond b back (run ∷ without_first_of test back))
      go true is = none
      go false is = (is, subst (NonePass test) (sym (without_none test back none)) none)
  without_one (r ∷ front) back run none = rw none.0 (none.0, without_one front back run none.1)

pub none_empty : (test : List Held → Bool) (rs : List (List Held)) → length rs ≤ 0 → NonePass test rs
none_empty test [] h = tt
none_empty test (r ∷ rs) h = absurd (omega arith)

-- ---- from a key on

abbrev NoEmpty : List (List Held) → Type 0
NoEmpty [] = Unit {0}
NoEmpty ([] ∷ rs) = ⊥
NoEmpty ((e ∷ es) ∷ rs) = NoEmpty rs

no_empty_attached : (x : Held) (rs : List (List Held)) → NoEmpty rs → NoEmpty (attach rank_of goes_on x rs)
no_empty_attached x [] h = tt
no_empty_attached x ([] ∷ rs) h = absurd h
no_empty_attached x ((e ∷ es) ∷ rs) h =
    elim (cases_Bool (is_next rank_of goes_on x e)) [
      | inl t ↦ rw t h
      | inr f ↦ rw f h
    ]

no_empty : (hs : List Held) → NoEmpty (intervals_of hs)
no_empty [] = tt
no_empty (h ∷ hs) = no_empty_attached h (intervals_of hs) (no_empty hs)

tail_runs : (e : Held) (rs : List (List Held)) → NoEmpty rs → AreRuns rank_of goes_on None (attach rank_of goes_on e rs) → AreRuns rank_of goes_on None rs
tail_runs e [] some h = tt
tail_runs e ([] ∷ rs) some h = absurd some
tail_runs e ((f ∷ fs) ∷ rs) some h =
    elim (cases_Bool (is_next rank_of goes_on e f)) [
      | inl t ↦ let j = rw t at h in (tt, (j.1.0.1, j.1.1))
      | inr n ↦ let j = rw n at h in (tt, j.1.1.1)
    ]

tail_none : (e : Held) (rs : List (List Held)) → NoEmpty rs → NoneComplete (attach rank_of goes_on e rs) → NoneComplete rs
tail_none e [] some h = tt
tail_none e ([] ∷ rs) some h = absurd some
tail_none e ((f ∷ fs) ∷ rs) some h =
    elim (cases_Bool (is_next rank_of goes_on e f)) [
      | inl t ↦ let j = rw t at h in (second_false (rank_of f == suc (rank_of e)) (not e.fragment.is_end) f.fragment.is_beginning (last_of f fs).fragment.is_end t, j.1)
      | inr n ↦ let j = rw n at h in j.1
    ]

from_kept : (n : ℕ) (e : Held) (es : List Held) → AreInOrder (e ∷ es) → n ≤ rank_of e → from_rank rank_of n (e ∷ es) ≡ e ∷ es
from_kept n e es h least = go (intervals_of (e ∷ es)) (flat_runs_of rank_of goes_on (e ∷ es)) h
  where
    go : (rs : List (List Held)) → flat rs ≡ e ∷ es → AreRuns rank_of goes_on None rs → from_rank rank_of n (e ∷ es) ≡ e ∷ es
    go [] is h = absurd (cc)
    go ([] ∷ rs) is h = absurd h
    go ((d ∷ ds) ∷ rs) is h =
        let first : e ≡ d = cc in
        subst (λ (t : List Held). from_rank rank_of n t ≡ t) is (from_rank_runs rank_of goes_on n d ds rs h (subst (λ (t : Held). n ≤ rank_of t) first least))

pub from_order : (n : ℕ) (hs : List Held) → AreInOrder hs → AreInOrder (from_rank rank_of n hs)
from_order n [] h = tt
from_order n (e ∷ es) h =
    elim (cases_lt (rank_of e) n) [
      | inl low ↦ rw (lt-ltb (rank_of e) n low) (from_order n es (tail_runs e (intervals_of es) (no_empty es) h))
      | inr high ↦ subst AreInOrder (sym (from_kept n e es h high)) h
    ]

pub from_none : (n : ℕ) (hs : List Held) → AreInOrder hs → NoneComplete (intervals_of hs) → NoneComplete (intervals_of (from_rank rank_of n hs))
from_none n [] h none = tt
from_none n (e ∷ es) h none =
    elim (cases_lt (rank_of e) n) [
      | inl low ↦ rw (lt-ltb (rank_of e) n low) (from_none n es (tail_runs e (intervals_of es) (no_empty es) h) (tail_none e (intervals_of es) (no_empty es) none))
      | inr high ↦ subst (λ (t : List Held). NoneComplete (intervals_of t)) (sym (from_kept n e es h high)) none
    ]
