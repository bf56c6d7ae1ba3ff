-- The first interval that passes a test.
use Rattle.std.proofs.Common.{◌≡◌, Bool, true, false, cond, Some, None, List, [], ◌∷◌, ◌++◌, refl, ap, sym, ◌∙◌}
use Rattle.std.specs.List.{find}
use Rattle.sctp_fragments.specs.Runs.{flat}
use Rattle.sctp_fragments.specs.Held.{Held, rank_of, goes_on, NonePass, without_first_of, left_by, intervals_of}
use Rattle.sctp_fragments.proofs.RunLemmas.{flat_append, flat_runs_of}

module _ (test : List Held → Bool) where
  pub found : (front back : List (List Held)) (run : List Held) → NonePass test front → test run ≡ true → find test (front ++ run ∷ back) ≡ Some run
  found [] back run none pass = rw pass refl
  found (r ∷ front) back run none pass = rw none.0 (found front back run none.1 pass)

  pub without_found : (front back : List (List Held)) (run : List Held) → NonePass test front → test run ≡ true → without_first_of test (front ++ run ∷ back) ≡ front ++ back
  without_found [] back run none pass = rw pass refl
  without_found (r ∷ front) back run none pass = rw none.0 (ap (λ (t : List (List Held)). r ∷ t) (without_found front back run none.1 pass))

  pub not_found : (rs : List (List Held)) → NonePass test rs → find test rs ≡ None
  not_found [] none = refl
  not_found (r ∷ rs) none = rw none.0 (not_found rs none.1)

  pub without_none : (rs : List (List Held)) → NonePass test rs → without_first_of test rs ≡ rs
  without_none [] none = refl
  without_none (r ∷ rs) none = rw none.0 (ap (λ (t : List (List Held)). r ∷ t) (without_none rs none.1))

  -- nothing passes: nothing goes
  pub left_none : (hs : List Held) → NonePass test (intervals_of hs) → left_by test hs ≡ hs
  left_none hs none = ap flat (without_none (intervals_of hs) none) ∙ flat_runs_of rank_of goes_on hs

  pub taken_left : (old run new : List Held) (front back : List (List Held)) → intervals_of old ≡ front ++ run ∷ back → NonePass test front → test run ≡ true → new ≡ flat front ++ flat back → new ≡ left_by test old
  taken_left old run new front back runs none pass rest =
      rest ∙ (sym (flat_append front back) ∙ ap flat (sym (without_found front back run none pass) ∙ ap (without_first_of test) (sym runs)))

  pub taken_intervals : (old run new : List Held) (front back : List (List Held)) → intervals_of old ≡ front ++ run ∷ back → NonePass test front → test run ≡ true → intervals_of new ≡ front ++ back → intervals_of new ≡ without_first_of test (intervals_of old)
  taken_intervals old run new front back runs none pass rest = rest ∙ (sym (without_found front back run none pass) ∙ ap (without_first_of test) (sym runs))

  without_unfound : (rs : List (List Held)) → find test rs ≡ None → without_first_of test rs ≡ rs
  without_unfound [] none = refl
  without_unfound (r ∷ rs) none = go (test r) none (without_unfound rs)
    where
      go : (b : Bool) → cond b (Some r) (find test rs) ≡ None → (find test rs ≡ None → without_first_of test rs ≡ rs) → cond b rs (r ∷ without_first_of test rs) ≡ r ∷ rs
      go true none ih = absurd (cc)
      go false none ih = ap (λ (t : List (List Held)). r ∷ t) (ih none)

  pub left_unfound : (hs : List Held) → find test (intervals_of hs) ≡ None → left_by test hs ≡ hs
  left_unfound hs none = ap flat (without_unfound (intervals_of hs) none) ∙ flat_runs_of rank_of goes_on hs

  -- where nothing is found, nothing passes
  pub find_none : (rs : List (List Held)) → find test rs ≡ None → NonePass test rs
  find_none [] h = tt
  find_none (r ∷ rs) h = go (find_none rs) (test r) refl h
    where
      go : (find test rs ≡ None → NonePass test rs) → (b : Bool) → test r ≡ b → cond b (Some r) (find test rs) ≡ None → (test r ≡ false) × NonePass test rs
      go rest true is h = absurd (cc)
      go rest false is h = (is, rest h)
