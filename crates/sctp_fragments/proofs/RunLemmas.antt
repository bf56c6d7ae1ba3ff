-- Runs: what an insertion leaves, and where the messages are.
use Rattle.std.proofs.Common.{◌≡◌, ℕ, suc, ◌<◌, ◌≤◌, Bool, true, false, Option, Some, None, List, [], ◌∷◌, ◌++◌, refl, ap, sym, ◌∙◌, inl, inr, arith, append_assoc, subst}
use Rattle.std.proofs.lemmas.Bool.{lt-ltb, le-ltb, cases_lt, cases_Bool}
use Rattle.std.proofs.lemmas.Bool.Decides.{nat_tests}
use Rattle.sctp_fragments.specs.Runs.{is_next, is_held, put_in, with_item, from_rank, last_of, IsLinked, attach, runs_of, flat, Starts, AreRuns, end_of, AllBelow, IsBelow, LeadsTo, IsMessage, joins_left, joins_right}

module _ {E : Type 0} where
  pub flat_append : (xs ys : List (List E)) → flat (xs ++ ys) ≡ flat xs ++ flat ys
  flat_append [] ys = refl
  flat_append (x ∷ xs) ys = ap (λ (t : List E). x ++ t) (flat_append xs ys) ∙ sym (append_assoc x (flat xs) (flat ys))

module _ {E : Type 0} (rank : E → ℕ) (goes : E → E → Bool) where
  -- runs one after another
  pub AreRuns_front : (before : Option E) (xs ys : List (List E)) → AreRuns rank goes before (xs ++ ys) → AreRuns rank goes before xs
  AreRuns_front before [] ys h = tt
  AreRuns_front before ([] ∷ xs) ys h = h
  AreRuns_front before ((e ∷ es) ∷ xs) ys h = (h.0, (h.1.0, AreRuns_front (Some (last_of e es)) xs ys h.1.1))

  pub AreRuns_back : (before : Option E) (xs ys : List (List E)) → AreRuns rank goes before (xs ++ ys) → AreRuns rank goes (end_of before xs) ys
  AreRuns_back before [] ys h = h
  AreRuns_back before ([] ∷ xs) ys h = absurd h
  AreRuns_back before ((e ∷ es) ∷ xs) ys h = AreRuns_back (Some (last_of e es)) xs ys h.1.1

  pub AreRuns_both : (before : Option E) (xs ys : List (List E)) → AreRuns rank goes before xs → AreRuns rank goes (end_of before xs) ys → AreRuns rank goes before (xs ++ ys)
  AreRuns_both before [] ys h k = k
  AreRuns_both before ([] ∷ xs) ys h k = absurd h
  AreRuns_both before ((e ∷ es) ∷ xs) ys h k = (h.0, (h.1.0, AreRuns_both (Some (last_of e es)) xs ys h.1.1 k))

  pub last_of_append : (e f : E) (es fs : List E) → last_of e (es ++ f ∷ fs) ≡ last_of f fs
  last_of_append e f [] fs = refl
  last_of_append e f (g ∷ es) fs = last_of_append g f es fs

  pub IsLinked_append : (e f : E) (es fs : List E) → IsLinked rank goes e es → is_next rank goes (last_of e es) f ≡ true → IsLinked rank goes f fs → IsLinked rank goes e (es ++ f ∷ fs)
  IsLinked_append e f [] fs h j k = (j, k)
  IsLinked_append e f (g ∷ es) fs h j k = (h.0, IsLinked_append g f es fs h.1 j k)

  pub end_of_append : (before : Option E) (xs ys : List (List E)) → end_of before (xs ++ ys) ≡ end_of (end_of before xs) ys
  end_of_append before [] ys = refl
  end_of_append before ([] ∷ xs) ys = end_of_append before xs ys
  end_of_append before ((e ∷ es) ∷ xs) ys = end_of_append (Some (last_of e es)) xs ys

  -- ranks rise along a run
  next_rank : (e f : E) → is_next rank goes e f ≡ true → rank f ≡ suc (rank e)
  next_rank e f h = grind (arith, nat_tests)

  pub linked_rises : (e : E) (es : List E) → IsLinked rank goes e es → rank e ≤ rank (last_of e es)
  linked_rises e [] h = omega arith
  linked_rises e (f ∷ fs) h = omega (arith, next_rank e f h.0, linked_rises f fs h.1)

  below_linked : (n : ℕ) (e : E) (es : List E) → IsLinked rank goes e es → rank (last_of e es) < n → AllBelow rank n (e ∷ es)
  below_linked n e [] h k = (k, tt)
  below_linked n e (f ∷ fs) h k = (omega (arith, next_rank e f h.0, linked_rises f fs h.1), below_linked n f fs h.1 k)

  AllBelow_append : (n : ℕ) (xs ys : List E) → AllBelow rank n xs → AllBelow rank n ys → AllBelow rank n (xs ++ ys)
  AllBelow_append n [] ys h k = k
  AllBelow_append n (x ∷ xs) ys h k = (h.0, AllBelow_append n xs ys h.1 k)

  -- the end is above what comes before it
  end_rises : (d : E) (n : ℕ) (xs : List (List E)) → AreRuns rank goes (Some d) xs → IsBelow rank n (end_of (Some d) xs) → rank d < n
  end_rises d n [] h k = k
  end_rises d n ([] ∷ xs) h k = absurd h
  end_rises d n ((e ∷ es) ∷ xs) h k = omega (arith, h.0.0, linked_rises e es h.1.0, end_rises (last_of e es) n xs h.1.1 k)

  pub AllBelow_runs : (before : Option E) (n : ℕ) (xs : List (List E)) → AreRuns rank goes before xs → IsBelow rank n (end_of before xs) → AllBelow rank n (flat xs)
  AllBelow_runs before n [] h k = tt
  AllBelow_runs before n ([] ∷ xs) h k = absurd h
  AllBelow_runs before n ((e ∷ es) ∷ xs) h k =
      AllBelow_append n (e ∷ es) (flat xs) (below_linked n e es h.1.0 (end_rises (last_of e es) n xs h.1.1 k)) (AllBelow_runs (Some (last_of e es)) n xs h.1.1 k)

  -- the place of a new item
  pub put_in_after : (x : E) (xs ys : List E) → AllBelow rank (rank x) xs → put_in rank x (xs ++ ys) ≡ xs ++ put_in rank x ys
  put_in_after x [] ys h = refl
  put_in_after x (a ∷ xs) ys h = rw (le-ltb (rank x) (rank a) (omega (arith, h.0))) (ap (λ (t : List E). a ∷ t) (put_in_after x xs ys h.1))

  pub put_in_before : (x : E) (rs : List (List E)) (before : Option E) → AreRuns rank goes before rs → LeadsTo rank (rank x) rs → put_in rank x (flat rs) ≡ x ∷ flat rs
  put_in_before x [] before h k = refl
  put_in_before x ([] ∷ rs) before h k = absurd h
  put_in_before x ((e ∷ es) ∷ rs) before h k = rw (lt-ltb (rank x) (rank e) k) refl

  -- what holds no item of a rank
  not_held_below : (n : ℕ) (xs ys : List E) → AllBelow rank n xs → is_held rank n (xs ++ ys) ≡ is_held rank n ys
  not_held_below n [] ys h = refl
  not_held_below n (x ∷ xs) ys h = grind (arith, nat_tests, not_held_below n xs ys h.1, h.0)

  not_held_linked : (n : ℕ) (e : E) (es ys : List E) → IsLinked rank goes e es → n < rank e → is_held rank n (e ∷ (es ++ ys)) ≡ is_held rank n ys
  not_held_linked n e [] ys h k = grind (arith, nat_tests)
  not_held_linked n e (f ∷ fs) ys h k = grind (arith, nat_tests, not_held_linked n f fs ys h.1 (omega (arith, next_rank e f h.0)))

  not_held_runs : (n : ℕ) (d : E) (rs : List (List E)) → AreRuns rank goes (Some d) rs → n ≤ rank d → is_held rank n (flat rs) ≡ false
  not_held_runs n d [] h k = refl
  not_held_runs n d ([] ∷ rs) h k = absurd h
  not_held_runs n d ((e ∷ es) ∷ rs) h k =
      not_held_linked n e es (flat rs) h.1.0 (omega (arith, h.0.0)) ∙ not_held_runs n (last_of e es) rs h.1.1 (omega (arith, h.0.0, linked_rises e es h.1.0))

  pub not_held_before : (n : ℕ) (rs : List (List E)) (before : Option E) → AreRuns rank goes before rs → LeadsTo rank n rs → is_held rank n (flat rs) ≡ false
  not_held_before n [] before h k = refl
  not_held_before n ([] ∷ rs) before h k = absurd h
  not_held_before n ((e ∷ es) ∷ rs) before h k =
      not_held_linked n e es (flat rs) h.1.0 k ∙ not_held_runs n (last_of e es) rs h.1.1 (omega (arith, linked_rises e es h.1.0))

  -- a rank within a run is held
  held_linked : (n : ℕ) (e : E) (es ys : List E) → IsLinked rank goes e es → rank e ≤ n → n ≤ rank (last_of e es) → is_held rank n (e ∷ (es ++ ys)) ≡ true
  held_linked n e [] ys h j k = grind (arith, nat_tests)
  held_linked n e (f ∷ fs) ys h j k =
      elim (cases_lt (rank e) n) [
        | inl past ↦ grind (arith, nat_tests, held_linked n f fs ys h.1 (omega (arith, next_rank e f h.0)) k)
        | inr here ↦ grind (arith, nat_tests)
      ]

  -- where every run of the front ends below x, and the next one begins above it
  pub with_item_between : (x : E) (ps qs : List (List E)) (before : Option E) → AreRuns rank goes before (ps ++ qs) → IsBelow rank (rank x) (end_of before ps) → LeadsTo rank (rank x) qs → with_item rank x (flat (ps ++ qs)) ≡ flat ps ++ x ∷ flat qs
  with_item_between x ps qs before h below leads =
      let low = AllBelow_runs before (rank x) ps (AreRuns_front before ps qs h) below in
      let back = AreRuns_back before ps qs h in
      let absent : is_held rank (rank x) (flat ps ++ flat qs) ≡ false = not_held_below (rank x) (flat ps) (flat qs) low ∙ not_held_before (rank x) qs (end_of before ps) back leads in
      rw (flat_append ps qs) (rw absent (put_in_after x (flat ps) (flat qs) low ∙ ap (λ (t : List E). flat ps ++ t) (put_in_before x qs (end_of before ps) back leads)))

  pub is_held_between : (n : ℕ) (ps qs : List (List E)) (before : Option E) → AreRuns rank goes before (ps ++ qs) → IsBelow rank n (end_of before ps) → LeadsTo rank n qs → is_held rank n (flat (ps ++ qs)) ≡ false
  is_held_between n ps qs before h below leads =
      let low = AllBelow_runs before n ps (AreRuns_front before ps qs h) below in
      let back = AreRuns_back before ps qs h in
      rw (flat_append ps qs) (not_held_below n (flat ps) (flat qs) low ∙ not_held_before n qs (end_of before ps) back leads)

  -- where the next run reaches from at most n to at least n
  pub is_held_within : (n : ℕ) (ps qs : List (List E)) (e : E) (es : List E) (before : Option E) → AreRuns rank goes before (ps ++ (e ∷ es) ∷ qs) → IsBelow rank n (end_of before ps) → rank e ≤ n → n ≤ rank (last_of e es) → is_held rank n (flat (ps ++ (e ∷ es) ∷ qs)) ≡ true
  is_held_within n ps qs e es before h below j k =
      let low = AllBelow_runs before n ps (AreRuns_front before ps ((e ∷ es) ∷ qs) h) below in
      let back = AreRuns_back before ps ((e ∷ es) ∷ qs) h in
      rw (flat_append ps ((e ∷ es) ∷ qs)) (not_held_below n (flat ps) (flat ((e ∷ es) ∷ qs)) low ∙ held_linked n e es (flat qs) back.1.0 j k)

  starts_after : (before : Option E) (x : E) → IsBelow rank (rank x) before → joins_left rank goes before x ≡ false → Starts rank goes before x
  starts_after None x below apart = tt
  starts_after (Some d) x below apart = (below, apart)

  runs_after : (before : Option E) (x : E) (qs : List (List E)) → AreRuns rank goes before qs → LeadsTo rank (rank x) qs → joins_right rank goes x qs ≡ false → AreRuns rank goes (Some x) qs
  runs_after before x [] h leads apart = tt
  runs_after before x ([] ∷ qs) h leads apart = absurd h
  runs_after before x ((e ∷ es) ∷ qs) h leads apart = ((leads, apart), h.1)

  pub alone : (before : Option E) (x : E) (ps qs : List (List E)) → AreRuns rank goes before (ps ++ qs) → IsBelow rank (rank x) (end_of before ps) → LeadsTo rank (rank x) qs
      → joins_left rank goes (end_of before ps) x ≡ false → joins_right rank goes x qs ≡ false → AreRuns rank goes before (ps ++ (x ∷ []) ∷ qs)
  alone before x ps qs h below leads left right =
      AreRuns_both before ps ((x ∷ []) ∷ qs) (AreRuns_front before ps qs h) (starts_after (end_of before ps) x below left, (tt, runs_after (end_of before ps) x qs (AreRuns_back before ps qs h) leads right))

  pub at_left : (before : Option E) (x d : E) (ds : List E) (ps qs : List (List E)) → AreRuns rank goes before (ps ++ (d ∷ ds) ∷ qs) → LeadsTo rank (rank x) qs
      → is_next rank goes (last_of d ds) x ≡ true → joins_right rank goes x qs ≡ false → AreRuns rank goes before (ps ++ ((d ∷ ds) ++ x ∷ []) ∷ qs)
  at_left before x d ds ps qs h leads left right =
      let back = AreRuns_back before ps ((d ∷ ds) ∷ qs) h in
      AreRuns_both before ps (((d ∷ ds) ++ x ∷ []) ∷ qs) (AreRuns_front before ps ((d ∷ ds) ∷ qs) h)
      (back.0, (IsLinked_append d x ds [] back.1.0 left tt, subst (λ (e : E). AreRuns rank goes (Some e) qs) (sym (last_of_append d x ds [])) (runs_after (Some (last_of d ds)) x qs back.1.1 leads right)))

  pub at_right : (before : Option E) (x f : E) (fs : List E) (ps qs : List (List E)) → AreRuns rank goes before (ps ++ (f ∷ fs) ∷ qs) → IsBelow rank (rank x) (end_of before ps)
      → joins_left rank goes (end_of before ps) x ≡ false → is_next rank goes x f ≡ true → AreRuns rank goes before (ps ++ (x ∷ (f ∷ fs)) ∷ qs)
  at_right before x f fs ps qs h below left right =
      let back = AreRuns_back before ps ((f ∷ fs) ∷ qs) h in
      AreRuns_both before ps ((x ∷ (f ∷ fs)) ∷ qs) (AreRuns_front before ps ((f ∷ fs) ∷ qs) h) (starts_after (end_of before ps) x below left, ((right, back.1.0), back.1.1))

  pub joining : (before : Option E) (x d f : E) (ds fs : List E) (ps qs : List (List E)) → AreRuns rank goes before (ps ++ (d ∷ ds) ∷ ((f ∷ fs) ∷ qs))
      → is_next rank goes (last_of d ds) x ≡ true → is_next rank goes x f ≡ true → AreRuns rank goes before (ps ++ ((d ∷ ds) ++ x ∷ (f ∷ fs)) ∷ qs)
  joining before x d f ds fs ps qs h left right =
      let back = AreRuns_back before ps ((d ∷ ds) ∷ ((f ∷ fs) ∷ qs)) h in
      AreRuns_both before ps (((d ∷ ds) ++ x ∷ (f ∷ fs)) ∷ qs) (AreRuns_front before ps ((d ∷ ds) ∷ ((f ∷ fs) ∷ qs)) h)
      (back.0, (IsLinked_append d x ds (f ∷ fs) back.1.0 left (right, back.1.1.1.0), subst (λ (e : E). AreRuns rank goes (Some e) qs) (sym (last_of_append d x ds (f ∷ fs))) back.1.1.1.1))

  -- without a run
  starts_later : (before : Option E) (e f : E) (es : List E) → Starts rank goes before e → IsLinked rank goes e es → Starts rank goes (Some (last_of e es)) f → Starts rank goes before f
  starts_later None e f es h k j = tt
  starts_later (Some d) e f es h k j = (omega (arith, h.0, j.0, linked_rises e es k), grind (arith, nat_tests, h.0, j.0, linked_rises e es k))

  rest_after : (before : Option E) (e : E) (es : List E) (qs : List (List E)) → Starts rank goes before e → IsLinked rank goes e es → AreRuns rank goes (Some (last_of e es)) qs → AreRuns rank goes before qs
  rest_after before e es [] h k j = tt
  rest_after before e es ([] ∷ qs) h k j = j
  rest_after before e es ((f ∷ fs) ∷ qs) h k j = (starts_later before e f es h k j.0, j.1)

  pub AreRuns_without : (before : Option E) (ps qs : List (List E)) (r : List E) → AreRuns rank goes before (ps ++ r ∷ qs) → AreRuns rank goes before (ps ++ qs)
  AreRuns_without before ps qs [] h = absurd (AreRuns_back before ps ([] ∷ qs) h)
  AreRuns_without before ps qs (e ∷ es) h =
      let back = AreRuns_back before ps ((e ∷ es) ∷ qs) h in
      AreRuns_both before ps qs (AreRuns_front before ps ((e ∷ es) ∷ qs) h) (rest_after (end_of before ps) e es qs back.0 back.1.0 back.1.1)

  -- the items from a rank on
  abbrev AllFrom : ℕ → List E → Type 0
  AllFrom n [] = Unit {0}
  AllFrom n (e ∷ es) = (n ≤ rank e) × AllFrom n es

  from_rank_all : (n : ℕ) (es : List E) → AllFrom n es → from_rank rank n es ≡ es
  from_rank_all n [] h = refl
  from_rank_all n (e ∷ es) h = rw (le-ltb (rank e) n h.0) (ap (λ (t : List E). e ∷ t) (from_rank_all n es h.1))

  from_linked : (n : ℕ) (e : E) (es ys : List E) → IsLinked rank goes e es → n ≤ rank e → AllFrom n ys → AllFrom n (e ∷ (es ++ ys))
  from_linked n e [] ys h k r = (k, r)
  from_linked n e (f ∷ fs) ys h k r = (k, from_linked n f fs ys h.1 (omega (arith, next_rank e f h.0)) r)

  from_runs : (n : ℕ) (d : E) (rs : List (List E)) → AreRuns rank goes (Some d) rs → n ≤ rank d → AllFrom n (flat rs)
  from_runs n d [] h k = tt
  from_runs n d ([] ∷ rs) h k = absurd h
  from_runs n d ((e ∷ es) ∷ rs) h k = from_linked n e es (flat rs) h.1.0 (omega (arith, h.0.0)) (from_runs n (last_of e es) rs h.1.1 (omega (arith, h.0.0, linked_rises e es h.1.0)))

  pub from_rank_runs : (n : ℕ) (e : E) (es : List E) (rs : List (List E)) → AreRuns rank goes None ((e ∷ es) ∷ rs) → n ≤ rank e → from_rank rank n (e ∷ (es ++ flat rs)) ≡ e ∷ (es ++ flat rs)
  from_rank_runs n e es rs h k = from_rank_all n (e ∷ (es ++ flat rs)) (from_linked n e es (flat rs) h.1.0 k (from_runs n (last_of e es) rs h.1.1 (omega (arith, linked_rises e es h.1.0))))

  pub first_runs : (before : Option E) (rs : List (List E)) → AreRuns rank goes before rs → AreRuns rank goes None rs
  first_runs before [] h = tt
  first_runs before ([] ∷ rs) h = h
  first_runs before ((e ∷ es) ∷ rs) h = (tt, h.1)

  -- the runs of the list that runs make are these runs
  attached_run : (e : E) (es : List E) (rs : List (List E)) → IsLinked rank goes e es → AreRuns rank goes (Some (last_of e es)) rs → runs_of rank goes (flat rs) ≡ rs → runs_of rank goes (e ∷ (es ++ flat rs)) ≡ (e ∷ es) ∷ rs
  attached_run e [] [] h k i = refl
  attached_run e [] ([] ∷ rs) h k i = absurd k
  attached_run e [] ((f ∷ fs) ∷ rs) h k i = rw i (rw k.0.1 refl)
  attached_run e (f ∷ fs) rs h k i = rw (attached_run f fs rs h.1 k i) (rw h.0 refl)

  pub runs_of_flat : (before : Option E) (rs : List (List E)) → AreRuns rank goes before rs → runs_of rank goes (flat rs) ≡ rs
  runs_of_flat before [] h = refl
  runs_of_flat before ([] ∷ rs) h = absurd h
  runs_of_flat before ((e ∷ es) ∷ rs) h = attached_run e es rs h.1.0 h.1.1 (runs_of_flat (Some (last_of e es)) rs h.1.1)

  -- the runs of a list make the list
  flat_attached : (x : E) (rs : List (List E)) → flat (attach rank goes x rs) ≡ x ∷ flat rs
  flat_attached x [] = refl
  flat_attached x ([] ∷ rs) = refl
  flat_attached x ((e ∷ es) ∷ rs) =
      elim (cases_Bool (is_next rank goes x e)) [
        | inl t ↦ rw t refl
        | inr f ↦ rw f refl
      ]

  pub flat_runs_of : (es : List E) → flat (runs_of rank goes es) ≡ es
  flat_runs_of [] = refl
  flat_runs_of (e ∷ es) = flat_attached e (runs_of rank goes es) ∙ ap (λ (t : List E). e ∷ t) (flat_runs_of es)

  -- a complete message among items is one of the runs, where no run goes on into a first item or past a last one
  module _ (first last : E → Bool) (at_first : (e f : E) → first f ≡ true → goes e f ≡ false) (at_last : (e f : E) → last e ≡ true → goes e f ≡ false) where
    no_next : (e f : E) → goes e f ≡ false → is_next rank goes e f ≡ false
    no_next e f h = rw h (grind (arith, nat_tests))

    attached_apart : (e y : E) (rs : List (List E)) → last e ≡ true → attach rank goes e (attach rank goes y rs) ≡ (e ∷ []) ∷ attach rank goes y rs
    attached_apart e y [] h = rw (no_next e y (at_last e y h)) refl
    attached_apart e y ([] ∷ rs) h = rw (no_next e y (at_last e y h)) refl
    attached_apart e y ((g ∷ gs) ∷ rs) h =
        elim (cases_Bool (is_next rank goes y g)) [
          | inl t ↦ rw t (rw (no_next e y (at_last e y h)) refl)
          | inr f ↦ rw f (rw (no_next e y (at_last e y h)) refl)
        ]

    runs_of_last : (e : E) (ys : List E) → last e ≡ true → attach rank goes e (runs_of rank goes ys) ≡ (e ∷ []) ∷ runs_of rank goes ys
    runs_of_last e [] h = refl
    runs_of_last e (y ∷ ys) h = attached_apart e y (runs_of rank goes ys) h

    runs_of_message : (e : E) (es ys : List E) → IsLinked rank goes e es → last (last_of e es) ≡ true → runs_of rank goes (e ∷ (es ++ ys)) ≡ (e ∷ es) ∷ runs_of rank goes ys
    runs_of_message e [] ys h k = runs_of_last e ys k
    runs_of_message e (f ∷ fs) ys h k = rw (runs_of_message f fs ys h.1 k) (rw h.0 refl)

    attached_before : (x e : E) (es : List E) (qs rs : List (List E)) → first e ≡ true → attach rank goes x (rs ++ (e ∷ es) ∷ qs) ≡ attach rank goes x rs ++ (e ∷ es) ∷ qs
    attached_before x e es qs [] h = rw (no_next x e (at_first x e h)) refl
    attached_before x e es qs ([] ∷ rs) h = refl
    attached_before x e es qs ((g ∷ gs) ∷ rs) h =
        elim (cases_Bool (is_next rank goes x g)) [
          | inl t ↦ rw t refl
          | inr f ↦ rw f refl
        ]

    pub runs_of_around : (xs r ys : List E) → IsMessage rank goes first last r → runs_of rank goes (xs ++ (r ++ ys)) ≡ runs_of rank goes xs ++ r ∷ runs_of rank goes ys
    runs_of_around xs [] ys h = absurd h
    runs_of_around [] (e ∷ es) ys h = runs_of_message e es ys h.1.1 h.1.0
    runs_of_around (x ∷ xs) (e ∷ es) ys h =
        ap (attach rank goes x) (runs_of_around xs (e ∷ es) ys h) ∙ attached_before x e es (runs_of rank goes ys) (runs_of rank goes xs) h.0
