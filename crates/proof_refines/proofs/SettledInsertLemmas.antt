-- A fragment that comes among fragments in order.
use Rattle.std.proofs.Common.{◌≡◌, ℕ, Bool, true, false, cond, Option, Some, None, List, [], ◌∷◌, ◌++◌, refl, ap, sym, subst, ◌∙◌, inl, inr, append_assoc}
use Rattle.std.specs.Prelude.{◌==◌}
use Rattle.std.proofs.lemmas.Bool.{cases_lt, cases_Bool, or_parts}
use Rattle.sctp_fragments.specs.Runs.{is_next, is_held, put_in, with_item, last_of, flat, AreRuns, end_of, IsBelow, LeadsTo, joins_left}
use Rattle.sctp_fragments.specs.Held.{Held, rank_of, goes_on, intervals_of, is_complete, NoneComplete, without_first_of, left_by}
use Rattle.sctp_fragments.specs.Interval.{IsInserted}
use Rattle.proof_refines.specs.SettledStreams.{AreInOrder}
use Rattle.sctp_fragments.proofs.RunLemmas.{AreRuns_front, end_of_append, runs_of_flat, flat_runs_of, is_held_within, with_item_between}
use Rattle.sctp_reassembly.proofs.InsertLemmas.{inserts_alone, inserts_left, inserts_right, inserts_both}
use Rattle.sctp_reassembly.proofs.FindLemmas.{without_none}
use Rattle.proof_refines.proofs.SettledRunsLemmas.{left_intervals, without_one}

not_held_back : (n : ℕ) (xs ys : List Held) → is_held rank_of n (xs ++ ys) ≡ false → is_held rank_of n ys ≡ false
not_held_back n [] ys h = h
not_held_back n (x ∷ xs) ys h = not_held_back n xs ys (or_parts (rank_of x == n) (is_held rank_of n (xs ++ ys)) h).1

-- where x comes
record Split (before : Option Held) (x : Held) (rs : List (List Held)) : Type 0 where
  ps : List (List Held)
  qs : List (List Held)
  is : rs ≡ ps ++ qs
  below : IsBelow rank_of (rank_of x) (end_of before ps)
  leads : LeadsTo rank_of (rank_of x) qs

split_for : (before : Option Held) (x : Held) (rs : List (List Held)) → AreRuns rank_of goes_on before rs → IsBelow rank_of (rank_of x) before → is_held rank_of (rank_of x) (flat rs) ≡ false → Split before x rs
split_for before x [] h below absent = record { ps = []; qs = []; is = refl; below = below; leads = tt }
split_for before x ([] ∷ rs) h below absent = absurd h
split_for before x ((e ∷ es) ∷ rs) h below absent =
    elim (cases_lt (rank_of x) (rank_of e)) [
      | inl less ↦ record { ps = []; qs = (e ∷ es) ∷ rs; is = refl; below = below; leads = less }
      | inr from ↦ elim (cases_lt (rank_of (last_of e es)) (rank_of x)) [
        | inl past ↦
            let s = split_for (Some (last_of e es)) x rs h.1.1 past (not_held_back (rank_of x) (e ∷ es) (flat rs) absent) in
            record { ps = (e ∷ es) ∷ s.ps; qs = s.qs; is = ap (λ (t : List (List Held)). (e ∷ es) ∷ t) s.is; below = s.below; leads = s.leads }
        | inr upto ↦
            let there = is_held_within rank_of goes_on (rank_of x) [] rs e es before h below from upto in
            absurd (cc)
      ]
    ]

-- the last of some runs
record Snoc (rs : List (List Held)) : Type 0 where
  front : List (List Held)
  head : Held
  tail : List Held
  is : rs ≡ front ++ (head ∷ tail) ∷ []

snoc : (before : Option Held) (r : List Held) (rs : List (List Held)) → AreRuns rank_of goes_on before (r ∷ rs) → Snoc (r ∷ rs)
snoc before [] rs h = absurd h
snoc before (e ∷ es) [] h = record { front = []; head = e; tail = es; is = refl }
snoc before (e ∷ es) (q ∷ rs) h =
    let s = snoc (Some (last_of e es)) q rs h.1.1 in
    record { front = (e ∷ es) ∷ s.front; head = s.head; tail = s.tail; is = ap (λ (t : List (List Held)). (e ∷ es) ∷ t) s.is }

record Put (ps qs : List (List Held)) (x : Held) : Type 0 where
  new : List (List Held)
  put : IsInserted ps qs new x

module _ (x : Held) where
  put_left : (ps qs : List (List Held)) (d : Held) (ds : List Held) → AreRuns rank_of goes_on None ((ps ++ (d ∷ ds) ∷ []) ++ qs) → LeadsTo rank_of (rank_of x) qs → is_next rank_of goes_on (last_of d ds) x ≡ true → Put (ps ++ (d ∷ ds) ∷ []) qs x
  put_left ps qs d ds h leads left = go qs (subst (AreRuns rank_of goes_on None) (append_assoc ps ((d ∷ ds) ∷ []) qs) h) leads
    where
      go : (qs : List (List Held)) → AreRuns rank_of goes_on None (ps ++ (d ∷ ds) ∷ qs) → LeadsTo rank_of (rank_of x) qs → Put (ps ++ (d ∷ ds) ∷ []) qs x
      go [] h leads = record { new = _; put = inserts_left ps [] d x ds h leads left refl }
      go ([] ∷ qs) h leads = record { new = _; put = inserts_left ps ([] ∷ qs) d x ds h leads left refl }
      go ((f ∷ fs) ∷ qs) h leads =
          elim (cases_Bool (is_next rank_of goes_on x f)) [
            | inl t ↦ record { new = _; put = inserts_both ps qs d f x ds fs h left t }
            | inr n ↦ record { new = _; put = inserts_left ps ((f ∷ fs) ∷ qs) d x ds h leads left n }
          ]

  put_right : (ps qs : List (List Held)) → AreRuns rank_of goes_on None (ps ++ qs) → IsBelow rank_of (rank_of x) (end_of None ps) → LeadsTo rank_of (rank_of x) qs → joins_left rank_of goes_on (end_of None ps) x ≡ false → Put ps qs x
  put_right ps [] h below leads left = record { new = _; put = inserts_alone ps [] x h below leads left refl }
  put_right ps ([] ∷ qs) h below leads left = record { new = _; put = inserts_alone ps ([] ∷ qs) x h below leads left refl }
  put_right ps ((f ∷ fs) ∷ qs) h below leads left =
      elim (cases_Bool (is_next rank_of goes_on x f)) [
        | inl t ↦ record { new = _; put = inserts_right ps qs f x fs h below left t }
        | inr n ↦ record { new = _; put = inserts_alone ps ((f ∷ fs) ∷ qs) x h below leads left n }
      ]

  left_is : (ps : List (List Held)) (d : Held) (ds : List Held) → joins_left rank_of goes_on (end_of None (ps ++ (d ∷ ds) ∷ [])) x ≡ is_next rank_of goes_on (last_of d ds) x
  left_is ps d ds = ap (λ (t : Option Held). joins_left rank_of goes_on t x) (end_of_append {E = Held} rank_of goes_on None ps ((d ∷ ds) ∷ []))

  puts : (ps qs : List (List Held)) → AreRuns rank_of goes_on None (ps ++ qs) → IsBelow rank_of (rank_of x) (end_of None ps) → LeadsTo rank_of (rank_of x) qs → Put ps qs x
  puts [] qs h below leads = put_right [] qs h below leads refl
  puts (p ∷ ps) qs h below leads =
      elim (cases_Bool (joins_left rank_of goes_on (end_of None (p ∷ ps)) x)) [
        | inl t ↦
            let s = snoc None p ps (AreRuns_front rank_of goes_on None (p ∷ ps) qs h) in
            let left = sym (left_is s.front s.head s.tail) ∙ (ap (λ (r : List (List Held)). joins_left rank_of goes_on (end_of None r) x) (sym s.is) ∙ t) in
            subst (λ (r : List (List Held)). Put r qs x) (sym s.is) (put_left s.front qs s.head s.tail (subst (λ (r : List (List Held)). AreRuns rank_of goes_on None (r ++ qs)) s.is h) leads left)
        | inr n ↦ put_right (p ∷ ps) qs h below leads n
      ]

  -- what is there once x came
  pub record Came (old : List Held) : Type 0 where
    pub order : AreInOrder (with_item rank_of x old)
    pub settled : NoneComplete (intervals_of old) → NoneComplete (intervals_of (left_by is_complete (with_item rank_of x old)))

  same : (old : List Held) → AreInOrder old → with_item rank_of x old ≡ old → Came old
  same old h is = record {
    order = subst AreInOrder (sym is) h;
    settled = λ none. subst (λ (t : List Held). NoneComplete (intervals_of (left_by is_complete t))) (sym is) (subst NoneComplete (sym (left_intervals is_complete old h ∙ without_none is_complete (intervals_of old) none)) none);
  }

  pub came_in : (old : List Held) → AreInOrder old → Came old
  came_in old h =
      elim (cases_Bool (is_held rank_of (rank_of x) old)) [
        | inl t ↦ same old h (ap (λ (b : Bool). cond b old (put_in rank_of x old)) t)
        | inr absent ↦
            let whole = flat_runs_of rank_of goes_on old in
            let s = split_for None x (intervals_of old) h tt (ap (is_held rank_of (rank_of x)) whole ∙ absent) in
            let two = subst (AreRuns rank_of goes_on None) s.is h in
            let p = puts s.ps s.qs two s.below s.leads in
            let is : with_item rank_of x old ≡ flat p.new = ap (with_item rank_of x) (sym whole ∙ ap flat s.is) ∙ (with_item_between rank_of goes_on x s.ps s.qs None two s.below s.leads ∙ sym p.put.together) in
            let runs : intervals_of (with_item rank_of x old) ≡ p.new = ap intervals_of is ∙ runs_of_flat rank_of goes_on None p.new p.put.kept in
            let order : AreInOrder (with_item rank_of x old) = subst (AreRuns rank_of goes_on None) (sym runs) p.put.kept in
            record {
              order = order;
              settled = λ none. subst NoneComplete (sym (left_intervals is_complete (with_item rank_of x old) order))
                  (subst (λ (t : List (List Held)). NoneComplete (without_first_of is_complete t)) (sym (runs ∙ p.put.runs)) (without_one is_complete p.put.front p.put.back p.put.run (p.put.others is_complete (subst NoneComplete s.is none))));
            }
      ]
