-- An entry that comes between intervals.
use Rattle.std.proofs.Common.{◌≡◌, suc, Bool, true, false, None, List, [], ◌∷◌, ◌++◌, length, refl, ap, sym, subst, ◌∙◌, arith, append_assoc, append-nil}
use Rattle.std.proofs.lemmas.Bool.Decides.{nat_tests}
use Rattle.sctp_fragments.specs.declared.interval.Entry.{Entry}
use Rattle.sctp_fragments.specs.declared.interval.Interval.{Interval}
use Rattle.sctp_fragments.specs.Runs.{flat, end_of, last_of, is_held, IsBelow, LeadsTo, is_next, joins_left, joins_right, AreRuns}
use Rattle.sctp_fragments.specs.Held.{Held, rank_of, goes_on, NonePass}
use Rattle.sctp_fragments.specs.Interval.{IsInserted, lists_of}
use Rattle.sctp_fragments.proofs.RunLemmas.{flat_append, alone, at_left, at_right, joining}

flat_last : {E : Type 0} (ps : List (List E)) (r : List E) → flat (ps ++ r ∷ []) ≡ flat ps ++ r
flat_last [] r = append-nil r
flat_last (p ∷ ps) r = ap (λ t. p ++ t) (flat_last ps r) ∙ sym (append_assoc p (flat ps) r)

module _ (test : List Held → Bool) where
  NonePass_append : (xs ys : List (List Held)) → NonePass test xs → NonePass test ys → NonePass test (xs ++ ys)
  NonePass_append [] ys h k = k
  NonePass_append (x ∷ xs) ys h k = (h.0, NonePass_append xs ys h.1 k)

  pub NonePass_front : (xs ys : List (List Held)) → NonePass test (xs ++ ys) → NonePass test xs
  NonePass_front [] ys h = tt
  NonePass_front (x ∷ xs) ys h = (h.0, NonePass_front xs ys h.1)

  pub NonePass_back : (xs ys : List (List Held)) → NonePass test (xs ++ ys) → NonePass test ys
  NonePass_back [] ys h = h
  NonePass_back (x ∷ xs) ys h = NonePass_back xs ys h.1

  NonePass_without : (xs ys : List (List Held)) (r : List Held) → NonePass test (xs ++ r ∷ ys) → NonePass test (xs ++ ys)
  NonePass_without xs ys r h = NonePass_append xs ys (NonePass_front xs (r ∷ ys) h) (NonePass_back xs (r ∷ ys) h).1

held_in : (xs ys : List Held) (x : Held) → is_held rank_of (rank_of x) (xs ++ x ∷ ys) ≡ true
held_in [] ys x = grind (arith, nat_tests)
held_in (e ∷ es) ys x = grind (arith, nat_tests, held_in es ys x)

pub inserts_alone : (ps qs : List (List Held)) (x : Held) → AreRuns rank_of goes_on None (ps ++ qs) → IsBelow rank_of (rank_of x) (end_of None ps) → LeadsTo rank_of (rank_of x) qs
    → joins_left rank_of goes_on (end_of None ps) x ≡ false → joins_right rank_of goes_on x qs ≡ false → IsInserted ps qs (ps ++ (x ∷ []) ∷ qs) x
inserts_alone ps qs x h below leads left right = record {
  kept = alone rank_of goes_on None x ps qs h below leads left right;
  front = ps;
  run = x ∷ [];
  back = qs;
  runs = refl;
  among = held_in [] [] x;
  together = flat_append ps ((x ∷ []) ∷ qs);
  others = λ test n. n;
}

pub inserts_left : (ps qs : List (List Held)) (d x : Held) (ds : List Held) → AreRuns rank_of goes_on None (ps ++ (d ∷ ds) ∷ qs) → LeadsTo rank_of (rank_of x) qs
    → is_next rank_of goes_on (last_of d ds) x ≡ true → joins_right rank_of goes_on x qs ≡ false → IsInserted (ps ++ (d ∷ ds) ∷ []) qs (ps ++ ((d ∷ ds) ++ x ∷ []) ∷ qs) x
inserts_left ps qs d x ds h leads left right = record {
  kept = at_left rank_of goes_on None x d ds ps qs h leads left right;
  front = ps;
  run = (d ∷ ds) ++ x ∷ [];
  back = qs;
  runs = refl;
  among = held_in (d ∷ ds) [] x;
  together =
      flat_append ps (((d ∷ ds) ++ x ∷ []) ∷ qs) ∙ (ap (λ (t : List Held). flat ps ++ t) (append_assoc (d ∷ ds) (x ∷ []) (flat qs))
      ∙ (sym (append_assoc (flat ps) (d ∷ ds) (x ∷ flat qs)) ∙ ap (λ (t : List Held). t ++ x ∷ flat qs) (sym (flat_last ps (d ∷ ds)))));
  others = λ test n. NonePass_without test ps qs (d ∷ ds) (subst (NonePass test) (append_assoc ps ((d ∷ ds) ∷ []) qs) n);
}

pub inserts_right : (ps qs : List (List Held)) (f x : Held) (fs : List Held) → AreRuns rank_of goes_on None (ps ++ (f ∷ fs) ∷ qs) → IsBelow rank_of (rank_of x) (end_of None ps)
    → joins_left rank_of goes_on (end_of None ps) x ≡ false → is_next rank_of goes_on x f ≡ true → IsInserted ps ((f ∷ fs) ∷ qs) (ps ++ (x ∷ (f ∷ fs)) ∷ qs) x
inserts_right ps qs f x fs h below left right = record {
  kept = at_right rank_of goes_on None x f fs ps qs h below left right;
  front = ps;
  run = x ∷ (f ∷ fs);
  back = qs;
  runs = refl;
  among = held_in [] (f ∷ fs) x;
  together = flat_append ps ((x ∷ (f ∷ fs)) ∷ qs);
  others = λ test n. NonePass_without test ps qs (f ∷ fs) n;
}

pub inserts_both : (ps qs : List (List Held)) (d f x : Held) (ds fs : List Held) → AreRuns rank_of goes_on None (ps ++ (d ∷ ds) ∷ ((f ∷ fs) ∷ qs))
    → is_next rank_of goes_on (last_of d ds) x ≡ true → is_next rank_of goes_on x f ≡ true → IsInserted (ps ++ (d ∷ ds) ∷ []) ((f ∷ fs) ∷ qs) (ps ++ ((d ∷ ds) ++ x ∷ (f ∷ fs)) ∷ qs) x
inserts_both ps qs d f x ds fs h left right = record {
  kept = joining rank_of goes_on None x d f ds fs ps qs h left right;
  front = ps;
  run = (d ∷ ds) ++ x ∷ (f ∷ fs);
  back = qs;
  runs = refl;
  among = held_in (d ∷ ds) (f ∷ fs) x;
  together =
      flat_append ps (((d ∷ ds) ++ x ∷ (f ∷ fs)) ∷ qs) ∙ (ap (λ (t : List Held). flat ps ++ t) (append_assoc (d ∷ ds) (x ∷ (f ∷ fs)) (flat qs))
      ∙ (sym (append_assoc (flat ps) (d ∷ ds) (x ∷ ((f ∷ fs) ++ flat qs))) ∙ ap (λ (t : List Held). t ++ x ∷ ((f ∷ fs) ++ flat qs)) (sym (flat_last ps (d ∷ ds)))));
  others = λ test n. NonePass_without test ps qs (f ∷ fs) (NonePass_without test ps ((f ∷ fs) ∷ qs) (d ∷ ds) (subst (NonePass test) (append_assoc ps ((d ∷ ds) ∷ []) ((f ∷ fs) ∷ qs)) n));
}

pub length_lists_of : {K : Type 0} (f : Entry K → Held) (xs : List (Interval K)) → length (lists_of f xs) ≡ length xs
length_lists_of f [] = refl
length_lists_of f (x ∷ xs) = ap suc (length_lists_of f xs)
