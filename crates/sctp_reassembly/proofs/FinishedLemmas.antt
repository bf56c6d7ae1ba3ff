-- Complete intervals by the keys at which they begin.
use Rattle.std.proofs.Common.{◌≡◌, ℕ, ◌<◌, ◌≤◌, ◌==◌, Bool, true, false, cond, not, Option, Some, None, List, [], ◌∷◌, ◌++◌, refl, ap, sym, subst, ◌∙◌, arith, Ordering, Less, Equal, Greater, append_assoc, append-nil}
use Rattle.std.specs.Prelude.{◌&&◌, ◌||◌, nat_lt, IfSome, IfNone, Result, Ok, Err, OnOk}
use Rattle.std.specs.List.{All, list_any, slice_get}
use Rattle.std.specs.Ordering.{nat_cmp, is_gt, is_eq, match_ordering}
use Rattle.std.specs.BTreeSet.{BTreeSet, insert_key, IsKeyRangeOf}
use Rattle.std.specs.BTreeMap.{is_at}
use Rattle.std.specs.BTreeMap.Range.{IsLeBy}
use Rattle.std.specs.declared.ops.Bound.TheVariants.{Unbounded, Included}
use Rattle.std.proofs.lemmas.Bool.{and_parts, eq-eqb}
use Rattle.std.proofs.lemmas.Bool.Decides.{nat_tests}
use Rattle.std.proofs.lemmas.List.Elements.{All-cons, All-head, All-tail}
use Rattle.sctp_serial.proofs.NumberLemmas.{is_equal}
use Rattle.sctp_fragments.specs.declared.interval.Interval.{Interval}
use Rattle.sctp_fragments.specs.ReassemblyKey.{pair_rank, rank_at}
use Rattle.sctp_fragments.specs.Interval.{held_of, run_of, lists_of}
use Rattle.sctp_fragments.specs.Runs.{is_held}
use Rattle.sctp_fragments.specs.Held.{Held, rank_of, intervals_of, is_complete, is_in_turn, NonePass, NoneInTurn, without_first_of, IsPlaced}
use Rattle.sctp_reassembly.specs.Finished.{IsNumbered, is_missed, is_earlier, NoneMissed, NoneEarlier}
use Rattle.sctp_reassembly.proofs.DeliverLemmas.{NonePass_with}
use Rattle.sctp_reassembly.proofs.NoteLemmas.{not_above}

-- ---- tests of runs

pub pass_weaker : (t u : List Held → Bool) → ((r : List Held) → t r ≡ false → u r ≡ false) → (rs : List (List Held)) → NonePass t rs → NonePass u rs
pass_weaker t u f [] h = tt
pass_weaker t u f (r ∷ rs) h = (f r h.0, pass_weaker t u f rs h.1)

pub pass_all : (t : List Held → Bool) → ((r : List Held) → t r ≡ false) → (rs : List (List Held)) → NonePass t rs
pass_all t f [] = tt
pass_all t f (r ∷ rs) = (f r, pass_all t f rs)

pub pass_without : (t test : List Held → Bool) (rs : List (List Held)) → NonePass t rs → NonePass t (without_first_of test rs)
pass_without t test [] h = tt
pass_without t test (r ∷ rs) h = go (test r) (pass_without t test rs h.1)
  where
    go : (b : Bool) → NonePass t (without_first_of test rs) → NonePass t (cond b rs (r ∷ without_first_of test rs))
    go true ih = h.1
    go false ih = (h.0, ih)

-- ---- the parts of a test: a run is complete (a), has the number (e), begins below a rank (p), at a key (x)

first_off : (a b : Bool) → a ≡ false → (a && b) ≡ false
first_off true b h = cc
first_off false b h = refl

higher : (a p q x : Bool) → (p ≡ true → q ≡ true) → (a && (not p && not x)) ≡ false → (a && (not q && not x)) ≡ false
higher false p q x f h = refl
higher true true q x f h = rw (f refl) refl
higher true false true x f h = refl
higher true false false x f h = h

wider : (a p x y : Bool) → (p ≡ false → x ≡ true → y ≡ true) → (a && (not p && not x)) ≡ false → (a && (not p && not y)) ≡ false
wider false p x y f h = refl
wider true true x y f h = refl
wider true false true y f h = rw (f refl refl) refl
wider true false false y f h = absurd (cc)

not_earlier : (a e p x l : Bool) → (e ≡ true → p ≡ false) → (e ≡ true → x ≡ true → l ≡ false) → (a && (not p && not x)) ≡ false → ((a && e) && l) ≡ false
not_earlier false e p x l f g h = refl
not_earlier true false p x l f g h = refl
not_earlier true true true x l f g h = absurd (let no = f refl in cc)
not_earlier true true false true l f g h = g refl refl
not_earlier true true false false l f g h = absurd (cc)

not_turned : (a e p x : Bool) → (e ≡ true → p ≡ false) → (e ≡ true → x ≡ false) → (a && (not p && not x)) ≡ false → (a && e) ≡ false
not_turned false e p x f g h = refl
not_turned true false p x f g h = refl
not_turned true true true x f g h = absurd (let no = f refl in cc)
not_turned true true false true f g h = absurd (let no = g refl in cc)
not_turned true true false false f g h = absurd (cc)

not_lower : (a e l : Bool) → (e ≡ true → l ≡ false) → ((a && e) && l) ≡ false
not_lower false e l f = refl
not_lower true false l f = refl
not_lower true true l f = f refl

below_both : (r m n : ℕ) → m ≤ n → nat_lt r m ≡ true → nat_lt r n ≡ true
below_both r m n l h = grind (arith, nat_tests)

reaches : (r m : ℕ) → nat_lt r m ≡ false → m ≤ r
reaches r m h = grind (arith, nat_tests)

from_least : (a i m n : ℕ) → m ≤ pair_rank n 0 → (a == n) ≡ true → nat_lt (pair_rank a i) m ≡ false
from_least a i m n h e = grind (arith, nat_tests)

from_number : (a i n : ℕ) → (a == n) ≡ true → pair_rank n 0 ≤ pair_rank a i
from_number a i n e = reaches (pair_rank a i) (pair_rank n 0) (from_least a i (pair_rank n 0) n (omega arith) e)

not_less : (k r : ℕ) → k ≤ r → nat_lt r k ≡ false
not_less k r h = grind (arith, nat_tests)

-- no message begins before the least key of its number
pub least_earlier : (n m : ℕ) (rs : List (List Held)) → m ≤ pair_rank n 0 → NoneEarlier n m rs
least_earlier n m rs h = pass_all (is_earlier n m) one rs
  where
    one : (r : List Held) → is_earlier n m r ≡ false
    one [] = refl
    one (d ∷ ds) = not_lower (is_complete (d ∷ ds)) (d.number == n) (nat_lt (rank_of d) m) (from_least d.number d.index m n h)

-- ---- what keys miss

module _ {K : Type 0} (number index : K → ℕ) where
  abbrev rank : K → ℕ
  rank k = rank_at number index k

  pub missed_complete : (m : ℕ) (o : Option (BTreeSet K)) (r : List Held) → is_missed rank m o r ≡ true → is_complete r ≡ true
  missed_complete m None r h = absurd (cc)
  missed_complete m (Some s) [] h = absurd (cc)
  missed_complete m (Some s) (d ∷ ds) h = (and_parts (is_complete (d ∷ ds)) (not (nat_lt (rank_of d) m) && not (is_held rank (rank_of d) s.keys)) h).0

  pub not_missed : (m : ℕ) (o : Option (BTreeSet K)) (r : List Held) → is_complete r ≡ false → is_missed rank m o r ≡ false
  not_missed m None r h = refl
  not_missed m (Some s) [] h = refl
  not_missed m (Some s) (d ∷ ds) h = first_off (is_complete (d ∷ ds)) (not (nat_lt (rank_of d) m) && not (is_held rank (rank_of d) s.keys)) h

  pub missed_later : (m n : ℕ) (o : Option (BTreeSet K)) → m ≤ n → (r : List Held) → is_missed rank m o r ≡ false → is_missed rank n o r ≡ false
  missed_later m n None l r h = refl
  missed_later m n (Some s) l [] h = refl
  missed_later m n (Some s) l (d ∷ ds) h =
      higher (is_complete (d ∷ ds)) (nat_lt (rank_of d) m) (nat_lt (rank_of d) n) (is_held rank (rank_of d) s.keys) (below_both (rank_of d) m n l) h

  pub none_later : (m n : ℕ) (o : Option (BTreeSet K)) (rs : List (List Held)) → m ≤ n → NoneMissed number index m o rs → NoneMissed number index n o rs
  none_later m n o rs l h = pass_weaker (is_missed rank m o) (is_missed rank n o) (missed_later m n o l) rs h

  pub none_unknown : (m : ℕ) (rs : List (List Held)) → NoneMissed number index m None rs
  none_unknown m rs = pass_all (is_missed rank m None) (λ r. refl) rs

  pub missed_kept : (m : ℕ) (s t : BTreeSet K) → ((n : ℕ) → m ≤ n → is_held rank n s.keys ≡ true → is_held rank n t.keys ≡ true) → (r : List Held) → is_missed rank m (Some s) r ≡ false → is_missed rank m (Some t) r ≡ false
  missed_kept m s t kept [] h = refl
  missed_kept m s t kept (d ∷ ds) h =
      wider (is_complete (d ∷ ds)) (nat_lt (rank_of d) m) (is_held rank (rank_of d) s.keys) (is_held rank (rank_of d) t.keys) (λ p x. kept (rank_of d) (reaches (rank_of d) m p) x) h

  pub none_kept : (m : ℕ) (s t : BTreeSet K) (rs : List (List Held)) → ((n : ℕ) → m ≤ n → is_held rank n s.keys ≡ true → is_held rank n t.keys ≡ true) → NoneMissed number index m (Some s) rs → NoneMissed number index m (Some t) rs
  none_kept m s t rs kept h = pass_weaker (is_missed rank m (Some s)) (is_missed rank m (Some t)) (missed_kept m s t kept) rs h

  -- where one run more is not missed, none is
  pub none_with : {T E : Type 0} (result : Result T E) (m : ℕ) (s t : BTreeSet K) (r : List Held) (rs : List (List Held)) → OnOk result ((n : ℕ) → is_held rank n s.keys ≡ true → is_held rank n t.keys ≡ true) → OnOk result (is_missed rank m (Some t) r ≡ false) → NoneMissed number index m (Some s) rs → OnOk result (NoneMissed number index m (Some t) (r ∷ rs))
  none_with (Ok v) m s t r rs kept added h = (added, none_kept m s t rs (λ n l. kept n) h)
  none_with (Err e) m s t r rs kept added h = tt

  -- the first key from the number on is not above the beginning of a message with it
  pub none_earlier : (n k : ℕ) (s : BTreeSet K) (rs : List (List Held)) → ((j : ℕ) → pair_rank n 0 ≤ j → is_held rank j s.keys ≡ true → k ≤ j) → NoneMissed number index (pair_rank n 0) (Some s) rs → NoneEarlier n k rs
  none_earlier n k s rs first h = pass_weaker (is_missed rank (pair_rank n 0) (Some s)) (is_earlier n k) one rs h
    where
      one : (r : List Held) → is_missed rank (pair_rank n 0) (Some s) r ≡ false → is_earlier n k r ≡ false
      one [] h = refl
      one (d ∷ ds) h =
          not_earlier (is_complete (d ∷ ds)) (d.number == n) (nat_lt (rank_of d) (pair_rank n 0)) (is_held rank (rank_of d) s.keys) (nat_lt (rank_of d) k) (from_least d.number d.index (pair_rank n 0) n (omega arith)) (λ e held. not_less k (rank_of d) (first (rank_of d) (from_number d.number d.index n e) held)) h

  pub none_turned_at : (n : ℕ) (s : BTreeSet K) (rs : List (List Held)) → ((j : ℕ) → pair_rank n 0 ≤ j → is_held rank j s.keys ≡ false) → NoneMissed number index (pair_rank n 0) (Some s) rs → NoneInTurn n rs
  none_turned_at n s rs none h = pass_weaker (is_missed rank (pair_rank n 0) (Some s)) (is_in_turn n) one rs h
    where
      one : (r : List Held) → is_missed rank (pair_rank n 0) (Some s) r ≡ false → is_in_turn n r ≡ false
      one [] h = refl
      one (d ∷ ds) h =
          not_turned (is_complete (d ∷ ds)) (d.number == n) (nat_lt (rank_of d) (pair_rank n 0)) (is_held rank (rank_of d) s.keys) (from_least d.number d.index (pair_rank n 0) n (omega arith)) (λ e. none (rank_of d) (from_number d.number d.index n e)) h

  -- no more are missed where only tests that complete runs alone pass stay
  pub none_left : (m : ℕ) (o : Option (BTreeSet K)) (rs new : List (List Held)) → ((test : List Held → Bool) → ((r : List Held) → test r ≡ true → is_complete r ≡ true) → NonePass test rs → NonePass test new) → NoneMissed number index m o rs → NoneMissed number index m o new
  none_left m o rs new stays none = stays (is_missed rank m o) (missed_complete m o) none

  -- the run that took x is not missed, and of the others none more than before
  pub none_placed : (m : ℕ) (o p : Option (BTreeSet K)) (old mid : List Held) (x : Held) → IsPlaced old mid x → ((r : List Held) → is_missed rank m o r ≡ false → is_missed rank m p r ≡ false)
      → ((front back : List (List Held)) (r : List Held) → intervals_of mid ≡ front ++ r ∷ back → is_held rank_of (rank_of x) r ≡ true → is_missed rank m p r ≡ false) → NoneMissed number index m o (intervals_of old) → NoneMissed number index m p (intervals_of mid)
  none_placed m o p old mid x at kept here none =
      subst (NonePass (is_missed rank m p)) (sym at.runs)
      (NonePass_with (is_missed rank m p) at.front at.back at.run (pass_weaker (is_missed rank m o) (is_missed rank m p) kept (at.front ++ at.back) (at.others (is_missed rank m o) none)) (here at.front at.back at.run at.runs at.among))

  -- ---- where the run with a rank begins

  module _ (n : ℕ) (hs run : List Held) (same : (front back : List (List Held)) (r : List Held) → intervals_of hs ≡ front ++ r ∷ back → is_held rank_of n r ≡ true → run ≡ r) where
    pub some_there : (P : K → List Held → Type 0) (o : Option K) → IfSome o (λ k. P k run) → IfSome o (λ k. (front back : List (List Held)) (r : List Held) → intervals_of hs ≡ front ++ r ∷ back → is_held rank_of n r ≡ true → P k r)
    some_there P None told = tt
    some_there P (Some k) told = λ front back r runs held. subst (P k) (same front back r runs held) told

    pub incomplete_there : (o : Option K) → IfNone o (is_complete run ≡ false) → IfNone o ((front back : List (List Held)) (r : List Held) → intervals_of hs ≡ front ++ r ∷ back → is_held rank_of n r ≡ true → is_complete r ≡ false)
    incomplete_there None off = λ front back r runs held. subst (λ (t : List Held). is_complete t ≡ false) (same front back r runs held) off
    incomplete_there (Some k) off = tt

  -- the run is the message with the number n only where it begins at a key with that number
  pub number_decides : (n : ℕ) (r : List Held) (o : Option K) (told : Bool) → IfSome o (λ k. told ≡ (number k == n)) → IfNone o (told ≡ false) → IfSome o (λ k. IsNumbered (number k) r) → IfNone o (is_complete r ≡ false) → told ≡ is_in_turn n r
  number_decides n r None told some none numbered incomplete = none ∙ sym (off r incomplete)
    where
      off : (r : List Held) → is_complete r ≡ false → is_in_turn n r ≡ false
      off [] h = refl
      off (d ∷ ds) h = rw h refl
  number_decides n r (Some k) told some none numbered incomplete = some ∙ sym (numbered n)

  -- ---- a search, by which keys below the number go, from a rank m on

  module _ (n m : ℕ) (low : m ≤ pair_rank n 0) (now : Option (BTreeSet K)) (s t : BTreeSet K) (is : now ≡ Some s) (kept : (j : ℕ) → m ≤ j → is_held rank j s.keys ≡ true → is_held rank j t.keys ≡ true) where
    pub search_kept : (rs : List (List Held)) → NoneMissed number index (pair_rank n 0) now rs → NoneMissed number index (pair_rank n 0) (Some t) rs
    search_kept rs h = none_kept (pair_rank n 0) s t rs (λ j l. kept j (omega (arith, low, l))) (subst (λ (o : Option (BTreeSet K)). NoneMissed number index (pair_rank n 0) o rs) is h)

    pub search_some : (r : Option K) → IfSome r (λ k. (j : ℕ) → m ≤ j → is_held rank j t.keys ≡ true → rank k ≤ j) → IfSome r (λ k. (rs : List (List Held)) → NoneMissed number index (pair_rank n 0) now rs → NoneEarlier n (rank k) rs)
    search_some None first = tt
    search_some (Some k) first = λ rs h. none_earlier n (rank k) t rs (λ j l. first j (omega (arith, low, l))) (search_kept rs h)

    pub search_none : (r : Option K) → IfNone r ((j : ℕ) → m ≤ j → is_held rank j t.keys ≡ false) → IfNone r ((rs : List (List Held)) → NoneMissed number index (pair_rank n 0) now rs → NoneInTurn n rs)
    search_none None none = λ rs h. none_turned_at n t rs (λ j l. none j (omega (arith, low, l))) (search_kept rs h)
    search_none (Some k) none = tt

  -- ---- intervals looked at one after the other

  pass_snoc : (t : List Held → Bool) (js : List (Interval K)) (i : Interval K) → NonePass t (lists_of (held_of number index) js) → t (run_of (held_of number index) i) ≡ false → NonePass t (lists_of (held_of number index) (js ++ i ∷ []))
  pass_snoc t [] i h one = (one, tt)
  pass_snoc t (j ∷ js) i h one = (h.0, pass_snoc t js i h.1 one)

  -- none of those before the rest is missed
  pub record AreSeen (s : BTreeSet K) (all rest : List (Interval K)) : Type 0 where
    pub front : List (Interval K)
    pub is : all ≡ front ++ rest
    pub none : NoneMissed number index 0 (Some s) (lists_of (held_of number index) front)

  pub seen_next : (s t : BTreeSet K) (all rest next : List (Interval K)) (i : Interval K) → AreSeen s all rest → rest ≡ i ∷ next → ((n : ℕ) → is_held rank n s.keys ≡ true → is_held rank n t.keys ≡ true) → is_missed rank 0 (Some t) (run_of (held_of number index) i) ≡ false → AreSeen t all next
  seen_next s t all rest next i seen steps kept one = record {
    front = seen.front ++ i ∷ [];
    is = seen.is ∙ (ap (λ (js : List (Interval K)). seen.front ++ js) steps ∙ sym (append_assoc seen.front (i ∷ []) next));
    none = pass_snoc (is_missed rank 0 (Some t)) seen.front i (none_kept 0 s t (lists_of (held_of number index) seen.front) (λ n l h. kept n h) seen.none) one;
  }

  pub seen_all : (s : BTreeSet K) (all rest : List (Interval K)) → AreSeen s all rest → rest ≡ [] → NoneMissed number index 0 (Some s) (lists_of (held_of number index) all)
  seen_all s all rest seen none =
      subst (λ (js : List (Interval K)). NoneMissed number index 0 (Some s) (lists_of (held_of number index) js)) (sym (seen.is ∙ (ap (λ (js : List (Interval K)). seen.front ++ js) none ∙ append-nil seen.front))) seen.none

  -- ---- the keys of a set

  out_kept : (k : K) (ks : List K) (least n : ℕ) → rank k < least → least ≤ n → is_held rank n (k ∷ ks) ≡ true → is_held rank n ks ≡ true
  out_kept k ks least n less l h = second (rank k == n) (is_held rank n ks) (differs (rank k) least n less l) h
    where
      differs : (a b c : ℕ) → a < b → b ≤ c → (a == c) ≡ false
      differs a b c less l = grind (arith, nat_tests)

      second : (a b : Bool) → a ≡ false → (a || b) ≡ true → b ≡ true
      second true b off h = absurd (cc)
      second false b off h = h

  -- the first key went, which is below the rank
  pub record IsDropped (is_key : K → Type 0) (least : ℕ) (old new : List K) : Type 0 where
    pub keys : All is_key old → All is_key new
    pub held : (n : ℕ) → least ≤ n → is_held rank n old ≡ true → is_held rank n new ≡ true

  pub dropped : (is_key : K → Type 0) (least : ℕ) (old new : List K) (r : Option K) → IfSome r (λ k. old ≡ k ∷ new) → IfNone r (new ≡ old) → ((k : K) (ks : List K) → old ≡ k ∷ ks → rank k < least) → IsDropped is_key least old new
  dropped is_key least old new None some none first = record { keys = λ h. subst (All is_key) (sym none) h; held = λ n l h. subst (λ (t : List K). is_held rank n t ≡ true) (sym none) h }
  dropped is_key least old new (Some k) some none first = record {
    keys = λ h. All-tail is_key k new (subst (All is_key) some h);
    held = λ n l h. out_kept k new least n (first k new some) l (subst (λ (t : List K). is_held rank n t ≡ true) some h);
  }

  module _ (cmp : K → K → Ordering) (is_key : K → Type 0) (by_rank : (x y : K) → is_key x → is_key y → cmp x y ≡ nat_cmp (rank x) (rank y)) (k : K) (p : is_key k) where
    pub keys_with : (ks : List K) → All is_key ks → All is_key (insert_key cmp ks k)
    keys_with [] h = All-cons is_key k [] p h
    keys_with (x ∷ xs) h = go (cmp k x) (keys_with xs (All-tail is_key x xs h))
      where
        go : (o : Ordering) → All is_key (insert_key cmp xs k) → All is_key (match_ordering o (k ∷ x ∷ xs) (x ∷ xs) (x ∷ insert_key cmp xs k))
        go Less ih = All-cons is_key k (x ∷ xs) p h
        go Equal ih = h
        go Greater ih = All-cons is_key x (insert_key cmp xs k) (All-head is_key x xs h) ih

    or_right : (a b : Bool) → b ≡ true → (a || b) ≡ true
    or_right true b h = refl
    or_right false b h = h

    or_left : (a b : Bool) → a ≡ true → (a || b) ≡ true
    or_left true b h = refl
    or_left false b h = absurd (cc)

    or_both : (a b c : Bool) → (b ≡ true → c ≡ true) → (a || b) ≡ true → (a || c) ≡ true
    or_both true b c f h = refl
    or_both false b c f h = f h

    pub held_with : (ks : List K) (n : ℕ) → is_held rank n ks ≡ true → is_held rank n (insert_key cmp ks k) ≡ true
    held_with [] n h = absurd (cc)
    held_with (x ∷ xs) n h = go (cmp k x) (held_with xs n)
      where
        go : (o : Ordering) → (is_held rank n xs ≡ true → is_held rank n (insert_key cmp xs k) ≡ true) → is_held rank n (match_ordering o (k ∷ x ∷ xs) (x ∷ xs) (x ∷ insert_key cmp xs k)) ≡ true
        go Less ih = or_right (rank k == n) (is_held rank n (x ∷ xs)) h
        go Equal ih = h
        go Greater ih = or_both (rank x == n) (is_held rank n xs) (is_held rank n (insert_key cmp xs k)) ih h

    pub held_itself : (ks : List K) → All is_key ks → is_held rank (rank k) (insert_key cmp ks k) ≡ true
    held_itself [] h = or_left (rank k == rank k) false (eq-eqb (rank k) (rank k) refl)
    held_itself (x ∷ xs) h = go (cmp k x) refl (held_itself xs (All-tail is_key x xs h))
      where
        go : (o : Ordering) → cmp k x ≡ o → is_held rank (rank k) (insert_key cmp xs k) ≡ true → is_held rank (rank k) (match_ordering o (k ∷ x ∷ xs) (x ∷ xs) (x ∷ insert_key cmp xs k)) ≡ true
        go Less is ih = or_left (rank k == rank k) (is_held rank (rank k) (x ∷ xs)) (eq-eqb (rank k) (rank k) refl)
        go Equal is ih = or_left (rank x == rank k) (is_held rank (rank k) xs) (eq-eqb (rank x) (rank k) (is_equal (rank k) (rank x) (sym (by_rank k x p (All-head is_key x xs h)) ∙ is)))
        go Greater is ih = or_right (rank x == rank k) (is_held rank (rank k) (insert_key cmp xs k)) ih

    -- a key of a rank is one that the set has
    pub record HasKey (ks : List K) (n : ℕ) : Type 0 where
      pub key : K
      pub valid : is_key key
      pub ranked : rank key ≡ n
      pub there : list_any (is_at (cmp key)) ks ≡ true

    key_first : (x : K) (xs : List K) (n : ℕ) → is_key x → (rank x == n) ≡ true → HasKey (x ∷ xs) n
    key_first x xs n q e = record {
      key = x;
      valid = q;
      ranked = equal (rank x) n e;
      there = or_left (is_at (cmp x) x) (list_any (is_at (cmp x)) xs) (ap is_eq (by_rank x x q q ∙ same (rank x)));
    }
      where
        equal : (a b : ℕ) → (a == b) ≡ true → a ≡ b
        equal a b e = grind (arith, nat_tests)

        same : (a : ℕ) → nat_cmp a a ≡ Equal
        same a = grind (arith, nat_tests)

    key_later : (x : K) (xs : List K) (n : ℕ) → HasKey xs n → HasKey (x ∷ xs) n
    key_later x xs n h = record { key = h.key; valid = h.valid; ranked = h.ranked; there = or_right (is_at (cmp h.key) x) (list_any (is_at (cmp h.key)) xs) h.there }

    pub has_key : (ks : List K) → All is_key ks → (n : ℕ) → is_held rank n ks ≡ true → HasKey ks n
    has_key [] keys n h = absurd (cc)
    has_key (x ∷ xs) keys n h = go (rank x == n) refl h (has_key xs (All-tail is_key x xs keys) n)
      where
        go : (b : Bool) → (rank x == n) ≡ b → (b || is_held rank n xs) ≡ true → (is_held rank n xs ≡ true → HasKey xs n) → HasKey (x ∷ xs) n
        go true is h ih = key_first x xs n (All-head is_key x xs keys) is
        go false is h ih = key_later x xs n (ih h)

    not_below : (a b : ℕ) → a ≤ b → is_gt (nat_cmp a b) ≡ false
    not_below a b l = grind (arith, nat_tests)

    -- k is the least key that is looked for, x the first one from it on
    from_key : (x y : K) → is_key x → is_key y → rank x ≤ rank y → is_gt (cmp x y) ≡ false
    from_key x y q r l = ap is_gt (by_rank x y q r) ∙ not_below (rank x) (rank y) l

    pub first_least : (s : BTreeSet K) (r : List K) (x : K) → All is_key s.keys → is_key x → IsKeyRangeOf cmp (Included k) Unbounded s r → slice_get r 0 ≡ Some x
        → (n : ℕ) → rank k ≤ n → is_held rank n s.keys ≡ true → rank x ≤ n
    first_least s r x keys q range first n low held =
        let h = has_key s.keys keys n held in
        let from = from_key k h.key p h.valid (omega (arith, low, h.ranked)) in
        let least : is_gt (cmp x h.key) ≡ false = subst (λ o. IfSome o (λ j. IsLeBy cmp j h.key)) first (range.2 h.key (from, tt) h.there) in
        let up = not_above (rank x) (rank h.key) (sym (ap is_gt (by_rank x h.key q h.valid)) ∙ least) in
        omega (arith, up, h.ranked)

    pub first_none : (s : BTreeSet K) (r : List K) → All is_key s.keys → IsKeyRangeOf cmp (Included k) Unbounded s r → r ≡ []
        → (n : ℕ) → rank k ≤ n → is_held rank n s.keys ≡ false
    first_none s r keys range none n low = go (is_held rank n s.keys) refl
      where
        go : (b : Bool) → is_held rank n s.keys ≡ b → b ≡ false
        go false is = refl
        go true is =
            let h = has_key s.keys keys n is in
            let from = from_key k h.key p h.valid (omega (arith, low, h.ranked)) in
            let off = range.5 none h.key (from, tt) in
            absurd (let there = h.there in cc)
