-- The run that has a rank.
use Rattle.std.proofs.Common.{◌≡◌, ℕ, ◌<◌, ◌≤◌, ◌==◌, Bool, true, false, not, Option, Some, None, List, [], ◌∷◌, ◌++◌, refl, ap, sym, subst, ◌∙◌, arith, append-nil, append_assoc}
use Rattle.std.specs.Prelude.{nat_lt, ◌&&◌, ◌||◌, IfSome, IfNone}
use Rattle.std.specs.Option.{option_to_list}
use Rattle.sctp_reassembly.proofs.PutLemmas.{runs_alone}
use Rattle.std.proofs.lemmas.Bool.Decides.{nat_tests}
use Rattle.sctp_fragments.specs.declared.interval.Interval.{Interval}
use Rattle.sctp_fragments.specs.ReassemblyKey.{rank_at}
use Rattle.sctp_fragments.specs.Runs.{flat, last_of, end_of, is_held, AreRuns, IsLinked, IsBelow, LeadsTo}
use Rattle.sctp_fragments.specs.Held.{Held, rank_of, goes_on}
use Rattle.sctp_fragments.specs.Interval.{held_of, run_of, lists_of, entries_of, starts_upto}
use Rattle.sctp_fragments.proofs.PlaceLemmas.{cons, some_run}
use Rattle.sctp_fragments.proofs.RunLemmas.{AreRuns_back, is_held_within, is_held_between, not_held_before, linked_rises}
use Rattle.sctp_reassembly.specs.Places.{AreNamed, AreLow, AreHigh, IsSplit, IsWithin, IsAmong, IsLed, IsOut, Holds, all_of, runs_at, ends_from, is_from}
use Rattle.sctp_reassembly.proofs.HeldLemmas.{next_rank}
use Rattle.sctp_reassembly.proofs.MapLemmas.{runs_append, end_is, lows}
use Rattle.sctp_reassembly.proofs.JoinedLemmas.{named_mid, low_mid, not_less, upto}

pub some_then : {T : Type 0} {P Q : T → Type 0} (r : Option T) → ((x : T) → P x → Q x) → IfSome r P → IfSome r Q
some_then (Some x) f p = f x p
some_then None f p = tt

pub none_then : {T : Type 0} {P Q : Type 0} (r : Option T) → (P → Q) → IfNone r P → IfNone r Q
none_then (Some x) f p = tt
none_then None f p = f p

pub some_at : {T : Type 0} (P : T → Type 0) (r : Option T) (x : T) → r ≡ Some x → IfSome r P → P x
some_at P (Some y) x is told = let same : y ≡ x = cc in subst P same told
some_at P None x is told = absurd (cc)

pub none_at : {T : Type 0} {P : Type 0} (r : Option T) → r ≡ None → IfNone r P → P
none_at (Some y) is told = absurd (cc)
none_at None is told = told

pub linked_held : (n : ℕ) (h : Held) (hs : List Held) → IsLinked rank_of goes_on h hs → rank_of h ≤ n → n ≤ rank_of (last_of h hs) → is_held rank_of n (h ∷ hs) ≡ true
linked_held n h hs l low high =
    subst (λ (t : List Held). is_held rank_of n t ≡ true) (append-nil (h ∷ hs)) (is_held_within rank_of goes_on n [] [] h hs None (tt, (l, tt)) tt low high)

pub held_upto : (n : ℕ) (h : Held) (hs : List Held) → IsLinked rank_of goes_on h hs → is_held rank_of n (h ∷ hs) ≡ true → (rank_of h ≤ n) × (n ≤ rank_of (last_of h hs))
held_upto n h [] l k = (grind (arith, nat_tests), grind (arith, nat_tests))
held_upto n h (f ∷ fs) l k = go (rank_of h == n) refl k (held_upto n f fs l.1)
  where
    go : (b : Bool) → (rank_of h == n) ≡ b → (b || is_held rank_of n (f ∷ fs)) ≡ true → (is_held rank_of n (f ∷ fs) ≡ true → (rank_of f ≤ n) × (n ≤ rank_of (last_of f fs))) → (rank_of h ≤ n) × (n ≤ rank_of (last_of f fs))
    go true here k ih =
        let same : rank_of h ≡ n = grind (arith, nat_tests) in
        (omega (arith, same), omega (arith, same, linked_rises rank_of goes_on h (f ∷ fs) l))
    go false apart k ih = let i = ih k in (omega (arith, i.0, next_rank rank_of goes_on h f l.0), i.1)

pub has_rank : (n : ℕ) (before : Option Held) (r : List Held) (rs : List (List Held)) (d e : Held) → AreRuns rank_of goes_on before (r ∷ rs) → ((h : Held) (hs : List Held) → r ≡ h ∷ hs → d ≡ h) → ((h : Held) (hs : List Held) → r ≡ h ∷ hs → e ≡ last_of h hs)
    → (not (nat_lt n (rank_of d)) && not (nat_lt (rank_of e) n)) ≡ is_held rank_of n r
has_rank n before [] rs d e all first last = absurd all
has_rank n before (h ∷ hs) rs d e all first last =
    ap (λ (x : Held). not (nat_lt n (rank_of x)) && not (nat_lt (rank_of e) n)) (first h hs refl) ∙ (ap (λ (x : Held). not (nat_lt n (rank_of h)) && not (nat_lt (rank_of x) n)) (last h hs refl)
    ∙ go (nat_lt n (rank_of h)) (nat_lt (rank_of (last_of h hs)) n) (is_held rank_of n (h ∷ hs)) refl refl refl)
  where
    above : (a b : ℕ) → nat_lt a b ≡ true → a < b
    above a b h = grind (arith, nat_tests)

    from : (a b : ℕ) → nat_lt a b ≡ false → b ≤ a
    from a b h = grind (arith, nat_tests)

    go : (a b k : Bool) → nat_lt n (rank_of h) ≡ a → nat_lt (rank_of (last_of h hs)) n ≡ b → is_held rank_of n (h ∷ hs) ≡ k → (not a && not b) ≡ k
    go true b true ea eb ek = absurd (omega (arith, above n (rank_of h) ea, (held_upto n h hs all.1.0 ek).0))
    go true b false ea eb ek = refl
    go false true true ea eb ek = absurd (omega (arith, above (rank_of (last_of h hs)) n eb, (held_upto n h hs all.1.0 ek).1))
    go false true false ea eb ek = refl
    go false false true ea eb ek = refl
    go false false false ea eb ek = absurd (apart (sym ek ∙ linked_held n h hs all.1.0 (from n (rank_of h) ea) (from (rank_of (last_of h hs)) n eb)))
      where
        apart : false ≡ true → ⊥
        apart h = cc

-- the tests on both ends
pub both_tests : (a b r s k : Bool) → r ≡ a → r ≡ false → s ≡ b → (not a && not b) ≡ k → not s ≡ k
both_tests a b r s k is off same h = ap not same ∙ (sym (ap (λ (t : Bool). not t && not b) (sym is ∙ off)) ∙ h)

pub first_test : (a b r k : Bool) → r ≡ a → r ≡ true → (not a && not b) ≡ k → not r ≡ k
first_test a b r k is on h = ap not on ∙ (sym (ap (λ (t : Bool). not t && not b) (sym is ∙ on)) ∙ h)

same_last : (h g : Held) (hs gs : List Held) → h ∷ hs ≡ g ∷ gs → last_of h hs ≡ last_of g gs
same_last h g hs gs is =
    let head : h ≡ g = cc in
    let tail : hs ≡ gs = cc in
    ap (λ (t : Held). last_of t hs) head ∙ ap (λ (t : List Held). last_of g t) tail

pub before_all : (n : ℕ) (before : Option Held) (r : List Held) (rs : List (List Held)) (d : Held) (t : Bool) → AreRuns rank_of goes_on before (r ∷ rs) → ((h : Held) (hs : List Held) → r ≡ h ∷ hs → d ≡ h) → t ≡ nat_lt n (rank_of d) → t ≡ true → not t ≡ is_held rank_of n r
before_all n before [] rs d t all first is on = absurd all
before_all n before (h ∷ hs) rs d t all first is on =
    first_test (nat_lt n (rank_of d)) (nat_lt (rank_of (last_of h hs)) n) t (is_held rank_of n (h ∷ hs)) is on (has_rank n before (h ∷ hs) rs d (last_of h hs) all first (λ g gs e. same_last h g hs gs e))

-- ---- one run alone has a rank

held_front : (n : ℕ) (xs ys : List Held) → is_held rank_of n xs ≡ true → is_held rank_of n (xs ++ ys) ≡ true
held_front n [] ys h = absurd (cc)
held_front n (x ∷ xs) ys h = go (rank_of x == n) h (held_front n xs ys)
  where
    go : (b : Bool) → (b || is_held rank_of n xs) ≡ true → (is_held rank_of n xs ≡ true → is_held rank_of n (xs ++ ys) ≡ true) → (b || is_held rank_of n (xs ++ ys)) ≡ true
    go true h ih = refl
    go false h ih = ih h

held_back : (n : ℕ) (xs ys : List Held) → is_held rank_of n ys ≡ true → is_held rank_of n (xs ++ ys) ≡ true
held_back n [] ys h = h
held_back n (x ∷ xs) ys h = go (rank_of x == n) (held_back n xs ys h)
  where
    go : (b : Bool) → is_held rank_of n (xs ++ ys) ≡ true → (b || is_held rank_of n (xs ++ ys)) ≡ true
    go true ih = refl
    go false ih = ih

pub held_among : (n : ℕ) (front back : List (List Held)) (r : List Held) → is_held rank_of n r ≡ true → is_held rank_of n (flat (front ++ r ∷ back)) ≡ true
held_among n [] back r h = held_front n r (flat back) h
held_among n (p ∷ front) back r h = held_back n p (flat (front ++ r ∷ back)) (held_among n front back r h)

none_later : (n : ℕ) (h : Held) (hs : List Held) (rs : List (List Held)) → IsLinked rank_of goes_on h hs → AreRuns rank_of goes_on (Some (last_of h hs)) rs → is_held rank_of n (h ∷ hs) ≡ true → is_held rank_of n (flat rs) ≡ false
none_later n h hs rs l all k = not_held_before rank_of goes_on n rs (Some (last_of h hs)) all (leads rs all)
  where
    leads : (rs : List (List Held)) → AreRuns rank_of goes_on (Some (last_of h hs)) rs → LeadsTo rank_of n rs
    leads [] all = tt
    leads ([] ∷ rs) all = absurd all
    leads ((e ∷ es) ∷ rs) all = omega (arith, all.0.0, (held_upto n h hs l k).1)

both : false ≡ true → ⊥
both h = cc

pub record Same (front back front' back' : List (List Held)) (r s : List Held) : Type 0 where
  pub front_is : front ≡ front'
  pub run_is : r ≡ s
  pub back_is : back ≡ back'

pub only_one : (n : ℕ) (before : Option Held) (front back front' back' : List (List Held)) (r s : List Held) → AreRuns rank_of goes_on before (front ++ r ∷ back) → front ++ r ∷ back ≡ front' ++ s ∷ back' → is_held rank_of n r ≡ true → is_held rank_of n s ≡ true → Same front back front' back' r s
only_one n before [] back [] back' r s all is h k = record { front_is = refl; run_is = cc; back_is = cc }
only_one n before [] back (q ∷ front') back' [] s all is h k = absurd all
only_one n before [] back (q ∷ front') back' (e ∷ es) s all is h k =
    let rest : back ≡ front' ++ s ∷ back' = cc in
    absurd (both (sym (none_later n e es back all.1.0 all.1.1 h) ∙ (ap (λ (t : List (List Held)). is_held rank_of n (flat t)) rest ∙ held_among n front' back' s k)))
only_one n before ([] ∷ front) back front' back' r s all is h k = absurd all
only_one n before ((e ∷ es) ∷ front) back [] back' r s all is h k =
    let same : e ∷ es ≡ s = cc in
    absurd (both (sym (none_later n e es (front ++ r ∷ back) all.1.0 all.1.1 (subst (λ (t : List Held). is_held rank_of n t ≡ true) (sym same) k)) ∙ held_among n front back r h))
only_one n before ((e ∷ es) ∷ front) back (q ∷ front') back' r s all is h k =
    let rest : front ++ r ∷ back ≡ front' ++ s ∷ back' = cc in
    let o = only_one n (Some (last_of e es)) front back front' back' r s all.1.1 rest h k in
    let head : e ∷ es ≡ q = cc in
    record { front_is = ap (λ (t : List Held). t ∷ front) head ∙ ap (λ (t : List (List Held)). q ∷ t) o.front_is; run_is = o.run_is; back_is = o.back_is }

pub held_neither : (n : ℕ) (xs ys : List Held) → is_held rank_of n xs ≡ false → is_held rank_of n ys ≡ false → is_held rank_of n (xs ++ ys) ≡ false
held_neither n [] ys h k = k
held_neither n (x ∷ xs) ys h k = go (rank_of x == n) h (λ h. held_neither n xs ys h k)
  where
    go : (b : Bool) → (b || is_held rank_of n xs) ≡ false → (is_held rank_of n xs ≡ false → is_held rank_of n (xs ++ ys) ≡ false) → (b || is_held rank_of n (xs ++ ys)) ≡ false
    go true h ih = absurd (cc)
    go false h ih = ih h

-- ---- it is found in the map

module _ {K : Type 0} (is_key : K → Type 0) (number index : K → ℕ) where
  abbrev runs : List (K × Interval K) → List (List Held)
  runs es = runs_at number index es

  linked_mid : (front back : List (K × Interval K)) (k : K) (i : Interval K) (h : Held) (hs : List Held) → AreRuns rank_of goes_on None (runs (front ++ (k, i) ∷ back)) → run_of (held_of number index) i ≡ h ∷ hs → IsLinked rank_of goes_on h hs
  linked_mid front back k i h hs all run =
      let whole : runs (front ++ (k, i) ∷ back) ≡ runs front ++ (h ∷ hs) ∷ runs back = runs_append is_key number index front ((k, i) ∷ back) ∙ ap (λ (t : List Held). runs front ++ t ∷ runs back) run in
      (AreRuns_back rank_of goes_on None (runs front) ((h ∷ hs) ∷ runs back) (subst (AreRuns rank_of goes_on None) whole all)).1.0

  module _ (n : ℕ) (es ps qs : List (K × Interval K)) (s : IsSplit is_key (rank_at number index) n es ps qs) (named : AreNamed is_key number index es) (all : AreRuns rank_of goes_on None (runs es)) where
    holds : (front back : List (K × Interval K)) (k : K) (i : Interval K) → es ≡ front ++ (k, i) ∷ back → AreLow is_key (rank_at number index) (rank_at number index k) front
        → ((h : Held) (hs : List Held) → run_of (held_of number index) i ≡ h ∷ hs → (rank_of h ≤ n) × (n ≤ rank_of (last_of h hs))) → Holds is_key number index n k es
    holds front back k i is low within =
        let c = cons (run_of (held_of number index) i) (some_run (held_of number index) i) in
        let w = within c.head c.tail c.is in
        let linked = linked_mid front back k i c.head c.tail (subst (λ (t : List (K × Interval K)). AreRuns rank_of goes_on None (runs t)) is all) c.is in
        record { front = front; interval = i; back = back; is = is; low = low; held = subst (λ (t : List Held). is_held rank_of n t ≡ true) (sym c.is) (linked_held n c.head c.tail linked w.0 w.1) }

    pub holds_below : (front : List (K × Interval K)) (k : K) (i : Interval K) → ps ≡ front ++ (k, i) ∷ [] → ends_from n (runs ps) ≡ true → (h : Holds is_key number index n k es) × (i ≡ h.interval)
    unfolding holds
    holds_below front k i at_end ends =
        let is : es ≡ front ++ (k, i) ∷ qs = s.is ∙ (ap (λ (z : List (K × Interval K)). z ++ qs) at_end ∙ append_assoc front ((k, i) ∷ []) qs) in
        let apart = lows is_key number index None front qs (k, i) (subst (AreNamed is_key number index) is named) (subst (λ (z : List (K × Interval K)). AreRuns rank_of goes_on None (runs z)) is all) in
        let low = low_mid is_key number index n front k i (subst (AreLow is_key (rank_at number index) n) at_end s.low) in
        let w = named_mid is_key number index front qs k i (subst (AreNamed is_key number index) is named) in (
          holds front qs k i is apart
              (λ h hs run. let v = subst (IsWithin (rank_at number index k)) run w in
              (omega (arith, v.0, low), not_less is_key number index (rank_of (last_of h hs)) n (sym (ap (is_from n) (end_is is_key number index ps front k i h hs at_end run)) ∙ ends))),
          refl,
        )

    pub holds_from : (back : List (K × Interval K)) (k : K) (i : Interval K) → qs ≡ (k, i) ∷ back → starts_upto n (runs qs) ≡ true → (h : Holds is_key number index n k es) × (i ≡ h.interval)
    unfolding holds
    holds_from back k i begins starts =
        let is : es ≡ ps ++ (k, i) ∷ back = s.is ∙ ap (λ (z : List (K × Interval K)). ps ++ z) begins in
        let apart = lows is_key number index None ps back (k, i) (subst (AreNamed is_key number index) is named) (subst (λ (z : List (K × Interval K)). AreRuns rank_of goes_on None (runs z)) is all) in
        let high = subst (AreHigh is_key (rank_at number index) n) begins s.high in
        let w = named_mid is_key number index ps back k i (subst (AreNamed is_key number index) is named) in (
          holds ps back k i is apart
              (λ h hs run. let v = subst (IsWithin (rank_at number index k)) run w in
              (upto is_key number index n (rank_of h) (sym (ap (starts_upto n) (ap runs begins ∙ ap (λ (t : List Held). t ∷ runs back) run)) ∙ starts), omega (arith, v.1, high.1.0))),
          refl,
        )

    pub none_holds_it : IsBelow rank_of n (end_of None (runs ps)) → LeadsTo rank_of n (runs qs) → is_held rank_of n (flat (runs es)) ≡ false
    none_holds_it below leads =
        let two : runs es ≡ runs ps ++ runs qs = ap runs s.is ∙ runs_append is_key number index ps qs in
        ap (λ (t : List (List Held)). is_held rank_of n (flat t)) two ∙ is_held_between rank_of goes_on n (runs ps) (runs qs) None (subst (AreRuns rank_of goes_on None) two all) below leads

  -- and is among all
  among_is : (n : ℕ) (first : List Held) (es : List (K × Interval K)) (k : K) (i : Interval K) (j : Holds is_key number index n k es) → i ≡ j.interval → first ∷ runs es ≡ (first ∷ runs j.front) ++ run_of (held_of number index) i ∷ runs j.back
  among_is n first es k i j same =
      ap (λ (t : List (List Held)). first ∷ t) (ap runs j.is ∙ (runs_append is_key number index j.front ((k, j.interval) ∷ j.back) ∙ ap (λ (t : Interval K). runs j.front ++ run_of (held_of number index) t ∷ runs j.back) (sym same)))

  among_later : (n : ℕ) (first : List Held) (es : List (K × Interval K)) (k : K) (i : Interval K) (j : Holds is_key number index n k es) → i ≡ j.interval → IsAmong n (run_of (held_of number index) i) (first ∷ runs es)
  among_later n first es k i j same = record {
    front = first ∷ runs j.front;
    back = runs j.back;
    is = among_is n first es k i j same;
    held = subst (λ (t : Interval K). is_held rank_of n (run_of (held_of number index) t) ≡ true) (sym same) j.held;
  }

  pub none_at_all : (n : ℕ) (first : Option (Interval K)) (later : List (K × Interval K)) → first ≡ None → IsLed first later → is_held rank_of n (entries_of (held_of number index) (all_of first later)) ≡ false
  none_at_all n (Some i) later none led = absurd (cc)
  none_at_all n None later none led = ap (λ (l : List (K × Interval K)). is_held rank_of n (entries_of (held_of number index) (all_of None l))) led

  -- nothing is held where there is no first one
  pub none_empty : {P : Type 0} (n : ℕ) (first : Option (Interval K)) (later : List (K × Interval K)) → first ≡ None → IsLed first later → (front back : List (List Held)) (r : List Held) → lists_of (held_of number index) (all_of first later) ≡ front ++ r ∷ back → is_held rank_of n r ≡ true → P
  none_empty n first later none led front back r at here = absurd (both (sym (none_at_all n first later none led) ∙ (ap (λ (t : List (List Held)). is_held rank_of n (flat t)) at ∙ held_among n front back r here)))

  -- the first one went out
  pub first_gone : (first now_first : Option (Interval K)) (later now_later : List (K × Interval K)) (r : Option (Interval K)) (i : Interval K) → first ≡ Some i → r ≡ Some i → all_of (Some i) later ≡ option_to_list r ++ all_of now_first now_later
      → IfSome r (λ j. IsOut (lists_of (held_of number index) (all_of first later)) (run_of (held_of number index) j) (lists_of (held_of number index) (all_of now_first now_later)))
  first_gone first now_first later now_later None i is same others = tt
  first_gone first now_first later now_later (Some j) i is same others = record {
    front = [];
    back = lists_of (held_of number index) (all_of now_first now_later);
    is = ap (λ (o : Option (Interval K)). lists_of (held_of number index) (all_of o later)) is ∙ ap (lists_of (held_of number index)) others;
    left = refl;
  }

  -- with the first one
  pub later_runs : (first : Option (Interval K)) (later : List (K × Interval K)) → IsLed first later → AreRuns rank_of goes_on None (lists_of (held_of number index) (all_of first later)) → AreRuns rank_of goes_on None (runs later)
  later_runs None later led h = subst (λ (l : List (K × Interval K)). AreRuns rank_of goes_on None (runs l)) (sym led) tt
  later_runs (Some i) later led h = runs_alone is_key number index (run_of (held_of number index) i ∷ []) later h

  module _ (n : ℕ) (first : Option (Interval K)) (later : List (K × Interval K)) (i : Interval K) (is : first ≡ Some i) (all : AreRuns rank_of goes_on None (lists_of (held_of number index) (all_of first later))) where
    lists_are : lists_of (held_of number index) (all_of first later) ≡ run_of (held_of number index) i ∷ runs later
    lists_are = ap (λ (o : Option (Interval K)). lists_of (held_of number index) (all_of o later)) is

    pub runs_here : AreRuns rank_of goes_on None (run_of (held_of number index) i ∷ runs later)
    runs_here = subst (AreRuns rank_of goes_on None) lists_are all

    pub first_among : is_held rank_of n (run_of (held_of number index) i) ≡ true → IsAmong n (run_of (held_of number index) i) (lists_of (held_of number index) (all_of first later))
    first_among held = record { front = []; back = runs later; is = lists_are; held = held }

    pub none_anywhere : is_held rank_of n (run_of (held_of number index) i) ≡ false → is_held rank_of n (flat (runs later)) ≡ false → is_held rank_of n (entries_of (held_of number index) (all_of first later)) ≡ false
    none_anywhere h k = ap (λ (t : List (List Held)). is_held rank_of n (flat t)) lists_are ∙ held_neither n (run_of (held_of number index) i) (flat (runs later)) h k

    pub first_only : is_held rank_of n (run_of (held_of number index) i) ≡ true → (front back : List (List Held)) (r : List Held) → lists_of (held_of number index) (all_of first later) ≡ front ++ r ∷ back → is_held rank_of n r ≡ true → run_of (held_of number index) i ≡ r
    first_only held front back r at here = (only_one n None [] (runs later) front back (run_of (held_of number index) i) r runs_here (sym lists_are ∙ at) held here).run_is

    pub none_here : {P : Type 0} → is_held rank_of n (run_of (held_of number index) i) ≡ false → is_held rank_of n (flat (runs later)) ≡ false → (front back : List (List Held)) (r : List Held) → lists_of (held_of number index) (all_of first later) ≡ front ++ r ∷ back → is_held rank_of n r ≡ true → P
    none_here h k front back r at here = absurd (both (sym (none_anywhere h k) ∙ (ap (λ (t : List (List Held)). is_held rank_of n (flat t)) at ∙ held_among n front back r here)))

    module _ (k : K) (j : Holds is_key number index n k later) where
      in_map : IsAmong n (run_of (held_of number index) j.interval) (run_of (held_of number index) i ∷ runs later)
      in_map = among_later n (run_of (held_of number index) i) later k j.interval j refl

      pub later_only : (front back : List (List Held)) (r : List Held) → lists_of (held_of number index) (all_of first later) ≡ front ++ r ∷ back → is_held rank_of n r ≡ true → run_of (held_of number index) j.interval ≡ r
      later_only front back r at here =
          (only_one n None in_map.front in_map.back front back (run_of (held_of number index) j.interval) r (subst (AreRuns rank_of goes_on None) in_map.is runs_here) (sym in_map.is ∙ (sym lists_are ∙ at)) j.held here).run_is

      pub found_later : (d : Interval K) → d ≡ j.interval → IsAmong n (run_of (held_of number index) d) (lists_of (held_of number index) (all_of first later))
      found_later d same = subst (IsAmong n (run_of (held_of number index) d)) (sym lists_are) (among_later n (run_of (held_of number index) i) later k d j same)

      pub later_out : (new : List (K × Interval K)) (d : Interval K) → d ≡ j.interval → new ≡ j.front ++ j.back → IsOut (lists_of (held_of number index) (all_of first later)) (run_of (held_of number index) d) (run_of (held_of number index) i ∷ runs new)
      later_out new d same left = record {
        front = run_of (held_of number index) i ∷ runs j.front;
        back = runs j.back;
        is = lists_are ∙ among_is n (run_of (held_of number index) i) later k d j same;
        left = ap (λ (t : List (List Held)). run_of (held_of number index) i ∷ t) (ap runs left ∙ runs_append is_key number index j.front j.back);
      }

  pub named_without : (front back : List (K × Interval K)) (k : K) (i : Interval K) → AreNamed is_key number index (front ++ (k, i) ∷ back) → AreNamed is_key number index (front ++ back)
  named_without [] back k i h = h.1.1
  named_without (e ∷ front) back k i h = (h.0, (h.1.0, named_without front back k i h.1.1))

pub some_or_none : {T : Type 0} {P : Type 0} (r : Option T) → IfSome r (λ _. P) → IfNone r P → P
some_or_none (Some x) p q = p
some_or_none None p q = q
