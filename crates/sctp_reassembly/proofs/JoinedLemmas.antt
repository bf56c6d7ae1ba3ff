-- What stands beside an entry's place.
use Rattle.std.proofs.Common.{◌≡◌, ℕ, ◌<◌, ◌≤◌, Bool, true, false, not, Option, Some, None, if◌then◌else◌, List, [], ◌∷◌, ◌++◌, refl, ap, sym, subst, ◌∙◌, arith, append_assoc}
use Rattle.std.proofs.lemmas.Bool.Decides.{nat_tests}
use Rattle.std.specs.Prelude.{nat_lt, IfNone}
use Rattle.sctp_fragments.specs.declared.interval.Interval.{Interval}
use Rattle.sctp_fragments.specs.ReassemblyKey.{rank_at}
use Rattle.sctp_fragments.specs.Runs.{flat, last_of, end_of, is_held, AreRuns, IsBelow, LeadsTo, is_next, joins_left, joins_right}
use Rattle.sctp_fragments.specs.Held.{Held, rank_of, goes_on}
use Rattle.sctp_fragments.specs.Interval.{held_of, run_of, starts_upto}
use Rattle.sctp_fragments.proofs.PlaceLemmas.{cons, some_run, emitted_less}
use Rattle.sctp_fragments.proofs.RunLemmas.{AreRuns_back, is_held_within}
use Rattle.sctp_reassembly.specs.Places.{AreNamed, AreLow, AreHigh, IsSplit, IsWithin, runs_at, next_of, previous_of, first_key_of, last_key, ends_from, is_from}
use Rattle.sctp_reassembly.proofs.MapLemmas.{snoc, last_read, runs_append, end_is}

pub none_holds : {T : Type 0} (r : Option T) (P : Type 0) → P → IfNone r P
none_holds None P p = p
none_holds (Some x) P p = tt

module _ {K : Type 0} (is_key : K → Type 0) (number index : K → ℕ) where
  abbrev runs : List (K × Interval K) → List (List Held)
  runs es = runs_at number index es

  -- in front of it
  pub ends_at : (ps front : List (K × Interval K)) (k : K) (i : Interval K) (e : Held) → ps ≡ front ++ (k, i) ∷ [] → ((h : Held) (hs : List Held) → run_of (held_of number index) i ≡ h ∷ hs → e ≡ last_of h hs) → end_of None (runs ps) ≡ Some e
  ends_at ps front k i e is last =
      let c = cons (run_of (held_of number index) i) (some_run (held_of number index) i) in
      end_is is_key number index ps front k i c.head c.tail is c.is ∙ ap Some (sym (last c.head c.tail c.is))

  pub held_before : (n : ℕ) (ps : List (K × Interval K)) (e : Held) (r : Bool) → end_of None (runs ps) ≡ Some e → r ≡ nat_lt (rank_of e) n → r ≡ false → ends_from n (runs ps) ≡ true
  held_before n ps e r end is off = ap (is_from n) end ∙ ap not (sym is ∙ off)

  pub apart_before : (x : Held) (ps : List (K × Interval K)) (e : Held) (r s : Bool) → end_of None (runs ps) ≡ Some e → r ≡ nat_lt (rank_of e) (rank_of x) → r ≡ true → s ≡ is_next rank_of goes_on e x → s ≡ false
      → IsBelow rank_of (rank_of x) (end_of None (runs ps)) × (None ≡ previous_of number index x ps)
  apart_before x ps e r s end less is_less goes off =
      let left : joins_left rank_of goes_on (end_of None (runs ps)) x ≡ false = ap (λ (t : Option Held). joins_left rank_of goes_on t x) end ∙ (sym goes ∙ off) in
      (subst (IsBelow rank_of (rank_of x)) (sym end) (emitted_less r (rank_of e) (rank_of x) is_less less), sym (ap (λ (b : Bool). if b then last_key ps else None) left))

  pub goes_before : (x : Held) (ps front : List (K × Interval K)) (k : K) (i : Interval K) (e : Held) (r s : Bool) → ps ≡ front ++ (k, i) ∷ [] → end_of None (runs ps) ≡ Some e → r ≡ nat_lt (rank_of e) (rank_of x) → r ≡ true → s ≡ is_next rank_of goes_on e x → s ≡ true
      → IsBelow rank_of (rank_of x) (end_of None (runs ps)) × (Some k ≡ previous_of number index x ps)
  goes_before x ps front k i e r s is end less is_less goes on =
      let left : joins_left rank_of goes_on (end_of None (runs ps)) x ≡ true = ap (λ (t : Option Held). joins_left rank_of goes_on t x) end ∙ (sym goes ∙ on) in
      (subst (IsBelow rank_of (rank_of x)) (sym end) (emitted_less r (rank_of e) (rank_of x) is_less less), last_read ps front (k, i) is ∙ sym (ap (λ (b : Bool). if b then last_key ps else None) left))

  -- behind it
  pub record Begins (qs back : List (K × Interval K)) (e : Held) : Type 0 where
    pub tail : List Held
    pub is : runs qs ≡ (e ∷ tail) ∷ runs back

  pub begins_at : (qs back : List (K × Interval K)) (k : K) (i : Interval K) (e : Held) → qs ≡ (k, i) ∷ back → ((h : Held) (hs : List Held) → run_of (held_of number index) i ≡ h ∷ hs → e ≡ h) → Begins qs back e
  begins_at qs back k i e is first =
      let c = cons (run_of (held_of number index) i) (some_run (held_of number index) i) in
      record { tail = c.tail; is = ap runs is ∙ ap (λ (t : List Held). t ∷ runs back) (c.is ∙ ap (λ (h : Held). h ∷ c.tail) (sym (first c.head c.tail c.is))) }

  pub none_behind : (x : Held) (qs : List (K × Interval K)) → qs ≡ [] → LeadsTo rank_of (rank_of x) (runs qs) × (None ≡ next_of number index x qs)
  none_behind x qs is = subst (λ (t : List (K × Interval K)). LeadsTo rank_of (rank_of x) (runs t) × (None ≡ next_of number index x t)) (sym is) (tt, refl)

  pub held_behind : (n : ℕ) (qs back : List (K × Interval K)) (e : Held) (r : Bool) → Begins qs back e → r ≡ nat_lt n (rank_of e) → r ≡ false → starts_upto n (runs qs) ≡ true
  held_behind n qs back e r b is off = ap (starts_upto n) b.is ∙ ap not (sym is ∙ off)

  pub apart_behind : (x : Held) (qs back : List (K × Interval K)) (e : Held) (r s : Bool) → Begins qs back e → r ≡ nat_lt (rank_of x) (rank_of e) → r ≡ true → s ≡ is_next rank_of goes_on x e → s ≡ false → LeadsTo rank_of (rank_of x) (runs qs) × (None ≡ next_of number index x qs)
  apart_behind x qs back e r s b less is_less goes off =
      let right : joins_right rank_of goes_on x (runs qs) ≡ false = ap (joins_right rank_of goes_on x) b.is ∙ (sym goes ∙ off) in
      (subst (LeadsTo rank_of (rank_of x)) (sym b.is) (emitted_less r (rank_of x) (rank_of e) is_less less), sym (ap (λ (t : Bool). if t then first_key_of qs else None) right))

  pub goes_behind : (x : Held) (qs back : List (K × Interval K)) (k : K) (i : Interval K) (e : Held) (r s : Bool) → qs ≡ (k, i) ∷ back → Begins qs back e → r ≡ nat_lt (rank_of x) (rank_of e) → r ≡ true → s ≡ is_next rank_of goes_on x e → s ≡ true
      → LeadsTo rank_of (rank_of x) (runs qs) × (Some k ≡ next_of number index x qs)
  goes_behind x qs back k i e r s is b less is_less goes on =
      let right : joins_right rank_of goes_on x (runs qs) ≡ true = ap (joins_right rank_of goes_on x) b.is ∙ (sym goes ∙ on) in
      (subst (LeadsTo rank_of (rank_of x)) (sym b.is) (emitted_less r (rank_of x) (rank_of e) is_less less), sym (ap (λ (t : Bool). if t then first_key_of qs else None) right ∙ ap first_key_of is))

  starts_at : (b : Option Held) (h : Held) (hs : List Held) (rs : List (List Held)) (n : ℕ) → AreRuns rank_of goes_on b ((h ∷ hs) ∷ rs) → rank_of h ≤ n → IsBelow rank_of n b
  starts_at None h hs rs n r l = tt
  starts_at (Some d) h hs rs n r l = omega (arith, r.0.0, l)

  -- an entry in the middle has the ranks between its ends
  held_inside : (n : ℕ) (front back : List (K × Interval K)) (k : K) (i : Interval K) → AreRuns rank_of goes_on None (runs (front ++ (k, i) ∷ back)) → ((h : Held) (hs : List Held) → run_of (held_of number index) i ≡ h ∷ hs → (rank_of h ≤ n) × (n ≤ rank_of (last_of h hs)))
      → is_held rank_of n (flat (runs (front ++ (k, i) ∷ back))) ≡ true
  held_inside n front back k i all within =
      let c = cons (run_of (held_of number index) i) (some_run (held_of number index) i) in
      let w = within c.head c.tail c.is in
      let whole : runs (front ++ (k, i) ∷ back) ≡ runs front ++ (c.head ∷ c.tail) ∷ runs back = runs_append is_key number index front ((k, i) ∷ back) ∙ ap (λ (t : List Held). runs front ++ t ∷ runs back) c.is in
      let all_here = subst (AreRuns rank_of goes_on None) whole all in
      let from = AreRuns_back rank_of goes_on None (runs front) ((c.head ∷ c.tail) ∷ runs back) all_here in
      ap (λ (t : List (List Held)). is_held rank_of n (flat t)) whole
      ∙ is_held_within rank_of goes_on n (runs front) (runs back) c.head c.tail None all_here (starts_at (end_of None (runs front)) c.head c.tail (runs back) n from w.0) w.0 w.1

  pub named_mid : (front back : List (K × Interval K)) (k : K) (i : Interval K) → AreNamed is_key number index (front ++ (k, i) ∷ back) → IsWithin (rank_at number index k) (run_of (held_of number index) i)
  named_mid [] back k i named = named.1.0
  named_mid (e ∷ front) back k i named = named_mid front back k i named.1.1

  pub low_mid : (n : ℕ) (front : List (K × Interval K)) (k : K) (i : Interval K) → AreLow is_key (rank_at number index) n (front ++ (k, i) ∷ []) → rank_at number index k < n
  low_mid n [] k i low = low.1.0
  low_mid n (e ∷ front) k i low = low_mid n front k i low.1.1

  pub not_less : (a n : ℕ) → not (nat_lt a n) ≡ true → n ≤ a
  not_less a n h = grind (arith, nat_tests)

  pub upto : (n a : ℕ) → not (nat_lt n a) ≡ true → a ≤ n
  upto n a h = grind (arith, nat_tests)

  -- where it is held
  module _ (n : ℕ) (es ps qs : List (K × Interval K)) (s : IsSplit is_key (rank_at number index) n es ps qs) (named : AreNamed is_key number index es) (all : AreRuns rank_of goes_on None (runs es)) where
    pub is_in_before : ends_from n (runs ps) ≡ true → is_held rank_of n (flat (runs es)) ≡ true
    is_in_before ends = go ps refl
      where
        go : (t : List (K × Interval K)) → ps ≡ t → is_held rank_of n (flat (runs es)) ≡ true
        go [] is = absurd (apart (sym (ap (λ (t : List (K × Interval K)). ends_from n (runs t)) is) ∙ ends))
          where
            apart : false ≡ true → ⊥
            apart h = cc
        go (d ∷ t) is =
            let l = snoc d t in
            let ps_is : ps ≡ l.front ++ (l.key, l.interval) ∷ [] = is ∙ l.is in
            let es_is : es ≡ l.front ++ (l.key, l.interval) ∷ qs = s.is ∙ (ap (λ (z : List (K × Interval K)). z ++ qs) ps_is ∙ append_assoc l.front ((l.key, l.interval) ∷ []) qs) in
            let low = low_mid n l.front l.key l.interval (subst (AreLow is_key (rank_at number index) n) ps_is s.low) in
            let w = named_mid l.front qs l.key l.interval (subst (AreNamed is_key number index) es_is named) in
            ap (λ (z : List (K × Interval K)). is_held rank_of n (flat (runs z))) es_is
            ∙ held_inside n l.front qs l.key l.interval (subst (λ (z : List (K × Interval K)). AreRuns rank_of goes_on None (runs z)) es_is all)
            (λ h hs run. let v = subst (IsWithin (rank_at number index l.key)) run w in
            (omega (arith, v.0, low), not_less (rank_of (last_of h hs)) n (sym (ap (is_from n) (end_is is_key number index ps l.front l.key l.interval h hs ps_is run)) ∙ ends)))

    pub is_in_behind : starts_upto n (runs qs) ≡ true → is_held rank_of n (flat (runs es)) ≡ true
    is_in_behind starts = go qs refl
      where
        go : (t : List (K × Interval K)) → qs ≡ t → is_held rank_of n (flat (runs es)) ≡ true
        go [] is = absurd (apart (sym (ap (λ (t : List (K × Interval K)). starts_upto n (runs t)) is) ∙ starts))
          where
            apart : false ≡ true → ⊥
            apart h = cc
        go (d ∷ t) is =
            let es_is : es ≡ ps ++ d ∷ t = s.is ∙ ap (λ (z : List (K × Interval K)). ps ++ z) is in
            let high = subst (AreHigh is_key (rank_at number index) n) is s.high in
            let w = named_mid ps t d.0 d.1 (subst (AreNamed is_key number index) es_is named) in
            ap (λ (z : List (K × Interval K)). is_held rank_of n (flat (runs z))) es_is
            ∙ held_inside n ps t d.0 d.1 (subst (λ (z : List (K × Interval K)). AreRuns rank_of goes_on None (runs z)) es_is all)
            (λ h hs run. let v = subst (IsWithin (rank_at number index d.0)) run w in
            (upto n (rank_of h) (sym (ap (λ (r : List Held). starts_upto n (r ∷ runs t)) run) ∙ (sym (ap (λ (z : List (K × Interval K)). starts_upto n (runs z)) is) ∙ starts)), omega (arith, v.1, high.1.0)))
