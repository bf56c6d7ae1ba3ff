-- An entry comes where it joins.
use Rattle.std.proofs.Common.{◌≡◌, ℕ, suc, ◌<◌, ◌==◌, Bool, true, false, Option, Some, None, List, [], ◌∷◌, ◌++◌, refl, ap, sym, subst, ◌∙◌, arith, length}
use Rattle.std.specs.Prelude.{nat_lt, ◌||◌}
use Rattle.sctp_fragments.specs.declared.interval.Interval.{Interval}
use Rattle.sctp_fragments.specs.ReassemblyKey.{rank_at}
use Rattle.sctp_fragments.specs.Runs.{flat, last_of, end_of, is_held, AreRuns, IsBelow, LeadsTo, is_next, joins_left, joins_right}
use Rattle.sctp_fragments.specs.Held.{Held, rank_of, goes_on}
use Rattle.sctp_fragments.specs.Interval.{held_of, run_of, lists_of, IsInserted}
use Rattle.sctp_fragments.proofs.PlaceLemmas.{cons, some_run, emitted_less, emitted_not_less}
use Rattle.sctp_fragments.proofs.RunLemmas.{AreRuns_back, AreRuns_front, AllBelow_runs, end_of_append, is_held_within, linked_rises}
use Rattle.sctp_reassembly.specs.Places.{AreNamed, AreLow, AreHigh, IsWithin, IsChanged, IsJoined, AreJoined, IsAdded, IsFirstAt, IsLed, all_of, runs_at, next_of, first_key_of}
use Rattle.sctp_reassembly.proofs.InsertLemmas.{inserts_alone, inserts_left, inserts_right, inserts_both}
use Rattle.sctp_reassembly.proofs.HeldLemmas.{next_rank}
use Rattle.sctp_reassembly.proofs.MapLemmas.{runs_append, rises_behind}
use Rattle.sctp_reassembly.proofs.PutLemmas.{IsPut, puts_next, puts_single, puts_last, puts_both, next_is, next_none, previous_is, previous_none, runs_split}

-- what is told by the last item of a run
pub joins_last : (r : List Held) (d x : Held) (b : Bool) → 0 < length r → ((h : Held) (hs : List Held) → r ≡ h ∷ hs → d ≡ last_of h hs) → b ≡ is_next rank_of goes_on d x → joins_left rank_of goes_on (end_of None (r ∷ [])) x ≡ b
joins_last [] d x b some last is = absurd (omega arith)
joins_last (h ∷ hs) d x b some last is = rw (← last h hs refl) (sym is)

pub below_last : (r : List Held) (d : Held) (n : ℕ) (b : Bool) → 0 < length r → ((h : Held) (hs : List Held) → r ≡ h ∷ hs → d ≡ last_of h hs) → b ≡ true → b ≡ nat_lt (rank_of d) n → IsBelow rank_of n (end_of None (r ∷ []))
below_last [] d n b some last on is = absurd (omega arith)
below_last (h ∷ hs) d n b some last on is = rw (← last h hs refl) (emitted_less b (rank_of d) n on is)

pub leads_first : (r : List Held) (d : Held) (n : ℕ) (b : Bool) → 0 < length r → ((h : Held) (hs : List Held) → r ≡ h ∷ hs → d ≡ h) → b ≡ true → b ≡ nat_lt n (rank_of d) → LeadsTo rank_of n (r ∷ [])
leads_first [] d n b some first on is = absurd (omega arith)
leads_first (h ∷ hs) d n b some first on is = rw (← first h hs refl) (emitted_less b n (rank_of d) on is)

below_all : (n : ℕ) (b : Option Held) (rs : List (List Held)) → AreRuns rank_of goes_on b rs → IsBelow rank_of n b → IsBelow rank_of n (end_of None rs) → IsBelow rank_of n (end_of b rs)
below_all n b [] r h k = h
below_all n b ([] ∷ rs) r h k = absurd r
below_all n b ((e ∷ es) ∷ rs) r h k = k

left_all : (x : Held) (b : Option Held) (rs : List (List Held)) → AreRuns rank_of goes_on b rs → joins_left rank_of goes_on b x ≡ false → joins_left rank_of goes_on (end_of None rs) x ≡ false → joins_left rank_of goes_on (end_of b rs) x ≡ false
left_all x b [] r h k = h
left_all x b ([] ∷ rs) r h k = absurd r
left_all x b ((e ∷ es) ∷ rs) r h k = k

module _ {K : Type 0} (is_key : K → Type 0) (number index : K → ℕ) where
  abbrev runs : List (K × Interval K) → List (List Held)
  runs es = runs_at number index es

  -- behind the first run, from which it does not go on
  module _ (first : List Held) (es : List (K × Interval K)) (x : Held) (before behind : Option K) (j : AreJoined is_key number index es x before behind) (named : AreNamed is_key number index es)
      (all : AreRuns rank_of goes_on None (first ∷ runs es)) (below : IsBelow rank_of (rank_of x) (end_of None (first ∷ []))) (left : joins_left rank_of goes_on (end_of None (first ∷ [])) x ≡ false) where
    in_two : AreRuns rank_of goes_on None ((first ∷ runs j.ps) ++ runs j.qs)
    in_two = runs_split is_key number index (first ∷ []) es j.ps j.qs j.split.is all

    from_first : AreRuns rank_of goes_on (end_of None (first ∷ [])) (runs j.ps)
    from_first = AreRuns_back rank_of goes_on None (first ∷ []) (runs j.ps) (AreRuns_front rank_of goes_on None (first ∷ runs j.ps) (runs j.qs) in_two)

    end_here : end_of None (first ∷ runs j.ps) ≡ end_of (end_of None (first ∷ [])) (runs j.ps)
    end_here = end_of_append {E = Held} rank_of goes_on None (first ∷ []) (runs j.ps)

    below_here : IsBelow rank_of (rank_of x) (end_of None (first ∷ runs j.ps))
    below_here = subst (IsBelow rank_of (rank_of x)) (sym end_here) (below_all (rank_of x) (end_of None (first ∷ [])) (runs j.ps) from_first below j.below)

    left_here : None ≡ before → joins_left rank_of goes_on (end_of None (first ∷ runs j.ps)) x ≡ false
    left_here none =
        ap (λ (t : Option Held). joins_left rank_of goes_on t x) end_here
        ∙ left_all x (end_of None (first ∷ [])) (runs j.ps) from_first left (previous_none is_key number index x j.ps (none ∙ j.before_is))

    added : (new : List (K × Interval K)) → IsPut is_key number index (first ∷ []) j.ps j.qs x new → IsAdded is_key number index (first ∷ runs es) (first ∷ runs new) x new
    added new p = record {
      ps = first ∷ runs j.ps;
      qs = runs j.qs;
      is = ap (λ (t : List (List Held)). first ∷ t) (ap (runs_at number index) j.split.is ∙ runs_append is_key number index j.ps j.qs);
      below = below_here;
      leads = j.leads;
      inserted = p.inserted;
      named = p.named;
    }

    pub alone_added : (new : List (K × Interval K)) (k : K) → is_key k → rank_at number index k ≡ rank_of x → None ≡ before → None ≡ behind
        → ((ps qs : List (K × Interval K)) → es ≡ ps ++ qs → AreLow is_key (rank_at number index) (rank_at number index k) ps → AreHigh is_key (rank_at number index) (suc (rank_at number index k)) qs → IsChanged number index ps qs k (x ∷ []) new)
        → IsAdded is_key number index (first ∷ runs es) (first ∷ runs new) x new
    alone_added new k p rank none last made =
        added new (puts_single is_key number index (first ∷ []) x es j.ps j.qs new k p rank j.split named all below_here j.leads (left_here none) (last ∙ j.behind_is) (made j.ps j.qs))

    pub front_added : (new : List (K × Interval K)) (k : K) → None ≡ before → Some k ≡ behind
        → ((ps back : List (K × Interval K)) (i : Interval K) → es ≡ ps ++ (k, i) ∷ back → AreLow is_key (rank_at number index) (rank_at number index k) ps → IsChanged number index ps back k (x ∷ run_of (held_of number index) i) new)
        → IsAdded is_key number index (first ∷ runs es) (first ∷ runs new) x new
    front_added new k none next made =
        added new (puts_next is_key number index (first ∷ []) x es j.ps j.qs new (rank_of x) k j.split named all below_here j.leads (left_here none) (next ∙ j.behind_is) (made j.ps))

    pub back_added : (new : List (K × Interval K)) (k : K) → Some k ≡ before → None ≡ behind
        → ((front back : List (K × Interval K)) (i : Interval K) → es ≡ front ++ (k, i) ∷ back → AreLow is_key (rank_at number index) (rank_at number index k) front → IsChanged number index front back k (run_of (held_of number index) i ++ x ∷ []) new)
        → IsAdded is_key number index (first ∷ runs es) (first ∷ runs new) x new
    back_added new k some last made =
        let p = previous_is is_key number index x j.ps k (some ∙ j.before_is) in
        added new (puts_last is_key number index (first ∷ []) x es j.ps j.qs new (rank_of x) k j.split named all j.leads p.1 (last ∙ j.behind_is) p.0 (λ front i. made front j.qs i))

    pub both_added : (new : List (K × Interval K)) (a b : K) → Some a ≡ before → Some b ≡ behind
        → ((front back : List (K × Interval K)) (i d : Interval K) → es ≡ front ++ (a, i) ∷ ((b, d) ∷ back) → AreLow is_key (rank_at number index) (rank_at number index a) front → rank_at number index a < rank_at number index b
        → IsJoined is_key number index front back a b (run_of (held_of number index) i ++ x ∷ run_of (held_of number index) d) new)
        → IsAdded is_key number index (first ∷ runs es) (first ∷ runs new) x new
    both_added new a b some next made =
        let p = previous_is is_key number index x j.ps a (some ∙ j.before_is) in
        added new (puts_both is_key number index (first ∷ []) x es j.ps j.qs new (rank_of x) a b j.split named all p.1 (next ∙ j.behind_is) p.0 made)

  -- where it goes on from the first run, none is between
  no_before : (first : List Held) (x : Held) (ps qs : List (K × Interval K)) → AreRuns rank_of goes_on None ((first ∷ runs ps) ++ runs qs) → IsBelow rank_of (rank_of x) (end_of None (runs ps)) → joins_left rank_of goes_on (end_of None (first ∷ [])) x ≡ true → ps ≡ []
  no_before [] x ps qs r b l = absurd r
  no_before (d ∷ ds) x [] qs r b l = refl
  no_before (d ∷ ds) x (e ∷ ps) qs r b l = go (run_of (held_of number index) e.1) r b
    where
      go : (t : List Held) → AreRuns rank_of goes_on None (((d ∷ ds) ∷ (t ∷ runs ps)) ++ runs qs) → IsBelow rank_of (rank_of x) (end_of None (t ∷ runs ps)) → e ∷ ps ≡ []
      go [] r b = absurd r.1.1
      go (h ∷ hs) r b =
          let front = AreRuns_front rank_of goes_on (Some (last_of d ds)) ((h ∷ hs) ∷ runs ps) (runs qs) r.1.1 in
          let low = AllBelow_runs rank_of goes_on (Some (last_of d ds)) (rank_of x) ((h ∷ hs) ∷ runs ps) front b in
          absurd (omega (arith, r.1.1.0.0, low.0, next_rank rank_of goes_on (last_of d ds) x l))

  module _ (first : List Held) (es : List (K × Interval K)) (x : Held) (before behind : Option K) (j : AreJoined is_key number index es x before behind) (all : AreRuns rank_of goes_on None (first ∷ runs es)) (left : joins_left rank_of goes_on (end_of None (first ∷ [])) x ≡ true) where
    all_behind : es ≡ j.qs
    all_behind =
        j.split.is ∙ ap (λ (t : List (K × Interval K)). t ++ j.qs) (no_before first x j.ps j.qs (runs_split is_key number index (first ∷ []) es j.ps j.qs j.split.is all) j.below left)

    leads_on : LeadsTo rank_of (rank_of x) (runs es)
    leads_on = subst (λ (t : List (K × Interval K)). LeadsTo rank_of (rank_of x) (runs t)) (sym all_behind) j.leads

    next_here : behind ≡ next_of number index x es
    next_here = j.behind_is ∙ ap (next_of number index x) (sym all_behind)

    pub first_at : (k : K) → Some k ≡ behind → IsFirstAt k es
    first_at k some = go es (next_is is_key number index x es k (some ∙ next_here)).1
      where
        go : (t : List (K × Interval K)) → Some k ≡ first_key_of t → IsFirstAt k t
        go [] h = absurd (cc)
        go (e ∷ t) h = let same : e.0 ≡ k = inside e.0 h in record { there = e.1; back = t; is = ap (λ (z : K). (z, e.1) ∷ t) same }
          where
            inside : (z : K) → Some k ≡ Some z → z ≡ k
            inside z h = cc

  -- behind the first run, from which it goes on
  pub extends_back : (first run : List Held) (es : List (K × Interval K)) (x : Held) (before behind : Option K) → AreJoined is_key number index es x before behind → AreNamed is_key number index es → AreRuns rank_of goes_on None (first ∷ runs es)
      → joins_left rank_of goes_on (end_of None (first ∷ [])) x ≡ true → None ≡ behind → run ≡ first ++ x ∷ [] → IsAdded is_key number index (first ∷ runs es) (run ∷ runs es) x es
  extends_back [] run es x before behind j named all left none made = absurd all
  extends_back (d ∷ ds) run es x before behind j named all left none made =
      let leads = leads_on (d ∷ ds) es x before behind j all left in
      let right = next_none is_key number index x es (none ∙ next_here (d ∷ ds) es x before behind j all left) in
      record {
        ps = (d ∷ ds) ∷ [];
        qs = runs es;
        is = refl;
        below = omega (arith, next_rank rank_of goes_on (last_of d ds) x left);
        leads = leads;
        inserted = subst (λ (t : List Held). IsInserted ((d ∷ ds) ∷ []) (runs es) (t ∷ runs es) x) (sym made) (inserts_left [] (runs es) d x ds all leads left right);
        named = named;
      }

  pub extends_both : (first run : List Held) (es new qs : List (K × Interval K)) (x : Held) (before behind : Option K) (k : K) (i : Interval K) → AreJoined is_key number index es x before behind → AreNamed is_key number index es → AreRuns rank_of goes_on None (first ∷ runs es)
      → joins_left rank_of goes_on (end_of None (first ∷ [])) x ≡ true → Some k ≡ behind → es ≡ (k, i) ∷ qs → run ≡ first ++ x ∷ run_of (held_of number index) i → new ≡ qs → IsAdded is_key number index (first ∷ runs es) (run ∷ runs new) x new
  extends_both [] run es new qs x before behind k i j named all left some is made rest = absurd all
  extends_both (d ∷ ds) run es new qs x before behind k i j named all left some is made rest =
      let c = cons (run_of (held_of number index) i) (some_run (held_of number index) i) in
      let es_is : runs es ≡ (c.head ∷ c.tail) ∷ runs qs = ap runs is ∙ ap (λ (t : List Held). t ∷ runs qs) c.is in
      let right = (next_is is_key number index x es k (some ∙ next_here (d ∷ ds) es x before behind j all left)).0 in
      let goes : is_next rank_of goes_on x c.head ≡ true = subst (λ (t : List (List Held)). joins_right rank_of goes_on x t ≡ true) es_is right in
      let run_is : run ≡ (d ∷ ds) ++ x ∷ (c.head ∷ c.tail) = made ∙ ap (λ (t : List Held). (d ∷ ds) ++ x ∷ t) c.is in
      let both = inserts_both [] (runs qs) d c.head x ds c.tail (subst (λ (t : List (List Held)). AreRuns rank_of goes_on None ((d ∷ ds) ∷ t)) es_is all) left goes in
      record {
        ps = (d ∷ ds) ∷ [];
        qs = runs es;
        is = refl;
        below = omega (arith, next_rank rank_of goes_on (last_of d ds) x left);
        leads = leads_on (d ∷ ds) es x before behind j all left;
        inserted = subst (λ (t : List (List Held)). IsInserted ((d ∷ ds) ∷ []) (runs es) t x) (ap (λ (t : List Held). t ∷ runs qs) (sym run_is) ∙ ap (λ (t : List (K × Interval K)). run ∷ runs t) (sym rest))
            (subst (λ (t : List (List Held)). IsInserted ((d ∷ ds) ∷ []) t (((d ∷ ds) ++ x ∷ (c.head ∷ c.tail)) ∷ runs qs) x) (sym es_is) both);
        named = subst (AreNamed is_key number index) (sym rest) (subst (AreNamed is_key number index) is named).1.1;
      }

  -- in front of the first run
  pub ahead_joined : (first run : List Held) (es : List (K × Interval K)) (x e : Held) (r : Bool) → AreNamed is_key number index es → AreRuns rank_of goes_on None (first ∷ runs es) → LeadsTo rank_of (rank_of x) (first ∷ [])
      → ((h : Held) (hs : List Held) → first ≡ h ∷ hs → e ≡ h) → r ≡ is_next rank_of goes_on x e → r ≡ true → run ≡ x ∷ first → IsAdded is_key number index (first ∷ runs es) (run ∷ runs es) x es
  ahead_joined [] run es x e r named all ahead head goes on made = absurd all
  ahead_joined (d ∷ ds) run es x e r named all ahead head goes on made =
      let next : is_next rank_of goes_on x d ≡ true = ap (is_next rank_of goes_on x) (sym (head d ds refl)) ∙ (sym goes ∙ on) in
      record {
        ps = [];
        qs = (d ∷ ds) ∷ runs es;
        is = refl;
        below = tt;
        leads = ahead;
        inserted = subst (λ (t : List Held). IsInserted [] ((d ∷ ds) ∷ runs es) (t ∷ runs es) x) (sym made) (inserts_right [] (runs es) d x ds all tt refl next);
        named = named;
      }

  pub high_first : (first : List Held) (es : List (K × Interval K)) (e : Held) (k : K) → AreNamed is_key number index es → AreRuns rank_of goes_on None (first ∷ runs es) → ((h : Held) (hs : List Held) → first ≡ h ∷ hs → e ≡ h) → rank_at number index k ≡ rank_of e
      → AreHigh is_key (rank_at number index) (suc (rank_at number index k)) es
  high_first [] es e k named all head rank = absurd all
  high_first (d ∷ ds) es e k named all head rank =
      rises_behind is_key number index (rank_at number index k) (last_of d ds) es named all.1.1 (omega (arith, rank, ap rank_of (head d ds refl), linked_rises rank_of goes_on d ds all.1.0))

  pub ahead_apart : (first run : List Held) (es new : List (K × Interval K)) (x e d : Held) (r : Bool) (k : K) (i : Interval K) → AreNamed is_key number index es → AreRuns rank_of goes_on None (first ∷ runs es) → LeadsTo rank_of (rank_of x) (first ∷ [])
      → ((h : Held) (hs : List Held) → first ≡ h ∷ hs → e ≡ h) → r ≡ is_next rank_of goes_on x e → r ≡ false → run_of (held_of number index) i ≡ first → is_key k → ((h : Held) (hs : List Held) → first ≡ h ∷ hs → d ≡ h) → rank_at number index k ≡ rank_of d → new ≡ (k, i) ∷ es → run ≡ x ∷ []
      → IsAdded is_key number index (first ∷ runs es) (run ∷ runs new) x new
  ahead_apart [] run es new x e c r k i named all ahead head goes off first_is key head_c rank new_is made = absurd all
  ahead_apart (d ∷ ds) run es new x e c r k i named all ahead head goes off first_is key head_c rank new_is made =
      let right : is_next rank_of goes_on x d ≡ false = ap (is_next rank_of goes_on x) (sym (head d ds refl)) ∙ (sym goes ∙ off) in
      let runs_is : runs new ≡ (d ∷ ds) ∷ runs es = ap runs new_is ∙ ap (λ (t : List Held). t ∷ runs es) first_is in
      let same : rank_at number index k ≡ rank_of d = rank ∙ ap rank_of (head_c d ds refl) in
      record {
        ps = [];
        qs = (d ∷ ds) ∷ runs es;
        is = refl;
        below = tt;
        leads = ahead;
        inserted = subst (λ (t : List (List Held)). IsInserted [] ((d ∷ ds) ∷ runs es) t x) (ap (λ (t : List (List Held)). (x ∷ []) ∷ t) (sym runs_is) ∙ ap (λ (t : List Held). t ∷ runs new) (sym made))
            (inserts_alone [] ((d ∷ ds) ∷ runs es) x all tt ahead refl right);
        named = subst (AreNamed is_key number index) (sym new_is) (key, (subst (λ (t : List Held). IsWithin (rank_at number index k) t) (sym first_is) (omega (arith, same), omega (arith, same, linked_rises rank_of goes_on d ds all.1.0)), named));
      }

  -- where nothing is held
  pub first_added : (first : Option (Interval K)) (later : List (K × Interval K)) (i : Interval K) (x : Held) → first ≡ None → IsLed first later → run_of (held_of number index) i ≡ x ∷ []
      → IsAdded is_key number index (lists_of (held_of number index) (all_of first later)) (lists_of (held_of number index) (all_of (Some i) later)) x later
  first_added (Some d) later i x none led run = absurd (cc)
  first_added None later i x none led run =
      subst (λ (l : List (K × Interval K)). IsAdded is_key number index (lists_of (held_of number index) (all_of None l)) (lists_of (held_of number index) (all_of (Some i) l)) x l) (sym led)
      (record { ps = []; qs = []; is = refl; below = tt; leads = tt; inserted = subst (λ (t : List Held). IsInserted [] [] (t ∷ []) x) (sym run) (inserts_alone [] [] x tt tt tt refl refl); named = tt })

  -- what is held already
  pub held_later : (n : ℕ) (first : List Held) (rs : List (List Held)) → is_held rank_of n (flat rs) ≡ true → is_held rank_of n (flat (first ∷ rs)) ≡ true
  held_later n [] rs h = h
  held_later n (d ∷ ds) rs h = go (rank_of d == n) (held_later n ds rs h)
    where
      go : (b : Bool) → is_held rank_of n (flat (ds ∷ rs)) ≡ true → (b || is_held rank_of n (flat (ds ∷ rs))) ≡ true
      go true ih = refl
      go false ih = ih

  pub held_first : (n : ℕ) (first : List Held) (rs : List (List Held)) (d e : Held) (r s : Bool) → AreRuns rank_of goes_on None (first ∷ rs) → ((h : Held) (hs : List Held) → first ≡ h ∷ hs → d ≡ h) → ((h : Held) (hs : List Held) → first ≡ h ∷ hs → e ≡ last_of h hs)
      → r ≡ nat_lt n (rank_of d) → r ≡ false → s ≡ nat_lt (rank_of e) n → s ≡ false → is_held rank_of n (flat (first ∷ rs)) ≡ true
  held_first n [] rs d e r s all head last less off more out = absurd all
  held_first n (h ∷ hs) rs d e r s all head last less off more out =
      is_held_within rank_of goes_on n [] rs h hs None all tt (omega (arith, emitted_not_less r n (rank_of d) off less, ap rank_of (head h hs refl))) (omega (arith, emitted_not_less s (rank_of e) n out more, ap rank_of (last h hs refl)))
