-- An entry that comes between the intervals of a map.
use Rattle.std.proofs.Common.{◌≡◌, ℕ, suc, ◌<◌, ◌≤◌, Bool, true, false, Option, Some, None, if◌then◌else◌, List, [], ◌∷◌, ◌++◌, refl, ap, sym, subst, ◌∙◌, arith, append_assoc}
use Rattle.sctp_fragments.specs.declared.interval.Interval.{Interval}
use Rattle.sctp_fragments.specs.ReassemblyKey.{rank_at}
use Rattle.sctp_fragments.specs.Runs.{last_of, end_of, AreRuns, IsBelow, LeadsTo, is_next, joins_left, joins_right}
use Rattle.sctp_fragments.specs.Held.{Held, rank_of, goes_on}
use Rattle.sctp_fragments.specs.Interval.{held_of, run_of, IsInserted}
use Rattle.sctp_fragments.proofs.PlaceLemmas.{cons, some_run}
use Rattle.sctp_fragments.proofs.RunLemmas.{AreRuns_back, first_runs, last_of_append}
use Rattle.sctp_reassembly.specs.Places.{AreNamed, AreLow, AreHigh, IsSplit, IsWithin, IsChanged, IsJoined, AreJoined, IsSame, AreBeside, runs_at, next_of, previous_of, first_key_of, last_key}
use Rattle.sctp_reassembly.proofs.InsertLemmas.{inserts_alone, inserts_left, inserts_right, inserts_both}
use Rattle.sctp_reassembly.proofs.MapLemmas.{snoc, last_read, runs_append, end_is, first_of_split, last_of_split, rises_behind}
use Rattle.sctp_reassembly.proofs.HeldLemmas.{next_rank}

-- x came between the entries ps and qs, behind the runs fs
pub record IsPut {K : Type 0} (is_key : K → Type 0) (number index : K → ℕ) (fs : List (List Held)) (ps qs : List (K × Interval K)) (x : Held) (new : List (K × Interval K)) : Type 0 where
  pub inserted : IsInserted (fs ++ runs_at number index ps) (runs_at number index qs) (fs ++ runs_at number index new) x
  pub named : AreNamed is_key number index new

module _ {K : Type 0} (is_key : K → Type 0) (number index : K → ℕ) where
  abbrev runs : List (K × Interval K) → List (List Held)
  runs es = runs_at number index es

  pub changed_runs : (ps qs new : List (K × Interval K)) (k : K) (run : List Held) → IsChanged number index ps qs k run new → runs new ≡ runs ps ++ run ∷ runs qs
  changed_runs ps qs new k run h =
      ap (runs_at number index) h.is ∙ (runs_append is_key number index ps ((k, h.interval) ∷ qs) ∙ ap (λ (t : List Held). runs ps ++ t ∷ runs qs) h.run_is)

  pub named_front : (ps qs : List (K × Interval K)) → AreNamed is_key number index (ps ++ qs) → AreNamed is_key number index ps
  named_front [] qs h = tt
  named_front (e ∷ ps) qs h = (h.0, (h.1.0, named_front ps qs h.1.1))

  pub named_back : (ps qs : List (K × Interval K)) → AreNamed is_key number index (ps ++ qs) → AreNamed is_key number index qs
  named_back [] qs h = h
  named_back (e ∷ ps) qs h = named_back ps qs h.1.1

  named_mid : (ps qs : List (K × Interval K)) (k : K) (i : Interval K) → AreNamed is_key number index ps → AreNamed is_key number index qs → is_key k → IsWithin (rank_at number index k) (run_of (held_of number index) i) → AreNamed is_key number index (ps ++ (k, i) ∷ qs)
  named_mid [] qs k i h t p w = (p, (w, t))
  named_mid (e ∷ ps) qs k i h t p w = (h.0, (h.1.0, named_mid ps qs k i h.1.1 t p w))

  pub changed_named : (ps qs new : List (K × Interval K)) (k : K) (run : List Held) → IsChanged number index ps qs k run new → AreNamed is_key number index ps → AreNamed is_key number index qs → is_key k → IsWithin (rank_at number index k) run → AreNamed is_key number index new
  changed_named ps qs new k run h front back p w =
      subst (AreNamed is_key number index) (sym h.is) (named_mid ps qs k h.interval front back p (subst (IsWithin (rank_at number index k)) (sym h.run_is) w))

  -- where the interval at a key stays as it is
  pub same_there : (es ps qs new : List (K × Interval K)) (k : K) (i : Interval K) → es ≡ ps ++ (k, i) ∷ qs → AreNamed is_key number index es → IsChanged number index ps qs k (run_of (held_of number index) i) new → IsSame is_key number index es new
  same_there es ps qs new k i is named h =
      let all = subst (AreNamed is_key number index) is named in
      let back = named_back ps ((k, i) ∷ qs) all in
      record {
        runs = changed_runs ps qs new k (run_of (held_of number index) i) h ∙ sym (ap (runs_at number index) is ∙ runs_append is_key number index ps ((k, i) ∷ qs));
        named = changed_named ps qs new k (run_of (held_of number index) i) h (named_front ps ((k, i) ∷ qs) all) back.1.1 back.0 back.1.0;
      }

  module _ (fs : List (List Held)) (x : Held) (ps qs new : List (K × Interval K)) where
    whole : (run : List Held) (k : K) → IsChanged number index ps qs k run new → fs ++ runs new ≡ (fs ++ runs ps) ++ run ∷ runs qs
    whole run k h = ap (λ (t : List (List Held)). fs ++ t) (changed_runs ps qs new k run h) ∙ sym (append_assoc fs (runs ps) (run ∷ runs qs))

    pub puts_alone : (k : K) → is_key k → rank_at number index k ≡ rank_of x → AreNamed is_key number index ps → AreNamed is_key number index qs → AreRuns rank_of goes_on None ((fs ++ runs ps) ++ runs qs) → IsBelow rank_of (rank_of x) (end_of None (fs ++ runs ps)) → LeadsTo rank_of (rank_of x) (runs qs)
        → joins_left rank_of goes_on (end_of None (fs ++ runs ps)) x ≡ false → joins_right rank_of goes_on x (runs qs) ≡ false → IsChanged number index ps qs k (x ∷ []) new → IsPut is_key number index fs ps qs x new
    puts_alone k p rank front back all below leads left right h = record {
      inserted = subst (λ (t : List (List Held)). IsInserted (fs ++ runs ps) (runs qs) t x) (sym (whole (x ∷ []) k h)) (inserts_alone (fs ++ runs ps) (runs qs) x all below leads left right);
      named = changed_named ps qs new k (x ∷ []) h front back p (omega (arith, rank), omega (arith, rank));
    }

    pub puts_before : (k : K) (i : Interval K) → is_key k → IsWithin (rank_at number index k) (run_of (held_of number index) i) → AreNamed is_key number index ps → AreNamed is_key number index qs
        → AreRuns rank_of goes_on None ((fs ++ runs ps) ++ run_of (held_of number index) i ∷ runs qs) → IsBelow rank_of (rank_of x) (end_of None (fs ++ runs ps)) → LeadsTo rank_of (rank_of x) (run_of (held_of number index) i ∷ runs qs)
        → joins_left rank_of goes_on (end_of None (fs ++ runs ps)) x ≡ false → joins_right rank_of goes_on x (run_of (held_of number index) i ∷ runs qs) ≡ true
        → IsChanged number index ps qs k (x ∷ run_of (held_of number index) i) new → IsPut is_key number index fs ps ((k, i) ∷ qs) x new
    puts_before k i p w front back all below leads left right h = go (run_of (held_of number index) i) refl w all leads right h
      where
        go : (r : List Held) → run_of (held_of number index) i ≡ r → IsWithin (rank_at number index k) r → AreRuns rank_of goes_on None ((fs ++ runs ps) ++ r ∷ runs qs) → LeadsTo rank_of (rank_of x) (r ∷ runs qs) → joins_right rank_of goes_on x (r ∷ runs qs) ≡ true
            → IsChanged number index ps qs k (x ∷ r) new → IsPut is_key number index fs ps ((k, i) ∷ qs) x new
        go [] is w all leads right h = absurd w
        go (e ∷ es) is w all leads right h = record {
          inserted = subst (λ (t : List (List Held)). IsInserted (fs ++ runs ps) (runs ((k, i) ∷ qs)) t x) (sym (whole (x ∷ (e ∷ es)) k h))
              (subst (λ (t : List Held). IsInserted (fs ++ runs ps) (t ∷ runs qs) ((fs ++ runs ps) ++ (x ∷ (e ∷ es)) ∷ runs qs) x) (sym is) (inserts_right (fs ++ runs ps) (runs qs) e x es all below left right));
          named = changed_named ps qs new k (x ∷ (e ∷ es)) h front back p (omega (arith, w.0, leads), w.1);
        }

module _ {K : Type 0} (is_key : K → Type 0) (number index : K → ℕ) where
  pub next_is : (x : Held) (qs : List (K × Interval K)) (k : K) → Some k ≡ next_of number index x qs → (joins_right rank_of goes_on x (runs_at number index qs) ≡ true) × (Some k ≡ first_key_of qs)
  next_is x qs k h = go (joins_right rank_of goes_on x (runs_at number index qs)) (first_key_of qs) h
    where
      go : (b : Bool) (o : Option K) → Some k ≡ (if b then o else None) → (b ≡ true) × (Some k ≡ o)
      go true o h = (refl, h)
      go false o h = absurd (cc)

  pub next_none : (x : Held) (qs : List (K × Interval K)) → None ≡ next_of number index x qs → joins_right rank_of goes_on x (runs_at number index qs) ≡ false
  next_none x [] h = refl
  next_none x (q ∷ qs) h = go (joins_right rank_of goes_on x (runs_at number index (q ∷ qs))) h
    where
      go : (b : Bool) → None ≡ (if b then Some q.0 else None) → b ≡ false
      go false h = refl
      go true h = absurd (cc)

  pub previous_is : (x : Held) (ps : List (K × Interval K)) (k : K) → Some k ≡ previous_of number index x ps → (joins_left rank_of goes_on (end_of None (runs_at number index ps)) x ≡ true) × (Some k ≡ last_key ps)
  previous_is x ps k h = go (joins_left rank_of goes_on (end_of None (runs_at number index ps)) x) (last_key ps) h
    where
      go : (b : Bool) (o : Option K) → Some k ≡ (if b then o else None) → (b ≡ true) × (Some k ≡ o)
      go true o h = (refl, h)
      go false o h = absurd (cc)

  pub previous_none : (x : Held) (ps : List (K × Interval K)) → None ≡ previous_of number index x ps → joins_left rank_of goes_on (end_of None (runs_at number index ps)) x ≡ false
  previous_none x [] h = refl
  previous_none x (d ∷ ps) h = go (joins_left rank_of goes_on (end_of None (runs_at number index (d ∷ ps))) x) (last_key (d ∷ ps)) (snoc d ps).key (sym (last_read (d ∷ ps) (snoc d ps).front ((snoc d ps).key, (snoc d ps).interval) (snoc d ps).is)) h
    where
      go : (b : Bool) (o : Option K) (k : K) → o ≡ Some k → None ≡ (if b then o else None) → b ≡ false
      go false o k some h = refl
      go true o k some h = absurd (cc)

  left_last : (x : Held) (ps front : List (K × Interval K)) (i : Interval K) (h : Held) (hs : List Held) (k : K) → ps ≡ front ++ (k, i) ∷ [] → run_of (held_of number index) i ≡ h ∷ hs → joins_left rank_of goes_on (end_of None (runs_at number index ps)) x ≡ true → is_next rank_of goes_on (last_of h hs) x ≡ true
  left_last x ps front i h hs k ends run on =
      sym (ap (λ (t : Option Held). joins_left rank_of goes_on t x) (end_is is_key number index ps front k i h hs ends run)) ∙ on

  pub runs_alone : (fs : List (List Held)) (es : List (K × Interval K)) → AreRuns rank_of goes_on None (fs ++ runs_at number index es) → AreRuns rank_of goes_on None (runs_at number index es)
  runs_alone fs es h = first_runs rank_of goes_on (end_of None fs) (runs_at number index es) (AreRuns_back rank_of goes_on None fs (runs_at number index es) h)

  pub runs_split : (fs : List (List Held)) (es ps qs : List (K × Interval K)) → es ≡ ps ++ qs → AreRuns rank_of goes_on None (fs ++ runs_at number index es) → AreRuns rank_of goes_on None ((fs ++ runs_at number index ps) ++ runs_at number index qs)
  runs_split fs es ps qs is h =
      subst (AreRuns rank_of goes_on None) (ap (λ (t : List (List Held)). fs ++ t) (ap (runs_at number index) is ∙ runs_append is_key number index ps qs) ∙ sym (append_assoc fs (runs_at number index ps) (runs_at number index qs))) h

  -- an entry comes in front of the first interval behind a split
  pub puts_next : (fs : List (List Held)) (x : Held) (es ps qs new : List (K × Interval K)) (n : ℕ) (k : K) → IsSplit is_key (rank_at number index) n es ps qs → AreNamed is_key number index es → AreRuns rank_of goes_on None (fs ++ runs_at number index es)
      → IsBelow rank_of (rank_of x) (end_of None (fs ++ runs_at number index ps)) → LeadsTo rank_of (rank_of x) (runs_at number index qs) → joins_left rank_of goes_on (end_of None (fs ++ runs_at number index ps)) x ≡ false → Some k ≡ next_of number index x qs
      → ((back : List (K × Interval K)) (i : Interval K) → es ≡ ps ++ (k, i) ∷ back → AreLow is_key (rank_at number index) (rank_at number index k) ps → IsChanged number index ps back k (x ∷ run_of (held_of number index) i) new) → IsPut is_key number index fs ps qs x new
  puts_next fs x es ps qs new n k s named runs below leads left next made =
      let right = next_is x qs k next in
      let l = first_of_split is_key number index es ps qs n k s named (runs_alone fs es runs) right.1 in
      let all = subst (AreNamed is_key number index) l.is named in
      let back = named_back is_key number index ps ((k, l.interval) ∷ l.back) all in
      subst (λ (t : List (K × Interval K)). IsPut is_key number index fs ps t x new) (sym l.begins)
      (puts_before is_key number index fs x ps l.back new k l.interval back.0 back.1.0 (named_front is_key number index ps ((k, l.interval) ∷ l.back) all) back.1.1 (runs_split fs es ps ((k, l.interval) ∷ l.back) l.is runs) below
      (subst (λ (t : List (K × Interval K)). LeadsTo rank_of (rank_of x) (runs_at number index t)) l.begins leads) left
      (subst (λ (t : List (K × Interval K)). joins_right rank_of goes_on x (runs_at number index t) ≡ true) l.begins right.0) (made l.back l.interval l.is l.low))

  -- the keys behind it are above it
  pub high_behind : (n : ℕ) (before : Option Held) (qs : List (K × Interval K)) → AreNamed is_key number index qs → AreRuns rank_of goes_on before (runs_at number index qs) → LeadsTo rank_of n (runs_at number index qs) → AreHigh is_key (rank_at number index) (suc n) qs
  high_behind n before [] named runs leads = tt
  high_behind n before (e ∷ es) named runs leads = go (run_of (held_of number index) e.1) refl named.1.0 runs leads
    where
      go : (r : List Held) → run_of (held_of number index) e.1 ≡ r → IsWithin (rank_at number index e.0) r → AreRuns rank_of goes_on before (r ∷ runs_at number index es) → LeadsTo rank_of n (r ∷ runs_at number index es) → AreHigh is_key (rank_at number index) (suc n) (e ∷ es)
      go [] is w rs l = absurd w
      go (h ∷ hs) is w rs l = (named.0, (omega (arith, l, w.0), rises_behind is_key number index n (last_of h hs) es named.1.1 rs.1.1 (omega (arith, l, w.0, w.1))))

  -- it comes alone at a split
  pub puts_single : (fs : List (List Held)) (x : Held) (es ps qs new : List (K × Interval K)) (k : K) → is_key k → rank_at number index k ≡ rank_of x → IsSplit is_key (rank_at number index) (rank_of x) es ps qs → AreNamed is_key number index es → AreRuns rank_of goes_on None (fs ++ runs_at number index es)
      → IsBelow rank_of (rank_of x) (end_of None (fs ++ runs_at number index ps)) → LeadsTo rank_of (rank_of x) (runs_at number index qs) → joins_left rank_of goes_on (end_of None (fs ++ runs_at number index ps)) x ≡ false → None ≡ next_of number index x qs
      → (es ≡ ps ++ qs → AreLow is_key (rank_at number index) (rank_at number index k) ps → AreHigh is_key (rank_at number index) (suc (rank_at number index k)) qs → IsChanged number index ps qs k (x ∷ []) new) → IsPut is_key number index fs ps qs x new
  puts_single fs x es ps qs new k p rank s named runs below leads left next made =
      let two = runs_split fs es ps qs s.is runs in
      let all = subst (AreNamed is_key number index) s.is named in
      let back = named_back is_key number index ps qs all in
      let high = high_behind (rank_of x) (end_of None (fs ++ runs_at number index ps)) qs back (AreRuns_back rank_of goes_on None (fs ++ runs_at number index ps) (runs_at number index qs) two) leads in
      puts_alone is_key number index fs x ps qs new k p rank (named_front is_key number index ps qs all) back two below leads left (next_none x qs next)
      (made s.is (subst (λ (n : ℕ). AreLow is_key (rank_at number index) n ps) (sym rank) s.low) (subst (λ (n : ℕ). AreHigh is_key (rank_at number index) (suc n) qs) (sym rank) high))

  -- nothing comes there
  pub same_next : (fs : List (List Held)) (x : Held) (es ps qs new : List (K × Interval K)) (n : ℕ) (k : K) → IsSplit is_key (rank_at number index) n es ps qs → AreNamed is_key number index es → AreRuns rank_of goes_on None (fs ++ runs_at number index es) → Some k ≡ next_of number index x qs
      → ((back : List (K × Interval K)) (i : Interval K) → es ≡ ps ++ (k, i) ∷ back → AreLow is_key (rank_at number index) (rank_at number index k) ps → IsChanged number index ps back k (run_of (held_of number index) i) new) → IsSame is_key number index es new
  same_next fs x es ps qs new n k s named runs next made =
      let l = first_of_split is_key number index es ps qs n k s named (runs_alone fs es runs) (next_is x qs k next).1 in
      same_there is_key number index es ps l.back new k l.interval l.is named (made l.back l.interval l.is l.low)

  pub same_entries : (es new : List (K × Interval K)) → AreNamed is_key number index es → new ≡ es → IsSame is_key number index es new
  same_entries es new named is = record { runs = ap (runs_at number index) is; named = subst (AreNamed is_key number index) (sym is) named }

  low_last : {X : Type 0} (n : ℕ) (ps : List (K × X)) (k : K) (i : X) → AreLow is_key (rank_at number index) n (ps ++ (k, i) ∷ []) → is_key k × (rank_at number index k < n)
  low_last n [] k i low = (low.0, low.1.0)
  low_last n (e ∷ ps) k i low = low_last n ps k i low.1.1

  -- the entries that it joins
  pub beside : (es : List (K × Interval K)) (x : Held) (before behind : Option K) (a b : K) → AreJoined is_key number index es x before behind → Some a ≡ before → Some b ≡ behind → AreNamed is_key number index es → AreRuns rank_of goes_on None (runs_at number index es) → AreBeside is_key (rank_at number index) a b es
  beside es x before behind a b j some next named runs =
      let l = last_of_split is_key number index es j.ps j.qs (rank_of x) a j.split named runs (previous_is x j.ps a (some ∙ j.before_is)).1 in
      let m = first_of_split is_key number index es j.ps j.qs (rank_of x) b j.split named runs (next_is x j.qs b (next ∙ j.behind_is)).1 in
      let low = low_last (rank_of x) l.front a l.interval (subst (AreLow is_key (rank_at number index) (rank_of x)) l.ends j.split.low) in
      let high = subst (AreHigh is_key (rank_at number index) (rank_of x)) m.begins j.split.high in
      record {
        front = l.front;
        here = l.interval;
        there = m.interval;
        back = m.back;
        is = l.is ∙ ap (λ (t : List (K × Interval K)). l.front ++ (a, l.interval) ∷ t) m.begins;
        low = l.low;
        ascend = omega (arith, low.1, high.1.0);
      }

  within_more : (n : ℕ) (h x : Held) (hs : List Held) → IsWithin n (h ∷ hs) → is_next rank_of goes_on (last_of h hs) x ≡ true → IsWithin n ((h ∷ hs) ++ x ∷ [])
  within_more n h x hs w next =
      (w.0, subst (λ (t : Held). n ≤ rank_of t) (sym (last_of_append {E = Held} rank_of goes_on h x hs [])) (omega (arith, w.1, next_rank rank_of goes_on (last_of h hs) x next)))

  -- it comes behind the last interval in front of a split, and goes on to none
  pub puts_last : (fs : List (List Held)) (x : Held) (es ps qs new : List (K × Interval K)) (n : ℕ) (k : K) → IsSplit is_key (rank_at number index) n es ps qs → AreNamed is_key number index es → AreRuns rank_of goes_on None (fs ++ runs_at number index es)
      → LeadsTo rank_of (rank_of x) (runs_at number index qs) → Some k ≡ last_key ps → None ≡ next_of number index x qs
      → joins_left rank_of goes_on (end_of None (runs_at number index ps)) x ≡ true
      → ((front : List (K × Interval K)) (i : Interval K) → es ≡ front ++ (k, i) ∷ qs → AreLow is_key (rank_at number index) (rank_at number index k) front → IsChanged number index front qs k (run_of (held_of number index) i ++ x ∷ []) new) → IsPut is_key number index fs ps qs x new
  puts_last fs x es ps qs new n k s named runs leads last next joins made =
      let f = held_of number index in
      let l = last_of_split is_key number index es ps qs n k s named (runs_alone fs es runs) last in
      let c = cons (run_of f l.interval) (some_run f l.interval) in
      let all = subst (AreNamed is_key number index) l.is named in
      let back = named_back is_key number index l.front ((k, l.interval) ∷ qs) all in
      let left = left_last x ps l.front l.interval c.head c.tail k l.ends c.is joins in
      let whole = subst (λ (t : List Held). AreRuns rank_of goes_on None ((fs ++ runs_at number index l.front) ++ t ∷ runs_at number index qs)) c.is (runs_split fs es l.front ((k, l.interval) ∷ qs) l.is runs) in
      let made_at = made l.front l.interval l.is l.low in
      let ps_is : fs ++ runs_at number index ps ≡ (fs ++ runs_at number index l.front) ++ (c.head ∷ c.tail) ∷ [] =
      ap (λ (t : List (List Held)). fs ++ t) (ap (runs_at number index) l.ends ∙ (runs_append is_key number index l.front ((k, l.interval) ∷ []) ∙ ap (λ (t : List Held). runs_at number index l.front ++ t ∷ []) c.is)) ∙ sym (append_assoc fs (runs_at number index l.front) ((c.head ∷ c.tail) ∷ [])) in
      let new_is : fs ++ runs_at number index new ≡ (fs ++ runs_at number index l.front) ++ ((c.head ∷ c.tail) ++ x ∷ []) ∷ runs_at number index qs =
      ap (λ (t : List (List Held)). fs ++ t) (changed_runs is_key number index l.front qs new k (run_of f l.interval ++ x ∷ []) made_at ∙ ap (λ (t : List Held). runs_at number index l.front ++ (t ++ x ∷ []) ∷ runs_at number index qs) c.is)
      ∙ sym (append_assoc fs (runs_at number index l.front) (((c.head ∷ c.tail) ++ x ∷ []) ∷ runs_at number index qs)) in
      record {
        inserted = subst (λ (t : List (List Held)). IsInserted t (runs_at number index qs) (fs ++ runs_at number index new) x) (sym ps_is)
            (subst (λ (t : List (List Held)). IsInserted ((fs ++ runs_at number index l.front) ++ (c.head ∷ c.tail) ∷ []) (runs_at number index qs) t x) (sym new_is)
            (inserts_left (fs ++ runs_at number index l.front) (runs_at number index qs) c.head x c.tail whole leads left (next_none x qs next)));
        named = changed_named is_key number index l.front qs new k (run_of f l.interval ++ x ∷ []) made_at (named_front is_key number index l.front ((k, l.interval) ∷ qs) all) back.1.1 back.0
            (subst (λ (t : List Held). IsWithin (rank_at number index k) (t ++ x ∷ [])) (sym c.is) (within_more (rank_at number index k) c.head x c.tail (subst (IsWithin (rank_at number index k)) c.is back.1.0) left));
      }

  pub same_last : (es ps qs new : List (K × Interval K)) (n : ℕ) (k : K) → IsSplit is_key (rank_at number index) n es ps qs → AreNamed is_key number index es → AreRuns rank_of goes_on None (runs_at number index es) → Some k ≡ last_key ps
      → ((front : List (K × Interval K)) (i : Interval K) → es ≡ front ++ (k, i) ∷ qs → AreLow is_key (rank_at number index) (rank_at number index k) front → IsChanged number index front qs k (run_of (held_of number index) i) new) → IsSame is_key number index es new
  same_last es ps qs new n k s named runs last made =
      let l = last_of_split is_key number index es ps qs n k s named runs last in
      same_there is_key number index es l.front qs new k l.interval l.is named (made l.front l.interval l.is l.low)

  -- it joins two
  pub puts_both : (fs : List (List Held)) (x : Held) (es ps qs new : List (K × Interval K)) (n : ℕ) (a b : K) → IsSplit is_key (rank_at number index) n es ps qs → AreNamed is_key number index es → AreRuns rank_of goes_on None (fs ++ runs_at number index es)
      → Some a ≡ last_key ps → Some b ≡ next_of number index x qs
      → joins_left rank_of goes_on (end_of None (runs_at number index ps)) x ≡ true
      → ((front back : List (K × Interval K)) (i j : Interval K) → es ≡ front ++ (a, i) ∷ ((b, j) ∷ back) → AreLow is_key (rank_at number index) (rank_at number index a) front → rank_at number index a < rank_at number index b
      → IsJoined is_key number index front back a b (run_of (held_of number index) i ++ x ∷ run_of (held_of number index) j) new) → IsPut is_key number index fs ps qs x new
  puts_both fs x es ps qs new n a b s named runs last next joins made =
      let f = held_of number index in
      let at = runs_at number index in
      let right = next_is x qs b next in
      let l = last_of_split is_key number index es ps qs n a s named (runs_alone fs es runs) last in
      let m = first_of_split is_key number index es ps qs n b s named (runs_alone fs es runs) right.1 in
      let c = cons (run_of f l.interval) (some_run f l.interval) in
      let d = cons (run_of f m.interval) (some_run f m.interval) in
      let low = low_last n l.front a l.interval (subst (AreLow is_key (rank_at number index) n) l.ends s.low) in
      let high = subst (AreHigh is_key (rank_at number index) n) m.begins s.high in
      let is : es ≡ l.front ++ (a, l.interval) ∷ ((b, m.interval) ∷ m.back) = l.is ∙ ap (λ (t : List (K × Interval K)). l.front ++ (a, l.interval) ∷ t) m.begins in
      let all = subst (AreNamed is_key number index) is named in
      let back = named_back is_key number index l.front ((a, l.interval) ∷ ((b, m.interval) ∷ m.back)) all in
      let left = left_last x ps l.front l.interval c.head c.tail a l.ends c.is joins in
      let goes : is_next rank_of goes_on x d.head ≡ true = subst (λ (t : List (List Held)). joins_right rank_of goes_on x t ≡ true) (ap at m.begins ∙ ap (λ (t : List Held). t ∷ at m.back) d.is) right.0 in
      let j = made l.front m.back l.interval m.interval is l.low (omega (arith, low.1, high.1.0)) in
      let run_is : run_of f l.interval ++ x ∷ run_of f m.interval ≡ (c.head ∷ c.tail) ++ x ∷ (d.head ∷ d.tail) = ap (λ (t : List Held). t ++ x ∷ run_of f m.interval) c.is ∙ ap (λ (t : List Held). (c.head ∷ c.tail) ++ x ∷ t) d.is in
      let whole : fs ++ at es ≡ (fs ++ at l.front) ++ (c.head ∷ c.tail) ∷ ((d.head ∷ d.tail) ∷ at m.back) =
      ap (λ (t : List (List Held)). fs ++ t) (ap at is ∙ (runs_append is_key number index l.front ((a, l.interval) ∷ ((b, m.interval) ∷ m.back)) ∙ (ap (λ (t : List Held). at l.front ++ t ∷ (run_of f m.interval ∷ at m.back)) c.is ∙ ap (λ (t : List Held). at l.front ++ (c.head ∷ c.tail) ∷ (t ∷ at m.back)) d.is)))
      ∙ sym (append_assoc fs (at l.front) ((c.head ∷ c.tail) ∷ ((d.head ∷ d.tail) ∷ at m.back))) in
      let ps_is : fs ++ at ps ≡ (fs ++ at l.front) ++ (c.head ∷ c.tail) ∷ [] =
      ap (λ (t : List (List Held)). fs ++ t) (ap at l.ends ∙ (runs_append is_key number index l.front ((a, l.interval) ∷ []) ∙ ap (λ (t : List Held). at l.front ++ t ∷ []) c.is)) ∙ sym (append_assoc fs (at l.front) ((c.head ∷ c.tail) ∷ [])) in
      let qs_is : at qs ≡ (d.head ∷ d.tail) ∷ at m.back = ap at m.begins ∙ ap (λ (t : List Held). t ∷ at m.back) d.is in
      let new_is : fs ++ at new ≡ (fs ++ at l.front) ++ ((c.head ∷ c.tail) ++ x ∷ (d.head ∷ d.tail)) ∷ at m.back =
      ap (λ (t : List (List Held)). fs ++ t) (changed_runs is_key number index l.front m.back new j.key (run_of f l.interval ++ x ∷ run_of f m.interval) j.changed ∙ ap (λ (t : List Held). at l.front ++ t ∷ at m.back) run_is)
      ∙ sym (append_assoc fs (at l.front) (((c.head ∷ c.tail) ++ x ∷ (d.head ∷ d.tail)) ∷ at m.back)) in
      let all_in = inserts_both (fs ++ at l.front) (at m.back) c.head d.head x c.tail d.tail (subst (AreRuns rank_of goes_on None) whole runs) left goes in
      let w = subst (IsWithin (rank_at number index a)) c.is back.1.0 in
      let v = subst (IsWithin (rank_at number index b)) d.is back.1.1.1.0 in
      record {
        inserted = subst (λ (t : List (List Held)). IsInserted t (at qs) (fs ++ at new) x) (sym ps_is)
            (subst (λ (t : List (List Held)). IsInserted ((fs ++ at l.front) ++ (c.head ∷ c.tail) ∷ []) t (fs ++ at new) x) (sym qs_is)
            (subst (λ (t : List (List Held)). IsInserted ((fs ++ at l.front) ++ (c.head ∷ c.tail) ∷ []) ((d.head ∷ d.tail) ∷ at m.back) t x) (sym new_is) all_in));
        named = changed_named is_key number index l.front m.back new j.key (run_of f l.interval ++ x ∷ run_of f m.interval) j.changed (named_front is_key number index l.front ((a, l.interval) ∷ ((b, m.interval) ∷ m.back)) all) back.1.1.1.1 j.key_is
            (subst (IsWithin (rank_at number index j.key)) (sym run_is) (omega (arith, w.0, j.least), subst (λ (t : Held). rank_at number index j.key ≤ rank_of t) (sym (last_of_append {E = Held} rank_of goes_on c.head x c.tail (d.head ∷ d.tail))) (omega (arith, v.1, j.most))));
      }

  pub same_both : (fs : List (List Held)) (x : Held) (es ps qs new : List (K × Interval K)) (n : ℕ) (a b : K) → IsSplit is_key (rank_at number index) n es ps qs → AreNamed is_key number index es → AreRuns rank_of goes_on None (fs ++ runs_at number index es) → Some a ≡ last_key ps → Some b ≡ next_of number index x qs
      → ((front back : List (K × Interval K)) (i j : Interval K) → es ≡ front ++ (a, i) ∷ ((b, j) ∷ back) → AreLow is_key (rank_at number index) (rank_at number index a) front → rank_at number index a < rank_at number index b → AreNamed is_key number index es → IsSame is_key number index es new)
      → IsSame is_key number index es new
  same_both fs x es ps qs new n a b s named runs last next made =
      let l = last_of_split is_key number index es ps qs n a s named (runs_alone fs es runs) last in
      let m = first_of_split is_key number index es ps qs n b s named (runs_alone fs es runs) (next_is x qs b next).1 in
      let low = low_last n l.front a l.interval (subst (AreLow is_key (rank_at number index) n) l.ends s.low) in
      let high = subst (AreHigh is_key (rank_at number index) n) m.begins s.high in
      made l.front m.back l.interval m.interval (l.is ∙ ap (λ (t : List (K × Interval K)). l.front ++ (a, l.interval) ∷ t) m.begins) l.low (omega (arith, low.1, high.1.0)) named
