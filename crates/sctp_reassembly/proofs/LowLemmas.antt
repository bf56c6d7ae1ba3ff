-- The intervals before one that begins before a key, which go out together.
use Rattle.std.proofs.Common.{◌≡◌, ℕ, ◌+◌, ◌<◌, ◌≤◌, Bool, true, false, Option, Some, None, List, [], ◌∷◌, ◌++◌, length, refl, ap, sym, subst, ◌∙◌, inl, inr, arith, append_assoc, length-append, Ordering}
use Rattle.std.proofs.lemmas.Bool.{cases_lt, lt-ltb}
use Rattle.std.proofs.lemmas.List.Elements.{All-head, All-tail}
use Rattle.std.specs.List.{All}
use Rattle.std.specs.Map.{keys_of, values_of}
use Rattle.std.specs.Ordering.{is_gt, nat_cmp}
use Rattle.sctp_fragments.specs.declared.interval.Entry.{Entry}
use Rattle.sctp_fragments.specs.declared.interval.Interval.{Interval}
use Rattle.sctp_fragments.specs.ReassemblyKey.{rank_at}
use Rattle.sctp_fragments.specs.Runs.{end_of, flat, from_rank, AllBelow, IsBelow, AreRuns}
use Rattle.sctp_fragments.specs.Held.{Held, rank_of, goes_on, bytes_of, NonePass, NoneComplete}
use Rattle.sctp_fragments.specs.Interval.{held_of, lists_of, run_of, entries_of, first_below, AreIndexed}
use Rattle.sctp_fragments.proofs.PlaceLemmas.{cons, some_run, emitted_less}
use Rattle.sctp_fragments.proofs.RunLemmas.{flat_append, first_runs, AreRuns_front, AreRuns_back, AllBelow_runs}
use Rattle.sctp_reassembly.specs.Places.{AreNamed, IsWithin, all_of, runs_at}
use Rattle.sctp_reassembly.proofs.ListLemmas.{bytes_of_append}
use Rattle.sctp_reassembly.proofs.TurnLemmas.{indexed_back}
use Rattle.sctp_reassembly.proofs.MapLemmas.{runs_append, cmp_less, cmp_same, named_key}
use Rattle.sctp_reassembly.proofs.JoinedLemmas.{named_mid}
use Rattle.sctp_reassembly.proofs.PutLemmas.{named_front, named_back}

-- ---- what stays

end_low : (n : ℕ) (before : Option Held) (ys : List (List Held)) → AreRuns rank_of goes_on before ys → first_below n ys ≡ true → IsBelow rank_of n before
end_low n None ys r b = tt
end_low n (Some d) [] r b = absurd (cc)
end_low n (Some d) ([] ∷ ys) r b = absurd r
end_low n (Some d) ((e ∷ es) ∷ ys) r b = omega (arith, r.0.0, emitted_less true (rank_of e) n refl (sym b))

drops_front : (n : ℕ) (xs ys : List Held) → AllBelow rank_of n xs → from_rank rank_of n (xs ++ ys) ≡ from_rank rank_of n ys
drops_front n [] ys h = refl
drops_front n (x ∷ xs) ys h = rw (lt-ltb (rank_of x) n h.0) (drops_front n xs ys h.1)

none_back : (test : List Held → Bool) (xs ys : List (List Held)) → NonePass test (xs ++ ys) → NonePass test ys
none_back test [] ys h = h
none_back test (x ∷ xs) ys h = none_back test xs ys h.1

pub record Leaves (n : ℕ) (ls xs ys : List (List Held)) : Type 0 where
  pub runs : AreRuns rank_of goes_on None ys
  pub same : from_rank rank_of n (flat ys) ≡ from_rank rank_of n (flat ls)
  pub bytes : bytes_of (flat ls) ≡ bytes_of (flat xs) + bytes_of (flat ys)
  pub fragments : length (flat ls) ≡ length (flat xs) + length (flat ys)
  pub small : AreIndexed (flat ls) → AreIndexed (flat ys)
  pub none : NoneComplete ls → NoneComplete ys

pub leaves : (n : ℕ) (ls xs ys : List (List Held)) → AreRuns rank_of goes_on None ls → ls ≡ xs ++ ys → first_below n ys ≡ true → Leaves n ls xs ys
leaves n ls xs ys h is below =
    let both : AreRuns rank_of goes_on None (xs ++ ys) = subst (AreRuns rank_of goes_on None) is h in
    let back : AreRuns rank_of goes_on (end_of None xs) ys = AreRuns_back rank_of goes_on None xs ys both in
    let low : AllBelow rank_of n (flat xs) = AllBelow_runs rank_of goes_on None n xs (AreRuns_front rank_of goes_on None xs ys both) (end_low n (end_of None xs) ys back below) in
    let all : flat ls ≡ flat xs ++ flat ys = ap flat is ∙ flat_append xs ys in
    record {
      runs = first_runs rank_of goes_on (end_of None xs) ys back;
      same = sym (ap (from_rank rank_of n) all ∙ drops_front n (flat xs) (flat ys) low);
      bytes = ap bytes_of all ∙ bytes_of_append (flat xs) (flat ys);
      fragments = ap length all ∙ length-append (flat xs) (flat ys);
      small = λ s. indexed_back (flat xs) (flat ys) (subst AreIndexed all s);
      none = λ s. none_back _ xs ys (subst NoneComplete is s);
    }

-- ---- what a map has below a key

last_passes : {K X : Type 0} (P : K → Type 0) (front : List (K × X)) (k : K) (x : X) → All P (keys_of (front ++ (k, x) ∷ [])) → P k
last_passes P [] k x all = All-head P k [] all
last_passes P (e ∷ front) k x all = last_passes P front k x (All-tail P e.0 (keys_of (front ++ (k, x) ∷ [])) all)

apart : false ≡ true → ⊥
apart h = cc

gt_rank : {K : Type 0} (cmp : K → K → Ordering) (is_key : K → Type 0) (rank : K → ℕ) (by_rank : (x y : K) → is_key x → is_key y → cmp x y ≡ nat_cmp (rank x) (rank y)) (k a : K) → is_key k → is_key a → is_gt (cmp k a) ≡ true → rank a < rank k
gt_rank cmp is_key rank by_rank k a p q gt = elim (cases_lt (rank a) (rank k)) [
  | inl l ↦ l
  | inr l ↦ elim (cases_lt (rank k) (rank a)) [
    | inl m ↦ absurd (apart (sym (ap is_gt (cmp_less cmp is_key rank by_rank k a p q m)) ∙ gt))
    | inr m ↦ absurd (apart (sym (ap is_gt (cmp_same cmp is_key rank by_rank k a p q (omega (arith, l, m)))) ∙ gt))
  ]
]

module _ {K : Type 0} (is_key : K → Type 0) (number index : K → ℕ) where
  abbrev f : Entry K → Held
  f = held_of number index

  begins_low : (n : ℕ) (k : K) (i : Interval K) (rest : List (K × Interval K)) → IsWithin (rank_at number index k) (run_of f i) → rank_at number index k < n → first_below n (lists_of f (all_of (Some i) rest)) ≡ true
  begins_low n k i rest within less =
      let c = cons (run_of f i) (some_run f i) in
      let w = subst (IsWithin (rank_at number index k)) c.is within in
      ap (λ (r : List Held). first_below n (r ∷ runs_at number index rest)) c.is ∙ lt-ltb (rank_of c.head) n (omega (arith, w.0, less))

  all_cut : (first : Option (Interval K)) (old low rest front : List (K × Interval K)) (k : K) (i : Interval K) → old ≡ low ++ rest → low ≡ front ++ (k, i) ∷ []
      → lists_of f (all_of first old) ≡ lists_of f (all_of first front) ++ lists_of f (all_of (Some i) rest)
  all_cut first old low rest front k i is last = go first
    where
      whole : runs_at number index old ≡ runs_at number index front ++ runs_at number index ((k, i) ∷ rest)
      whole = ap (runs_at number index) (is ∙ (ap (λ (t : List (K × Interval K)). t ++ rest) last ∙ append_assoc front ((k, i) ∷ []) rest)) ∙ runs_append is_key number index front ((k, i) ∷ rest)

      go : (first : Option (Interval K)) → lists_of f (all_of first old) ≡ lists_of f (all_of first front) ++ lists_of f (all_of (Some i) rest)
      go None = whole
      go (Some j) = ap (λ (t : List (List Held)). run_of f j ∷ t) whole

  -- the last interval under a key below n is the first that stays
  pub record LowCut (n : ℕ) (first : Option (Interval K)) (old front rest : List (K × Interval K)) (i : Interval K) : Type 0 where
    pub is : lists_of f (all_of first old) ≡ lists_of f (all_of first front) ++ lists_of f (all_of (Some i) rest)
    pub below : first_below n (lists_of f (all_of (Some i) rest)) ≡ true
    pub named : AreNamed is_key number index rest

  pub low_cut : (cmp : K → K → Ordering) (by_rank : (x y : K) → is_key x → is_key y → cmp x y ≡ nat_cmp (rank_at number index x) (rank_at number index y)) (key : K) → is_key key → (first : Option (Interval K)) (old low rest front : List (K × Interval K)) (k : K) (i : Interval K)
      → old ≡ low ++ rest → low ≡ front ++ (k, i) ∷ [] → AreNamed is_key number index old → All (λ q. is_gt (cmp key q) ≡ true) (keys_of low) → LowCut (rank_at number index key) first old front rest i
  low_cut cmp by_rank key known first old low rest front k i is last named gt =
      let both = subst (AreNamed is_key number index) is named in
      let lows : AreNamed is_key number index (front ++ (k, i) ∷ []) = subst (AreNamed is_key number index) last (named_front is_key number index low rest both) in
      let more : is_gt (cmp key k) ≡ true = last_passes (λ q. is_gt (cmp key q) ≡ true) front k i (subst (λ (t : List (K × Interval K)). All (λ q. is_gt (cmp key q) ≡ true) (keys_of t)) last gt) in
      record {
        is = all_cut first old low rest front k i is last;
        below = begins_low (rank_at number index key) k i rest (named_mid is_key number index front [] k i lows) (gt_rank cmp is_key (rank_at number index) by_rank key k known (named_key is_key number index front [] (k, i) lows) more);
        named = named_back is_key number index low rest both;
      }

-- ---- sums

module _ {K : Type 0} (f : Entry K → Held) where
  entries_append : (xs ys : List (Interval K)) → entries_of f (xs ++ ys) ≡ entries_of f xs ++ entries_of f ys
  entries_append [] ys = refl
  entries_append (x ∷ xs) ys = ap (λ (t : List Held). run_of f x ++ t) (entries_append xs ys) ∙ sym (append_assoc (run_of f x) (entries_of f xs) (entries_of f ys))

  pub record IsSummed (vs front rest : List (Interval K)) (i : Interval K) : Type 0 where
    pub bytes : bytes_of (entries_of f vs) ≡ bytes_of (entries_of f front) + (bytes_of (run_of f i) + bytes_of (entries_of f rest))
    pub fragments : length (entries_of f vs) ≡ length (entries_of f front) + (length (run_of f i) + length (entries_of f rest))
    pub bytes_on : bytes_of (entries_of f (front ++ i ∷ [])) ≡ bytes_of (entries_of f front) + bytes_of (run_of f i)
    pub fragments_on : length (entries_of f (front ++ i ∷ [])) ≡ length (entries_of f front) + length (run_of f i)
    pub on : vs ≡ (front ++ i ∷ []) ++ rest

  pub summed : (vs front rest : List (Interval K)) (i : Interval K) → vs ≡ front ++ i ∷ rest → IsSummed vs front rest i
  summed vs front rest i is =
      let all : entries_of f vs ≡ entries_of f front ++ (run_of f i ++ entries_of f rest) = ap (entries_of f) is ∙ entries_append front (i ∷ rest) in
      let on : entries_of f (front ++ i ∷ []) ≡ entries_of f front ++ (run_of f i ++ []) = entries_append front (i ∷ []) in
      record {
        bytes = omega (arith, ap bytes_of all, bytes_of_append (entries_of f front) (run_of f i ++ entries_of f rest), bytes_of_append (run_of f i) (entries_of f rest));
        fragments = omega (arith, ap length all, length-append (entries_of f front) (run_of f i ++ entries_of f rest), length-append (run_of f i) (entries_of f rest));
        bytes_on = omega (arith, ap bytes_of on, bytes_of_append (entries_of f front) (run_of f i ++ []), bytes_of_append (run_of f i) []);
        fragments_on = omega (arith, ap length on, length-append (entries_of f front) (run_of f i ++ []), length-append (run_of f i) []);
        on = is ∙ sym (append_assoc front (i ∷ []) rest);
      }

  pub later_bytes : (first : Option (Interval K)) (later : List (K × Interval K)) → bytes_of (entries_of f (values_of later)) ≤ bytes_of (entries_of f (all_of first later))
  later_bytes None later = omega arith
  later_bytes (Some i) later = omega (arith, bytes_of_append (run_of f i) (entries_of f (values_of later)))

  pub first_bytes : (i : Interval K) (first : Option (Interval K)) (later : List (K × Interval K)) → first ≡ Some i → bytes_of (entries_of f (all_of first later)) ≡ bytes_of (run_of f i) + bytes_of (entries_of f (values_of later))
  first_bytes i first later is = ap (λ (o : Option (Interval K)). bytes_of (entries_of f (all_of o later))) is ∙ bytes_of_append (run_of f i) (entries_of f (values_of later))
