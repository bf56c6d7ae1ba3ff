-- Where a number is added to a map of runs: at the run before it, and with the one behind it.
use Rattle.std.proofs.Common.{◌≡◌, ◌≢◌, ℕ, zero, suc, ◌+◌, ◌<◌, ◌≤◌, Bool, true, false, not, ltb, ◌&&◌, ◌||◌, ◌==◌, if◌then◌else◌, cond, map, max, length, take, drop, get_or, List, [], ◌∷◌, ◌++◌, refl, sym, ap, ◌∙◌, subst, inl, inr, arith}
use Rattle.std.specs.Prelude.{Some, None, unwrap_or, slice_get}
use Rattle.std.specs.List.{All}
use Rattle.std.specs.Map.{lookup, remove_entry, keys_of}
use Rattle.std.proofs.Common.{Ordering, Equal, Greater}
use Rattle.std.specs.Ordering.{is_eq, is_gt, is_lt, nat_cmp, match_ordering}
use Rattle.std.specs.BTreeMap.{is_at, insert_entry}
use Rattle.std.specs.BTreeMap.Range.{entries_between}
use Rattle.std.specs.declared.ops.Bound.TheVariants.{Unbounded, Included}
use Rattle.std.proofs.lemmas.Bool.{lt-ltb, le-ltb, ne_eqb, eq-eqb, lt-leb, le-leb, cases_lt, cases_eq, both_ways}
use Rattle.std.proofs.lemmas.Bool.Decides.{nat_tests}
use Rattle.std.proofs.lemmas.List.Elements.{All-head, All-tail}
use Rattle.sctp_rx.specs.Seen.{Run, in_runs, AreRuns, last_above}
use Rattle.sctp_rx.specs.SeenSteps.{Adds, Cuts, read, run_of, runs_of, last_entry, run_at, is_held, first_with, last_with}
use Rattle.sctp_rx.proofs.SeenEdits.{run, grown_to, add_here, add_number}
use Rattle.sctp_rx.proofs.SeenRunsLemmas.{le_last_above, adds}
use Rattle.sctp_rx.proofs.SeenPassingLemmas.{BeginUpTo, cuts}
use Rattle.sctp_rx.proofs.SeenOneFormLemmas.{before_first, past_last, within, later}
use Rattle.sctp_serial.proofs.NumberLemmas.{nat_cmp_less, at_other}

abbrev pub Entry : Type 0
Entry = ℕ × ℕ

-- ---- numbers as keys

nat_cmp_same : (k a : ℕ) → k ≡ a → nat_cmp k a ≡ Equal
nat_cmp_same k a e = rw (le-ltb k a (omega (arith, e)), eq-eqb k a e) refl

nat_cmp_more : (k a : ℕ) → a < k → nat_cmp k a ≡ Greater
nat_cmp_more k a h = rw (le-ltb k a (omega (arith, h)), ne_eqb k a (omega (arith, h))) refl

-- ---- what std's words do at the first entry

insert_past : (k v : ℕ) (e : Entry) (es : List Entry) → e.0 < k → insert_entry nat_cmp (e ∷ es) k v ≡ e ∷ insert_entry nat_cmp es k v
insert_past k v e es h = ap (λ (o : Ordering). match_ordering o ((k, v) ∷ e ∷ es) ((e.0, v) ∷ es) (e ∷ insert_entry nat_cmp es k v)) (nat_cmp_more k e.0 h)

insert_here : (k v : ℕ) (e : Entry) (es : List Entry) → k ≡ e.0 → insert_entry nat_cmp (e ∷ es) k v ≡ (e.0, v) ∷ es
insert_here k v e es h = ap (λ (o : Ordering). match_ordering o ((k, v) ∷ e ∷ es) ((e.0, v) ∷ es) (e ∷ insert_entry nat_cmp es k v)) (nat_cmp_same k e.0 h)

insert_before : (k v : ℕ) (e : Entry) (es : List Entry) → k < e.0 → insert_entry nat_cmp (e ∷ es) k v ≡ (k, v) ∷ e ∷ es
insert_before k v e es h = ap (λ (o : Ordering). match_ordering o ((k, v) ∷ e ∷ es) ((e.0, v) ∷ es) (e ∷ insert_entry nat_cmp es k v)) (nat_cmp_less k e.0 h)

remove_past : (k : ℕ) (e : Entry) (es : List Entry) → k ≢ e.0 → remove_entry (is_at (nat_cmp k)) (e ∷ es) ≡ e ∷ remove_entry (is_at (nat_cmp k)) es
remove_past k e es d = ap (λ (v : Bool). cond v es (e ∷ remove_entry (is_at (nat_cmp k)) es)) (at_other k e.0 d)

remove_here : (k : ℕ) (e : Entry) (es : List Entry) → k ≡ e.0 → remove_entry (is_at (nat_cmp k)) (e ∷ es) ≡ es
remove_here k e es h = ap (λ (o : Ordering). cond (is_eq o) es (e ∷ remove_entry (is_at (nat_cmp k)) es)) (nat_cmp_same k e.0 h)

lookup_past : (k : ℕ) (e : Entry) (es : List Entry) → k ≢ e.0 → lookup (is_at (nat_cmp k)) (e ∷ es) ≡ lookup (is_at (nat_cmp k)) es
lookup_past k e es d = ap (λ (v : Bool). cond v (Some e.1) (lookup (is_at (nat_cmp k)) es)) (at_other k e.0 d)

lookup_here : (k : ℕ) (e : Entry) (es : List Entry) → k ≡ e.0 → lookup (is_at (nat_cmp k)) (e ∷ es) ≡ Some e.1
lookup_here k e es h = ap (λ (o : Ordering). cond (is_eq o) (Some e.1) (lookup (is_at (nat_cmp k)) es)) (nat_cmp_same k e.0 h)

lookup_above : (q k : ℕ) (es : List Entry) → AreRuns q (runs_of es) → k ≤ q + 1 → lookup (is_at (nat_cmp k)) es ≡ None
lookup_above q k [] r h = refl
lookup_above q k (e ∷ es) r h = lookup_past k e es (omega (arith, r.0, h)) ∙ lookup_above e.1 k es r.2 (omega (arith, r.0, r.1, h))

abbrev begun : ℕ → List Entry → List Entry
begun n es = entries_between nat_cmp Unbounded (Included n) es

begun_past : (n : ℕ) (e : Entry) (es : List Entry) → e.0 ≤ n → begun n (e ∷ es) ≡ e ∷ begun n es
begun_past n e es h =
    elim (cases_lt e.0 n) [
      | inl less ↦ ap (λ (o : Ordering). cond (true && not (is_lt o)) (e ∷ begun n es) (begun n es)) (nat_cmp_more n e.0 less)
      | inr more ↦ ap (λ (o : Ordering). cond (true && not (is_lt o)) (e ∷ begun n es) (begun n es)) (nat_cmp_same n e.0 (omega (arith, h, more)))
    ]

begun_behind : (n : ℕ) (e : Entry) (es : List Entry) → n < e.0 → begun n (e ∷ es) ≡ begun n es
begun_behind n e es h = ap (λ (o : Ordering). cond (true && not (is_lt o)) (e ∷ begun n es) (begun n es)) (nat_cmp_less n e.0 h)

begun_none : (q n : ℕ) (es : List Entry) → AreRuns q (runs_of es) → n ≤ q + 1 → begun n es ≡ []
begun_none q n [] r h = refl
begun_none q n (e ∷ es) r h = begun_behind n e es (omega (arith, r.0, h)) ∙ begun_none e.1 n es r.2 (omega (arith, r.0, r.1, h))

pub last_entry_end : (t : List Entry) (e : Entry) → last_entry (t ++ e ∷ []) ≡ Some e
last_entry_end [] e = refl
last_entry_end (x ∷ []) e = refl
last_entry_end (x ∷ y ∷ t) e = last_entry_end (y ∷ t) e

-- ---- the run that is written

-- the entries with a run from first to last, which takes in the one that begins behind n
abbrev pub written : (n first last : ℕ) → List Entry → List Entry
written n first last es =
    cond (ltb n last) (remove_entry (is_at (nat_cmp (n + 1))) (insert_entry nat_cmp es first last)) (insert_entry nat_cmp es first last)

pub written_joined : (n first last : ℕ) (es : List Entry) → n < last → written n first last es ≡ remove_entry (is_at (nat_cmp (n + 1))) (insert_entry nat_cmp es first last)
written_joined n first last es h = ap (λ (v : Bool). cond v (remove_entry (is_at (nat_cmp (n + 1))) (insert_entry nat_cmp es first last)) (insert_entry nat_cmp es first last)) (lt-ltb n last h)

pub written_put : (n first last : ℕ) (es : List Entry) → last ≤ n → written n first last es ≡ insert_entry nat_cmp es first last
written_put n first last es h = ap (λ (v : Bool). cond v (remove_entry (is_at (nat_cmp (n + 1))) (insert_entry nat_cmp es first last)) (insert_entry nat_cmp es first last)) (le-ltb n last h)

written_alone : (n first : ℕ) (es : List Entry) → written n first n es ≡ insert_entry nat_cmp es first n
written_alone n first es = written_put n first n es (omega arith)

written_past : (n first last : ℕ) (e : Entry) (es : List Entry) → e.0 < first → e.0 < n → written n first last (e ∷ es) ≡ e ∷ written n first last es
written_past n first last e es h k =
    elim (cases_lt n last) [
      | inl longer ↦
          written_joined n first last (e ∷ es) longer
          ∙ (ap (λ z. remove_entry (is_at (nat_cmp (n + 1))) z) (insert_past first last e es h)
          ∙ (remove_past (n + 1) e (insert_entry nat_cmp es first last) (omega (arith, k))
          ∙ ap (λ z. e ∷ z) (sym (written_joined n first last es longer))))
      | inr alone ↦ written_put n first last (e ∷ es) alone ∙ (insert_past first last e es h ∙ ap (λ z. e ∷ z) (sym (written_put n first last es alone)))
    ]

-- ---- the run that is found

-- one that ends before n - 1 doesn't count
held_past : (n : ℕ) (e : Entry) (fs : List Entry) → e.1 + 1 < n → is_held n (last_entry (e ∷ fs)) ≡ is_held n (last_entry fs)
held_past n e [] h = lt-leb n e.1 (omega (arith, h))
held_past n e (f ∷ fs) h = refl

first_past : (n : ℕ) (e : Entry) (fs : List Entry) → e.1 + 1 < n → first_with n (last_entry (e ∷ fs)) ≡ first_with n (last_entry fs)
first_past n e [] h = ap (λ (v : Bool). cond v e.0 n) (ne_eqb n (suc e.1) (omega (arith, h)))
first_past n e (f ∷ fs) h = refl

-- the run begins above what lies below
first_above : (low q n : ℕ) (es : List Entry) → AreRuns q (runs_of es) → low ≤ q → low < n → low < first_with n (run_at n es)
first_above low q n [] r l h = h
first_above low q n (e ∷ es) r l h =
    elim (cases_lt n e.0) [
      | inl less ↦ subst (λ (z : List Entry). low < first_with n (last_entry z)) (sym (begun_behind n e es less)) (first_above low e.1 n es r.2 (omega (arith, l, r.0, r.1)) h)
      | inr more ↦ subst (λ (z : List Entry). low < first_with n (last_entry z)) (sym (begun_past n e es more)) (either (begun n es) (first_above low e.1 n es r.2 (omega (arith, l, r.0, r.1)) h))
    ]
  where
    either : (fs : List Entry) → low < first_with n (last_entry fs) → low < first_with n (last_entry (e ∷ fs))
    either (f ∷ fs) k = k
    either [] k = one (n == suc e.1)
      where
        one : (v : Bool) → low < (if v then e.0 else n)
        one true = omega (arith, l, r.0)
        one false = h

-- ---- the number is added

record Put (n : ℕ) (es : List Entry) : Type 0 where
  held : is_held n (run_at n es) ≡ in_runs (runs_of es) n
  added : in_runs (runs_of es) n ≡ false → runs_of (written n (first_with n (run_at n es)) (last_with n es) es) ≡ add_number n (runs_of es)

finish : (n first last : ℕ) (es zs : List Entry) → first_with n (run_at n es) ≡ first → last_with n es ≡ last → written n first last es ≡ zs → runs_of zs ≡ add_number n (runs_of es)
    → runs_of (written n (first_with n (run_at n es)) (last_with n es) es) ≡ add_number n (runs_of es)
finish n first last es zs f l w a =
    ap (λ x. runs_of (written n x (last_with n es) es)) f ∙ (ap (λ y. runs_of (written n first y es)) l ∙ (ap runs_of w ∙ a))

add_here_before : (n : ℕ) (b : Run) (rs : List Run) → n + 1 < b.first → add_here n b rs ≡ run n n ∷ (b ∷ rs)
add_here_before n b rs h = rw (lt-ltb (n + 1) b.first h)

add_here_first : (n : ℕ) (b : Run) (rs : List Run) → n + 1 ≡ b.first → add_here n b rs ≡ run n b.last ∷ rs
add_here_first n b rs h = rw (le-ltb (n + 1) b.first (omega arith), eq-eqb (n + 1) b.first h)

add_here_after : (n : ℕ) (b : Run) (rs : List Run) → b.first ≤ n → b.last < n → add_here n b rs ≡ grown_to b.first n rs
add_here_after n b rs h k = rw (le-ltb (n + 1) b.first (omega arith), ne_eqb (n + 1) b.first (omega arith), lt-leb n b.last k)

grown_to_joins : (f n : ℕ) (c : Run) (qs : List Run) → c.first ≡ n + 1 → grown_to f n (c ∷ qs) ≡ run f c.last ∷ qs
grown_to_joins f n c qs h = rw (eq-eqb c.first (n + 1) h)

grown_to_apart : (f n : ℕ) (c : Run) (qs : List Run) → c.first ≢ n + 1 → grown_to f n (c ∷ qs) ≡ run f n ∷ (c ∷ qs)
grown_to_apart f n c qs h = rw (ne_eqb c.first (n + 1) h)

-- behind a run that ends before n - 1
put_past : (n : ℕ) (e : Entry) (es : List Entry) → AreRuns e.1 (runs_of es) → e.0 ≤ e.1 → e.1 + 1 < n → Put n es → Put n (e ∷ es)
put_past n e es r o past p =
    let split = begun_past n e es (omega (arith, o, past)) in
    let behind : in_runs (run_of e ∷ runs_of es) n ≡ in_runs (runs_of es) n = later n (run_of e) (runs_of es) (omega (arith, past)) in
    let f = first_with n (run_at n es) in
    let l = last_with n es in
    let firsts = ap (λ z. first_with n (last_entry z)) split ∙ first_past n e (begun n es) past in
    let lasts = ap (λ z. unwrap_or z n) (lookup_past (n + 1) e es (omega (arith, o, past))) in
    let here : add_number n (run_of e ∷ runs_of es) ≡ run_of e ∷ add_number n (runs_of es) = ap (λ (v : Bool). cond v (run_of e ∷ add_number n (runs_of es)) (add_here n (run_of e) (runs_of es))) (lt-ltb (e.1 + 1) n past) in
    record {
      held = ap (λ z. is_held n (last_entry z)) split ∙ (held_past n e (begun n es) past ∙ (p.held ∙ sym behind));
      added = λ h.
          ap (λ x. runs_of (written n x (last_with n (e ∷ es)) (e ∷ es))) firsts
          ∙ (ap (λ y. runs_of (written n f y (e ∷ es))) lasts
          ∙ (ap runs_of (written_past n f l e es (first_above e.0 e.1 n es r o (omega (arith, o, past))) (omega (arith, o, past)))
          ∙ (ap (λ z. run_of e ∷ z) (p.added (sym behind ∙ h)) ∙ sym here)));
    }

module _ (q n : ℕ) (e : Entry) (es : List Entry) (r : AreRuns q (runs_of (e ∷ es))) (here : n ≤ e.1 + 1) where
  at_here : add_number n (runs_of (e ∷ es)) ≡ add_here n (run_of e) (runs_of es)
  at_here = ap (λ (v : Bool). cond v (run_of e ∷ add_number n (runs_of es)) (add_here n (run_of e) (runs_of es))) (le-ltb (e.1 + 1) n here)

  none : begun n es ≡ []
  none = begun_none e.1 n es r.2 here

  -- before the run
  put_before : n < e.0 → Put n (e ∷ es)
  put_before before = record {
    held = ap (is_held n) at ∙ sym (before_first q n (run_of e) (runs_of es) r before);
    added = λ h. elim (cases_lt (n + 1) e.0) [ inl apart ↦ alone apart | inr touches ↦ joined (omega (arith, before, touches)) ];
  }
    where
      at : run_at n (e ∷ es) ≡ None
      at = ap last_entry (begun_behind n e es before ∙ none)

      alone : n + 1 < e.0 → runs_of (written n (first_with n (run_at n (e ∷ es))) (last_with n (e ∷ es)) (e ∷ es)) ≡ add_number n (runs_of (e ∷ es))
      alone apart =
          let free = lookup_past (n + 1) e es (omega (arith, apart)) ∙ lookup_above e.1 (n + 1) es r.2 (omega (arith, before, r.1)) in
          finish n n n (e ∷ es) ((n, n) ∷ e ∷ es) (ap (first_with n) at) (ap (λ z. unwrap_or z n) free)
          (written_alone n n (e ∷ es) ∙ insert_before n n e es before) (sym (at_here ∙ add_here_before n (run_of e) (runs_of es) apart))

      joined : n + 1 ≡ e.0 → runs_of (written n (first_with n (run_at n (e ∷ es))) (last_with n (e ∷ es)) (e ∷ es)) ≡ add_number n (runs_of (e ∷ es))
      joined touches =
          finish n n e.1 (e ∷ es) ((n, e.1) ∷ es) (ap (first_with n) at) (ap (λ z. unwrap_or z n) (lookup_here (n + 1) e es touches))
          (written_joined n n e.1 (e ∷ es) (omega (arith, before, r.1))
          ∙ (ap (λ z. remove_entry (is_at (nat_cmp (n + 1))) z) (insert_before n e.1 e es before)
          ∙ (remove_past (n + 1) (n, e.1) (e ∷ es) (omega arith) ∙ ap (λ z. (n, e.1) ∷ z) (remove_here (n + 1) e es touches))))
          (sym (at_here ∙ add_here_first n (run_of e) (runs_of es) touches))

  module _ (started : e.0 ≤ n) where
    at : run_at n (e ∷ es) ≡ Some e
    at = ap last_entry (begun_past n e es started ∙ ap (λ z. e ∷ z) none)

    -- in the run
    put_within : n ≤ e.1 → Put n (e ∷ es)
    put_within inside =
        let there : in_runs (runs_of (e ∷ es)) n ≡ true = within n (run_of e) (runs_of es) started inside in
        record {
          held = ap (is_held n) at ∙ (le-leb n e.1 inside ∙ sym there);
          added = λ h. absurd (both_ways _ h there);
        }

    -- right behind the run
    module _ (ends : e.1 < n) where
      first_is : first_with n (run_at n (e ∷ es)) ≡ e.0
      first_is = ap (first_with n) at ∙ ap (λ (v : Bool). cond v e.0 n) (eq-eqb n (suc e.1) (omega (arith, ends, here)))

      grows : add_number n (runs_of (e ∷ es)) ≡ grown_to e.0 n (runs_of es)
      grows = at_here ∙ add_here_after n (run_of e) (runs_of es) started ends

      held_is : is_held n (run_at n (e ∷ es)) ≡ in_runs (runs_of (e ∷ es)) n
      held_is =
          let next : e.1 + 1 ≡ n = omega (arith, ends, here) in
          ap (is_held n) at ∙ (lt-leb n e.1 ends ∙ sym (ap (in_runs (runs_of (e ∷ es))) (sym next) ∙ past_last q (run_of e) (runs_of es) r))

      -- no run begins right behind n
      grown_alone : lookup (is_at (nat_cmp (n + 1))) es ≡ None → grown_to e.0 n (runs_of es) ≡ run e.0 n ∷ runs_of es
          → runs_of (written n (first_with n (run_at n (e ∷ es))) (last_with n (e ∷ es)) (e ∷ es)) ≡ add_number n (runs_of (e ∷ es))
      grown_alone free apart =
          finish n e.0 n (e ∷ es) ((e.0, n) ∷ es) first_is (ap (λ z. unwrap_or z n) (lookup_past (n + 1) e es (omega (arith, started)) ∙ free))
          (written_alone n e.0 (e ∷ es) ∙ insert_here e.0 n e es refl) (sym (grows ∙ apart))

  -- one does
  grown_joined : (f : Entry) (fs : List Entry) → e.0 ≤ n → e.1 < n → es ≡ f ∷ fs → f.0 ≡ n + 1 → f.0 ≤ f.1
      → runs_of (written n (first_with n (run_at n (e ∷ es))) (last_with n (e ∷ es)) (e ∷ es)) ≡ add_number n (runs_of (e ∷ es))
  grown_joined f fs started ends split touches full =
      let found : lookup (is_at (nat_cmp (n + 1))) es ≡ Some f.1 = ap (λ z. lookup (is_at (nat_cmp (n + 1))) z) split ∙ lookup_here (n + 1) f fs (sym touches) in
      let taken : remove_entry (is_at (nat_cmp (n + 1))) es ≡ fs = ap (λ z. remove_entry (is_at (nat_cmp (n + 1))) z) split ∙ remove_here (n + 1) f fs (sym touches) in
      let wide : grown_to e.0 n (runs_of es) ≡ run e.0 f.1 ∷ runs_of fs = ap (λ z. grown_to e.0 n (runs_of z)) split ∙ grown_to_joins e.0 n (run_of f) (runs_of fs) touches in
      finish n e.0 f.1 (e ∷ es) ((e.0, f.1) ∷ fs) (first_is started ends) (ap (λ z. unwrap_or z n) (lookup_past (n + 1) e es (omega (arith, started)) ∙ found))
      (written_joined n e.0 f.1 (e ∷ es) (omega (arith, touches, full))
      ∙ (ap (λ z. remove_entry (is_at (nat_cmp (n + 1))) z) (insert_here e.0 f.1 e es refl)
      ∙ (remove_past (n + 1) (e.0, f.1) es (omega (arith, started)) ∙ ap (λ z. (e.0, f.1) ∷ z) taken)))
      (sym (grows started ends ∙ wide))

put_behind : (q n : ℕ) (e : Entry) (es : List Entry) → AreRuns q (runs_of (e ∷ es)) → n ≤ e.1 + 1 → e.0 ≤ n → e.1 < n → Put n (e ∷ es)
put_behind q n e [] r here started ends = record { held = held_is q n e [] r here started ends; added = λ h. grown_alone q n e [] r here started ends refl refl }
put_behind q n e (f ∷ fs) r here started ends =
    let next = r.2 in
    record {
      held = held_is q n e (f ∷ fs) r here started ends;
      added = λ h.
          elim (cases_lt (n + 1) f.0) [
            | inl apart ↦
                grown_alone q n e (f ∷ fs) r here started ends
                (lookup_past (n + 1) f fs (omega (arith, apart)) ∙ lookup_above f.1 (n + 1) fs next.2 (omega (arith, apart, next.1)))
                (grown_to_apart e.0 n (run_of f) (runs_of fs) (omega (arith, apart)))
            | inr touches ↦ grown_joined q n e (f ∷ fs) r here f fs started ends refl (omega (arith, touches, next.0, ends)) next.1
          ];
    }

put : (q n : ℕ) (es : List Entry) → AreRuns q (runs_of es) → Put n es
put q n [] r = record { held = refl; added = λ h. ap runs_of (written_alone n n []) }
put q n (e ∷ es) r =
    elim (cases_lt (e.1 + 1) n) [
      | inl past ↦ put_past n e es r.2 r.1 past (put e.1 n es r.2)
      | inr here ↦
          elim (cases_lt n e.0) [
            | inl before ↦ put_before q n e es r here before
            | inr started ↦ elim (cases_lt e.1 n) [ inl ends ↦ put_behind q n e es r here started ends | inr inside ↦ put_within q n e es r here started inside ]
          ]
    ]

-- ---- what the code does

pub adds_written : (n first last : ℕ) (es new : List Entry) → AreRuns 0 (runs_of es) → is_held n (run_at n es) ≡ false → first ≡ first_with n (run_at n es) → last ≡ last_with n es → new ≡ written n first last es
    → Adds n (runs_of es) true (runs_of new)
adds_written n first last es new r free f l e =
    let p = put 0 n es r in
    let was = sym p.held ∙ free in
    let same = ap runs_of e ∙ (ap (λ x. runs_of (written n x last es)) f ∙ (ap (λ y. runs_of (written n (first_with n (run_at n es)) y es)) l ∙ p.added was)) in
    adds n (runs_of es) (runs_of new) false r same (sym was)

up_to_last : (p n : ℕ) (rs : List Run) → AreRuns p rs → in_runs rs n ≡ true → n ≤ last_above p rs
up_to_last p n [] r h = absurd (cc)
up_to_last p n (b ∷ rs) r h =
    elim (cases_lt b.last n) [
      | inl past ↦ up_to_last b.last n rs r.2 (sym (later n b rs past) ∙ h)
      | inr here ↦ omega (arith, here, le_last_above b.last rs r.2)
    ]

pub adds_held : (n : ℕ) (es : List Entry) → AreRuns 0 (runs_of es) → is_held n (run_at n es) ≡ true → Adds n (runs_of es) false (runs_of es)
adds_held n es r h =
    let there = sym (put 0 n es r).held ∙ h in
    record {
      answer = sym (ap not there);
      numbers = λ m. again m there;
      runs = λ below a l. a;
      last = λ below a l. highest below a there;
    }
  where
    again : (m : ℕ) → in_runs (runs_of es) n ≡ true → in_runs (runs_of es) m ≡ (m == n || in_runs (runs_of es) m)
    again m there =
        elim (cases_eq m n) [
          | inl e ↦ rw (eq-eqb m n e) (ap (in_runs (runs_of es)) e ∙ there)
          | inr d ↦ rw (ne_eqb m n d) refl
        ]

    highest : (below : ℕ) → AreRuns below (runs_of es) → in_runs (runs_of es) n ≡ true → last_above below (runs_of es) ≡ max n (last_above below (runs_of es))
    highest below a there = omega (arith, up_to_last below n (runs_of es) a there)

-- the first run, and the others
pub at_front : (es new : List Entry) (e : Entry) → slice_get es 0 ≡ Some e → new ≡ drop 1 es → runs_of es ≡ run_of e ∷ runs_of new
at_front [] new e h d = absurd (cc)
at_front (x ∷ es) new e h d =
    let same : x ≡ e = ap (λ o. unwrap_or o x) h in
    let rest : es ≡ new = sym d in
    ap (λ y. run_of y ∷ runs_of es) same ∙ ap (λ z. run_of e ∷ runs_of z) rest

pub apart : (p : ℕ) (es : List Entry) (e : Entry) → slice_get es 0 ≡ Some e → AreRuns 0 (runs_of es) → p + 1 < e.0 → AreRuns p (runs_of es)
apart p [] e h r far = absurd (cc)
apart p (x ∷ es) e h r far =
    let same : x ≡ e = ap (λ o. unwrap_or o x) h in
    let first : x.0 ≡ e.0 = ap (λ (y : Entry). y.0) same in
    (omega (arith, first, far), r.1, r.2)

pub none_left : (p : ℕ) (es : List Entry) → slice_get es 0 ≡ None → AreRuns p (runs_of es)
none_left p [] h = tt
none_left p (x ∷ es) h = absurd (cc)

-- each run lies above the front
pub run_above : (p k : ℕ) (es : List Entry) (d : Entry) → AreRuns p (runs_of es) → k < length es → (p < (get_or es k d).0) × ((get_or es k d).0 ≤ (get_or es k d).1)
run_above p k [] d r l = absurd (omega arith)
run_above p zero (e ∷ es) d r l = (omega arith, r.1)
run_above p (suc k) (e ∷ es) d r l =
    let more = run_above e.1 k es d r.2 (omega arith) in
    (omega (arith, more.0, r.0, r.1), more.1)

pub runs_of_read : (n : ℕ) (es : List Entry) → runs_of (take n (map read es)) ≡ take n (runs_of es)
runs_of_read zero es = refl
runs_of_read (suc n) [] = refl
runs_of_read (suc n) (e ∷ es) = ap (λ z. run_of e ∷ z) (runs_of_read n es)

pub AreRuns_take : (p n : ℕ) (rs : List Run) → AreRuns p rs → AreRuns p (take n rs)
AreRuns_take p zero rs r = tt
AreRuns_take p (suc n) [] r = tt
AreRuns_take p (suc n) (b ∷ rs) r = (r.0, r.1, AreRuns_take b.last n rs r.2)

-- ---- the runs that begin at p or below it go out together

below : (a b : ℕ) → is_gt (nat_cmp a b) ≡ true → b < a
below a b gt = elim (cases_lt b a) [ inl less ↦ less | inr more ↦ absurd (apart_from more) ]
  where
    apart_from : a ≤ b → ⊥
    apart_from m = grind (arith, nat_tests)

begin_low : (p : ℕ) (es : List Entry) → All (λ q. is_gt (nat_cmp (p + 1) q) ≡ true) (keys_of es) → BeginUpTo p (runs_of es)
begin_low p [] all = tt
begin_low p (e ∷ es) all =
    (omega (arith, below (p + 1) e.0 (All-head (λ q. is_gt (nat_cmp (p + 1) q) ≡ true) e.0 (keys_of es) all)), begin_low p es (All-tail (λ q. is_gt (nat_cmp (p + 1) q) ≡ true) e.0 (keys_of es) all))

runs_append : (xs ys : List Entry) → runs_of (xs ++ ys) ≡ runs_of xs ++ runs_of ys
runs_append [] ys = refl
runs_append (x ∷ xs) ys = ap (λ z. run_of x ∷ z) (runs_append xs ys)

last_end : (c : ℕ) (front : List Entry) (k l : ℕ) → last_above c (runs_of (front ++ (k, l) ∷ [])) ≡ l
last_end c [] k l = refl
last_end c (e ∷ front) k l = last_end e.1 front k l

pub cut_at : (p q : ℕ) (old low rest front : List Entry) (k l : ℕ) → old ≡ low ++ rest → low ≡ front ++ (k, l) ∷ [] → All (λ n. is_gt (nat_cmp (p + 1) n) ≡ true) (keys_of low) → q ≡ max p l → AreRuns 0 (runs_of old)
    → Cuts p (runs_of old) q (runs_of rest)
cut_at p q old low rest front k l is last gt reach r =
    cuts p q (runs_of old) (runs_of low) (runs_of rest) (ap runs_of is ∙ runs_append low rest) (begin_low p low gt)
    (reach ∙ ap (max p) (sym (ap (λ (t : List Entry). last_above 0 (runs_of t)) last ∙ last_end 0 front k l))) r
