-- The next stream: the best of the finish times is ahead of all, and is the first turn of the index.
use Rattle.std.proofs.Common.{◌≡◌, ℕ, ◌<◌, ◌≤◌, Bool, true, false, cond, List, [], ◌∷◌, Option, Some, None, is_some, refl, ap, sym, subst, ◌∙◌, inl, inr, arith, ◌⊎◌, Less, Equal, Greater, IsTrue, option_map, ◌==◌}
use Rattle.std.proofs.lemmas.Bool.{lt-ltb, le-ltb, eq-eqb, eqb-true, cases_lt}
use Rattle.std.proofs.lemmas.Bool.Decides.{nat_tests}
use Rattle.std.specs.Ordering.{nat_cmp, is_gt, is_eq, match_ordering}
use Rattle.std.specs.declared.cmp.Ordering.{Ordering}
use Rattle.std.specs.List.{AllByRecursion, list_any}
use Rattle.std.specs.List.Sorted.{IsStrictlySortedBy}
use Rattle.std.specs.Map.{lookup, remove_entry, keys_of}
use Rattle.std.specs.BTreeMap.{is_at, insert_entry}
use Rattle.sctp_stream_scheduler.specs.StreamScheduler.{Times, Scheduler, best, IsAhead, IsNext, Indexes, finish_time, finish_now, is_time, is_active, leave, enter, accept, accepted_at, set_bytes_remaining, turn_cmp, stream_in}
use Rattle.sctp_serial.proofs.NumberLemmas.{is_less, equal_at, at_itself, is_equal}

apart : (k q : ℕ) → q < k → is_at (nat_cmp k) q ≡ false
apart k q l = grind (arith, nat_tests)

pub record Best (m : ℕ) (b r : ℕ × ℕ) (es : Times) : Type 0 where
  pub first : IsAhead r b
  pub others : AllByRecursion (IsAhead r) es
  pub there : (r ≡ b) ⊎ ((m < r.0) × (lookup (is_at (nat_cmp r.0)) es ≡ Some r.1))

through : (r e b : ℕ × ℕ) → IsAhead r e → e.1 < b.1 → IsAhead r b
through r e b (inl p) l = inl (omega (arith, p, l))
through r e b (inr p) l = inl (omega (arith, p.0, l))

later : (r b e : ℕ × ℕ) → IsAhead r b → b.0 < e.0 → b.1 ≤ e.1 → IsAhead r e
later r b e (inl p) k l = inl (omega (arith, p, l))
later r b e (inr p) k l =
    elim (cases_lt b.1 e.1) [
      | inl less ↦ inl (omega (arith, p.0, less))
      | inr more ↦ inr (omega (arith, p.0, l, more), omega (arith, p.1, k))
    ]

same : (b r : ℕ × ℕ) → Some b ≡ Some r → r ≡ b
same b r e = cc

at_head : (e r : ℕ × ℕ) (es : Times) → r ≡ e → lookup (is_at (nat_cmp r.0)) (e ∷ es) ≡ Some r.1
at_head e r es h = rw (h, at_itself e.0) refl

behind : (e r : ℕ × ℕ) (es : Times) → e.0 < r.0 → lookup (is_at (nat_cmp r.0)) es ≡ Some r.1 → lookup (is_at (nat_cmp r.0)) (e ∷ es) ≡ Some r.1
behind e r es l h = rw (apart r.0 e.0 l) h

pub best_is : (m : ℕ) (b r : ℕ × ℕ) (es : Times) → IsStrictlySortedBy nat_cmp (m ∷ keys_of es) → b.0 ≤ m → best (Some b) es ≡ Some r → Best m b r es
unfolding IsStrictlySortedBy
best_is m b r [] s l h =
    let e : r ≡ b = same b r h in
    record { first = subst (λ x. IsAhead x b) (sym e) (inr (refl, omega arith)); others = tt; there = inl e }
best_is m b r (e ∷ es) s l h =
    let m_e : m < e.0 = is_less m e.0 s.0.0 in
    elim (cases_lt e.1 b.1) [
      | inl less ↦
          let ih = best_is e.0 e r es s.1 (omega arith) (ap (λ x. best (cond x (Some e) (Some b)) es) (sym (lt-ltb _ _ less)) ∙ h) in
          record {
            first = through r e b ih.first less;
            others = (ih.first, ih.others);
            there = elim ih.there [
              | inl q ↦ inr (omega (arith, m_e, ap (λ x. x.0) q), at_head e r es q)
              | inr q ↦ inr (omega (arith, m_e, q.0), behind e r es q.0 q.1)
            ];
          }
      | inr more ↦
          let ih = best_is e.0 b r es s.1 (omega (arith, l, m_e)) (ap (λ x. best (cond x (Some e) (Some b)) es) (sym (le-ltb _ _ more)) ∙ h) in
          record {
            first = ih.first;
            others = (later r b e ih.first (omega (arith, l, m_e)) more, ih.others);
            there = elim ih.there [
              | inl q ↦ inl q
              | inr q ↦ inr (omega (arith, m_e, q.0), behind e r es q.0 q.1)
            ];
          }
    ]

pub next_is : (id finish : ℕ) (es : Times) → IsStrictlySortedBy nat_cmp (keys_of es) → best None es ≡ Some (id, finish) → IsNext es id
next_is id finish [] s h = absurd (cc)
next_is id finish (e ∷ es) s h =
    let b = best_is e.0 e (id, finish) es s (omega arith) h in
    elim b.there [
      | inl q ↦ (finish, at_head e (id, finish) es q, (b.first, b.others))
      | inr q ↦ (finish, behind e (id, finish) es q.0 q.1, (b.first, b.others))
    ]

never : (b : ℕ × ℕ) (es : Times) → best (Some b) es ≡ None → ⊥
never b [] h = cc
never b (e ∷ es) h =
    elim (cases_lt e.1 b.1) [
      | inl less ↦ never e es (ap (λ x. best (cond x (Some e) (Some b)) es) (sym (lt-ltb _ _ less)) ∙ h)
      | inr more ↦ never b es (ap (λ x. best (cond x (Some e) (Some b)) es) (sym (le-ltb _ _ more)) ∙ h)
    ]

pub none_is : (es : Times) → best None es ≡ None → es ≡ []
none_is [] h = refl
none_is (e ∷ es) h = absurd (never e es h)

-- ---- there is one next stream

found : (id : ℕ) (P : ℕ × ℕ → Type 0) (f : ℕ) (es : Times) → AllByRecursion P es → finish_time id es ≡ Some f → P (id, f)
found id P f [] all h = absurd (cc)
found id P f (e ∷ es) all h = go (is_at (nat_cmp id) e.0) refl h (found id P f es all.1)
  where
    inside : Some e.1 ≡ Some f → e.1 ≡ f
    inside q = cc

    go : (b : Bool) → is_at (nat_cmp id) e.0 ≡ b → cond b (Some e.1) (finish_time id es) ≡ Some f → (finish_time id es ≡ Some f → P (id, f)) → P (id, f)
    go true q h ih = subst P (ap (λ k. (k, e.1)) (equal_at id e.0 q) ∙ ap (λ g. (id, g)) (inside h)) all.0
    go false q h ih = ih h

both : (r e : ℕ × ℕ) → IsAhead r e → IsAhead e r → r.0 ≡ e.0
both r e (inl p) (inl q) = absurd (omega (arith, p, q))
both r e (inl p) (inr q) = absurd (omega (arith, p, q.0))
both r e (inr p) (inl q) = absurd (omega (arith, p.0, q))
both r e (inr p) (inr q) = omega (arith, p.1, q.1)

one_next : (ts : Times) (a b : ℕ) → IsNext ts a → IsNext ts b → a ≡ b
one_next ts a b p q = both (a, p.0) (b, q.0) (found b (IsAhead (a, p.0)) q.0 ts p.2 q.1) (found a (IsAhead (b, q.0)) p.0 ts q.2 p.1)

pub best_next : (ts : Times) (id : ℕ) → IsStrictlySortedBy nat_cmp (keys_of ts) → IsNext ts id → option_map stream_in (best None ts) ≡ Some id
best_next ts id sorted next = go (best None ts) refl
  where
    empty : ts ≡ [] → ⊥
    empty e = absent (ap (λ es. finish_time id es) (sym e) ∙ next.1)
      where
        absent : None ≡ Some next.0 → ⊥
        absent h = cc

    go : (o : Option (ℕ × ℕ)) → best None ts ≡ o → option_map stream_in o ≡ Some id
    go None h = absurd (empty (none_is ts h))
    go (Some r) h = ap (λ k. Some k) (one_next ts r.0 id (next_is r.0 r.1 ts sorted h) next)

-- ---- the index

equal_turn : (t u : ℕ × ℕ) → is_at (turn_cmp t) u ≡ true → u ≡ t
equal_turn t u h = ap (λ a. (a, u.1)) (first t.0 u.0 t.1 u.1 h) ∙ ap (λ b. (t.0, b)) (second t.0 u.0 t.1 u.1 h)
  where
    first : (a b c d : ℕ) → is_at (turn_cmp (a, c)) (b, d) ≡ true → b ≡ a
    first a b c d h = grind (arith, nat_tests)

    second : (a b c d : ℕ) → is_at (turn_cmp (a, c)) (b, d) ≡ true → d ≡ c
    second a b c d h = grind (arith, nat_tests)

-- a turn that was put in and taken out again
pub put_back : (turns more less : List (ℕ × ℕ)) (ts : Times) (turn : ℕ × ℕ) → Indexes turns ts → finish_time turn.1 ts ≡ None
    → ((t : ℕ × ℕ) → list_any (is_at (turn_cmp t)) more ≡ cond (is_at (turn_cmp turn) t) true (list_any (is_at (turn_cmp t)) turns))
    → ((t : ℕ × ℕ) → list_any (is_at (turn_cmp t)) less ≡ cond (is_at (turn_cmp turn) t) false (list_any (is_at (turn_cmp t)) more)) → Indexes less ts
put_back turns more less ts turn index absent put taken t = taken t ∙ go (is_at (turn_cmp turn) t) refl
  where
    go : (b : Bool) → is_at (turn_cmp turn) t ≡ b → cond b false (list_any (is_at (turn_cmp t)) more) ≡ is_time t.0 (finish_time t.1 ts)
    go true h = sym (ap (λ u. is_time t.0 (finish_time u.1 ts)) (equal_turn turn t h) ∙ ap (is_time t.0) absent)
    go false h = put t ∙ ap (λ b. cond b true (list_any (is_at (turn_cmp t)) turns)) h ∙ index t

not_greater : (a b c d : ℕ) → is_gt (turn_cmp (a, c) (b, d)) ≡ false → IsAhead (c, a) (d, b)
not_greater a b c d h =
    elim (cases_lt a b) [
      | inl less ↦ inl less
      | inr more ↦ elim (cases_lt b a) [
        | inl less ↦ absurd (behind_it less)
        | inr equal ↦ inr (omega (arith, more, equal), elim (cases_lt d c) [ inl above ↦ absurd (behind_same (omega (arith, more, equal)) above) | inr l ↦ l ])
      ]
    ]
  where
    behind_it : b < a → ⊥
    behind_it l = grind (arith, nat_tests)

    behind_same : a ≡ b → d < c → ⊥
    behind_same e l = grind (arith, nat_tests)

rest_sorted : (m : ℕ) (ks : List ℕ) → IsStrictlySortedBy nat_cmp (m ∷ ks) → IsStrictlySortedBy nat_cmp ks
unfolding IsStrictlySortedBy
rest_sorted m [] s = tt
rest_sorted m (k ∷ ks) s = s.1

above_first : (m id f : ℕ) (es : Times) → IsStrictlySortedBy nat_cmp (m ∷ keys_of es) → finish_time id es ≡ Some f → m < id
unfolding IsStrictlySortedBy
above_first m id f [] s h = absurd (cc)
above_first m id f (e ∷ es) s h = go (is_at (nat_cmp id) e.0) refl h (above_first e.0 id f es s.1)
  where
    go : (b : Bool) → is_at (nat_cmp id) e.0 ≡ b → cond b (Some e.1) (finish_time id es) ≡ Some f → (finish_time id es ≡ Some f → e.0 < id) → m < id
    go true q h ih = omega (arith, is_less m e.0 s.0.0, equal_at id e.0 q)
    go false q h ih = omega (arith, is_less m e.0 s.0.0, ih h)

all_ahead : (r : ℕ × ℕ) (es : Times) → IsStrictlySortedBy nat_cmp (keys_of es) → ((id f : ℕ) → finish_time id es ≡ Some f → IsAhead r (id, f)) → AllByRecursion (IsAhead r) es
unfolding IsStrictlySortedBy
all_ahead r [] s h = tt
all_ahead r (e ∷ es) s h = (h e.0 e.1 (at_head e e es refl), all_ahead r es s.1 (λ id f q. h id f (behind e (id, f) es (above_first e.0 id f es s q) q)))

-- the first turn is that of the next stream
pub first_is_next : (turns : List (ℕ × ℕ)) (ts : Times) (turn : ℕ × ℕ) → IsStrictlySortedBy nat_cmp (keys_of ts) → Indexes turns ts
    → IsTrue (list_any (is_at (turn_cmp turn)) turns) → ((t : ℕ × ℕ) → IsTrue (list_any (is_at (turn_cmp t)) turns) → is_gt (turn_cmp turn t) ≡ false) → IsNext ts turn.1
first_is_next turns ts turn sorted index member least = (turn.0, there (finish_time turn.1 ts) (subst IsTrue (index turn) member), all_ahead (turn.1, turn.0) ts sorted (λ id f h. not_greater turn.0 f turn.1 id (least (f, id) (subst IsTrue (sym (index (f, id) ∙ ap (is_time f) h ∙ eq-eqb f f refl)) refl))))
  where
    never_true : false ≡ true → ⊥
    never_true h = cc

    there : (o : Option ℕ) → IsTrue (is_time turn.0 o) → o ≡ Some turn.0
    there None h = absurd (never_true h)
    there (Some f) h = ap (λ x. Some x) (eqb-true f turn.0 h)

pub no_turns : (turns : List (ℕ × ℕ)) (ts : Times) → Indexes turns ts → turns ≡ [] → ts ≡ []
no_turns turns [] index none = refl
no_turns turns (e ∷ es) index none = absurd (clash (ap (λ us. list_any (is_at (turn_cmp (e.1, e.0))) us) (sym none) ∙ index (e.1, e.0) ∙ ap (is_time e.1) (at_head e e es refl) ∙ eq-eqb e.1 e.1 refl))
  where
    clash : false ≡ true → ⊥
    clash h = cc

-- ---- a stream that gets another time

first_entry : (id next : ℕ) (es : Times) → IsStrictlySortedBy nat_cmp (id ∷ keys_of es) → insert_entry nat_cmp es id next ≡ (id, next) ∷ es
unfolding IsStrictlySortedBy
first_entry id next [] s = refl
first_entry id next (e ∷ es) s = ap (λ (o : Ordering). match_ordering o ((id, next) ∷ e ∷ es) ((e.0, next) ∷ es) (e ∷ insert_entry nat_cmp es id next)) s.0.0

pub renewed : (id next f : ℕ) (es : Times) → IsStrictlySortedBy nat_cmp (keys_of es) → finish_time id es ≡ Some f
    → insert_entry nat_cmp es id next ≡ insert_entry nat_cmp (remove_entry (is_at (nat_cmp id)) es) id next
unfolding IsStrictlySortedBy
renewed id next f [] s h = absurd (cc)
renewed id next f (e ∷ es) s h = go (nat_cmp id e.0) refl h (renewed id next f es)
  where
    go : (o : Ordering) → nat_cmp id e.0 ≡ o → cond (is_eq o) (Some e.1) (finish_time id es) ≡ Some f
        → (IsStrictlySortedBy nat_cmp (keys_of es) → finish_time id es ≡ Some f → insert_entry nat_cmp es id next ≡ insert_entry nat_cmp (remove_entry (is_at (nat_cmp id)) es) id next)
        → match_ordering o ((id, next) ∷ e ∷ es) ((e.0, next) ∷ es) (e ∷ insert_entry nat_cmp es id next) ≡ insert_entry nat_cmp (cond (is_eq o) es (e ∷ remove_entry (is_at (nat_cmp id)) es)) id next
    go Equal q h ih = ap (λ k. (k, next) ∷ es) (is_equal id e.0 q) ∙ sym (first_entry id next es (subst (λ k. IsStrictlySortedBy nat_cmp (k ∷ keys_of es)) (is_equal id e.0 q) s))
    go Less q h ih = absurd (omega (arith, is_less id e.0 q, above_first e.0 id f es s h))
    go Greater q h ih =
        ap (λ xs. e ∷ xs) (ih (rest_sorted e.0 (keys_of es) s) h)
        ∙ sym (ap (λ (o : Ordering). match_ordering o ((id, next) ∷ e ∷ remove_entry (is_at (nat_cmp id)) es) ((e.0, next) ∷ remove_entry (is_at (nat_cmp id)) es) (e ∷ insert_entry nat_cmp (remove_entry (is_at (nat_cmp id)) es) id next)) q)

pub removed : (id : ℕ) (es : Times) → IsStrictlySortedBy nat_cmp (keys_of es) → finish_time id (remove_entry (is_at (nat_cmp id)) es) ≡ None
removed id [] s = refl
removed id (e ∷ es) s = go (is_at (nat_cmp id) e.0) refl (removed id es (rest_sorted e.0 (keys_of es) s))
  where
    behind_it : (o : Option ℕ) → finish_time id es ≡ o → e.0 ≡ id → finish_time id es ≡ None
    behind_it None q same = q
    behind_it (Some f) q same = absurd (omega (arith, above_first e.0 id f es s q, same))

    go : (b : Bool) → is_at (nat_cmp id) e.0 ≡ b → finish_time id (remove_entry (is_at (nat_cmp id)) es) ≡ None → finish_time id (cond b es (e ∷ remove_entry (is_at (nat_cmp id)) es)) ≡ None
    go true q ih = behind_it (finish_time id es) refl (equal_at id e.0 q)
    go false q ih = ap (λ t. cond t (Some e.1) (finish_time id (remove_entry (is_at (nat_cmp id)) es))) q ∙ ih

-- a stream that entered and leaves
pub withdrawn : (id finish : ℕ) (es : Times) → finish_time id es ≡ None → remove_entry (is_at (nat_cmp id)) (insert_entry nat_cmp es id finish) ≡ es
withdrawn id finish [] none = ap (λ t. cond t [] ((id, finish) ∷ [])) (at_itself id)
withdrawn id finish (e ∷ es) none = go (nat_cmp id e.0) refl none (withdrawn id finish es)
  where
    go : (o : Ordering) → nat_cmp id e.0 ≡ o → cond (is_eq o) (Some e.1) (finish_time id es) ≡ None → (finish_time id es ≡ None → remove_entry (is_at (nat_cmp id)) (insert_entry nat_cmp es id finish) ≡ es)
        → remove_entry (is_at (nat_cmp id)) (match_ordering o ((id, finish) ∷ e ∷ es) ((e.0, finish) ∷ es) (e ∷ insert_entry nat_cmp es id finish)) ≡ e ∷ es
    go Less q none ih = ap (λ t. cond t (e ∷ es) ((id, finish) ∷ remove_entry (is_at (nat_cmp id)) (e ∷ es))) (at_itself id)
    go Equal q none ih = absurd (cc)
    go Greater q none ih = ap (λ o. cond (is_eq o) (insert_entry nat_cmp es id finish) (e ∷ remove_entry (is_at (nat_cmp id)) (insert_entry nat_cmp es id finish))) q ∙ ap (λ xs. e ∷ xs) (ih none)

-- a stream that isn't active leaves nothing behind
never_there : (id : ℕ) (es : Times) → finish_time id es ≡ None → remove_entry (is_at (nat_cmp id)) es ≡ es
never_there id [] h = refl
never_there id (e ∷ es) h = pick (is_at (nat_cmp id) e.0) h (never_there id es)
  where
    pick : (b : Bool) → cond b (Some e.1) (finish_time id es) ≡ None → (finish_time id es ≡ None → remove_entry (is_at (nat_cmp id)) es ≡ es) → cond b es (e ∷ remove_entry (is_at (nat_cmp id)) es) ≡ e ∷ es
    pick true h ih = absurd (cc)
    pick false h ih = ap (λ xs. e ∷ xs) (ih h)

-- a stream that sends, and has nothing more to send
pub leaves_once : (id bytes priority finish : ℕ) (s : Scheduler) (ts : Times) → bytes ≡ 0 → finish_time id s.times ≡ Some finish → ts ≡ remove_entry (is_at (nat_cmp id)) s.times → finish_time id ts ≡ None
    → record s { times = ts; virtual_time = finish } ≡ set_bytes_remaining id bytes priority (accept id s)
leaves_once id bytes priority finish s ts none there made absent =
    ap (λ t. record s { times = t; virtual_time = finish }) (sym (never_there id ts absent) ∙ ap (remove_entry (is_at (nat_cmp id))) made)
    ∙ ap (λ o. leave id (accepted_at id o s)) (sym there)
    ∙ ap (λ b. cond b (leave id (accept id s)) (cond (is_active id (accept id s)) (accept id s) (enter id (finish_now bytes priority (accept id s)) (accept id s)))) (sym (ap (λ b. b == 0) none))

-- the same of the scheduler: who had nothing to send, got bytes, and leaves
pub withdraws : (id bytes priority : ℕ) (s : Scheduler) → is_active id s ≡ false → leave id (set_bytes_remaining id bytes priority s) ≡ s
withdraws id bytes priority s absent = go (bytes == 0)
  where
    none : (o : Option ℕ) → is_some o ≡ false → o ≡ None
    none None h = refl
    none (Some f) h = absurd (cc)

    times : Times → Scheduler
    times ts = record s { times = ts }

    unchanged : leave id s ≡ s
    unchanged = ap times (never_there id s.times (none (finish_time id s.times) absent))

    go : (b : Bool) → leave id (cond b (leave id s) (cond (is_active id s) s (enter id (finish_now bytes priority s) s))) ≡ s
    go true = ap (leave id) unchanged ∙ unchanged
    go false = ap (λ t. leave id (cond t s (enter id (finish_now bytes priority s) s))) absent ∙ ap times (withdrawn id (finish_now bytes priority s) s.times (none (finish_time id s.times) absent))
