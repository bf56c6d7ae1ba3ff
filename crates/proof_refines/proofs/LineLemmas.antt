-- The line of streams: each call leaves none in it that is stopped.
use Rattle.std.proofs.Common.{◌≡◌, ◌≢◌, ℕ, ◌+◌, ◌<◌, ◌≤◌, Bool, true, false, cond, inl, inr, ◌⊎◌, Option, Some, None, List, [], ◌∷◌, refl, sym, ap, ◌∙◌, subst, arith, Less, Equal, Greater}
use Rattle.std.specs.Prelude.{◌==◌, nat_le, nat_lt, is_some, option_map}
use Rattle.std.specs.Map.{remove_entry}
use Rattle.std.specs.Ordering.{nat_cmp, match_ordering}
use Rattle.std.specs.declared.cmp.Ordering.{Ordering}
use Rattle.std.specs.BTreeMap.{is_at, insert_entry}
use Rattle.std.proofs.lemmas.Bool.{cases_eq, and_parts, and_from, cond-true, cond-false, le-leb, leb-true}
use Rattle.sctp_stream_scheduler.specs.StreamScheduler.{Times, Scheduler, finish_time, finish_now, is_active, leave, enter, set_bytes_remaining, accept, accepted_at, better, best, peek, stream_in}
use Rattle.proof_protocol.proofs.ToolsLemmas.{not_both}
use Rattle.proof_refines.specs.Line.{are_ascending}
use Rattle.proof_refines.proofs.FoundLemmas.{one_value}
use Rattle.sctp_serial.proofs.NumberLemmas.{is_less, is_greater, at_itself, at_other, same_at, is_equal}

-- ---- finish times

from_less : (least later : ℕ) (es : Times) → least ≤ later → are_ascending later es ≡ true → are_ascending least es ≡ true
from_less least later [] l h = refl
from_less least later (e ∷ es) l h =
    let a = and_parts (nat_le later e.0) (are_ascending (e.0 + 1) es) h in
    let low = leb-true later e.0 a.0 in
    and_from (nat_le least e.0) (are_ascending (e.0 + 1) es) (le-leb least e.0 (omega (arith, low, l))) a.1

absent : (id least : ℕ) (es : Times) → id < least → are_ascending least es ≡ true → finish_time id es ≡ None
absent id least [] l h = refl
absent id least (e ∷ es) l h =
    let a = and_parts (nat_le least e.0) (are_ascending (e.0 + 1) es) h in
    let low = leb-true least e.0 a.0 in
    cond-false (is_at (nat_cmp id) e.0) (Some e.1) (finish_time id es) (at_other id e.0 (λ c. omega (arith, c, low, l)))
    ∙ absent id (e.0 + 1) es (omega (arith, low, l)) a.1

-- one that leaves
record Leaves (id least : ℕ) (es : Times) : Type 0 where
  ascending : are_ascending least (remove_entry (is_at (nat_cmp id)) es) ≡ true
  removed : finish_time id (remove_entry (is_at (nat_cmp id)) es) ≡ None
  others : (k : ℕ) → k ≢ id → finish_time k (remove_entry (is_at (nat_cmp id)) es) ≡ finish_time k es

leaves : (id least : ℕ) (es : Times) → are_ascending least es ≡ true → Leaves id least es
leaves id least [] h = record { ascending = refl; removed = refl; others = λ k d. refl }
leaves id least (e ∷ es) h =
    go (is_at (nat_cmp id) e.0) refl (and_parts (nat_le least e.0) (are_ascending (e.0 + 1) es) h)
    (leaves id (e.0 + 1) es (and_parts (nat_le least e.0) (are_ascending (e.0 + 1) es) h).1)
  where
    go : (b : Bool) → is_at (nat_cmp id) e.0 ≡ b → (nat_le least e.0 ≡ true) × (are_ascending (e.0 + 1) es ≡ true) → Leaves id (e.0 + 1) es → Leaves id least (e ∷ es)
    go true t a z =
        let l : remove_entry (is_at (nat_cmp id)) (e ∷ es) ≡ es = cond-true (is_at (nat_cmp id) e.0) es (e ∷ remove_entry (is_at (nat_cmp id)) es) t in
        let low = leb-true least e.0 a.0 in
        let same = sym (same_at id e.0 t) in
        record {
          ascending = ap (are_ascending least) l ∙ from_less least (e.0 + 1) es (omega (arith, low)) a.1;
          removed = ap (finish_time id) l ∙ absent id (e.0 + 1) es (omega (arith, same)) a.1;
          others = λ k d. ap (finish_time k) l ∙ sym (cond-false (is_at (nat_cmp k) e.0) (Some e.1) (finish_time k es) (at_other k e.0 (λ c. d (c ∙ same))));
        }
    go false t a z =
        let l : remove_entry (is_at (nat_cmp id)) (e ∷ es) ≡ e ∷ remove_entry (is_at (nat_cmp id)) es = cond-false (is_at (nat_cmp id) e.0) es (e ∷ remove_entry (is_at (nat_cmp id)) es) t in
        record {
          ascending = ap (are_ascending least) l ∙ and_from (nat_le least e.0) (are_ascending (e.0 + 1) (remove_entry (is_at (nat_cmp id)) es)) a.0 z.ascending;
          removed = ap (finish_time id) l ∙ (cond-false (is_at (nat_cmp id) e.0) (Some e.1) (finish_time id (remove_entry (is_at (nat_cmp id)) es)) t ∙ z.removed);
          others = λ k d. ap (finish_time k) l ∙ ap (λ o. cond (is_at (nat_cmp k) e.0) (Some e.1) o) (z.others k d);
        }

-- one that enters
pub inserted_ascending : {V : Type 0} (id : ℕ) (v : V) (least : ℕ) (es : List (ℕ × V)) → least ≤ id → are_ascending least es ≡ true
    → are_ascending least (insert_entry nat_cmp es id v) ≡ true
inserted_ascending id v least [] l h = and_from (nat_le least id) true (le-leb least id l) refl
inserted_ascending {V} id v least (e ∷ es) l h =
    go (nat_cmp id e.0) refl (λ m. inserted_ascending id v (e.0 + 1) es m (and_parts (nat_le least e.0) (are_ascending (e.0 + 1) es) h).1)
  where
    a : (nat_le least e.0 ≡ true) × (are_ascending (e.0 + 1) es ≡ true)
    a = and_parts (nat_le least e.0) (are_ascending (e.0 + 1) es) h

    put : Ordering → List (ℕ × V)
    put o = match_ordering o ((id, v) ∷ e ∷ es) ((e.0, v) ∷ es) (e ∷ insert_entry nat_cmp es id v)

    to : (o : Ordering) → nat_cmp id e.0 ≡ o → are_ascending least (put o) ≡ true → are_ascending least (insert_entry nat_cmp (e ∷ es) id v) ≡ true
    to o c u = ap (λ z. are_ascending least (put z)) c ∙ u

    go : (o : Ordering) → nat_cmp id e.0 ≡ o → (e.0 + 1 ≤ id → are_ascending (e.0 + 1) (insert_entry nat_cmp es id v) ≡ true)
        → are_ascending least (insert_entry nat_cmp (e ∷ es) id v) ≡ true
    go Less c ih =
        let b = is_less id e.0 c in
        to Less c
        (and_from (nat_le least id) (are_ascending (id + 1) (e ∷ es)) (le-leb least id l)
        (and_from (nat_le (id + 1) e.0) (are_ascending (e.0 + 1) es) (le-leb (id + 1) e.0 (omega (arith, b))) a.1))
    go Equal c ih = to Equal c (and_from (nat_le least e.0) (are_ascending (e.0 + 1) es) a.0 a.1)
    go Greater c ih =
        let b = is_greater id e.0 c in
        to Greater c (and_from (nat_le least e.0) (are_ascending (e.0 + 1) (insert_entry nat_cmp es id v)) a.0 (ih (omega (arith, b))))

entered_others : (id finish : ℕ) (es : Times) (k : ℕ) → k ≢ id → finish_time k (insert_entry nat_cmp es id finish) ≡ finish_time k es
entered_others id finish [] k d = cond-false (is_at (nat_cmp k) id) (Some finish) None (at_other k id d)
entered_others id finish (e ∷ es) k d = go (nat_cmp id e.0) refl (entered_others id finish es k d)
  where
    put : Ordering → Times
    put o = match_ordering o ((id, finish) ∷ e ∷ es) ((e.0, finish) ∷ es) (e ∷ insert_entry nat_cmp es id finish)

    to : (o : Ordering) → nat_cmp id e.0 ≡ o → finish_time k (put o) ≡ finish_time k (e ∷ es)
        → finish_time k (insert_entry nat_cmp (e ∷ es) id finish) ≡ finish_time k (e ∷ es)
    to o c v = ap (λ z. finish_time k (put z)) c ∙ v

    go : (o : Ordering) → nat_cmp id e.0 ≡ o → finish_time k (insert_entry nat_cmp es id finish) ≡ finish_time k es
        → finish_time k (insert_entry nat_cmp (e ∷ es) id finish) ≡ finish_time k (e ∷ es)
    go Less c ih = to Less c (cond-false (is_at (nat_cmp k) id) (Some finish) (finish_time k (e ∷ es)) (at_other k id d))
    go Equal c ih =
        let b = is_equal id e.0 c in
        let n = at_other k e.0 (λ z. d (z ∙ b)) in
        to Equal c (cond-false (is_at (nat_cmp k) e.0) (Some finish) (finish_time k es) n ∙ sym (cond-false (is_at (nat_cmp k) e.0) (Some e.1) (finish_time k es) n))
    go Greater c ih = to Greater c (ap (λ o. cond (is_at (nat_cmp k) e.0) (Some e.1) o) ih)

-- ---- the scheduler

pub record AfterSetBytes (id bytes : ℕ) (sch later : Scheduler) : Type 0 where
  pub ascending : are_ascending 0 later.times ≡ true
  pub active : (k : ℕ) → is_active k later ≡ true → ((k ≢ id) × (is_active k sch ≡ true)) ⊎ ((k ≡ id) × ((bytes == 0) ≡ false))

pub after_set_bytes : (id bytes priority : ℕ) (sch : Scheduler) → are_ascending 0 sch.times ≡ true → AfterSetBytes id bytes sch (set_bytes_remaining id bytes priority sch)
after_set_bytes id bytes priority sch h = go (bytes == 0) refl (is_active id sch) refl
  where
    to : Bool → Bool → Scheduler
    to b c = cond b (leave id sch) (cond c sch (enter id (finish_now bytes priority sch) sch))

    go : (b : Bool) → (bytes == 0) ≡ b → (c : Bool) → is_active id sch ≡ c → AfterSetBytes id bytes sch (to (bytes == 0) (is_active id sch))
    go true e c f =
        let z = leaves id 0 sch.times h in
        subst (λ b. AfterSetBytes id bytes sch (to b (is_active id sch))) (sym e) (record {
          ascending = z.ascending;
          active = λ k t. elim (cases_eq k id) [
            | inl s ↦ absurd (not_both (ap (λ n. is_some (finish_time n (remove_entry (is_at (nat_cmp id)) sch.times))) (sym s) ∙ t) (ap is_some z.removed))
            | inr d ↦ inl (d, ap is_some (sym (z.others k d)) ∙ t)
          ];
        })
    go false e true f =
        subst (λ b. AfterSetBytes id bytes sch (to b (is_active id sch))) (sym e) (subst (λ c. AfterSetBytes id bytes sch (to false c)) (sym f) (record {
          ascending = h;
          active = λ k t. elim (cases_eq k id) [ inl s ↦ inr (s, e) | inr d ↦ inl (d, t) ];
        }))
    go false e false f =
        let finish = finish_now bytes priority sch in
        subst (λ b. AfterSetBytes id bytes sch (to b (is_active id sch))) (sym e) (subst (λ c. AfterSetBytes id bytes sch (to false c)) (sym f) (record {
          ascending = inserted_ascending id finish 0 sch.times (omega arith) h;
          active = λ k t. elim (cases_eq k id) [ inl s ↦ inr (s, e) | inr d ↦ inl (d, ap is_some (sym (entered_others id finish sch.times k d)) ∙ t) ];
        }))

-- the stream sends
pub record Sent (id : ℕ) (sch : Scheduler) : Type 0 where
  pub ascending : are_ascending 0 (accept id sch).times ≡ true
  pub active : (k : ℕ) → k ≢ id → is_active k (accept id sch) ≡ true → is_active k sch ≡ true

pub sent : (id : ℕ) (sch : Scheduler) → are_ascending 0 sch.times ≡ true → Sent id sch
sent id sch h =
    let z = go (finish_time id sch.times) in
    record { ascending = z.0; active = z.1 }
  where
    go : (o : Option ℕ) → (are_ascending 0 (accepted_at id o sch).times ≡ true) × ((k : ℕ) → k ≢ id → is_active k (accepted_at id o sch) ≡ true → is_active k sch ≡ true)
    go None = (h, λ k d t. t)
    go (Some f) = let z = leaves id 0 sch.times h in (z.ascending, λ k d t. ap is_some (sym (z.others k d)) ∙ t)

-- the next one is in line
best_there : (b : Option (ℕ × ℕ)) (es : Times) (r : ℕ × ℕ) → best b es ≡ Some r → (b ≡ Some r) ⊎ (is_some (finish_time r.0 es) ≡ true)
best_there b [] r e = inl e
best_there b (c ∷ es) r e = elim (best_there (better b c) es r e) [
  | inr t ↦ inr (behind (is_at (nat_cmp r.0) c.0) t)
  | inl f ↦ by b f
]
  where
    behind : (t : Bool) → is_some (finish_time r.0 es) ≡ true → is_some (let o : Option ℕ = cond t (Some c.1) (finish_time r.0 es) in o) ≡ true
    behind true h = refl
    behind false h = h

    there : c ≡ r → is_some (finish_time r.0 (c ∷ es)) ≡ true
    there s =
        subst (λ (z : ℕ × ℕ). is_some (finish_time z.0 (c ∷ es)) ≡ true) s
        (ap (λ t. is_some (let o : Option ℕ = cond t (Some c.1) (finish_time c.0 es) in o)) (at_itself c.0))

    by : (b : Option (ℕ × ℕ)) → better b c ≡ Some r → (b ≡ Some r) ⊎ (is_some (finish_time r.0 (c ∷ es)) ≡ true)
    by None f = inr (there (one_value (Some c) c r refl f))
    by (Some d) f = pick (nat_lt c.1 d.1) f
      where
        pick : (t : Bool) → (let o : Option (ℕ × ℕ) = cond t (Some c) (Some d) in o) ≡ Some r → (Some d ≡ Some r) ⊎ (is_some (finish_time r.0 (c ∷ es)) ≡ true)
        pick true g = inr (there (one_value (Some c) c r refl g))
        pick false g = inl g

pub peek_active : (sch : Scheduler) (id : ℕ) → peek sch ≡ Some id → is_active id sch ≡ true
peek_active sch id e = go (best None sch.times) refl e
  where
    go : (o : Option (ℕ × ℕ)) → best None sch.times ≡ o → option_map stream_in o ≡ Some id → is_active id sch ≡ true
    go None f g = absurd (cc)
    go (Some r) f g = elim (best_there None sch.times r f) [
      | inl c ↦ absurd (cc)
      | inr t ↦ subst (λ k. is_some (finish_time k sch.times) ≡ true) (one_value (Some r.0) r.0 id refl g) t
    ]
