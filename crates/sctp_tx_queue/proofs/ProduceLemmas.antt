-- `produce` asks enough streams: where it gives no fragment, none is active.
use Rattle.std.proofs.Common.{◌≡◌, ℕ, suc, zero, ◌+◌, ◌-◌, ◌<◌, ◌≤◌, Bool, true, false, cond, [], ◌∷◌, length, Option, Some, None, refl, ap, sym, subst, ◌∙◌, arith, inl, inr, ◌⊎◌}
use Rattle.std.specs.Prelude.{is_some, unwrap_or, option_map}
use Rattle.std.specs.Map.{lookup, remove_entry}
use Rattle.std.specs.Ordering.{nat_cmp}
use Rattle.std.specs.BTreeMap.{is_at}
use Rattle.std.proofs.lemmas.Bool.{lt-ltb, le-ltb, cases_lt}
use Rattle.sctp_state.specs.Events.{Emitted}
use Rattle.sctp_stream_scheduler.specs.StreamScheduler.{Times, best, peek, stream_in, finish_time}
use Rattle.sctp_stream_scheduler.proofs.SchedulerLemmas.{none_is}
use Rattle.sctp_tx_queue.specs.SendQueue.{Queue, Streams, stream, sendable}
use Rattle.sctp_tx_queue.specs.Produced.{Produced, Turn, turn, idle, next_stream, produce_within, produce, in_line, begun_by, streams_after, streams_without_stale}
use Rattle.sctp_tx_queue.specs.Interrupted.{Passed}
use Rattle.sctp_serial.proofs.NumberLemmas.{at_itself}

-- ---- one turn

abbrev tried : {P : Type 0} → ℕ → ℕ → ℕ → Queue → Emitted P → ℕ → Turn P
tried m now size q emitted i = cond (is_some (turn now i size q emitted).made) (turn now i size q emitted) (produce_within m now size (turn now i size q emitted).queue (turn now i size q emitted).emitted)

pub idles : {P : Type 0} (m now size : ℕ) (q : Queue) (emitted : Emitted P) → next_stream q ≡ None → produce_within (suc m) now size q emitted ≡ idle q emitted
idles m now size q emitted next = ap (λ (o : Option ℕ). unwrap_or (option_map (tried m now size q emitted) o) (idle q emitted)) next

pub gives : {P : Type 0} (m now size id : ℕ) (q : Queue) (emitted : Emitted P) (made : Produced) → next_stream q ≡ Some id → Some made ≡ (turn now id size q emitted).made
    → produce_within (suc m) now size q emitted ≡ turn now id size q emitted
gives m now size id q emitted made next is =
    ap (λ (o : Option ℕ). unwrap_or (option_map (tried m now size q emitted) o) (idle q emitted)) next
    ∙ ap (λ (o : Option Produced). cond (is_some o) (turn now id size q emitted) (produce_within m now size (turn now id size q emitted).queue (turn now id size q emitted).emitted)) (sym is)

pub turned : {P : Type 0} (m now size id : ℕ) (q : Queue) (emitted : Emitted P) → next_stream q ≡ Some id → None ≡ (turn now id size q emitted).made
    → produce_within (suc m) now size q emitted ≡ produce_within m now size (turn now id size q emitted).queue (turn now id size q emitted).emitted
turned m now size id q emitted next none =
    ap (λ (o : Option ℕ). unwrap_or (option_map (tried m now size q emitted) o) (idle q emitted)) next
    ∙ ap (λ (o : Option Produced). cond (is_some o) (turn now id size q emitted) (produce_within m now size (turn now id size q emitted).queue (turn now id size q emitted).emitted)) (sym none)

pub step : {P : Type 0} (n now size id : ℕ) (q r : Queue) (emitted later : Emitted P) → 0 < n → next_stream q ≡ Some id → None ≡ (turn now id size q emitted).made
    → r ≡ (turn now id size q emitted).queue → later ≡ (turn now id size q emitted).emitted → produce_within n now size q emitted ≡ produce_within (n - 1) now size r later
step n now size id q r emitted later more next none is_queue is_emitted =
    let e : n ≡ suc (n - 1) = omega (arith, more) in
    ap (λ k. produce_within k now size q emitted) e ∙ turned (n - 1) now size id q emitted next none
    ∙ ap (λ x. produce_within (n - 1) now size x (turn now id size q emitted).emitted) (sym is_queue) ∙ ap (λ t. produce_within (n - 1) now size r t) (sym is_emitted)

pub given : {P : Type 0} (n now size id : ℕ) (q : Queue) (emitted : Emitted P) (made : Produced) → 0 < n → next_stream q ≡ Some id → Some made ≡ (turn now id size q emitted).made
    → produce_within n now size q emitted ≡ turn now id size q emitted
given n now size id q emitted made more next is =
    let e : n ≡ suc (n - 1) = omega (arith, more) in
    ap (λ k. produce_within k now size q emitted) e ∙ gives (n - 1) now size id q emitted made next is

-- one more turn without a fragment
pub passed_more : {P : Type 0} (turns now size id : ℕ) (q p : Queue) (emitted later : Emitted P) → Passed turns now size q emitted p later → next_stream p ≡ Some id → (turn now id size p later).made ≡ None
    → Passed (suc turns) now size q emitted (turn now id size p later).queue (turn now id size p later).emitted
passed_more {P} zero now size id q p emitted later h next none =
    let same : turn now id size p later ≡ turn now id size q emitted = ap (λ x. turn now id size x later) h.queue ∙ ap (λ t. turn now id size q t) h.events in
    (id, (ap next_stream (sym h.queue) ∙ next, (ap (λ (t : Turn P). t.made) (sym same) ∙ none, record { queue = ap (λ (t : Turn P). t.queue) same; events = ap (λ (t : Turn P). t.emitted) same })))
passed_more (suc turns) now size id q p emitted later h next none = (h.0, (h.1.0, (h.1.1.0, passed_more turns now size id (turn now h.0 size q emitted).queue p (turn now h.0 size q emitted).emitted later h.1.1.1 next none)))

pub passed_as : {P : Type 0} (turns now size : ℕ) (q p r : Queue) (emitted later last : Emitted P) → Passed turns now size q emitted p later → r ≡ p → last ≡ later → Passed turns now size q emitted r last
passed_as {P} turns now size q p r emitted later last h is_queue is_emitted = subst (λ (t : Emitted P). Passed turns now size q emitted r t) (sym is_emitted) (subst (λ x. Passed turns now size q emitted x later) (sym is_queue) h)

-- ---- the next stream is active

found_behind : (b : Bool) (x : Option ℕ) (v : ℕ) → is_some x ≡ true → is_some (cond b (Some v) x) ≡ true
found_behind true x v h = refl
found_behind false x v h = h

here : (e r : ℕ × ℕ) (es : Times) → r ≡ e → is_some (finish_time r.0 (e ∷ es)) ≡ true
here e r es q = ap (λ x. is_some (cond (is_at (nat_cmp x.0) e.0) (Some e.1) (finish_time x.0 es))) q ∙ ap (λ t. is_some (cond t (Some e.1) (finish_time e.0 es))) (at_itself e.0)

best_there : (b r : ℕ × ℕ) (es : Times) → best (Some b) es ≡ Some r → (r ≡ b) ⊎ (is_some (finish_time r.0 es) ≡ true)
best_there b r [] h = inl cc
best_there b r (e ∷ es) h =
    elim (cases_lt e.1 b.1) [
      | inl less ↦
          elim (best_there e r es (ap (λ x. best (cond x (Some e) (Some b)) es) (sym (lt-ltb _ _ less)) ∙ h)) [
            | inl q ↦ inr (here e r es q)
            | inr q ↦ inr (found_behind (is_at (nat_cmp r.0) e.0) (finish_time r.0 es) e.1 q)
          ]
      | inr more ↦
          elim (best_there b r es (ap (λ x. best (cond x (Some e) (Some b)) es) (sym (le-ltb _ _ more)) ∙ h)) [
            | inl q ↦ inl q
            | inr q ↦ inr (found_behind (is_at (nat_cmp r.0) e.0) (finish_time r.0 es) e.1 q)
          ]
    ]

best_active : (r : ℕ × ℕ) (es : Times) → best None es ≡ Some r → is_some (finish_time r.0 es) ≡ true
best_active r [] h = absurd (cc)
best_active r (e ∷ es) h =
    elim (best_there e r es h) [
      | inl q ↦ here e r es q
      | inr q ↦ found_behind (is_at (nat_cmp r.0) e.0) (finish_time r.0 es) e.1 q
    ]

next_active : (es : Times) (id : ℕ) → option_map stream_in (best None es) ≡ Some id → is_some (finish_time id es) ≡ true
next_active es id h = go (best None es) refl h
  where
    inside : (a k : ℕ) → Some a ≡ Some k → a ≡ k
    inside a k e = cc

    go : (o : Option (ℕ × ℕ)) → best None es ≡ o → option_map stream_in o ≡ Some id → is_some (finish_time id es) ≡ true
    go None b e = absurd (cc)
    go (Some r) b e = ap (λ k. is_some (finish_time k es)) (sym (inside r.0 id e)) ∙ best_active r es b

-- ---- the turns that can fail

shorter : (test : ℕ → Bool) (es : Times) → is_some (lookup test es) ≡ true → length (remove_entry test es) + 1 ≡ length es
shorter test [] h = absurd (cc)
shorter test (e ∷ es) h = go (test e.0) h (shorter test es)
  where
    go : (b : Bool) → is_some (cond b (Some e.1) (lookup test es)) ≡ true → (is_some (lookup test es) ≡ true → length (remove_entry test es) + 1 ≡ length es) → length (cond b es (e ∷ remove_entry test es)) + 1 ≡ length (e ∷ es)
    go true h ih = omega arith
    go false h ih = omega (arith, ih h)

no_longer : (test : ℕ → Bool) (es : Times) → length (remove_entry test es) ≤ length es
no_longer test [] = omega arith
no_longer test (e ∷ es) = go (test e.0) (no_longer test es)
  where
    go : (b : Bool) → length (remove_entry test es) ≤ length es → length (cond b es (e ∷ remove_entry test es)) ≤ length (e ∷ es)
    go true ih = omega arith
    go false ih = omega (arith, ih)

abbrev pub tries : Queue → ℕ
tries q = length q.scheduler.times + cond (is_some q.begun) 1 0

-- a turn without a fragment leaves fewer
pub fewer : {P : Type 0} (now size id : ℕ) (q : Queue) (emitted : Emitted P) → next_stream q ≡ Some id → None ≡ (turn now id size q emitted).made → tries (turn now id size q emitted).queue + 1 ≤ tries q
fewer now size id q emitted next none = along (sym after) (go q.begun next)
  where
    ss : Streams
    ss = streams_after id size (streams_without_stale now id q.streams)

    after : tries (turn now id size q emitted).queue ≡ length (remove_entry (is_at (nat_cmp id)) q.scheduler.times) + 0
    after = ap (λ (o : Option Produced). length (in_line id (sendable (stream id ss)) (stream id ss).priority o q.scheduler).times + cond (is_some (begun_by id q.scheduler.is_interleaved o)) 1 0) (sym none)

    along : {a b c : ℕ} → a ≡ b → a + 1 ≤ c → b + 1 ≤ c
    along e h = omega (arith, e, h)

    go : (begun : Option ℕ) → cond (is_some begun) begun (peek q.scheduler) ≡ Some id → length (remove_entry (is_at (nat_cmp id)) q.scheduler.times) + 0 + 1 ≤ length q.scheduler.times + cond (is_some begun) 1 0
    go None h = omega (arith, shorter (is_at (nat_cmp id)) q.scheduler.times (next_active q.scheduler.times id h))
    go (Some k) h = omega (arith, no_longer (is_at (nat_cmp id)) q.scheduler.times)

enough : {P : Type 0} (n now size : ℕ) (q : Queue) (emitted : Emitted P) → tries q < n → None ≡ (produce_within n now size q emitted).made → next_stream (produce_within n now size q emitted).queue ≡ None
enough zero now size q emitted few none = absurd (omega (arith, few))
enough {P} (suc m) now size q emitted few none = go (next_stream q) refl (λ r t. enough m now size r t)
  where
    go : (o : Option ℕ) → next_stream q ≡ o → ((r : Queue) (t : Emitted P) → tries r < m → None ≡ (produce_within m now size r t).made → next_stream (produce_within m now size r t).queue ≡ None)
        → next_stream (produce_within (suc m) now size q emitted).queue ≡ None
    go None e ih = ap (λ (t : Turn P). next_stream t.queue) (idles m now size q emitted e) ∙ e
    go (Some id) e ih = pick (turn now id size q emitted).made refl
      where
        pick : (o : Option Produced) → o ≡ (turn now id size q emitted).made → next_stream (produce_within (suc m) now size q emitted).queue ≡ None
        pick (Some made) is = absurd (differ made (none ∙ ap (λ (t : Turn P). t.made) (gives m now size id q emitted made e is) ∙ sym is))
          where
            differ : (made : Produced) → None ≡ Some made → ⊥
            differ made h = cc
        pick None is =
            let t = turned m now size id q emitted e is in
            ap (λ (t : Turn P). next_stream t.queue) t ∙ ih (turn now id size q emitted).queue (turn now id size q emitted).emitted (omega (arith, few, fewer now size id q emitted e is)) (none ∙ ap (λ (t : Turn P). t.made) t)

none_active : (q : Queue) → next_stream q ≡ None → peek q.scheduler ≡ None
none_active q h = go q.begun h
  where
    go : (begun : Option ℕ) → cond (is_some begun) begun (peek q.scheduler) ≡ None → peek q.scheduler ≡ None
    go None h = h
    go (Some k) h = absurd (cc)

pub few_tries : (q : Queue) → tries q < length q.scheduler.times + 2
few_tries q = go q.begun
  where
    go : (begun : Option ℕ) → length q.scheduler.times + cond (is_some begun) 1 0 < length q.scheduler.times + 2
    go None = omega arith
    go (Some k) = omega arith

nothing : (o : Option (ℕ × ℕ)) → option_map stream_in o ≡ None → o ≡ None
nothing None h = refl
nothing (Some r) h = absurd (cc)

-- where no fragment came, no stream is active
pub produced_idle : {P : Type 0} (now size : ℕ) (q : Queue) (emitted : Emitted P) → None ≡ (produce now size q emitted).made → (produce now size q emitted).queue.scheduler.times ≡ []
produced_idle now size q emitted none =
    let times = (produce now size q emitted).queue.scheduler.times in
    none_is times (nothing (best None times) (none_active (produce now size q emitted).queue (enough (length q.scheduler.times + 2) now size q emitted (few_tries q) none)))
