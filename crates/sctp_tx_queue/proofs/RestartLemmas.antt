-- A new association, a stream at a time.
use Rattle.std.proofs.Common.{◌≡◌, ℕ, zero, suc, ◌+◌, ◌<◌, ◌==◌, Bool, true, false, cond, List, [], ◌∷◌, Option, Some, None, length, take, drop, get_or, refl, ap, sym, ◌∙◌, arith, add-one}
use Rattle.std.specs.Prelude.{map, not, is_some, ◌&&◌}
use Rattle.std.specs.Map.{remove_entry}
use Rattle.std.specs.Ordering.{nat_cmp}
use Rattle.std.specs.BTreeMap.{is_at}
use Rattle.std.proofs.lemmas.Bool.{eqb-true, and_parts}
use Rattle.std.proofs.Math.Seq.{drop-cons}
use Rattle.sctp_serial.specs.declared.api.StreamId.{StreamId}
use Rattle.sctp_serial.specs.Unwrapped.{origin}
use Rattle.sctp_stream_scheduler.specs.StreamScheduler.{Times, Scheduler, finish_time, is_active, finish_now, leave, enter, set_bytes_remaining}
use Rattle.sctp_tx_queue.specs.declared.send_queue.message.MessageNumbers.{MessageNumbers}
use Rattle.sctp_tx_queue.specs.declared.send_queue.stream.PauseState.{PauseState}
use Rattle.sctp_tx_queue.specs.declared.send_queue.stream.PauseState.TheVariants.{NotPaused, Pending, Paused, Resetting}
use Rattle.sctp_tx_queue.specs.SendQueue.{Queue, Queued, Stream, stream}
use Rattle.sctp_tx_queue.specs.Readiness.{waits, has_reset_pending}
use Rattle.sctp_tx_queue.specs.Restarted.{whole, whole_front, restart, restarted_one, each_restarted, is_unbegun, is_front_unbegun, has_first_numbers, is_restarted, is_in_line, numbers_on, NumbersGoOn}
use Rattle.sctp_tx_queue.proofs.InOrderLemmas.{each_put}

pub restart_each : (ids : List StreamId) (i : ℕ) (none : StreamId) (q r : Queue) → i < length ids → r ≡ restarted_one (get_or ids i none).0 q
    → each_restarted (map (λ id. id.0) (drop (i + 1) ids)) r ≡ each_restarted (map (λ id. id.0) (drop i ids)) q
restart_each ids i none q r more after =
    ap (λ k. each_restarted (map (λ id. id.0) (drop k ids)) r) (add-one i)
    ∙ ap (λ s. each_restarted (map (λ id. id.0) (drop (suc i) ids)) s) after
    ∙ sym (ap (λ (xs : List StreamId). each_restarted (map (λ id. id.0) xs) q) (drop-cons ids i none more))

more_restarted : (ids : List StreamId) (i : ℕ) (none : StreamId) (q p r : Queue) → i < length ids → p ≡ each_restarted (take i (map (λ id. id.0) ids)) q
    → r ≡ restarted_one (get_or ids i none).0 p → r ≡ each_restarted (take (suc i) (map (λ id. id.0) ids)) q
more_restarted [] i none q p r more is after = absurd (omega (arith, more))
more_restarted (id ∷ ids) zero none q p r more is after = after ∙ ap (λ x. restarted_one id.0 x) is
more_restarted (id ∷ ids) (suc i) none q p r more is after = more_restarted ids i none (restarted_one id.0 q) p r (omega (arith, more)) is after

pub restarted_more : (ids : List StreamId) (i : ℕ) (none : StreamId) (q p r : Queue) → i < length ids → p ≡ each_restarted (take i (map (λ id. id.0) ids)) q
    → r ≡ restarted_one (get_or ids i none).0 p → r ≡ each_restarted (take (i + 1) (map (λ id. id.0) ids)) q
restarted_more ids i none q p r more is after = more_restarted ids i none q p r more is after ∙ ap (λ k. each_restarted (take k (map (λ id. id.0) ids)) q) (sym (add-one i))

-- ---- numbers of messages

abbrev numbers_in : List Queued → List ℕ
numbers_in ms = map (λ m. m.number) ms

whole_numbers : (ms : List Queued) → numbers_in (whole_front ms) ≡ numbers_in ms
whole_numbers [] = refl
whole_numbers (m ∷ rest) = refl

one_numbers : (id : ℕ) (q : Queue) → NumbersGoOn q (restarted_one id q)
one_numbers id q = record {
  next = refl;
  waiting = each_put (λ k ms. numbers_in ms ≡ numbers_on k q) id (restart (stream id q.streams)) q.streams (λ k. refl) (whole_numbers (stream id q.streams).messages);
}

pub restarted_numbers : (ids : List ℕ) (q : Queue) → NumbersGoOn q (each_restarted ids q)
restarted_numbers [] q = record { next = refl; waiting = λ k. refl }
restarted_numbers (id ∷ ids) q =
    let first = one_numbers id q in
    let rest = restarted_numbers ids (restarted_one id q) in
    record { next = rest.next ∙ first.next; waiting = λ k. rest.waiting k ∙ first.waiting k }

-- ---- where nothing is to be done

front_whole : (ms : List Queued) → is_front_unbegun ms ≡ true → whole_front ms ≡ ms
front_whole [] h = refl
front_whole (m ∷ rest) h = ap (λ (x : Queued). x ∷ rest) (all m h)
  where
    none_of : (o : Option MessageNumbers) → not (is_some o) ≡ true → None ≡ o
    none_of None h = refl
    none_of (Some n) h = absurd (cc)

    all : (m : Queued) → is_unbegun m ≡ true → whole m ≡ m
    all m h =
        let a = and_parts (m.offset == 0) (not (is_some m.numbers) && (m.fsn == 0)) h in
        let b = and_parts (not (is_some m.numbers)) (m.fsn == 0) a.1 in
        ap (λ o. let r : Queued = record m { offset = o; numbers = None; fsn = 0 } in r) (sym (eqb-true m.offset 0 a.0))
        ∙ ap (λ n. let r : Queued = record m { numbers = n; fsn = 0 } in r) (none_of m.numbers b.0)
        ∙ ap (λ f. let r : Queued = record m { fsn = f } in r) (sym (eqb-true m.fsn 0 b.1))

flows : (s : Stream) (p : PauseState) → not (waits p) ≡ true → NotPaused ≡ p
flows s NotPaused h = refl
flows s Pending h = absurd (cc)
flows s Paused h = absurd (cc)
flows s Resetting h = absurd (cc)

pub restart_same : (s : Stream) → is_restarted s ≡ true → restart s ≡ s
restart_same s h =
    let a = and_parts (not (has_reset_pending s)) (has_first_numbers s && is_front_unbegun s.messages) h in
    let b = and_parts (has_first_numbers s) (is_front_unbegun s.messages) a.1 in
    let c = and_parts (s.next_ssn == origin) ((s.next_ordered_mid == origin) && (s.next_unordered_mid == origin)) b.0 in
    let d = and_parts (s.next_ordered_mid == origin) (s.next_unordered_mid == origin) c.1 in
    ap (λ ms. let r : Stream = record s { messages = ms; pause = NotPaused; next_ssn = origin; next_ordered_mid = origin; next_unordered_mid = origin } in r) (front_whole s.messages b.1)
    ∙ ap (λ p. let r : Stream = record s { pause = p; next_ssn = origin; next_ordered_mid = origin; next_unordered_mid = origin } in r) (flows s s.pause a.0)
    ∙ ap (λ n. let r : Stream = record s { next_ssn = n; next_ordered_mid = origin; next_unordered_mid = origin } in r) (sym (eqb-true s.next_ssn origin c.0))
    ∙ ap (λ n. let r : Stream = record s { next_ordered_mid = n; next_unordered_mid = origin } in r) (sym (eqb-true s.next_ordered_mid origin d.0))
    ∙ ap (λ n. let r : Stream = record s { next_unordered_mid = n } in r) (sym (eqb-true s.next_unordered_mid origin d.1))

pub never_there : (id : ℕ) (ts : Times) → is_some (finish_time id ts) ≡ false → remove_entry (is_at (nat_cmp id)) ts ≡ ts
never_there id [] h = refl
never_there id (e ∷ es) h = pick (is_at (nat_cmp id) e.0) h (never_there id es)
  where
    pick : (b : Bool) → is_some (cond b (Some e.1) (finish_time id es)) ≡ false → (is_some (finish_time id es) ≡ false → remove_entry (is_at (nat_cmp id)) es ≡ es) → cond b es (e ∷ remove_entry (is_at (nat_cmp id)) es) ≡ e ∷ es
    pick true h ih = absurd (cc)
    pick false h ih = ap (λ xs. e ∷ xs) (ih h)

pub line_same : (id bytes priority : ℕ) (sch : Scheduler) → is_in_line id bytes sch ≡ true → set_bytes_remaining id bytes priority sch ≡ sch
line_same id bytes priority sch h = go (bytes == 0) h
  where
    not_true : (b : Bool) → not b ≡ true → b ≡ false
    not_true true h = absurd (cc)
    not_true false h = refl

    go : (b : Bool) → cond b (not (is_active id sch)) (is_active id sch) ≡ true → cond b (leave id sch) (cond (is_active id sch) sch (enter id (finish_now bytes priority sch) sch)) ≡ sch
    go true h = ap (λ (ts : Times). let r : Scheduler = record sch { times = ts } in r) (never_there id sch.times (not_true (is_active id sch) h))
    go false h = ap (λ a. cond a sch (enter id (finish_now bytes priority sch) sch)) h
