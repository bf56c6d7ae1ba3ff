-- Messages of a queue have numbers of their own: no call of the queue gives one twice.
use Rattle.std.proofs.Common.{◌≡◌, ℕ, zero, suc, ◌+◌, ◌%◌, ◌^◌, ◌<◌, ◌≤◌, ◌==◌, nat_lt, Bool, true, false, cond, Option, Some, None, unwrap_or, option_map, is_some, List, [], ◌∷◌, ◌++◌, length, filter, Less, Equal, Greater, mod-eq_of_lt, refl, sym, ap, subst, ◌∙◌, arith}
use Rattle.std.specs.Ordering.{nat_cmp, match_ordering}
use Rattle.std.specs.declared.cmp.Ordering.{Ordering}
use Rattle.std.specs.Map.{lookup, set_value, keys_of}
use Rattle.std.specs.BTreeMap.{is_at, insert_entry}
use Rattle.std.proofs.lemmas.Bool.Decides.{nat_tests}
use Rattle.sctp_state.specs.Events.{Emitted}
use Rattle.sctp_tx_queue.specs.declared.send_queue.message.MessageNumbers.{MessageNumbers}
use Rattle.sctp_tx_queue.specs.declared.send_queue.stream.ResetStep.{ResetStep}
use Rattle.sctp_tx_queue.specs.declared.send_queue.stream.ResetStep.TheVariants.{Requested, Performed, Refused}
use Rattle.sctp_tx_queue.specs.SendQueue.{Queued, Stream, Streams, Entries, Queue, blank, stream, with_stream, put_stream, push, add}
use Rattle.sctp_tx_queue.specs.Produced.{Turn, is_stale, fresh, without_stale, ends as is_last, move_past, moved_front, front_numbers, advance, pause_if_pending, streams_without_stale, turn, next_stream, idle, produce_within, produce}
use Rattle.sctp_tx_queue.specs.Settings.{with_threshold, set_low_threshold, with_priority, set_priority, front_discarded, without_front, streams_discarded, discard_from, discard}
use Rattle.sctp_tx_queue.specs.Resets.{is_partly, prepare_stream, prepare_reset, after_step, apply_reset_step, each_stepped}
use Rattle.sctp_tx_queue.specs.Emptied.{emptied, emptied_one, each_emptied, empty}
use Rattle.sctp_tx_queue.specs.Restarted.{whole_front, restart, restarted_one, each_restarted, reset}
use Rattle.proof_endpoint.specs.HandoverRoundTrip.{count_with_number, numbered_in, IsNumberedOnce, CallsNumberOnce}
use Rattle.proof_endpoint.specs.Lifecycles.{one_if}

module _ (n : ℕ) where
  -- ---- the streams when one of them changes

  written : (test : ℕ → Bool) (es : Entries) (s none : Stream) → count_with_number n none.messages ≡ 0
      → numbered_in n (set_value test es s) + count_with_number n (unwrap_or (lookup test es) none).messages ≤ numbered_in n es + count_with_number n s.messages
  written test [] s none h = omega (arith, h)
  written test (e ∷ es) s none h = go (test e.0) (written test es s none h)
    where
      go : (b : Bool) → numbered_in n (set_value test es s) + count_with_number n (unwrap_or (lookup test es) none).messages ≤ numbered_in n es + count_with_number n s.messages
          → numbered_in n (cond b ((e.0, s) ∷ es) (e ∷ set_value test es s)) + count_with_number n (unwrap_or (cond b (Some e.1) (lookup test es)) none).messages
          ≤ numbered_in n (e ∷ es) + count_with_number n s.messages
      go true ih = omega arith
      go false ih = omega (arith, ih)

  put_numbered : (id : ℕ) (s : Stream) (ss : Streams)
      → numbered_in n (put_stream id s ss).entries + count_with_number n (stream id ss).messages ≤ numbered_in n ss.entries + count_with_number n s.messages
  put_numbered id s ss = written (is_at (nat_cmp id)) ss.entries s (blank ss) refl

  inserted : (id : ℕ) (s : Stream) (es : Entries) → numbered_in n (insert_entry nat_cmp es id s) ≤ numbered_in n es + count_with_number n s.messages
  inserted id s [] = omega arith
  inserted id s (e ∷ es) = go (nat_cmp id e.0) (inserted id s es)
    where
      go : (o : Ordering) → numbered_in n (insert_entry nat_cmp es id s) ≤ numbered_in n es + count_with_number n s.messages
          → numbered_in n (match_ordering o ((id, s) ∷ e ∷ es) ((e.0, s) ∷ es) (e ∷ insert_entry nat_cmp es id s)) ≤ numbered_in n (e ∷ es) + count_with_number n s.messages
      go Less ih = omega arith
      go Equal ih = omega arith
      go Greater ih = omega (arith, ih)

  opened_numbered : (id : ℕ) (ss : Streams) → numbered_in n (with_stream id ss).entries ≤ numbered_in n ss.entries
  opened_numbered id ss = go (is_some (lookup (is_at (nat_cmp id)) ss.entries))
    where
      more : Streams
      more = record ss { entries = insert_entry nat_cmp ss.entries id (blank ss) }

      go : (b : Bool) → numbered_in n (cond b ss more).entries ≤ numbered_in n ss.entries
      go true = omega arith
      go false = omega (arith, inserted id (blank ss) ss.entries)

  put_opened : (id : ℕ) (s : Stream) (ss : Streams)
      → numbered_in n (put_stream id s (with_stream id ss)).entries + count_with_number n (stream id ss).messages ≤ numbered_in n ss.entries + count_with_number n s.messages
  put_opened id s ss = go (lookup (is_at (nat_cmp id)) ss.entries) refl
    where
      more : Streams
      more = record ss { entries = insert_entry nat_cmp ss.entries id (blank ss) }

      go : (o : Option Stream) → lookup (is_at (nat_cmp id)) ss.entries ≡ o
          → numbered_in n (put_stream id s (with_stream id ss)).entries + count_with_number n (stream id ss).messages ≤ numbered_in n ss.entries + count_with_number n s.messages
      go None e =
          let none_numbered : count_with_number n (stream id ss).messages ≡ 0 = ap (λ (o : Option Stream). count_with_number n (unwrap_or o (blank ss)).messages) e in
          omega (arith, none_numbered, put_numbered id s (with_stream id ss), opened_numbered id ss)
      go (Some v) e =
          let same : with_stream id ss ≡ ss = ap (λ (o : Option Stream). cond (is_some o) ss more) e in
          subst (λ (r : Streams). numbered_in n (put_stream id s r).entries + count_with_number n (stream id ss).messages ≤ numbered_in n ss.entries + count_with_number n s.messages)
          (sym same) (put_numbered id s ss)

  -- ---- the messages of a stream

  appended : (ms ns : List Queued) → count_with_number n (ms ++ ns) ≡ count_with_number n ms + count_with_number n ns
  appended [] ns = omega arith
  appended (m ∷ ms) ns = omega (arith, appended ms ns)

  fresh_numbered : (now : ℕ) (ms : List Queued) → count_with_number n (fresh now ms) ≤ count_with_number n ms
  fresh_numbered now [] = omega arith
  fresh_numbered now (m ∷ ms) = go (is_stale now m) (fresh_numbered now ms)
    where
      go : (b : Bool) → count_with_number n (fresh now ms) ≤ count_with_number n ms → count_with_number n (cond b (fresh now ms) (m ∷ ms)) ≤ count_with_number n (m ∷ ms)
      go true ih = omega (arith, ih)
      go false ih = omega arith

  moved_numbered : (size : ℕ) (x : MessageNumbers) (ms : List Queued) → count_with_number n (moved_front size x ms) ≤ count_with_number n ms
  moved_numbered size x [] = omega arith
  moved_numbered size x (m ∷ ms) = go (is_last size m)
    where
      go : (b : Bool) → count_with_number n (cond b ms (move_past size x m ∷ ms)) ≤ count_with_number n (m ∷ ms)
      go true = omega arith
      go false = omega arith

  partly_numbered : (ms : List Queued) → count_with_number n (filter is_partly ms) ≤ count_with_number n ms
  partly_numbered [] = omega arith
  partly_numbered (m ∷ ms) = go (is_partly m) (partly_numbered ms)
    where
      go : (b : Bool) → count_with_number n (filter is_partly ms) ≤ count_with_number n ms → count_with_number n (cond b (m ∷ filter is_partly ms) (filter is_partly ms)) ≤ count_with_number n (m ∷ ms)
      go true ih = omega (arith, ih)
      go false ih = omega (arith, ih)

  without_numbered : (number : ℕ) (ms : List Queued) (s : Stream) → s.messages ≡ ms → count_with_number n (without_front number ms s).messages ≤ count_with_number n ms
  without_numbered number [] s e = omega (arith, ap (count_with_number n) e)
  without_numbered number (m ∷ ms) s e = go (m.number == number)
    where
      go : (b : Bool) → count_with_number n (cond b (record s { messages = ms; pause = pause_if_pending s.pause }) s).messages ≤ count_with_number n (m ∷ ms)
      go true = omega arith
      go false = omega (arith, ap (count_with_number n) e)

  whole_numbered : (ms : List Queued) → count_with_number n (whole_front ms) ≡ count_with_number n ms
  whole_numbered [] = refl
  whole_numbered (m ∷ ms) = refl

  step_numbered : (step : ResetStep) (s : Stream) → count_with_number n (after_step step s).messages ≡ count_with_number n s.messages
  step_numbered Requested s = refl
  step_numbered Performed s = refl
  step_numbered Refused s = refl

  -- ---- the queue

  abbrev in_queue : Queue → ℕ
  in_queue q = numbered_in n q.streams.entries

  added_numbered : (id : ℕ) (m : Queued) (q : Queue) → in_queue (add id m q) ≤ in_queue q + one_if (m.number == n)
  added_numbered id m q =
      let s : Stream = stream id q.streams in
      omega (arith, put_opened id (push m s) q.streams, appended s.messages (m ∷ []))

  threshold_numbered : {P : Type 0} (id bytes : ℕ) (q : Queue) (t : Emitted P) → in_queue (set_low_threshold id bytes q t).queue ≤ in_queue q
  threshold_numbered id bytes q t = omega (arith, put_opened id (with_threshold bytes (stream id q.streams)) q.streams)

  priority_numbered : (id priority : ℕ) (q : Queue) → in_queue (set_priority id priority q) ≤ in_queue q
  priority_numbered id priority q = omega (arith, put_opened id (with_priority priority (stream id q.streams)) q.streams)

  prepared_numbered : {P : Type 0} (id : ℕ) (q : Queue) (t : Emitted P) → in_queue (prepare_reset id q t).queue ≤ in_queue q
  prepared_numbered id q t =
      let s : Stream = stream id q.streams in
      omega (arith, put_opened id (prepare_stream s) q.streams, partly_numbered s.messages)

  stepped_numbered : (step : ResetStep) (id : ℕ) (q : Queue) → in_queue (apply_reset_step step id q) ≤ in_queue q
  stepped_numbered step id q =
      let s : Stream = stream id q.streams in
      omega (arith, put_numbered id (after_step step s) q.streams, step_numbered step s)

  restarted_numbered : (id : ℕ) (q : Queue) → in_queue (restarted_one id q) ≤ in_queue q
  restarted_numbered id q =
      let s : Stream = stream id q.streams in
      omega (arith, put_numbered id (restart s) q.streams, whole_numbered s.messages)

  emptied_numbered : (id : ℕ) (q : Queue) → in_queue (emptied_one id q) ≤ in_queue q
  emptied_numbered id q = omega (arith, put_numbered id (emptied (stream id q.streams)) q.streams)

  discard_numbered_from : {P : Type 0} (id : ℕ) (ss : Streams) (o : Option (Option ℕ)) (q : Queue) (t : Emitted P) → numbered_in n ss.entries ≤ in_queue q
      → in_queue (discard_from id ss o q t).queue ≤ in_queue q
  discard_numbered_from id ss None q t h = h
  discard_numbered_from id ss (Some o) q t h = h

  discard_numbered : {P : Type 0} (id number : ℕ) (q : Queue) (t : Emitted P) → in_queue (discard id number q t).queue ≤ in_queue q
  discard_numbered id number q t =
      let s : Stream = stream id q.streams in
      discard_numbered_from id (streams_discarded id number q.streams) (front_discarded number s.messages) q t
      (omega (arith, put_numbered id (without_front number s.messages s) q.streams, without_numbered number s.messages s refl))

  turn_numbered : {P : Type 0} (now id size : ℕ) (q : Queue) (t : Emitted P) → in_queue (turn now id size q t).queue ≤ in_queue q
  turn_numbered now id size q t =
      let s : Stream = stream id q.streams in
      let ss : Streams = streams_without_stale now id q.streams in
      let r : Stream = stream id ss in
      omega (
        arith,
        put_numbered id (without_stale now s) q.streams,
        fresh_numbered now s.messages,
        put_numbered id (advance size r) ss,
        moved_numbered size (front_numbers r.messages r) r.messages,
      )

-- ---- what is still to be given stays so

-- none more of any number, and the next one as it was
record Fewer (q r : Queue) : Type 0 where
  less : (n : ℕ) → numbered_in n r.streams.entries ≤ numbered_in n q.streams.entries
  next : r.next_number ≡ q.next_number

fewer_same : (q : Queue) → Fewer q q
fewer_same q = record { less = λ n. omega arith; next = refl }

fewer_then : (q r s : Queue) → Fewer q r → Fewer r s → Fewer q s
fewer_then q r s a b = record { less = λ n. omega (arith, a.less n, b.less n); next = b.next ∙ a.next }

once_fewer : (q r : Queue) → Fewer q r → IsNumberedOnce q → IsNumberedOnce r
once_fewer q r f h n = omega (arith, f.less n, h n, ap (λ (k : ℕ). one_if (nat_lt n k)) f.next)

fewer_steps : (step : ResetStep) (ids : List ℕ) (q : Queue) → Fewer q (each_stepped step ids q)
fewer_steps step [] q = fewer_same q
fewer_steps step (id ∷ ids) q =
    let r : Queue = apply_reset_step step id q in
    fewer_then q r (each_stepped step ids r) (record { less = λ n. stepped_numbered n step id q; next = refl }) (fewer_steps step ids r)

fewer_restarted : (ids : List ℕ) (q : Queue) → Fewer q (each_restarted ids q)
fewer_restarted [] q = fewer_same q
fewer_restarted (id ∷ ids) q =
    let r : Queue = restarted_one id q in
    fewer_then q r (each_restarted ids r) (record { less = λ n. restarted_numbered n id q; next = refl }) (fewer_restarted ids r)

fewer_reset : (q : Queue) → Fewer q (reset q)
fewer_reset q =
    let f : Fewer q (each_restarted (keys_of q.streams.entries) q) = fewer_restarted (keys_of q.streams.entries) q in
    record { less = f.less; next = f.next }

fewer_emptied : (ids : List ℕ) (q : Queue) → Fewer q (each_emptied ids q)
fewer_emptied [] q = fewer_same q
fewer_emptied (id ∷ ids) q =
    let r : Queue = emptied_one id q in
    fewer_then q r (each_emptied ids r) (record { less = λ n. emptied_numbered n id q; next = refl }) (fewer_emptied ids r)

module _ {P : Type 0} where
  fewer_empty : (q : Queue) (t : Emitted P) → Fewer q (empty q t).queue
  fewer_empty q t =
      let f : Fewer q (each_emptied (keys_of q.streams.entries) q) = fewer_emptied (keys_of q.streams.entries) q in
      record { less = f.less; next = f.next }

  fewer_discarded : (id number : ℕ) (q : Queue) (t : Emitted P) → Fewer q (discard id number q t).queue
  fewer_discarded id number q t = record { less = λ n. discard_numbered n id number q t; next = go (front_discarded number (stream id q.streams).messages) }
    where
      go : (o : Option (Option ℕ)) → (discard_from id (streams_discarded id number q.streams) o q t).queue.next_number ≡ q.next_number
      go None = refl
      go (Some o) = refl

  fewer_turn : (now id size : ℕ) (q : Queue) (t : Emitted P) → Fewer q (turn now id size q t).queue
  fewer_turn now id size q t = record { less = λ n. turn_numbered n now id size q t; next = refl }

  fewer_if : (b : Bool) (q : Queue) (x y : Turn P) → Fewer q x.queue → Fewer x.queue y.queue → Fewer q (cond b x y).queue
  fewer_if true q x y f g = f
  fewer_if false q x y f g = fewer_then q x.queue y.queue f g

  fewer_from : (o : Option ℕ) (q : Queue) (next : ℕ → Turn P) (x : Turn P) → ((id : ℕ) → Fewer q (next id).queue) → Fewer q x.queue
      → Fewer q (unwrap_or (option_map next o) x).queue
  fewer_from None q next x f g = g
  fewer_from (Some id) q next x f g = f id

  fewer_within : (turns now size : ℕ) (q : Queue) (t : Emitted P) → Fewer q (produce_within turns now size q t).queue
  fewer_within zero now size q t = fewer_same q
  fewer_within (suc turns) now size q t =
      fewer_from (next_stream q) q _ (idle q t)
      (λ id. let x : Turn P = turn now id size q t in
      fewer_if (is_some x.made) q x (produce_within turns now size x.queue x.emitted) (fewer_turn now id size q t) (fewer_within turns now size x.queue x.emitted))
      (fewer_same q)

-- ---- a new message takes the next number

taken_next : (n next new : ℕ) → new ≡ next → one_if (nat_lt n next) + one_if (new == n) ≤ one_if (nat_lt n (next + 1))
taken_next n next new e = go (nat_lt n next) (new == n) (nat_lt n (next + 1)) refl refl refl
  where
    go : (a b d : Bool) → nat_lt n next ≡ a → (new == n) ≡ b → nat_lt n (next + 1) ≡ d → one_if a + one_if b ≤ one_if d
    go true true d p q r = absurd (grind (arith, nat_tests, e, p, q))
    go true false true p q r = omega arith
    go true false false p q r = absurd (grind (arith, nat_tests, p, r))
    go false true true p q r = omega arith
    go false true false p q r = absurd (grind (arith, nat_tests, e, q, r))
    go false false d p q r = omega arith

added_once : (id : ℕ) (m : Queued) (q : Queue) → m.number ≡ q.next_number → q.next_number + 1 < 2 ^ 32 → IsNumberedOnce q → IsNumberedOnce (add id m q)
added_once id m q e small h n =
    let next : (q.next_number + 1) % 2 ^ 32 ≡ q.next_number + 1 = mod-eq_of_lt small in
    omega (arith, h n, added_numbered n id m q, taken_next n q.next_number m.number e, ap (λ (k : ℕ). one_if (nat_lt n k)) next)

none_given : (n : ℕ) → 0 ≤ one_if (nat_lt n 0)
none_given n = omega arith

pub calls_number_once : CallsNumberOnce
calls_number_once = record {
  new = λ o n. none_given n;
  added = added_once;
  produced = λ now size q emitted. once_fewer q (produce now size q emitted).queue (fewer_within (length q.scheduler.times + 2) now size q emitted);
  threshold = λ id bytes q emitted. once_fewer q (set_low_threshold id bytes q emitted).queue (record { less = λ n. threshold_numbered n id bytes q emitted; next = refl });
  priority = λ id priority q. once_fewer q (set_priority id priority q) (record { less = λ n. priority_numbered n id priority q; next = refl });
  mode = λ is_interleaved q h. h;
  discarded = λ id message q emitted. once_fewer q (discard id message q emitted).queue (fewer_discarded id message q emitted);
  prepared = λ id q emitted. once_fewer q (prepare_reset id q emitted).queue (record { less = λ n. prepared_numbered n id q emitted; next = refl });
  steps = λ step ids q. once_fewer q (each_stepped step ids q) (fewer_steps step ids q);
  restarted = λ q. once_fewer q (reset q) (fewer_reset q);
  emptied = λ q emitted. once_fewer q (empty q emitted).queue (fewer_empty q emitted);
}
