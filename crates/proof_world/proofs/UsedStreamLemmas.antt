-- What is so of each stream of a queue stays so through each of its calls, where it stays so through what they make of one stream. And the
-- numbers of ordered messages: a stream has numbered no more of them than were accepted on it.
use Rattle.std.proofs.Common.{◌≡◌, ℕ, zero, suc, ◌+◌, ◌≤◌, ◌==◌, not, ◌&&◌, Bool, true, false, cond, Less, Equal, Greater, Option, Some, None, List, [], ◌∷◌, ◌++◌, length, filter, refl, sym, ap, subst, arith}
use Rattle.std.specs.Prelude.{⊤, is_some, unwrap_or, option_map}
use Rattle.std.specs.List.{AllByRecursion}
use Rattle.std.specs.Map.{lookup, set_value, keys_of}
use Rattle.std.specs.Ordering.{nat_cmp, match_ordering, is_eq}
use Rattle.std.specs.declared.cmp.Ordering.{Ordering}
use Rattle.std.specs.BTreeMap.{is_at, insert_entry}
use Rattle.sctp_serial.specs.Unwrapped.{origin}
use Rattle.sctp_serial.proofs.NumberLemmas.{same_at}
use Rattle.sctp_state.specs.Events.{Emitted}
use Rattle.sctp_tx_outstanding.specs.OutstandingData.{Discard}
use Rattle.sctp_tx_queue.specs.declared.send_queue.message.MessageNumbers.{MessageNumbers}
use Rattle.sctp_tx_queue.specs.declared.send_queue.stream.ResetStep.{ResetStep}
use Rattle.sctp_tx_queue.specs.declared.send_queue.stream.ResetStep.TheVariants.{Requested, Performed, Refused}
use Rattle.sctp_tx_queue.specs.SendQueue.{Queued, Stream, Streams, Entries, Queue, stream, with_stream, put_stream, blank, blank_stream, push, add}
use Rattle.sctp_tx_queue.specs.Produced.{Turn, is_stale, fresh, without_stale, streams_without_stale, ends, move_past, moved_front, front_numbers, front_took, took, next_wrapping, advance, turn, next_stream, idle, produce_within, produce, pause_if_pending}
use Rattle.sctp_tx_queue.specs.Settings.{Changed, with_threshold, with_priority, set_low_threshold, set_priority, without_front, streams_discarded, front_discarded, discard_from, discard}
use Rattle.sctp_tx_queue.specs.Emptied.{emptied, emptied_one, each_emptied, empty}
use Rattle.sctp_tx_queue.specs.Restarted.{whole_front, restart, restarted_one, each_restarted, reset}
use Rattle.sctp_tx_queue.specs.Resets.{is_partly, prepare_stream, prepare_reset, after_step, apply_reset_step, each_stepped}
use Rattle.sctp_tx.specs.Sending.{discard_all}

-- ---- what calls make of one stream

pub record IsKept (P : ℕ → Stream → Type 0) : Type 0 where
  pub blank : (id priority threshold : ℕ) → P id (blank_stream priority threshold)
  pub threshold : (id bytes : ℕ) (s : Stream) → P id s → P id (with_threshold bytes s)
  pub priority : (id priority : ℕ) (s : Stream) → P id s → P id (with_priority priority s)
  pub prepared : (id : ℕ) (s : Stream) → P id s → P id (prepare_stream s)
  pub step : (id : ℕ) (step : ResetStep) (s : Stream) → P id s → P id (after_step step s)
  pub restart : (id : ℕ) (s : Stream) → P id s → P id (restart s)
  pub emptied : (id : ℕ) (s : Stream) → P id s → P id (emptied s)
  pub fresh : (id now : ℕ) (s : Stream) → P id s → P id (without_stale now s)
  pub advance : (id size : ℕ) (s : Stream) → P id s → P id (advance size s)
  pub discarded : (id number : ℕ) (s : Stream) → P id s → P id (without_front number s.messages s)

module _ (P : ℕ → Stream → Type 0) (is : IsKept P) where
  abbrev Stands : ℕ × Stream → Type 0
  Stands e = P e.0 e.1

  abbrev pub AllStand : Entries → Type 0
  AllStand es = AllByRecursion Stands es

  -- ---- the map of streams

  set_stands : (id : ℕ) (s : Stream) (es : Entries) → P id s → AllStand es → AllStand (set_value (is_at (nat_cmp id)) es s)
  set_stands id s [] f h = h
  set_stands id s (e ∷ es) f h = go (is_at (nat_cmp id) e.0) refl (set_stands id s es f h.1)
    where
      go : (b : Bool) → is_at (nat_cmp id) e.0 ≡ b → AllStand (set_value (is_at (nat_cmp id)) es s) → AllStand (cond b ((e.0, s) ∷ es) (e ∷ set_value (is_at (nat_cmp id)) es s))
      go true at rest = (subst (λ (k : ℕ). P k s) (same_at id e.0 at) f, h.1)
      go false at rest = (h.0, rest)

  insert_stands : (id : ℕ) (s : Stream) (es : Entries) → P id s → AllStand es → AllStand (insert_entry nat_cmp es id s)
  insert_stands id s [] f h = (f, h)
  insert_stands id s (e ∷ es) f h = go (nat_cmp id e.0) refl (insert_stands id s es f h.1)
    where
      go : (o : Ordering) → nat_cmp id e.0 ≡ o → AllStand (insert_entry nat_cmp es id s)
          → AllStand (match_ordering o ((id, s) ∷ e ∷ es) ((e.0, s) ∷ es) (e ∷ insert_entry nat_cmp es id s))
      go Less at rest = (f, h)
      go Equal at rest = (subst (λ (k : ℕ). P k s) (same_at id e.0 (ap is_eq at)) f, h.1)
      go Greater at rest = (h.0, rest)

  abbrev MayStand : ℕ → Option Stream → Type 0
  MayStand id None = ⊤
  MayStand id (Some s) = P id s

  found_stands : (id : ℕ) (es : Entries) → AllStand es → MayStand id (lookup (is_at (nat_cmp id)) es)
  found_stands id [] h = tt
  found_stands id (e ∷ es) h = go (is_at (nat_cmp id) e.0) refl (found_stands id es h.1)
    where
      go : (b : Bool) → is_at (nat_cmp id) e.0 ≡ b → MayStand id (lookup (is_at (nat_cmp id)) es) → MayStand id (cond b (Some e.1) (lookup (is_at (nat_cmp id)) es))
      go true at rest = subst (λ (k : ℕ). P k e.1) (sym (same_at id e.0 at)) h.0
      go false at rest = rest

  pub stream_stands : (id : ℕ) (ss : Streams) → AllStand ss.entries → P id (stream id ss)
  stream_stands id ss h = go (lookup (is_at (nat_cmp id)) ss.entries) (found_stands id ss.entries h)
    where
      go : (o : Option Stream) → MayStand id o → P id (unwrap_or o (blank ss))
      go None k = is.blank id ss.default_priority ss.default_threshold
      go (Some s) k = k

  put_stands : (id : ℕ) (s : Stream) (ss : Streams) → P id s → AllStand ss.entries → AllStand (put_stream id s ss).entries
  put_stands id s ss f h = set_stands id s ss.entries f h

  opened_stands : (id : ℕ) (ss : Streams) → AllStand ss.entries → AllStand (with_stream id ss).entries
  opened_stands id ss h = go (is_some (lookup (is_at (nat_cmp id)) ss.entries))
    where
      go : (b : Bool) → AllStand (cond b ss (record ss { entries = insert_entry nat_cmp ss.entries id (blank ss) })).entries
      go true = h
      go false = insert_stands id (blank ss) ss.entries (is.blank id ss.default_priority ss.default_threshold) h

  put_opened : (id : ℕ) (s : Stream) (ss : Streams) → P id s → AllStand ss.entries → AllStand (put_stream id s (with_stream id ss)).entries
  put_opened id s ss f h = put_stands id s (with_stream id ss) f (opened_stands id ss h)

  -- ---- calls on a queue

  abbrev pub InQueue : Queue → Type 0
  InQueue q = AllStand q.streams.entries

  pub stands_added : (id : ℕ) (m : Queued) (q : Queue) → P id (push m (stream id q.streams)) → InQueue q → InQueue (add id m q)
  stands_added id m q f h = put_opened id (push m (stream id q.streams)) q.streams f h

  pub stands_priority : (id priority : ℕ) (q : Queue) → InQueue q → InQueue (set_priority id priority q)
  stands_priority id priority q h =
      put_opened id (with_priority priority (stream id q.streams)) q.streams (is.priority id priority (stream id q.streams) (stream_stands id q.streams h)) h

  pub stands_threshold : {T : Type 0} (id bytes : ℕ) (q : Queue) (t : Emitted T) → InQueue q → InQueue (set_low_threshold id bytes q t).queue
  stands_threshold id bytes q t h =
      put_opened id (with_threshold bytes (stream id q.streams)) q.streams (is.threshold id bytes (stream id q.streams) (stream_stands id q.streams h)) h

  pub stands_prepared : {T : Type 0} (id : ℕ) (q : Queue) (t : Emitted T) → InQueue q → InQueue (prepare_reset id q t).queue
  stands_prepared id q t h = put_opened id (prepare_stream (stream id q.streams)) q.streams (is.prepared id (stream id q.streams) (stream_stands id q.streams h)) h

  stands_stepped : (step : ResetStep) (id : ℕ) (q : Queue) → InQueue q → InQueue (apply_reset_step step id q)
  stands_stepped step id q h = put_stands id (after_step step (stream id q.streams)) q.streams (is.step id step (stream id q.streams) (stream_stands id q.streams h)) h

  pub stands_each_stepped : (step : ResetStep) (ids : List ℕ) (q : Queue) → InQueue q → InQueue (each_stepped step ids q)
  stands_each_stepped step [] q h = h
  stands_each_stepped step (id ∷ ids) q h = stands_each_stepped step ids (apply_reset_step step id q) (stands_stepped step id q h)

  stands_restarted : (id : ℕ) (q : Queue) → InQueue q → InQueue (restarted_one id q)
  stands_restarted id q h = put_stands id (restart (stream id q.streams)) q.streams (is.restart id (stream id q.streams) (stream_stands id q.streams h)) h

  stands_each_restarted : (ids : List ℕ) (q : Queue) → InQueue q → InQueue (each_restarted ids q)
  stands_each_restarted [] q h = h
  stands_each_restarted (id ∷ ids) q h = stands_each_restarted ids (restarted_one id q) (stands_restarted id q h)

  pub stands_reset : (q : Queue) → InQueue q → InQueue (reset q)
  stands_reset q h = stands_each_restarted (keys_of q.streams.entries) q h

  stands_emptied : (id : ℕ) (q : Queue) → InQueue q → InQueue (emptied_one id q)
  stands_emptied id q h = put_stands id (emptied (stream id q.streams)) q.streams (is.emptied id (stream id q.streams) (stream_stands id q.streams h)) h

  stands_each_emptied : (ids : List ℕ) (q : Queue) → InQueue q → InQueue (each_emptied ids q)
  stands_each_emptied [] q h = h
  stands_each_emptied (id ∷ ids) q h = stands_each_emptied ids (emptied_one id q) (stands_emptied id q h)

  pub stands_empty : {T : Type 0} (q : Queue) (t : Emitted T) → InQueue q → InQueue (empty q t).queue
  stands_empty q t h = stands_each_emptied (keys_of q.streams.entries) q h

  left_stands : {T : Type 0} (id : ℕ) (ss : Streams) (o : Option (Option ℕ)) (q : Queue) (t : Emitted T) → AllStand ss.entries → InQueue (discard_from id ss o q t).queue
  left_stands id ss None q t h = h
  left_stands id ss (Some l) q t h = h

  stands_discard : {T : Type 0} (id number : ℕ) (q : Queue) (t : Emitted T) → InQueue q → InQueue (discard id number q t).queue
  stands_discard id number q t h =
      let s : Stream = stream id q.streams in
      left_stands id (streams_discarded id number q.streams) (front_discarded number s.messages) q t
      (put_stands id (without_front number s.messages s) q.streams (is.discarded id number s (stream_stands id q.streams h)) h)

  pub stands_discards : {T : Type 0} (ds : List Discard) (q : Queue) (t : Emitted T) → InQueue q → InQueue (discard_all ds q t).queue
  stands_discards [] q t h = h
  stands_discards {T} (d ∷ ds) q t h =
      let x : Changed T = discard d.stream d.number q t in
      stands_discards ds x.queue x.emitted (stands_discard d.stream d.number q t h)

  -- ---- fragments

  turns : {T : Type 0} (now id size : ℕ) (q : Queue) (t : Emitted T) → InQueue q → InQueue (turn now id size q t).queue
  turns now id size q t h =
      let s : Stream = stream id q.streams in
      let ss : Streams = streams_without_stale now id q.streams in
      let k : AllStand ss.entries = put_stands id (without_stale now s) q.streams (is.fresh id now s (stream_stands id q.streams h)) h in
      put_stands id (advance size (stream id ss)) ss (is.advance id size (stream id ss) (stream_stands id ss k)) k

  produces_if : {T : Type 0} (b : Bool) (x y : Turn T) → InQueue x.queue → InQueue y.queue → InQueue (cond b x y).queue
  produces_if true x y h k = h
  produces_if false x y h k = k

  produces_from : {T : Type 0} (o : Option ℕ) (next : ℕ → Turn T) (x : Turn T) → ((id : ℕ) → InQueue (next id).queue) → InQueue x.queue → InQueue (unwrap_or (option_map next o) x).queue
  produces_from None next x h k = k
  produces_from (Some id) next x h k = h id

  produces : {T : Type 0} (n now size : ℕ) (q : Queue) (t : Emitted T) → InQueue q → InQueue (produce_within n now size q t).queue
  produces zero now size q t h = h
  produces {T} (suc n) now size q t h =
      produces_from (next_stream q) _ (idle q t)
      (λ id. let x : Turn T = turn now id size q t in
      produces_if (is_some x.made) x (produce_within n now size x.queue x.emitted) (turns now id size q t h) (produces n now size x.queue x.emitted (turns now id size q t h))) h

  pub stands_produced : {T : Type 0} (now size : ℕ) (q : Queue) (t : Emitted T) → InQueue q → InQueue (produce now size q t).queue
  stands_produced now size q t h = produces (length q.scheduler.times + 2) now size q t h

-- ---- numbers of ordered messages

abbrev pub one_of : Bool → ℕ
one_of true = 1
one_of false = 0

abbrev pub is_ordered : Queued → Bool
is_ordered m = not m.is_unordered

-- which has no number yet
abbrev pub is_next : Queued → Bool
is_next m = not m.is_unordered && not (is_some m.numbers)

abbrev pub number_of : (Queued → Bool) → List Queued → ℕ
number_of test [] = 0
number_of test (m ∷ ms) = one_of (test m) + number_of test ms

-- As many were accepted on it: no more wait, and no more are numbered or wait for their numbers.
pub record HasOrdered (most : ℕ) (s : Stream) : Type 0 where
  pub waiting : number_of is_ordered s.messages ≤ most
  pub numbered : s.next_ordered_mid + number_of is_next s.messages ≤ origin + most

both_numbers : (test : Queued → Bool) (ms ns : List Queued) → number_of test (ms ++ ns) ≡ number_of test ms + number_of test ns
both_numbers test [] ns = omega arith
both_numbers test (m ∷ ms) ns = omega (arith, both_numbers test ms ns)

one_if_both : (a b : Bool) → one_of (a && b) ≤ one_of a
one_if_both true true = omega arith
one_if_both true false = omega arith
one_if_both false b = omega arith

next_ordered : (ms : List Queued) → number_of is_next ms ≤ number_of is_ordered ms
next_ordered [] = omega arith
next_ordered (m ∷ ms) = omega (arith, one_if_both (not m.is_unordered) (not (is_some m.numbers)), next_ordered ms)

fewer_if : (test : Queued → Bool) (b : Bool) (m : Queued) (ms more : List Queued) → number_of test more ≤ number_of test ms → number_of test (cond b more (m ∷ ms)) ≤ number_of test (m ∷ ms)
fewer_if test true m ms more h = omega (arith, h)
fewer_if test false m ms more h = omega arith

fewer_fresh : (test : Queued → Bool) (now : ℕ) (ms : List Queued) → number_of test (fresh now ms) ≤ number_of test ms
fewer_fresh test now [] = omega arith
fewer_fresh test now (m ∷ ms) = fewer_if test (is_stale now m) m ms (fresh now ms) (fewer_fresh test now ms)

fewer_partly : (test : Queued → Bool) (ms : List Queued) → number_of test (filter is_partly ms) ≤ number_of test ms
fewer_partly test [] = omega arith
fewer_partly test (m ∷ ms) = go (is_partly m) (fewer_partly test ms)
  where
    go : (b : Bool) → number_of test (filter is_partly ms) ≤ number_of test ms → number_of test (cond b (m ∷ filter is_partly ms) (filter is_partly ms)) ≤ number_of test (m ∷ ms)
    go true ih = omega (arith, ih)
    go false ih = omega (arith, ih)

whole_ordered : (ms : List Queued) → number_of is_ordered (whole_front ms) ≡ number_of is_ordered ms
whole_ordered [] = refl
whole_ordered (m ∷ ms) = refl

module _ (most : ℕ) where
  prepared : (s : Stream) → HasOrdered most s → HasOrdered most (prepare_stream s)
  prepared s h = record {
    waiting = omega (arith, h.waiting, fewer_partly is_ordered s.messages);
    numbered = omega (arith, h.numbered, fewer_partly is_next s.messages);
  }

  stepped : (step : ResetStep) (s : Stream) → HasOrdered most s → HasOrdered most (after_step step s)
  stepped Requested s h = record { waiting = h.waiting; numbered = h.numbered }
  stepped Performed s h = record { waiting = h.waiting; numbered = omega (arith, h.waiting, next_ordered s.messages) }
  stepped Refused s h = record { waiting = h.waiting; numbered = h.numbered }

  restarted : (s : Stream) → HasOrdered most s → HasOrdered most (restart s)
  restarted s h = record {
    waiting = omega (arith, h.waiting, whole_ordered s.messages);
    numbered = omega (arith, h.waiting, whole_ordered s.messages, next_ordered (whole_front s.messages));
  }

  freshened : (now : ℕ) (s : Stream) → HasOrdered most s → HasOrdered most (without_stale now s)
  freshened now s h = record {
    waiting = omega (arith, h.waiting, fewer_fresh is_ordered now s.messages);
    numbered = omega (arith, h.numbered, fewer_fresh is_next now s.messages);
  }

  discarded : (number : ℕ) (ms : List Queued) (s : Stream) → s.messages ≡ ms → HasOrdered most s → HasOrdered most (without_front number ms s)
  discarded number [] s e h = h
  discarded number (m ∷ ms) s e h = go (m.number == number)
    where
      go : (b : Bool) → HasOrdered most (cond b (record s { messages = ms; pause = pause_if_pending s.pause }) s)
      go true = record {
        waiting = omega (arith, h.waiting, ap (number_of is_ordered) e);
        numbered = omega (arith, h.numbered, ap (number_of is_next) e);
      }
      go false = h

  -- a fragment goes: its message has its number then
  moved_ordered : (size : ℕ) (n : MessageNumbers) (ms : List Queued) → number_of is_ordered (moved_front size n ms) ≤ number_of is_ordered ms
  moved_ordered size n [] = omega arith
  moved_ordered size n (m ∷ ms) = go (ends size m)
    where
      go : (b : Bool) → number_of is_ordered (cond b ms (move_past size n m ∷ ms)) ≤ number_of is_ordered (m ∷ ms)
      go true = omega arith
      go false = omega arith

  wraps : (n : ℕ) → next_wrapping n ≤ n + 1
  wraps n = omega arith

  took_numbers : (m : Queued) (s : Stream) → (took m s).next_ordered_mid ≤ s.next_ordered_mid + one_of (is_next m)
  took_numbers m s = go m.is_unordered (is_some m.numbers)
    where
      go : (a b : Bool) → (cond b s (cond a (record s { next_unordered_mid = next_wrapping s.next_unordered_mid })
          (record s { next_ssn = next_wrapping s.next_ssn; next_ordered_mid = next_wrapping s.next_ordered_mid }))).next_ordered_mid ≤ s.next_ordered_mid + one_of (not a && not b)
      go true true = omega arith
      go false true = omega arith
      go true false = omega arith
      go false false = omega (arith, wraps s.next_ordered_mid)

  numbered_none : (m : Queued) (a : Bool) → one_of (not a && false) ≡ 0
  numbered_none m true = refl
  numbered_none m false = refl

  moved_next : (size : ℕ) (ms : List Queued) (s : Stream) → (front_took ms s).next_ordered_mid + number_of is_next (moved_front size (front_numbers ms s) ms) ≤ s.next_ordered_mid + number_of is_next ms
  moved_next size [] s = omega arith
  moved_next size (m ∷ ms) s = go (ends size m)
    where
      go : (b : Bool) → (took m s).next_ordered_mid + number_of is_next (cond b ms (move_past size (front_numbers (m ∷ ms) s) m ∷ ms)) ≤ s.next_ordered_mid + number_of is_next (m ∷ ms)
      go true = omega (arith, took_numbers m s)
      go false = omega (arith, took_numbers m s, numbered_none m m.is_unordered)

  advanced : (size : ℕ) (s : Stream) → HasOrdered most s → HasOrdered most (advance size s)
  advanced size s h = record {
    waiting = omega (arith, h.waiting, moved_ordered size (front_numbers s.messages s) s.messages);
    numbered = omega (arith, h.numbered, moved_next size s.messages s);
  }

pub keeps_ordered : (most : ℕ → ℕ) → IsKept (λ id s. HasOrdered (most id) s)
keeps_ordered most = record {
  blank = λ id priority threshold. record { waiting = omega arith; numbered = omega arith };
  threshold = λ id bytes s h. record { waiting = h.waiting; numbered = h.numbered };
  priority = λ id priority s h. record { waiting = h.waiting; numbered = h.numbered };
  prepared = λ id s h. prepared (most id) s h;
  step = λ id step s h. stepped (most id) step s h;
  restart = λ id s h. restarted (most id) s h;
  emptied = λ id s h. record { waiting = omega arith; numbered = omega (arith, h.numbered) };
  fresh = λ id now s h. freshened (most id) now s h;
  advance = λ id size s h. advanced (most id) size s h;
  discarded = λ id number s h. discarded (most id) number s.messages s refl h;
}

-- ---- acceptance

pub pushed_ordered : (most more : ℕ) (m : Queued) (s : Stream) → most + one_of (is_ordered m) ≤ more → m.numbers ≡ None → HasOrdered most s → HasOrdered more (push m s)
pushed_ordered most more m s few none h = record {
  waiting = omega (arith, few, h.waiting, both_numbers is_ordered s.messages (m ∷ []));
  numbered = omega (arith, few, h.numbered, both_numbers is_next s.messages (m ∷ []), one_if_both (not m.is_unordered) (not (is_some m.numbers)));
}

pub more_ordered : (most more : ℕ) (s : Stream) → most ≤ more → HasOrdered most s → HasOrdered more s
more_ordered most more s few h = record { waiting = omega (arith, few, h.waiting); numbered = omega (arith, few, h.numbered) }
