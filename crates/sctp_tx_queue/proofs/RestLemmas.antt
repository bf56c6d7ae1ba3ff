-- Something of each message is left, whatever is called.
use Rattle.std.proofs.Common.{◌≡◌, ℕ, zero, suc, ◌+◌, ◌-◌, ◌<◌, ◌≤◌, Bool, true, false, cond, List, [], ◌∷◌, ◌++◌, Option, Some, None, refl, ap, sym, subst, ◌∙◌, arith, length, take, drop, length-drop}
use Rattle.std.specs.Prelude.{nat_lt, nat_le, ◌&&◌, ◌==◌, filter}
use Rattle.std.specs.List.{list_all}
use Rattle.std.specs.Map.{keys_of}
use Rattle.std.proofs.lemmas.List.{length-take}
use Rattle.std.proofs.lemmas.Bool.Decides.{nat_tests}
use Rattle.std.proofs.lemmas.Option.{none-some, same_Some}
use Rattle.std.proofs.lemmas.Bool.{ltb-true, and_parts}
use Rattle.sctp_tx_queue.proofs.EmptiedLemmas.{emptied_rests}
use Rattle.sctp_tx_queue.proofs.StreamLemmas.{step_messages}
use Rattle.sctp_state.specs.Events.{Emitted}
use Rattle.sctp_tx_queue.specs.declared.send_queue.message.MessageNumbers.{MessageNumbers}
use Rattle.sctp_tx_queue.specs.declared.send_queue.stream.ResetStep.{ResetStep}
use Rattle.sctp_tx_queue.specs.SendQueue.{Queued, Queue, Stream, Streams, stream, put_stream, with_stream, push, add}
use Rattle.sctp_tx_queue.specs.Produced.{Produced, Turn, is_stale, fresh, without_stale, streams_without_stale, moved_front, move_past, ends, front_numbers, front_made, made_of, advance, turn, next_stream, produce_within, pause_if_pending}
use Rattle.sctp_tx_queue.specs.Settings.{with_threshold, with_priority, set_low_threshold, set_priority, front_discarded, without_front, streams_discarded, discard}
use Rattle.sctp_tx_queue.specs.Resets.{is_partly, prepare_stream, prepare_reset, after_step, apply_reset_step, each_stepped}
use Rattle.sctp_tx_queue.specs.Restarted.{whole_front, restart, restarted_one, each_restarted}
use Rattle.sctp_tx_queue.specs.InOrder.{has_rest, HasRests, IsFilled, CallsLeaveRests}
use Rattle.sctp_tx_queue.proofs.InOrderLemmas.{each_put, opened_same, discard_streams}
use Rattle.sctp_tx_queue.proofs.ProduceLemmas.{idles, gives, turned}

-- ---- lists of messages

all_pushed : (ms : List Queued) (m : Queued) → list_all has_rest ms ≡ true → has_rest m ≡ true → list_all has_rest (ms ++ m ∷ []) ≡ true
all_pushed [] m h w = ap (λ b. b && true) w
all_pushed (x ∷ xs) m h w =
    let hs = and_parts (has_rest x) (list_all has_rest xs) h in
    ap (λ b. b && list_all has_rest (xs ++ m ∷ [])) hs.0 ∙ all_pushed xs m hs.1 w

all_filter : (p : Queued → Bool) (ms : List Queued) → list_all has_rest ms ≡ true → list_all has_rest (filter p ms) ≡ true
all_filter p [] h = refl
all_filter p (m ∷ rest) h = go (p m) (all_filter p rest hs.1)
  where
    hs : (has_rest m ≡ true) × (list_all has_rest rest ≡ true)
    hs = and_parts (has_rest m) (list_all has_rest rest) h

    go : (b : Bool) → list_all has_rest (filter p rest) ≡ true → list_all has_rest (cond b (m ∷ filter p rest) (filter p rest)) ≡ true
    go true ih = ap (λ b. b && list_all has_rest (filter p rest)) hs.0 ∙ ih
    go false ih = ih

behind : (m : Queued) (rest : List Queued) → list_all has_rest (m ∷ rest) ≡ true → list_all has_rest rest ≡ true
behind m rest h = (and_parts (has_rest m) (list_all has_rest rest) h).1

all_fresh : (now : ℕ) (ms : List Queued) → list_all has_rest ms ≡ true → list_all has_rest (fresh now ms) ≡ true
all_fresh now [] h = refl
all_fresh now (m ∷ rest) h = go (is_stale now m) (all_fresh now rest (behind m rest h))
  where
    go : (b : Bool) → list_all has_rest (fresh now rest) ≡ true → list_all has_rest (cond b (fresh now rest) (m ∷ rest)) ≡ true
    go true ih = ih
    go false ih = h

more_left : (offset size whole : ℕ) → nat_le (whole - offset) size ≡ false → nat_lt (offset + size) whole ≡ true
more_left offset size whole e = grind (arith, nat_tests)

all_moved : (size : ℕ) (n : MessageNumbers) (ms : List Queued) → list_all has_rest ms ≡ true → list_all has_rest (moved_front size n ms) ≡ true
all_moved size n [] h = refl
all_moved size n (m ∷ rest) h = go (ends size m) refl
  where
    go : (b : Bool) → ends size m ≡ b → list_all has_rest (cond b rest (move_past size n m ∷ rest)) ≡ true
    go true e = behind m rest h
    go false e = ap (λ b. b && list_all has_rest rest) (more_left m.offset size (length m.payload) e) ∙ behind m rest h

some_left : (offset whole : ℕ) → nat_lt offset whole ≡ true → nat_lt 0 whole ≡ true
some_left offset whole e = grind (arith, nat_tests)

all_whole : (ms : List Queued) → list_all has_rest ms ≡ true → list_all has_rest (whole_front ms) ≡ true
all_whole [] h = refl
all_whole (m ∷ rest) h =
    let hs = and_parts (has_rest m) (list_all has_rest rest) h in
    ap (λ b. b && list_all has_rest rest) (some_left m.offset (length m.payload) hs.0) ∙ hs.1

all_without : (message : ℕ) (ms : List Queued) (s : Stream) → s.messages ≡ ms → list_all has_rest ms ≡ true → list_all has_rest (without_front message ms s).messages ≡ true
all_without message [] s e h = ap (λ ms. list_all has_rest ms) e
all_without message (m ∷ rest) s e h = go (m.number == message)
  where
    go : (b : Bool) → list_all has_rest (cond b (record s { messages = rest; pause = pause_if_pending s.pause }) s).messages ≡ true
    go true = behind m rest h
    go false = ap (λ ms. list_all has_rest ms) e ∙ h

-- ---- a fragment

bytes : (size offset : ℕ) (payload : List ℕ) → 0 < size → offset < length payload → (0 < length (take size (drop offset payload))) × (length (take size (drop offset payload)) ≤ size)
bytes size offset payload some l = (omega (arith, length-take size (drop offset payload), length-drop offset payload, some, l), omega (arith, length-take size (drop offset payload)))

filled_front : (id size : ℕ) (n : MessageNumbers) (ms : List Queued) → 0 < size → list_all has_rest ms ≡ true → IsFilled size (front_made id size n ms)
filled_front id size n [] some h p made = absurd (none-some p made)
filled_front id size n (m ∷ rest) some h p made =
    subst (λ (x : Produced). (0 < length x.fragment.payload) × (length x.fragment.payload ≤ size)) (same_Some (made_of id size n m) p made)
    (bytes size m.offset m.payload some (ltb-true m.offset (length m.payload) (and_parts (has_rest m) (list_all has_rest rest) h).0))

-- ---- the calls

put_stream_keeps_rests : (id : ℕ) (s : Stream) (ss : Streams) (q after : Queue) → ((k : ℕ) → stream k ss ≡ stream k q.streams) → after.streams ≡ put_stream id s ss → list_all has_rest s.messages ≡ true → HasRests q → HasRests after
put_stream_keeps_rests id s ss q after same streams here h = record { rests = all }
  where
    all : (k : ℕ) → list_all has_rest (stream k after.streams).messages ≡ true
    all k =
        ap (λ (x : Streams). list_all has_rest (stream k x).messages) streams
        ∙ each_put (λ i ms. list_all has_rest ms ≡ true) id s ss (λ i. ap (λ (t : Stream). list_all has_rest t.messages) (same i) ∙ h.rests i) here k

pub without_stale_rests : (now id : ℕ) (q : Queue) → HasRests q → (k : ℕ) → list_all has_rest (stream k (streams_without_stale now id q.streams)).messages ≡ true
without_stale_rests now id q h k =
    each_put (λ i ms. list_all has_rest ms ≡ true) id (without_stale now (stream id q.streams)) q.streams h.rests (all_fresh now (stream id q.streams).messages (h.rests id)) k

pub turn_rests : {P : Type 0} (now id size : ℕ) (q : Queue) (emitted : Emitted P) → HasRests q → HasRests (turn now id size q emitted).queue
turn_rests now id size q emitted h = record { rests = all }
  where
    ss : Streams
    ss = streams_without_stale now id q.streams

    s : Stream
    s = stream id ss

    all : (k : ℕ) → list_all has_rest (stream k (put_stream id (advance size s) ss)).messages ≡ true
    all k =
        each_put (λ i ms. list_all has_rest ms ≡ true) id (advance size s) ss (without_stale_rests now id q h)
        (all_moved size (front_numbers s.messages s) s.messages (without_stale_rests now id q h id)) k

turn_filled : {P : Type 0} (now id size : ℕ) (q : Queue) (emitted : Emitted P) → 0 < size → HasRests q → IsFilled size (turn now id size q emitted).made
turn_filled now id size q emitted some h =
    let s : Stream = stream id (streams_without_stale now id q.streams) in
    filled_front id size (front_numbers s.messages s) s.messages some (without_stale_rests now id q h id)

-- a turn, and what comes of it
pub record Runs {P : Type 0} (size : ℕ) (t : Turn P) : Type 0 where
  pub rests : HasRests t.queue
  pub filled : 0 < size → IsFilled size t.made

turn_runs : {P : Type 0} (now id size : ℕ) (q : Queue) (emitted : Emitted P) → HasRests q → Runs size (turn now id size q emitted)
turn_runs now id size q emitted h = record { rests = turn_rests now id size q emitted h; filled = λ some. turn_filled now id size q emitted some h }

within_runs : {P : Type 0} (turns now size : ℕ) (q : Queue) (emitted : Emitted P) → HasRests q → Runs size (produce_within turns now size q emitted)
within_runs zero now size q emitted h = record { rests = h; filled = λ some p made. absurd (none-some p made) }
within_runs {P} (suc m) now size q emitted h = go (next_stream q) refl (λ r t g. within_runs m now size r t g)
  where
    go : (o : Option ℕ) → next_stream q ≡ o → ((r : Queue) (t : Emitted P) → HasRests r → Runs size (produce_within m now size r t)) → Runs size (produce_within (suc m) now size q emitted)
    go None e ih = subst (λ (t : Turn P). Runs size t) (sym (idles m now size q emitted e)) (record { rests = h; filled = λ some p made. absurd (none-some p made) })
    go (Some id) e ih = pick (turn now id size q emitted).made refl
      where
        pick : (o : Option Produced) → o ≡ (turn now id size q emitted).made → Runs size (produce_within (suc m) now size q emitted)
        pick (Some made) is = subst (λ (t : Turn P). Runs size t) (sym (gives m now size id q emitted made e is)) (turn_runs now id size q emitted h)
        pick None is = subst (λ (t : Turn P). Runs size t) (sym (turned m now size id q emitted e is)) (ih (turn now id size q emitted).queue (turn now id size q emitted).emitted (turn_rests now id size q emitted h))

pub steps_rests : (step : ResetStep) (ids : List ℕ) (q : Queue) → HasRests q → HasRests (each_stepped step ids q)
steps_rests step [] q h = h
steps_rests step (id ∷ ids) q h =
    let s : Stream = stream id q.streams in
    steps_rests step ids (apply_reset_step step id q) (put_stream_keeps_rests id (after_step step s) q.streams q (apply_reset_step step id q) (λ k. refl) refl (ap (λ ms. list_all has_rest ms) (step_messages step s) ∙ h.rests id) h)

pub restarted_rests : (ids : List ℕ) (q : Queue) → HasRests q → HasRests (each_restarted ids q)
restarted_rests [] q h = h
restarted_rests (id ∷ ids) q h =
    let s : Stream = stream id q.streams in
    restarted_rests ids (restarted_one id q) (put_stream_keeps_rests id (restart s) q.streams q (restarted_one id q) (λ k. refl) refl (all_whole s.messages (h.rests id)) h)

pub calls_leave_rests : CallsLeaveRests
calls_leave_rests = record {
  new = λ o. record { rests = λ k. refl };
  added = λ id m q w h.
      put_stream_keeps_rests id (push m (stream id q.streams)) (with_stream id q.streams) q (add id m q) (λ k. opened_same k id q.streams) refl (all_pushed (stream id q.streams).messages m (h.rests id) w) h;
  produced = λ now size q emitted h. (within_runs (length q.scheduler.times + 2) now size q emitted h).rests;
  filled = λ now size q emitted some h. (within_runs (length q.scheduler.times + 2) now size q emitted h).filled some;
  threshold = λ id bytes q emitted h. put_stream_keeps_rests id (with_threshold bytes (stream id q.streams)) (with_stream id q.streams) q (set_low_threshold id bytes q emitted).queue (λ k. opened_same k id q.streams) refl (h.rests id) h;
  priority = λ id priority q h. put_stream_keeps_rests id (with_priority priority (stream id q.streams)) (with_stream id q.streams) q (set_priority id priority q) (λ k. opened_same k id q.streams) refl (h.rests id) h;
  mode = λ is_interleaved q h. record { rests = h.rests };
  discarded = λ id message q emitted h.
      let s : Stream = stream id q.streams in
      put_stream_keeps_rests id (without_front message s.messages s) q.streams q (discard id message q emitted).queue (λ k. refl)
      (discard_streams id (streams_discarded id message q.streams) (front_discarded message s.messages) q emitted) (all_without message s.messages s refl (h.rests id)) h;
  prepared = λ id q emitted h.
      put_stream_keeps_rests id (prepare_stream (stream id q.streams)) (with_stream id q.streams) q (prepare_reset id q emitted).queue (λ k. opened_same k id q.streams) refl (all_filter is_partly (stream id q.streams).messages (h.rests id)) h;
  steps = steps_rests;
  restarted = λ q h. let r = restarted_rests (keys_of q.streams.entries) q h in record { rests = r.rests };
  emptied = λ q emitted. emptied_rests q emitted;
}
