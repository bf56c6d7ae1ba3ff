-- What waits to be sent stays fitting, and so do the fragments that are made of it.
use Rattle.std.proofs.Common.{◌≡◌, ℕ, zero, suc, ◌+◌, ◌^◌, ◌<◌, ◌==◌, Bool, true, false, cond, Less, Equal, Greater, Option, Some, None, List, [], ◌∷◌, length, refl, sym, subst, arith}
use Rattle.std.specs.Prelude.{is_some, unwrap_or, option_map, map, filter}
use Rattle.std.specs.Map.{lookup, set_value, keys_of}
use Rattle.std.specs.Ordering.{nat_cmp, match_ordering}
use Rattle.std.specs.declared.cmp.Ordering.{Ordering}
use Rattle.std.specs.BTreeMap.{is_at, insert_entry}
use Rattle.sctp_serial.specs.Unwrapped.{u32_space, halves, wire}
use Rattle.sctp_packet.specs.Grammar.{Each, FitsFragment}
use Rattle.sctp_state.specs.declared.api.handover.HandoverOutgoingStream.{HandoverOutgoingStream}
use Rattle.sctp_state.specs.Events.{Emitted}
use Rattle.sctp_state.specs.Handover.{StreamMessage, Transmission}
use Rattle.sctp_tx_queue.specs.declared.send_queue.message.MessageNumbers.{MessageNumbers}
use Rattle.sctp_tx_queue.specs.declared.send_queue.stream.ResetStep.{ResetStep}
use Rattle.sctp_tx_queue.specs.SendQueue.{Queued, Stream, Streams, Entries, Queue, stream, with_stream, put_stream, blank, push, add}
use Rattle.sctp_tx_queue.specs.Produced.{Produced, Turn, is_stale, fresh, without_stale, streams_without_stale, pause_if_pending, ends, move_past, moved_front, front_made, front_numbers, advance, turn, next_stream, idle, produce_within, produce}
use Rattle.sctp_tx_queue.specs.Settings.{with_threshold, with_priority, set_low_threshold, set_priority, without_front, streams_discarded, front_discarded, discard_from, discard}
use Rattle.sctp_tx_queue.specs.Restarted.{whole_front, restart, restarted_one, each_restarted, reset}
use Rattle.sctp_tx_queue.specs.Resets.{is_partly, prepare_stream, prepare_reset, is_ready, ready, after_step, apply_reset_step, each_stepped, streams_to_request}
use Rattle.sctp_tx_queue.specs.Restored.{is_on, message_from, entries_from, restore}
use Rattle.sctp_tx_queue.proofs.StreamLemmas.{step_messages}
use Rattle.proof_endpoint.specs.Sound.{FitsQueued, FitsStream, FitsQueue, FitsStreamMessage}
use Rattle.proof_endpoint.proofs.ReceivedLemmas.{each_push, each_take}
use Rattle.sctp_serial.proofs.NumberLemmas.{same_at}

-- ---- the map of streams

abbrev AreFit : List Queued → Type 0
AreFit ms = Each FitsQueued ms

abbrev pub FitEntries : Entries → Type 0
FitEntries es = Each FitsStream es

-- a message of this stream
abbrev FitsOn : ℕ → Queued → Type 0
FitsOn id m = (id < 2 ^ 16) × FitsQueued m

abbrev IsFound : ℕ → Option Stream → Type 0
IsFound id None = Unit {0}
IsFound id (Some s) = (id < 2 ^ 16) × AreFit s.messages

found : (id : ℕ) (es : Entries) → FitEntries es → IsFound id (lookup (is_at (nat_cmp id)) es)
found id [] h = tt
found id (e ∷ es) h = go (is_at (nat_cmp id) e.0) refl (found id es h.1)
  where
    go : (b : Bool) → is_at (nat_cmp id) e.0 ≡ b → IsFound id (lookup (is_at (nat_cmp id)) es) → IsFound id (cond b (Some e.1) (lookup (is_at (nat_cmp id)) es))
    go true is rest = (subst (λ (k : ℕ). k < 2 ^ 16) (sym (same_at id e.0 is)) h.0.id, h.0.messages)
    go false is rest = rest

set_fits : (id : ℕ) (s : Stream) (es : Entries) → AreFit s.messages → FitEntries es → FitEntries (set_value (is_at (nat_cmp id)) es s)
set_fits id s [] f h = tt
set_fits id s (e ∷ es) f h = go (is_at (nat_cmp id) e.0) (set_fits id s es f h.1)
  where
    go : (b : Bool) → FitEntries (set_value (is_at (nat_cmp id)) es s) → FitEntries (cond b ((e.0, s) ∷ es) (e ∷ set_value (is_at (nat_cmp id)) es s))
    go true rest = (record { id = h.0.id; messages = f }, h.1)
    go false rest = (h.0, rest)

insert_fits : (id : ℕ) (s : Stream) (es : Entries) → id < 2 ^ 16 → AreFit s.messages → FitEntries es → FitEntries (insert_entry nat_cmp es id s)
insert_fits id s [] small f h = (record { id = small; messages = f }, tt)
insert_fits id s (e ∷ es) small f h = go (nat_cmp id e.0) (insert_fits id s es small f h.1)
  where
    go : (o : Ordering) → FitEntries (insert_entry nat_cmp es id s) → FitEntries (match_ordering o ((id, s) ∷ e ∷ es) ((e.0, s) ∷ es) (e ∷ insert_entry nat_cmp es id s))
    go Less rest = (record { id = small; messages = f }, h)
    go Equal rest = (record { id = h.0.id; messages = f }, h.1)
    go Greater rest = (h.0, rest)

each_on : (id : ℕ) (ms : List Queued) → id < 2 ^ 16 → AreFit ms → Each (FitsOn id) ms
each_on id [] small h = tt
each_on id (m ∷ ms) small h = ((small, h.0), each_on id ms small h.1)

each_off : (id : ℕ) (ms : List Queued) → Each (FitsOn id) ms → AreFit ms
each_off id [] h = tt
each_off id (m ∷ ms) h = (h.0.1, each_off id ms h.1)

stream_on : (id : ℕ) (ss : Streams) → FitEntries ss.entries → Each (FitsOn id) (stream id ss).messages
stream_on id ss h = go (lookup (is_at (nat_cmp id)) ss.entries) (found id ss.entries h)
  where
    go : (o : Option Stream) → IsFound id o → Each (FitsOn id) (unwrap_or o (blank ss)).messages
    go None k = tt
    go (Some s) k = each_on id s.messages k.0 k.1

stream_fits : (id : ℕ) (ss : Streams) → FitEntries ss.entries → AreFit (stream id ss).messages
stream_fits id ss h = each_off id (stream id ss).messages (stream_on id ss h)

pub put_fits : (id : ℕ) (s : Stream) (ss : Streams) → AreFit s.messages → FitEntries ss.entries → FitEntries (put_stream id s ss).entries
put_fits id s ss f h = set_fits id s ss.entries f h

opened_fits : (id : ℕ) (ss : Streams) → id < 2 ^ 16 → FitEntries ss.entries → FitEntries (with_stream id ss).entries
opened_fits id ss small h = go (is_some (lookup (is_at (nat_cmp id)) ss.entries))
  where
    go : (b : Bool) → FitEntries (cond b ss (record ss { entries = insert_entry nat_cmp ss.entries id (blank ss) })).entries
    go true = h
    go false = insert_fits id (blank ss) ss.entries small tt h

-- ---- acceptance and settings

pub added_fits : (id : ℕ) (m : Queued) (q : Queue) → id < 2 ^ 16 → FitsQueued m → FitsQueue q → FitsQueue (add id m q)
added_fits id m q small f h =
    put_fits id (push m (stream id q.streams)) (with_stream id q.streams) (each_push FitsQueued (stream id q.streams).messages m (stream_fits id q.streams h) f)
    (opened_fits id q.streams small h)

pub threshold_fits : {P : Type 0} (id bytes : ℕ) (q : Queue) (t : Emitted P) → id < 2 ^ 16 → FitsQueue q → FitsQueue (set_low_threshold id bytes q t).queue
threshold_fits id bytes q t small h =
    put_fits id (with_threshold bytes (stream id q.streams)) (with_stream id q.streams) (stream_fits id q.streams h) (opened_fits id q.streams small h)

pub priority_fits : (id priority : ℕ) (q : Queue) → id < 2 ^ 16 → FitsQueue q → FitsQueue (set_priority id priority q)
priority_fits id priority q small h =
    put_fits id (with_priority priority (stream id q.streams)) (with_stream id q.streams) (stream_fits id q.streams h) (opened_fits id q.streams small h)

-- ---- messages that are given up

cut_fits : (number : ℕ) (ms : List Queued) (s : Stream) → AreFit ms → AreFit s.messages → AreFit (without_front number ms s).messages
cut_fits number [] s h k = k
cut_fits number (m ∷ rest) s h k = go (m.number == number)
  where
    go : (b : Bool) → AreFit (cond b (record s { messages = rest; pause = pause_if_pending s.pause }) s).messages
    go true = h.1
    go false = k

left_fits : {P : Type 0} (id : ℕ) (ss : Streams) (o : Option (Option ℕ)) (q : Queue) (t : Emitted P) → FitEntries ss.entries → FitsQueue (discard_from id ss o q t).queue
left_fits id ss None q t h = h
left_fits id ss (Some l) q t h = h

pub discard_fits : {P : Type 0} (id number : ℕ) (q : Queue) (t : Emitted P) → FitsQueue q → FitsQueue (discard id number q t).queue
discard_fits id number q t h =
    let s : Stream = stream id q.streams in
    left_fits id (streams_discarded id number q.streams) (front_discarded number s.messages) q t
    (put_fits id (without_front number s.messages s) q.streams (cut_fits number s.messages s (stream_fits id q.streams h) (stream_fits id q.streams h)) h)

-- ---- fragments

abbrev pub FitsMade : Option Produced → Type 0
FitsMade None = Unit {0}
FitsMade (Some p) = FitsFragment p.fragment

pub record FitsTurn {P : Type 0} (t : Turn P) : Type 0 where
  pub queue : FitsQueue t.queue
  pub made : FitsMade t.made

fresh_fits : (now : ℕ) (ms : List Queued) → AreFit ms → AreFit (fresh now ms)
fresh_fits now [] h = tt
fresh_fits now (m ∷ rest) h = go (is_stale now m) (fresh_fits now rest h.1)
  where
    go : (b : Bool) → AreFit (fresh now rest) → AreFit (cond b (fresh now rest) (m ∷ rest))
    go true behind = behind
    go false behind = h

moved_fits : (size : ℕ) (n : MessageNumbers) (ms : List Queued) → AreFit ms → AreFit (moved_front size n ms)
moved_fits size n [] h = tt
moved_fits size n (m ∷ rest) h = go (ends size m)
  where
    go : (b : Bool) → AreFit (cond b rest (move_past size n m ∷ rest))
    go true = h.1
    go false = (record { ppid = h.0.ppid; fsn = omega arith }, h.1)

half_small : (n : ℕ) → wire halves 0 n < 2 ^ 16
half_small n = omega arith

word_small : (n : ℕ) → wire u32_space 0 n < 2 ^ 32
word_small n = omega arith

made_fits : (id size : ℕ) (n : MessageNumbers) (ms : List Queued) → Each (FitsOn id) ms → FitsMade (front_made id size n ms)
made_fits id size n [] h = tt
made_fits id size n (m ∷ rest) h =
    record { stream_id = h.0.0; ssn = half_small n.ssn; mid = word_small n.mid; fsn = h.0.1.fsn; ppid = h.0.1.ppid }

module _ {P : Type 0} where
  turn_fits : (now id size : ℕ) (q : Queue) (t : Emitted P) → FitsQueue q → FitsTurn (turn now id size q t)
  turn_fits now id size q t h =
      let ss : Streams = streams_without_stale now id q.streams in
      let first : FitEntries ss.entries = put_fits id (without_stale now (stream id q.streams)) q.streams
      (fresh_fits now (stream id q.streams).messages (stream_fits id q.streams h)) h in
      let s : Stream = stream id ss in
      record {
        queue = put_fits id (advance size s) ss (moved_fits size (front_numbers s.messages s) s.messages (stream_fits id ss first)) first;
        made = made_fits id size (front_numbers s.messages s) s.messages (stream_on id ss first);
      }

  fits_if : (b : Bool) (x y : Turn P) → FitsTurn x → FitsTurn y → FitsTurn (cond b x y)
  fits_if true x y h k = h
  fits_if false x y h k = k

  fits_from : (o : Option ℕ) (next : ℕ → Turn P) (x : Turn P) → ((id : ℕ) → FitsTurn (next id)) → FitsTurn x → FitsTurn (unwrap_or (option_map next o) x)
  fits_from None next x h k = k
  fits_from (Some id) next x h k = h id

  within_fits : (n now size : ℕ) (q : Queue) (t : Emitted P) → FitsQueue q → FitsTurn (produce_within n now size q t)
  within_fits zero now size q t h = record { queue = h; made = tt }
  within_fits (suc n) now size q t h =
      fits_from (next_stream q) _ (idle q t)
      (λ id. let x : Turn P = turn now id size q t in
      let k : FitsTurn x = turn_fits now id size q t h in
      fits_if (is_some x.made) x (produce_within n now size x.queue x.emitted) k (within_fits n now size x.queue x.emitted k.queue))
      (record { queue = h; made = tt })

  pub produce_fits : (now size : ℕ) (q : Queue) (t : Emitted P) → FitsQueue q → FitsTurn (produce now size q t)
  produce_fits now size q t h = within_fits (length q.scheduler.times + 2) now size q t h

-- ---- a new association

whole_fits : (ms : List Queued) → AreFit ms → AreFit (whole_front ms)
whole_fits [] h = tt
whole_fits (m ∷ rest) h = (record { ppid = h.0.ppid; fsn = omega arith }, h.1)

each_restart_fits : (ids : List ℕ) (q : Queue) → FitsQueue q → FitsQueue (each_restarted ids q)
each_restart_fits [] q h = h
each_restart_fits (id ∷ ids) q h =
    each_restart_fits ids (restarted_one id q)
    (put_fits id (restart (stream id q.streams)) q.streams (whole_fits (stream id q.streams).messages (stream_fits id q.streams h)) h)

pub reset_fits : (q : Queue) → FitsQueue q → FitsQueue (reset q)
reset_fits q h = each_restart_fits (keys_of q.streams.entries) q h

-- ---- resets of streams

partly_fits : (ms : List Queued) → AreFit ms → AreFit (filter is_partly ms)
partly_fits [] h = tt
partly_fits (m ∷ rest) h = go (is_partly m) (partly_fits rest h.1)
  where
    go : (b : Bool) → AreFit (filter is_partly rest) → AreFit (cond b (m ∷ filter is_partly rest) (filter is_partly rest))
    go true behind = (h.0, behind)
    go false behind = behind

pub prepare_fits : {P : Type 0} (id : ℕ) (q : Queue) (t : Emitted P) → id < 2 ^ 16 → FitsQueue q → FitsQueue (prepare_reset id q t).queue
prepare_fits id q t small h =
    put_fits id (prepare_stream (stream id q.streams)) (with_stream id q.streams) (partly_fits (stream id q.streams).messages (stream_fits id q.streams h))
    (opened_fits id q.streams small h)

pub steps_fit : (step : ResetStep) (ids : List ℕ) (q : Queue) → FitsQueue q → FitsQueue (each_stepped step ids q)
steps_fit step [] q h = h
steps_fit step (id ∷ ids) q h =
    let s : Stream = stream id q.streams in
    steps_fit step ids (apply_reset_step step id q)
    (put_fits id (after_step step s) q.streams (subst AreFit (sym (step_messages step s)) (stream_fits id q.streams h)) h)

ready_fits : (es : Entries) → FitEntries es → Each (λ (id : ℕ). id < 2 ^ 16) (ready es)
ready_fits [] h = tt
ready_fits (e ∷ es) h = go (is_ready e.1) (ready_fits es h.1)
  where
    go : (b : Bool) → Each (λ (id : ℕ). id < 2 ^ 16) (ready es) → Each (λ (id : ℕ). id < 2 ^ 16) (cond b (e.0 ∷ ready es) (ready es))
    go true behind = (h.0.id, behind)
    go false behind = behind

pub requested_fits : (most : ℕ) (q : Queue) → FitsQueue q → Each (λ (id : ℕ). id < 2 ^ 16) (streams_to_request most q)
requested_fits most q h = each_take (λ (id : ℕ). id < 2 ^ 16) most (ready q.streams.entries) (ready_fits q.streams.entries h)

-- ---- taken up

filtered_fits : (p : StreamMessage → Bool) (ms : List StreamMessage) → Each FitsStreamMessage ms → Each FitsStreamMessage (filter p ms)
filtered_fits p [] h = tt
filtered_fits p (m ∷ rest) h = go (p m) (filtered_fits p rest h.1)
  where
    go : (b : Bool) → Each FitsStreamMessage (filter p rest) → Each FitsStreamMessage (cond b (m ∷ filter p rest) (filter p rest))
    go true behind = (h.0, behind)
    go false behind = behind

messages_fit : (now : ℕ) (ms : List StreamMessage) → Each FitsStreamMessage ms → AreFit (map (message_from now) ms)
messages_fit now [] h = tt
messages_fit now (m ∷ ms) h = (record { ppid = h.0.ppid; fsn = h.0.fsn }, messages_fit now ms h.1)

entries_fit : (now threshold : ℕ) (ms : List StreamMessage) (ss : List HandoverOutgoingStream) → Each FitsStreamMessage ms
    → Each (λ (s : HandoverOutgoingStream). s.id < 2 ^ 16) ss → FitEntries (entries_from now threshold ms ss)
entries_fit now threshold ms [] h k = tt
entries_fit now threshold ms (s ∷ ss) h k =
    (record { id = k.0; messages = messages_fit now (filter (is_on s.id) ms) (filtered_fits (is_on s.id) ms h) }, entries_fit now threshold ms ss h k.1)

pub restore_fits : (now : ℕ) (is_interleaved : Bool) (tx : Transmission) (q : Queue) → Each FitsStreamMessage tx.queued_messages
    → Each (λ (s : HandoverOutgoingStream). s.id < 2 ^ 16) tx.streams → FitsQueue (restore now is_interleaved tx q)
restore_fits now is_interleaved tx q h k = entries_fit now q.streams.default_threshold tx.queued_messages tx.streams h k
