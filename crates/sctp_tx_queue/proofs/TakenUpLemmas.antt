-- A queue that takes a valid record up is in order.
use Rattle.std.proofs.Common.{◌≡◌, ℕ, ◌+◌, ◌<◌, ◌≤◌, length, Bool, true, false, cond, List, [], ◌∷◌, Option, Some, None, refl, ap, sym, subst, ◌∙◌, arith}
use Rattle.std.specs.Prelude.{is_some, unwrap_or, option_map, map, filter, nat_lt, nat_le, ◌^◌, ◌&&◌, ◌||◌, ◌==◌, not}
use Rattle.std.specs.List.{list_all}
use Rattle.std.specs.List.Sorted.{IsStrictlySortedBy}
use Rattle.std.specs.Map.{lookup, keys_of}
use Rattle.std.specs.Ordering.{nat_cmp}
use Rattle.std.specs.BTreeMap.{is_at}
use Rattle.std.proofs.lemmas.Bool.Decides.{nat_tests}
use Rattle.std.proofs.lemmas.List.Folds.{list_all-append}
use Rattle.std.proofs.lemmas.List.Sums.{sum_by-cons}
use Rattle.std.proofs.lemmas.Bool.{and_parts, or_parts, not-true}
use Rattle.sctp_state.specs.declared.api.handover.HandoverOutgoingStream.{HandoverOutgoingStream}
use Rattle.sctp_serial.specs.Unwrapped.{u32_space, wire}
use Rattle.sctp_state.specs.Handover.{StreamMessage, Transmission}
use Rattle.sctp_stream_scheduler.specs.StreamScheduler.{Scheduler, scheduler, enable_message_interleaving}
use Rattle.sctp_state.specs.Validity.{is_partly_sent, has_partly_sent, first_alone_is_partly_sent, partly_sent_count, has_stream, is_valid_message, are_valid_messages, message_ids_differ, has_valid_queue, has_valid_items, payload_fits, rises_from, outgoing_ids}
use Rattle.sctp_tx_queue.specs.declared.send_queue.message.MessageNumbers.{MessageNumbers}
use Rattle.sctp_tx_queue.specs.SendQueue.{Queued, Stream, Streams, Entries, blank, stream}
use Rattle.sctp_tx_queue.specs.Handover.{queued_message, messages_of, queued_messages}
use Rattle.sctp_tx_queue.specs.Restored.{numbers_from, message_from, is_on, messages_from, stream_from, entries_from, each_scheduled, partly_sent, begun_from, streams_from, restore}
use Rattle.sctp_tx_queue.specs.InOrder.{is_unsent, is_begun_or_waiting, are_in_order, is_first_begun, is_this}
use Rattle.sctp_tx_queue.specs.TakenUp.{is_numbered_as_sent, RestoredInOrder, WrittenAsSent}
use Rattle.sctp_tx_queue.proofs.InOrderLemmas.{set_bytes_mode, waiting_in_order}
use Rattle.sctp_tx_queue.proofs.AgainLemmas.{AreAbove, are_above}
use Rattle.sctp_tx_queue.proofs.RestoreLemmas.{found}
use Rattle.sctp_serial.proofs.NumberLemmas.{at_itself, equal_turned}

-- ---- a message

numbers_some : (mid ssn : Option ℕ) → is_some (numbers_from mid ssn) ≡ is_some mid
numbers_some None ssn = refl
numbers_some (Some n) ssn = refl

nothing_sent : (n : ℕ) → (n == 0) ≡ true → not (nat_lt 0 n) ≡ true
nothing_sent n h = grind (arith, nat_tests)

unsent : (n : ℕ) → not (nat_lt 0 n) ≡ true → (n == 0) ≡ true
unsent n h = grind (arith, nat_tests)

begun_or_waiting : (now : ℕ) (m : StreamMessage) → is_numbered_as_sent m ≡ true → is_begun_or_waiting (message_from now m) ≡ true
begun_or_waiting now m h = ap (λ b. cond b (is_partly_sent m) (m.remaining_offset == 0)) (numbers_some m.mid m.ssn) ∙ go (is_some m.mid) h
  where
    go : (b : Bool) → cond b (is_partly_sent m) (not (is_partly_sent m)) ≡ true → cond b (is_partly_sent m) (m.remaining_offset == 0) ≡ true
    go true e = e
    go false e = unsent m.remaining_offset e

-- it has numbers, or none, as it is sent
sent_some : (m : StreamMessage) → is_numbered_as_sent m ≡ true → is_some m.mid ≡ is_partly_sent m
sent_some m h = go (is_some m.mid) (is_partly_sent m) h
  where
    go : (a b : Bool) → cond a b (not b) ≡ true → a ≡ b
    go true true e = refl
    go true false e = absurd (cc)
    go false true e = absurd (cc)
    go false false e = refl

begun_as_sent : (now : ℕ) (m : StreamMessage) → is_numbered_as_sent m ≡ true → is_some (message_from now m).numbers ≡ is_partly_sent m
begun_as_sent now m h = numbers_some m.mid m.ssn ∙ sent_some m h

none_of : (n : ℕ) → nat_lt 0 n ≡ false → (n == 0) ≡ true
none_of n h = grind (arith, nat_tests)

waits : (now : ℕ) (m : StreamMessage) → is_numbered_as_sent m ≡ true → is_partly_sent m ≡ false → is_unsent (message_from now m) ≡ true
waits now m h none = ap (λ b. not b && (m.remaining_offset == 0)) (begun_as_sent now m h ∙ none) ∙ none_of m.remaining_offset none

-- ---- the messages of a stream

all_wait : (now k : ℕ) (ms : List StreamMessage) → has_partly_sent k ms ≡ false → list_all is_numbered_as_sent ms ≡ true → list_all is_unsent (messages_from now k ms) ≡ true
all_wait now k [] none h = refl
all_wait now k (m ∷ rest) none h =
    let apart = or_parts (is_on k m && is_partly_sent m) (has_partly_sent k rest) none in
    go (is_on k m) apart (all_wait now k rest apart.1 (and_parts (is_numbered_as_sent m) (list_all is_numbered_as_sent rest) h).1)
  where
    hs : (is_numbered_as_sent m ≡ true) × (list_all is_numbered_as_sent rest ≡ true)
    hs = and_parts (is_numbered_as_sent m) (list_all is_numbered_as_sent rest) h

    go : (b : Bool) → (b && is_partly_sent m ≡ false) × (has_partly_sent k rest ≡ false) → list_all is_unsent (messages_from now k rest) ≡ true
        → list_all is_unsent (map (message_from now) (cond b (m ∷ filter (is_on k) rest) (filter (is_on k) rest))) ≡ true
    go true p ih = ap (λ b. b && list_all is_unsent (messages_from now k rest)) (waits now m hs.0 p.0) ∙ ih
    go false p ih = ih

same_stream : (a b : ℕ) → (a == b) ≡ true → b ≡ a
same_stream a b e = grind (arith, nat_tests)

-- behind a message of the stream none of it is partly sent
none_behind : (k : ℕ) (m : StreamMessage) (rest : List StreamMessage) → is_on k m ≡ true → first_alone_is_partly_sent (m ∷ rest) ≡ true → has_partly_sent k rest ≡ false
none_behind k m rest on h = ap (λ i. has_partly_sent i rest) (same_stream m.stream_id k on) ∙ not-true (has_partly_sent m.stream_id rest) (and_parts (not (has_partly_sent m.stream_id rest)) (first_alone_is_partly_sent rest) h).0

in_order : (now k : ℕ) (ms : List StreamMessage) → first_alone_is_partly_sent ms ≡ true → list_all is_numbered_as_sent ms ≡ true → are_in_order (messages_from now k ms) ≡ true
in_order now k [] first h = refl
in_order now k (m ∷ rest) first h =
    go (is_on k m) refl
    (in_order now k rest (and_parts (not (has_partly_sent m.stream_id rest)) (first_alone_is_partly_sent rest) first).1 (and_parts (is_numbered_as_sent m) (list_all is_numbered_as_sent rest) h).1)
  where
    hs : (is_numbered_as_sent m ≡ true) × (list_all is_numbered_as_sent rest ≡ true)
    hs = and_parts (is_numbered_as_sent m) (list_all is_numbered_as_sent rest) h

    go : (b : Bool) → is_on k m ≡ b → are_in_order (messages_from now k rest) ≡ true → are_in_order (map (message_from now) (cond b (m ∷ filter (is_on k) rest) (filter (is_on k) rest))) ≡ true
    go true e ih =
        ap (λ b. b && list_all is_unsent (messages_from now k rest)) (begun_or_waiting now m hs.0) ∙ all_wait now k rest (none_behind k m rest e first) hs.1
    go false e ih = ih

-- ---- the message that is begun

none_begun : (now k : ℕ) (ms : List StreamMessage) → partly_sent_count ms ≡ 0 → list_all is_numbered_as_sent ms ≡ true → is_first_begun (messages_from now k ms) ≡ false
none_begun now k [] none h = refl
none_begun now k (m ∷ rest) none h =
    go (is_on k m)
    (none_begun now k rest (omega (arith, sum_by-cons (λ x. cond (is_partly_sent x) 1 0) m rest, none)) (and_parts (is_numbered_as_sent m) (list_all is_numbered_as_sent rest) h).1)
  where
    hs : (is_numbered_as_sent m ≡ true) × (list_all is_numbered_as_sent rest ≡ true)
    hs = and_parts (is_numbered_as_sent m) (list_all is_numbered_as_sent rest) h

    count : cond (is_partly_sent m) 1 0 + partly_sent_count rest ≡ 0
    count = sym (sum_by-cons (λ x. cond (is_partly_sent x) 1 0) m rest) ∙ none

    unsent_here : (b : Bool) → cond b 1 0 + partly_sent_count rest ≡ 0 → b ≡ false
    unsent_here true e = absurd (omega (arith, e))
    unsent_here false e = refl

    go : (b : Bool) → is_first_begun (messages_from now k rest) ≡ false → is_first_begun (map (message_from now) (cond b (m ∷ filter (is_on k) rest) (filter (is_on k) rest))) ≡ false
    go true ih = begun_as_sent now m hs.0 ∙ unsent_here (is_partly_sent m) count
    go false ih = ih

other_stream : (a k : ℕ) → (a == k) && true ≡ false → (k == a) ≡ false
other_stream a k e = grind (arith, nat_tests)

not_this : (k : ℕ) (ms : List StreamMessage) → has_partly_sent k ms ≡ false → is_this k (partly_sent ms) ≡ false
not_this k [] h = refl
not_this k (m ∷ rest) h =
    let apart = or_parts (is_on k m && is_partly_sent m) (has_partly_sent k rest) h in
    go (is_partly_sent m) apart.0 (not_this k rest apart.1)
  where
    go : (b : Bool) → is_on k m && b ≡ false → is_this k (partly_sent rest) ≡ false → is_this k (cond b (Some m.stream_id) (partly_sent rest)) ≡ false
    go true p ih = other_stream m.stream_id k p
    go false p ih = ih

begun_is : (now k : ℕ) (ms : List StreamMessage) → partly_sent_count ms ≤ 1 → first_alone_is_partly_sent ms ≡ true → list_all is_numbered_as_sent ms ≡ true
    → is_first_begun (messages_from now k ms) ≡ is_this k (partly_sent ms)
begun_is now k [] few first h = refl
begun_is now k (m ∷ rest) few first h =
    go (is_on k m) (is_partly_sent m) refl refl count
    (λ l. begun_is now k rest l (and_parts (not (has_partly_sent m.stream_id rest)) (first_alone_is_partly_sent rest) first).1 (and_parts (is_numbered_as_sent m) (list_all is_numbered_as_sent rest) h).1)
  where
    hs : (is_numbered_as_sent m ≡ true) × (list_all is_numbered_as_sent rest ≡ true)
    hs = and_parts (is_numbered_as_sent m) (list_all is_numbered_as_sent rest) h

    count : cond (is_partly_sent m) 1 0 + partly_sent_count rest ≤ 1
    count = subst (λ n. n ≤ 1) (sum_by-cons (λ x. cond (is_partly_sent x) 1 0) m rest) few

    go : (a b : Bool) → is_on k m ≡ a → is_partly_sent m ≡ b → cond b 1 0 + partly_sent_count rest ≤ 1 → (partly_sent_count rest ≤ 1 → is_first_begun (messages_from now k rest) ≡ is_this k (partly_sent rest))
        → is_first_begun (map (message_from now) (cond a (m ∷ filter (is_on k) rest) (filter (is_on k) rest))) ≡ is_this k (cond b (Some m.stream_id) (partly_sent rest))
    go true true on sent c later = begun_as_sent now m hs.0 ∙ sent ∙ sym (equal_turned m.stream_id k true on)
    go true false on sent c later = begun_as_sent now m hs.0 ∙ sent ∙ sym (not_this k rest (none_behind k m rest on first))
    go false true on sent c later = none_begun now k rest (omega (arith, c)) hs.1 ∙ sym (equal_turned m.stream_id k false on)
    go false false on sent c later = later (omega (arith, c))

-- ---- the streams

at_it : (a b : ℕ) → is_at (nat_cmp b) a ≡ true → b ≡ a
at_it a b e = grind (arith, nat_tests)

-- a stream that is there has its messages
listed : (now threshold k : ℕ) (ms : List StreamMessage) (none : Stream) (ss : List HandoverOutgoingStream) → is_some (lookup (is_at (nat_cmp k)) (entries_from now threshold ms ss)) ≡ true
    → (unwrap_or (lookup (is_at (nat_cmp k)) (entries_from now threshold ms ss)) none).messages ≡ messages_from now k ms
listed now threshold k ms none [] h = absurd (cc)
listed now threshold k ms none (s ∷ ss) h = go (is_at (nat_cmp k) s.id) refl h (listed now threshold k ms none ss)
  where
    rest : Option Stream
    rest = lookup (is_at (nat_cmp k)) (entries_from now threshold ms ss)

    go : (b : Bool) → is_at (nat_cmp k) s.id ≡ b → is_some (cond b (Some (stream_from now threshold ms s)) rest) ≡ true → (is_some rest ≡ true → (unwrap_or rest none).messages ≡ messages_from now k ms)
        → (unwrap_or (cond b (Some (stream_from now threshold ms s)) rest) none).messages ≡ messages_from now k ms
    go true e h ih = ap (λ i. messages_from now i ms) (sym (at_it s.id k e))
    go false e h ih = ih h

-- one that isn't has none
unlisted : (next k : ℕ) (ss : List HandoverOutgoingStream) (ms : List StreamMessage) → are_valid_messages ss next ms ≡ true → has_stream ss k ≡ false → filter (is_on k) ms ≡ []
unlisted next k ss [] h none = refl
unlisted next k ss (m ∷ rest) h none = go (is_on k m) refl (unlisted next k ss rest (and_parts (is_valid_message ss next m) (are_valid_messages ss next rest) h).1 none)
  where
    there : has_stream ss m.stream_id ≡ true
    there =
        let valid = (and_parts (is_valid_message ss next m) (are_valid_messages ss next rest) h).0 in
        (and_parts (has_stream ss m.stream_id) (nat_lt m.message_id next) (and_parts (nat_lt m.remaining_offset (length m.payload)) (has_stream ss m.stream_id && nat_lt m.message_id next) valid).1).0

    clash : true ≡ false → ⊥
    clash h = cc

    go : (b : Bool) → is_on k m ≡ b → filter (is_on k) rest ≡ [] → cond b (m ∷ filter (is_on k) rest) (filter (is_on k) rest) ≡ []
    go true e ih = absurd (clash (sym there ∙ ap (has_stream ss) (sym (same_stream m.stream_id k e)) ∙ none))
    go false e ih = ih

not_some : (o : Option Stream) (d : Stream) → is_some o ≡ false → unwrap_or o d ≡ d
not_some None d h = refl
not_some (Some s) d h = absurd (cc)

restored_messages : (now next k : ℕ) (tx : Transmission) (ss : Streams) → are_valid_messages tx.streams next tx.queued_messages ≡ true → (stream k (streams_from now tx ss)).messages ≡ messages_from now k tx.queued_messages
restored_messages now next k tx ss h = go (is_some here) refl
  where
    ms : List StreamMessage
    ms = tx.queued_messages

    here : Option Stream
    here = lookup (is_at (nat_cmp k)) (entries_from now ss.default_threshold ms tx.streams)

    absent : (b : Bool) → has_stream tx.streams k ≡ b → is_some here ≡ false → has_stream tx.streams k ≡ false
    absent true e none = absurd (clash (sym (found now ss.default_threshold k ms tx.streams e) ∙ none))
      where
        clash : true ≡ false → ⊥
        clash h = cc
    absent false e none = e

    go : (b : Bool) → is_some here ≡ b → (unwrap_or here (blank ss)).messages ≡ messages_from now k ms
    go true e = listed now ss.default_threshold k ms (blank ss) tx.streams e
    go false e =
        ap (λ (s : Stream). s.messages) (not_some here (blank ss) e)
        ∙ sym (ap (λ (xs : List StreamMessage). map (message_from now) xs) (unlisted next k tx.streams ms h (absent (has_stream tx.streams k) refl e)))

-- ---- the queue

pub scheduled_mode : (ids : List ℕ) (ss : Streams) (s : Scheduler) → (each_scheduled ids ss s).is_interleaved ≡ s.is_interleaved
scheduled_mode [] ss s = refl
scheduled_mode (id ∷ ids) ss s = scheduled_mode ids ss _ ∙ set_bytes_mode id _ _ s

few : (is_interleaved : Bool) (n : ℕ) → is_interleaved || nat_le n 1 ≡ true → is_interleaved ≡ false → n ≤ 1
few true n h e = absurd (cc)
few false n h e = grind (arith, nat_tests)

pub restored_in_order : RestoredInOrder
restored_in_order now is_interleaved tx q valid numbered = record { order = λ k. ap are_in_order (messages k) ∙ in_order now k ms first numbered; begun = begun_on }
  where
    ms : List StreamMessage
    ms = tx.queued_messages

    queue : has_valid_queue is_interleaved tx ≡ true
    queue =
        let rest = (and_parts (nat_lt 0 tx.cwnd) (rises_from 0 (outgoing_ids tx.streams) && (has_valid_queue is_interleaved tx && (has_valid_items tx && payload_fits tx))) valid).1 in
        (and_parts (has_valid_queue is_interleaved tx) (has_valid_items tx && payload_fits tx)
        (and_parts (rises_from 0 (outgoing_ids tx.streams)) (has_valid_queue is_interleaved tx && (has_valid_items tx && payload_fits tx)) rest).1).0

    last : Bool
    last = is_interleaved || nat_le (partly_sent_count ms) 1

    parts : (are_valid_messages tx.streams tx.next_outgoing_message_id ms ≡ true) × ((first_alone_is_partly_sent ms ≡ true) × (last ≡ true))
    parts =
        let valid_ms = and_parts (are_valid_messages tx.streams tx.next_outgoing_message_id ms) (message_ids_differ ms && (first_alone_is_partly_sent ms && last))
        (and_parts (nat_le tx.next_outgoing_message_id (2 ^ 32)) (are_valid_messages tx.streams tx.next_outgoing_message_id ms && (message_ids_differ ms && (first_alone_is_partly_sent ms && last))) queue).1 in
        (valid_ms.0, and_parts (first_alone_is_partly_sent ms) last (and_parts (message_ids_differ ms) (first_alone_is_partly_sent ms && last) valid_ms.1).1)

    first : first_alone_is_partly_sent ms ≡ true
    first = parts.1.0

    messages : (k : ℕ) → (stream k (streams_from now tx q.streams)).messages ≡ messages_from now k ms
    messages k = restored_messages now tx.next_outgoing_message_id k tx q.streams parts.0

    mode : (restore now is_interleaved tx q).scheduler.is_interleaved ≡ is_interleaved
    mode = scheduled_mode (outgoing_ids tx.streams) (streams_from now tx q.streams) (enable_message_interleaving is_interleaved (scheduler q.scheduler.most_payload))

    begun_on : (restore now is_interleaved tx q).scheduler.is_interleaved ≡ false → (k : ℕ) → is_first_begun (stream k (streams_from now tx q.streams)).messages ≡ is_this k (begun_from is_interleaved ms)
    begun_on off k =
        let plain : is_interleaved ≡ false = sym mode ∙ off in
        ap is_first_begun (messages k) ∙ begun_is now k ms (few is_interleaved (partly_sent_count ms) parts.1.1 plain) first numbered
        ∙ sym (ap (λ b. is_this k (cond b None (partly_sent ms))) plain)

-- ---- what is written

as_sent : (now id : ℕ) (m : Queued) → is_begun_or_waiting m ≡ true → is_numbered_as_sent (queued_message now id m) ≡ true
as_sent now id m h = ap (λ b. cond b (nat_lt 0 m.offset) (not (nat_lt 0 m.offset))) (mid_some m.numbers) ∙ go (is_some m.numbers) h
  where
    mid_some : (o : Option MessageNumbers) → is_some (option_map (λ n. wire u32_space 0 n.mid) o) ≡ is_some o
    mid_some None = refl
    mid_some (Some n) = refl

    go : (b : Bool) → cond b (nat_lt 0 m.offset) (m.offset == 0) ≡ true → cond b (nat_lt 0 m.offset) (not (nat_lt 0 m.offset)) ≡ true
    go true e = e
    go false e = nothing_sent m.offset e

waiting_as_sent : (now id : ℕ) (ms : List Queued) → list_all is_unsent ms ≡ true → list_all is_numbered_as_sent (map (queued_message now id) ms) ≡ true
waiting_as_sent now id [] h = refl
waiting_as_sent now id (m ∷ rest) h =
    let hs = and_parts (is_unsent m) (list_all is_unsent rest) h in
    ap (λ b. b && list_all is_numbered_as_sent (map (queued_message now id) rest)) (as_sent now id m (waiting_in_order m hs.0)) ∙ waiting_as_sent now id rest hs.1

all_as_sent : (now id : ℕ) (ms : List Queued) → are_in_order ms ≡ true → list_all is_numbered_as_sent (map (queued_message now id) ms) ≡ true
all_as_sent now id [] h = refl
all_as_sent now id (m ∷ rest) h =
    let hs = and_parts (is_begun_or_waiting m) (list_all is_unsent rest) h in
    ap (λ b. b && list_all is_numbered_as_sent (map (queued_message now id) rest)) (as_sent now id m hs.0) ∙ waiting_as_sent now id rest hs.1

above_it : (k m : ℕ) → k < m → is_at (nat_cmp k) m ≡ false
above_it k m l = grind (arith, nat_tests)

absent : (k : ℕ) (es : Entries) → AreAbove k es → lookup (is_at (nat_cmp k)) es ≡ None
absent k [] h = refl
absent k (e ∷ es) h = ap (λ b. cond b (Some e.1) (lookup (is_at (nat_cmp k)) es)) (above_it k e.0 h.0) ∙ absent k es h.1

written_from : (now : ℕ) (none : Stream) (es : Entries) → none.messages ≡ [] → IsStrictlySortedBy nat_cmp (keys_of es) → ((k : ℕ) → are_in_order (unwrap_or (lookup (is_at (nat_cmp k)) es) none).messages ≡ true)
    → list_all is_numbered_as_sent (queued_messages now es) ≡ true
unfolding IsStrictlySortedBy
written_from now none [] empty sorted h = refl
written_from now none (e ∷ es) empty sorted h =
    list_all-append is_numbered_as_sent (messages_of now e.0 e.1) (queued_messages now es)
    ∙ ap (λ b. b && list_all is_numbered_as_sent (queued_messages now es)) (all_as_sent now e.0 e.1.messages (here (h e.0)))
    ∙ written_from now none es empty sorted.1 (λ k. there k (is_at (nat_cmp k) e.0) refl (h k))
  where
    rest : ℕ → Option Stream
    rest k = lookup (is_at (nat_cmp k)) es

    here : are_in_order (unwrap_or (cond (is_at (nat_cmp e.0) e.0) (Some e.1) (rest e.0)) none).messages ≡ true → are_in_order e.1.messages ≡ true
    here g = sym (ap (λ b. are_in_order (unwrap_or (cond b (Some e.1) (rest e.0)) none).messages) (at_itself e.0)) ∙ g

    there : (k : ℕ) (b : Bool) → is_at (nat_cmp k) e.0 ≡ b → are_in_order (unwrap_or (cond b (Some e.1) (rest k)) none).messages ≡ true → are_in_order (unwrap_or (rest k) none).messages ≡ true
    there k true at g =
        subst (λ i. are_in_order (unwrap_or (rest i) none).messages ≡ true) (sym (at_it e.0 k at))
        (ap (λ (o : Option Stream). are_in_order (unwrap_or o none).messages) (absent e.0 es (are_above e.0 es sorted)) ∙ ap are_in_order empty)
    there k false at g = g

pub written_as_sent : WrittenAsSent
written_as_sent now tx q sorted h = written_from now (blank q.streams) q.streams.entries refl sorted h.order
