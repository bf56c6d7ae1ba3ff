-- An end that is handed over goes on in another one.
use Rattle.std.proofs.Common.{◌≡◌, ℕ, ◌+◌, ◌-◌, ◌%◌, ◌^◌, ◌<◌, ◌≤◌, ◌==◌, ◌&&◌, ◌||◌, not, nat_lt, nat_le, min, Bool, true, false, cond, Option, Some, None, is_some, bit_or, List, [], ◌∷◌, length, map, mod-eq_of_lt, lt-ltb, le-leb, refl, sym, ap, ◌∙◌, arith}
use Rattle.std.specs.List.{list_all}
use Rattle.std.specs.List.Sorted.{IsStrictlySortedBy}
use Rattle.std.specs.Map.{keys_of}
use Rattle.std.specs.Ordering.{nat_cmp}
use Rattle.std.proofs.lemmas.Bool.Decides.{nat_tests}
use Rattle.std.proofs.lemmas.Nat.{le_or_l, le_or_r}
use Rattle.std.proofs.lemmas.Bool.{and_from, eqb-true}
use Rattle.rand_core.specs.Stream.{Stream as Words}
use Rattle.sctp_serial.specs.SerialNumber.{serial_sum}
use Rattle.sctp_serial.specs.Unwrapped.{u32_space, halves, wire}
use Rattle.sctp_state.specs.Numbers.{most_u32}
use Rattle.sctp_capabilities.specs.Capabilities.{Capabilities, zero_checksum_enabled, same_method}
use Rattle.sctp_state.specs.Handover.{HandoverState, Transmission}
use Rattle.sctp_stream_scheduler.specs.StreamScheduler.{scheduler, enable_message_interleaving}
use Rattle.sctp_state.specs.Validity.{rises_from, outgoing_ids, ordered_ids, unordered_ids, has_small_numbers, is_valid_reception, are_valid_messages, message_ids_differ, first_alone_is_partly_sent, partly_sent_count, has_valid_queue, are_valid_items, has_valid_items, payload_fits, queued_bytes, outstanding_bytes, is_valid_transmission, is_valid_state}
use Rattle.sctp_rx.specs.Delivery.{OrderedStream, UnorderedStream}
use Rattle.sctp_rx.specs.Seen.{has_gap}
use Rattle.sctp_rx.specs.DataTracker.{unwrapped_from}
use Rattle.sctp_rx.specs.ReassemblyStreams as received
use Rattle.sctp_rx.specs.ReassemblyQueue.{Deferred}
use Rattle.sctp_rx.specs.ReassemblyHandover.{ordered_records, unordered_records, deferred_readiness}
use Rattle.sctp_rx.specs.ReassemblyHandover as reassembly
use Rattle.sctp_rx.specs.TrackerHandover as tracker
use Rattle.sctp_tx_outstanding.specs.Item.{Item}
use Rattle.sctp_tx_outstanding.specs.OutstandingData.{Outstanding, no_items}
use Rattle.sctp_tx_outstanding.specs.Handover.{item_records}
use Rattle.sctp_tx_outstanding.specs.Again as items_again
use Rattle.sctp_tx_outstanding.proofs.AgainLemmas.{comes_back}
use Rattle.sctp_tx_queue.specs.SendQueue.{Entries, Queue, blank}
use Rattle.sctp_tx_queue.specs.Handover.{outgoing_streams, queued_messages}
use Rattle.sctp_tx_queue.specs.Restored.{streams_from}
use Rattle.sctp_tx_queue.specs.InOrder.{are_in_order}
use Rattle.sctp_tx_queue.specs.TakenUp.{is_numbered_as_sent}
use Rattle.sctp_tx_queue.specs.Again as queue_again
use Rattle.sctp_tx_queue.specs.Readiness as queued
use Rattle.sctp_tx_queue.proofs.AgainLemmas as queue_back
use Rattle.sctp_tx_queue.proofs.TakenUpLemmas.{restored_in_order, written_as_sent, scheduled_mode}
use Rattle.sctp_tx.specs.Handover as sender
use Rattle.spec_endpoint.specs.Association.{Tcb, Context, Packing}
use Rattle.spec_endpoint.specs.ResetRequests.{Request}
use Rattle.spec_endpoint.specs.Handover.{is_strict, receiving, request_bit, request_readiness, block_readiness, readiness, handover_state, handed_over, method_if, left_if, restored_unless, invalid_unless}
use Rattle.proof_endpoint.specs.HandoverRoundTrip.{IsConnected, IsQueue, Fits, queue_bytes, item_bytes, established_state, successor, block_again, context_again, ItemsComeBack, QueueComesBack, ordered_again, unordered_again, ReceptionComesBack, NothingWaits, HandoverGoesOn, MadeConnected}
use Rattle.proof_endpoint.proofs.HandoverValidLemmas.{rises, outgoing_rise, Each, each, AreLeft, messages_are_valid, numbers_differ, IsOrdered, first_alone, one_is_begun, in_one_state, count_items, next_is, queue_bytes_are, item_bytes_are}
use Rattle.sctp_reassembly.proofs.WrittenLemmas.{small_number}

-- ---- what was received

ordered_are : (b : Bool) (es : received.Entries OrderedStream) → ordered_ids (ordered_records b es) ≡ keys_of es
ordered_are b [] = refl
ordered_are b (e ∷ es) = ap (λ (ns : List ℕ). e.0 ∷ ns) (ordered_are b es)

unordered_are : (es : received.Entries UnorderedStream) → unordered_ids (unordered_records es) ≡ keys_of es
unordered_are [] = refl
unordered_are (e ∷ es) = ap (λ (ns : List ℕ). e.0 ∷ ns) (unordered_are es)

small_numbers : (es : received.Entries OrderedStream) → has_small_numbers (ordered_records false es) ≡ true
small_numbers [] = refl
small_numbers (e ∷ es) = and_from (nat_le (wire halves 0 e.1.next) 65535) (has_small_numbers (ordered_records false es)) (small_number e.1.next) (small_numbers es)

numbers_fit : (b : Bool) (es : received.Entries OrderedStream) → (b || has_small_numbers (ordered_records b es)) ≡ true
numbers_fit true es = refl
numbers_fit false es = small_numbers es

reception_valid : (mode b : Bool) (ordered : received.Entries OrderedStream) (unordered : received.Entries UnorderedStream) → b ≡ mode
    → IsStrictlySortedBy nat_cmp (keys_of ordered) → IsStrictlySortedBy nat_cmp (keys_of unordered)
    → (rises_from 0 (ordered_ids (ordered_records b ordered)) && (rises_from 0 (unordered_ids (unordered_records unordered))
    && (mode || has_small_numbers (ordered_records b ordered)))) ≡ true
reception_valid mode b ordered unordered same s r =
    and_from (rises_from 0 (ordered_ids (ordered_records b ordered))) (rises_from 0 (unordered_ids (unordered_records unordered)) && (mode || has_small_numbers (ordered_records b ordered)))
    (ap (rises_from 0) (ordered_are b ordered) ∙ rises (keys_of ordered) s)
    (and_from (rises_from 0 (unordered_ids (unordered_records unordered))) (mode || has_small_numbers (ordered_records b ordered))
    (ap (rises_from 0) (unordered_are unordered) ∙ rises (keys_of unordered) r)
    (ap (λ (x : Bool). x || has_small_numbers (ordered_records b ordered)) (sym same) ∙ numbers_fit b ordered))

ordered_back : (b : Bool) (es : received.Entries OrderedStream) → reassembly.ordered_entries (ordered_records b es) ≡ map (ordered_again b) es
ordered_back b [] = refl
ordered_back b (e ∷ es) = ap (λ (xs : received.Entries OrderedStream). ordered_again b e ∷ xs) (ordered_back b es)

unordered_back : (es : received.Entries UnorderedStream) → reassembly.unordered_entries (unordered_records es) ≡ map unordered_again es
unordered_back [] = refl
unordered_back (e ∷ es) = ap (λ (xs : received.Entries UnorderedStream). unordered_again e ∷ xs) (unordered_back es)

-- the least number that is written so, from the first one on
front_back : (first other n : ℕ) → first ≡ other → other < u32_space
    → wire u32_space other (unwrapped_from other (serial_sum u32_space (wire u32_space first n) 1) - 1) ≡ wire u32_space first n
front_back first other n same small = omega (arith, same, small)

-- ---- the queue and the items

at_most : (n : ℕ) → n ≤ 2 ^ 32 → nat_le n (2 ^ 32) ≡ true
at_most n h = le-leb n (2 ^ 32) h

left_of : (q : Queue) → IsQueue q → Each AreLeft q.streams.entries
left_of q h = each AreLeft (blank q.streams) q.streams.entries h.sorted h.rests.rests

ordered : (q : Queue) → IsQueue q → Each (λ k ms. are_in_order ms ≡ true) q.streams.entries
ordered q h = each (λ k ms. are_in_order ms ≡ true) (blank q.streams) q.streams.entries h.sorted h.order.order

begun : (q : Queue) → IsQueue q → q.scheduler.is_interleaved ≡ false → Each (IsOrdered q.begun) q.streams.entries
begun q h plain = each (IsOrdered q.begun) (blank q.streams) q.streams.entries h.sorted (λ k. (h.order.order k, h.order.begun plain k))

one_at_most : (now : ℕ) (mode : Bool) (q : Queue) → q.scheduler.is_interleaved ≡ mode → IsQueue q
    → (mode || nat_le (partly_sent_count (queued_messages now q.streams.entries)) 1) ≡ true
one_at_most now true q same h = refl
one_at_most now false q same h = le-leb _ 1 (one_is_begun now q.begun q.streams.entries h.sorted (begun q h same))

queue_valid : (now : ℕ) (mode : Bool) (q : Queue) → q.scheduler.is_interleaved ≡ mode → IsQueue q
    → (nat_le q.next_number (2 ^ 32) && (are_valid_messages (outgoing_streams q.streams.entries) q.next_number (queued_messages now q.streams.entries)
    && (message_ids_differ (queued_messages now q.streams.entries) && (first_alone_is_partly_sent (queued_messages now q.streams.entries)
    && (mode || nat_le (partly_sent_count (queued_messages now q.streams.entries)) 1))))) ≡ true
queue_valid now mode q same h =
    let es : Entries = q.streams.entries in
    let valid : Bool = are_valid_messages (outgoing_streams es) q.next_number (queued_messages now es) in
    let differ : Bool = message_ids_differ (queued_messages now es) in
    let alone : Bool = first_alone_is_partly_sent (queued_messages now es) in
    let one : Bool = mode || nat_le (partly_sent_count (queued_messages now es)) 1 in
    and_from (nat_le q.next_number (2 ^ 32)) (valid && (differ && (alone && one))) (at_most q.next_number (omega (arith, h.next)))
    (and_from valid (differ && (alone && one)) (messages_are_valid now q.next_number es (left_of q h) h.numbers)
    (and_from differ (alone && one) (numbers_differ now q.next_number es h.numbers) (and_from alone one (first_alone now es h.sorted (ordered q h)) (one_at_most now mode q same h))))

items_valid : (now first acked : ℕ) (is : List Item) → length is < 2 ^ 30
    → (nat_lt (length (item_records now is)) (2 ^ 30)
    && ((wire u32_space first (acked + 1 + length is) == (wire u32_space first acked + 1 + length (item_records now is)) % 2 ^ 32) && are_valid_items (item_records now is))) ≡ true
items_valid now first acked is h =
    let next : Bool = wire u32_space first (acked + 1 + length is) == (wire u32_space first acked + 1 + length (item_records now is)) % 2 ^ 32 in
    let few : length (item_records now is) < 2 ^ 30 = omega (arith, h, count_items now is) in
    and_from (nat_lt (length (item_records now is)) (2 ^ 30)) (next && are_valid_items (item_records now is)) (lt-ltb (length (item_records now is)) (2 ^ 30) few)
    (and_from next (are_valid_items (item_records now is)) (next_is first acked (length is) (length (item_records now is)) (count_items now is)) (in_one_state now is))

open_window : (n : ℕ) → 0 < n → nat_lt 0 (min n most_u32) ≡ true
open_window n h =
    let some : 0 < min n most_u32 = omega (arith, h) in
    lt-ltb 0 (min n most_u32) some

bytes_fit : (now : ℕ) (es : Entries) (is : List Item) → queue_bytes es + item_bytes is ≤ most_u32
    → nat_le (queued_bytes (queued_messages now es) + outstanding_bytes (item_records now is)) most_u32 ≡ true
bytes_fit now es is h =
    let short : queued_bytes (queued_messages now es) + outstanding_bytes (item_records now is) ≤ most_u32 = omega (arith, h, queue_bytes_are now es, item_bytes_are now is) in
    le-leb (queued_bytes (queued_messages now es) + outstanding_bytes (item_records now is)) most_u32 short

module _ (t : Tcb) (c : Context (List ℕ)) (k : IsConnected t c) (q : IsQueue c.queue) (f : Fits t c.queue) where
  abbrev its_record : HandoverState
  its_record = handover_state t c

  abbrev mode : Bool
  mode = t.capabilities.message_interleaving

  transmission_valid : is_valid_transmission mode its_record.tx ≡ true
  transmission_valid =
      let tx : Transmission = its_record.tx in
      let es : Entries = c.queue.streams.entries in
      let is : List Item = t.sender.outstanding.items.kept in
      and_from (nat_lt 0 tx.cwnd) (rises_from 0 (outgoing_ids tx.streams) && (has_valid_queue mode tx && (has_valid_items tx && payload_fits tx)))
      (open_window t.sender.windows.cwnd f.window)
      (and_from (rises_from 0 (outgoing_ids tx.streams)) (has_valid_queue mode tx && (has_valid_items tx && payload_fits tx)) (outgoing_rise es q.sorted)
      (and_from (has_valid_queue mode tx) (has_valid_items tx && payload_fits tx) (queue_valid c.now mode c.queue k.mode_queued q)
      (and_from (has_valid_items tx) (payload_fits tx) (items_valid c.now t.sender.outstanding.first t.sender.outstanding.items.acked is f.few)
      (bytes_fit c.now es is f.short))))

  is_valid : is_valid_state its_record ≡ true
  is_valid =
      let tags : Bool = is_valid_reception mode its_record.rx && is_valid_transmission mode its_record.tx in
      and_from (nat_lt 0 t.identity.my_tag) (nat_lt 0 t.identity.peer_tag && tags) (lt-ltb 0 t.identity.my_tag k.my_tag)
      (and_from (nat_lt 0 t.identity.peer_tag) tags (lt-ltb 0 t.identity.peer_tag k.peer_tag)
      (and_from (is_valid_reception mode its_record.rx) (is_valid_transmission mode its_record.tx)
      (reception_valid mode t.reassembly.streams.is_interleaved t.reassembly.streams.ordered t.reassembly.streams.unordered k.receiver_mode f.ordered f.unordered)
      transmission_valid))

  -- ---- what comes back

  items_back : ItemsComeBack c.now t.sender.outstanding (block_again t c).sender.outstanding
  items_back =
      let other : Outstanding = record {
        first = t.identity.my_first;
        items = no_items t.capabilities.partial_reliability t.capabilities.message_interleaving;
      } in
      let w : items_again.ComesBack t.sender.outstanding (block_again t c).sender.outstanding c.now =
      comes_back c.now its_record.tx t.sender.outstanding other k.first (omega (arith, k.first, k.small)) in
      record { kept = w.items; cumulative = w.cumulative; next = w.next; partial = sym k.partial; mode = sym k.mode }

reception_back : (t : Tcb) (c : Context (List ℕ)) → IsConnected t c → ReceptionComesBack t (block_again t c)
reception_back t c k = record {
  cumulative = front_back t.tracker.first t.identity.peer_first t.tracker.tracker.seen.front k.peer_first k.peer_first_small;
  seen_packet = refl;
  ordered = ordered_back t.reassembly.streams.is_interleaved t.reassembly.streams.ordered;
  unordered = unordered_back t.reassembly.streams.unordered;
  mode = sym k.receiver_mode;
}

module _ (t : Tcb) (c : Context (List ℕ)) (pack : Packing (List ℕ)) (draws : Words) (k : IsConnected t c) (q : IsQueue c.queue) (f : Fits t c.queue) where
  queue_back_again : QueueComesBack c.now c.options.default_stream_buffered_amount_low_threshold c.queue (context_again t c pack draws).queue
  queue_back_again =
      let tx : Transmission = (handover_state t c).tx in
      let other : Queue = (successor c pack draws).context.queue in
      let is_interleaved : Bool = t.capabilities.message_interleaving in
      let w : queue_again.ComesBack c.now is_interleaved tx c.queue other = queue_back.comes_back c.now is_interleaved tx c.queue other q.sorted in
      let numbered : list_all is_numbered_as_sent tx.queued_messages ≡ true = written_as_sent c.now tx c.queue q.sorted q.order in
      record {
        streams = w.streams;
        next_number = w.count ∙ mod-eq_of_lt q.next;
        mode = scheduled_mode (outgoing_ids tx.streams) (streams_from c.now tx other.streams) (enable_message_interleaving is_interleaved (scheduler other.scheduler.most_payload)) ∙ sym k.mode_queued;
        order = restored_in_order c.now is_interleaved tx other (transmission_valid t c k q f) numbered;
      }

-- ---- what isn't there

no_bits : (a b : ℕ) → bit_or a b ≡ 0 → (a ≡ 0) × (b ≡ 0)
no_bits a b h = (omega (arith, h, le_or_l a b), omega (arith, h, le_or_r a b))

unset : (b : Bool) (n : ℕ) → 0 < n → cond b n 0 ≡ 0 → b ≡ false
unset true n some h = absurd (omega (arith, some, h))
unset false n some h = refl

none_above : (n : ℕ) → nat_lt 0 n ≡ false → n ≡ 0
none_above n h = grind (arith, nat_tests)

none_pending : (o : Option Request) → request_bit o ≡ 0 → is_some o ≡ false
none_pending None h = refl
none_pending (Some r) h = absurd (omega (arith, h))

none_deferred : (o : Option Deferred) → deferred_readiness o ≡ 0 → is_some o ≡ false
none_deferred None h = refl
none_deferred (Some d) h = absurd (omega (arith, h))

nothing_waits : (t : Tcb) (c : Context (List ℕ)) → readiness (established_state t c) ≡ 0 → NothingWaits t c.queue
nothing_waits t c h =
    let strict : Bool = is_strict c.options in
    let halves_of = no_bits (queued.readiness strict c.queue) (block_readiness strict t) h in
    let block = no_bits (bit_or (receiving t) (sender.readiness strict t.sender)) (request_readiness t.requests) halves_of.1 in
    let pair = no_bits (receiving t) (sender.readiness strict t.sender) block.0 in
    let come = no_bits (tracker.readiness t.tracker.tracker) (reassembly.readiness t.reassembly) pair.0 in
    let held = no_bits (reassembly.streams_readiness t.reassembly.streams) (deferred_readiness t.reassembly.deferred) come.1 in
    let going = no_bits (bit_or (sender.items_bit strict t.sender) (sender.recovery_bit t.sender)) (sender.waiting_bit strict t.sender) pair.1 in
    record {
      no_reset = unset _ 16 (omega arith) (no_bits _ _ halves_of.0).1;
      no_request = none_pending t.requests.current block.1;
      no_recovery = unset (is_some t.sender.windows.fast_recovery_exit) 1024 (omega arith) (no_bits (sender.items_bit strict t.sender) (sender.recovery_bit t.sender) going.0).1;
      no_gap = unset (has_gap t.tracker.tracker.seen) 8 (omega arith) come.0;
      no_fragment = none_above (received.fragments_of t.reassembly.streams) (unset _ 128 (omega arith) held.0);
      no_deferred = none_deferred t.reassembly.deferred held.1;
    }

-- ---- the method in place of the checksum

own_or_none : (own : ℕ) → own ≡ method_if (not (own == 0)) own
own_or_none own = go (own == 0) refl
  where
    go : (b : Bool) → (own == 0) ≡ b → own ≡ method_if (not b) own
    go true e = eqb-true own 0 e
    go false e = refl

same_or_none : (own other : ℕ) → same_method own other ≡ method_if (not (same_method own other == 0)) own
same_or_none own other = go (own == other)
  where
    go : (b : Bool) → cond b own 0 ≡ method_if (not (cond b own 0 == 0)) own
    go true = own_or_none own
    go false = refl

pub read_again : (enabled : Bool) (own : ℕ) → method_if enabled own ≡ method_if (not (method_if enabled own == 0)) own
read_again true own = own_or_none own
read_again false own = refl

pub made_connected : MadeConnected
made_connected i a_rwnd peer c mine theirs small small_received mode = record {
  my_tag = mine;
  peer_tag = theirs;
  first = refl;
  small = small;
  peer_first = refl;
  peer_first_small = small_received;
  partial = refl;
  mode = refl;
  receiver_mode = refl;
  mode_queued = mode;
  method = same_or_none c.options.zero_checksum_method peer.zero_checksum_method;
}

-- ---- all of it

connected_again : (t : Tcb) (c : Context (List ℕ)) (pack : Packing (List ℕ)) (draws : Words) → IsConnected t c
    → (context_again t c pack draws).queue.scheduler.is_interleaved ≡ t.capabilities.message_interleaving → IsConnected (block_again t c) (context_again t c pack draws)
connected_again t c pack draws k mode = record {
  my_tag = k.my_tag;
  peer_tag = k.peer_tag;
  first = refl;
  small = k.small;
  peer_first = refl;
  peer_first_small = k.peer_first_small;
  partial = refl;
  mode = refl;
  receiver_mode = refl;
  mode_queued = mode;
  method = read_again (zero_checksum_enabled t.capabilities) c.options.zero_checksum_method;
}

method_again : (k : Capabilities) (own : ℕ) → k.zero_checksum_method ≡ method_if (zero_checksum_enabled k) own
    → (let again : Capabilities = record k { zero_checksum_method = method_if (zero_checksum_enabled k) own } in again) ≡ k
method_again k own h = ap (λ (n : ℕ). let again : Capabilities = record k { zero_checksum_method = n } in again) (sym h)

pub goes_on : HandoverGoesOn
goes_on t c pack draws ready k q f =
    let valid : is_valid_state (handed_over (established_state t c)) ≡ true = is_valid t c k q f in
    let is_ready : (readiness (established_state t c) == 0) ≡ true = ap (λ (n : ℕ). n == 0) ready in
    let in_queue : QueueComesBack c.now c.options.default_stream_buffered_amount_low_threshold c.queue (context_again t c pack draws).queue =
    queue_back_again t c pack draws k q f in
    record {
      left = ap (λ (b : Bool). left_if b (established_state t c)) is_ready;
      nothing = nothing_waits t c ready;
      valid = valid;
      taken = ap (λ (b : Bool). restored_unless (invalid_unless b) (handed_over (established_state t c)) (successor c pack draws)) valid;
      association = refl;
      capabilities = method_again t.capabilities c.options.zero_checksum_method k.method;
      items = items_back t c k q f;
      queue = in_queue;
      received = reception_back t c k;
      next_request = refl;
      last_request = refl;
      connected = connected_again t c pack draws k (in_queue.mode ∙ k.mode_queued);
    }
