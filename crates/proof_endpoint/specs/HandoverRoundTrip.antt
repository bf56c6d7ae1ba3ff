-- An end is handed over, and a new one with the same options, at the same moment, takes its record up: what it has again.
use Rattle.std.specs.Prelude.{◌≡◌, ℕ, ◌+◌, ◌*◌, ◌^◌, ◌<◌, ◌≤◌, ◌==◌, Bool, true, false, is_some, nat_lt, List, [], ◌∷◌, length, map}
use Rattle.std.specs.List.{list_any}
use Rattle.std.specs.List.Sorted.{IsStrictlySortedBy}
use Rattle.std.specs.Map.{keys_of, values_of}
use Rattle.std.specs.Ordering.{nat_cmp}
use Rattle.rand_core.specs.Stream.{Stream as Words}
use Rattle.sctp_serial.specs.Unwrapped.{u32_space}
use Rattle.sctp_state.specs.Numbers.{most_u32}
use Rattle.sctp_state.specs.Options.{Options}
use Rattle.sctp_capabilities.specs.Capabilities.{Capabilities, zero_checksum_enabled, negotiate}
use Rattle.sctp_state.specs.Events.{Emitted, OnConnected, OnClosed}
use Rattle.sctp_state.specs.Validity.{is_valid_state}
use Rattle.sctp_rx.specs.Seen.{has_gap}
use Rattle.sctp_rx.specs.DataTracker as tracker
use Rattle.sctp_rx.specs.Delivery.{OrderedStream, UnorderedStream, fresh_unordered}
use Rattle.sctp_rx.specs.ReassemblyStreams.{fragments_of}
use Rattle.sctp_rx.specs.ReassemblyHandover.{space_of}
use Rattle.sctp_tx_outstanding.specs.Item.{Item}
use Rattle.sctp_tx_outstanding.specs.OutstandingData.{Outstanding, next_number, wire_tsn}
use Rattle.sctp_tx_outstanding.specs.Again.{items_again}
use Rattle.sctp_tx_queue.specs.declared.send_queue.stream.ResetStep.{ResetStep}
use Rattle.sctp_tx_queue.specs.SendQueue.{Queued, Entries, Queue, queue, add}
use Rattle.sctp_tx_queue.specs.Produced.{produce}
use Rattle.sctp_tx_queue.specs.Settings.{set_low_threshold, set_priority, set_mode, discard}
use Rattle.sctp_tx_queue.specs.Resets.{prepare_reset, each_stepped}
use Rattle.sctp_tx_queue.specs.Restarted.{reset}
use Rattle.sctp_tx_queue.specs.Emptied.{empty}
use Rattle.sctp_tx_queue.specs.InOrder.{IsInOrder, HasRests}
use Rattle.sctp_tx_queue.specs.Readiness.{has_reset_pending}
use Rattle.sctp_tx_queue.specs.Again.{again, entries_again}
use Rattle.spec_endpoint.specs.Association.{Identity, Tcb, tcb, Established, Closed, Open, Context, context, EndpointState, fresh, Packing}
use Rattle.spec_endpoint.specs.Packets.{emit_event_in}
use Rattle.spec_endpoint.specs.Sending.{AfterSending}
use Rattle.spec_endpoint.specs.Handover.{readiness, handover_state, handed_over, hand_over, method_if, tcb_from, context_restored, woken_if, goes_on, restore}
use Rattle.proof_endpoint.specs.Lifecycles.{one_if}

-- ---- what each end with an association has

-- Tags are drawn above 0, and a peer may not name 0 (RFC 9260 sections 3.3.2, 3.3.3). A control block counts what it sends and
-- receives from the first TSNs and works in the mode that was negotiated, in which the queue was put as it was made; none of this
-- changes.
pub record IsConnected (t : Tcb) (c : Context (List ℕ)) : Type 0 where
  pub my_tag : 0 < t.identity.my_tag
  pub peer_tag : 0 < t.identity.peer_tag
  pub first : t.sender.outstanding.first ≡ t.identity.my_first
  pub small : t.identity.my_first < u32_space
  pub peer_first : t.tracker.first ≡ t.identity.peer_first
  pub peer_first_small : t.identity.peer_first < u32_space
  pub partial : t.sender.outstanding.items.is_partial ≡ t.capabilities.partial_reliability
  pub mode : t.sender.outstanding.items.is_interleaved ≡ t.capabilities.message_interleaving
  pub receiver_mode : t.reassembly.streams.is_interleaved ≡ t.capabilities.message_interleaving
  pub mode_queued : c.queue.scheduler.is_interleaved ≡ t.capabilities.message_interleaving
  -- packets go without a checksum by the own method or by none
  pub method : t.capabilities.zero_checksum_method ≡ method_if (zero_checksum_enabled t.capabilities) c.options.zero_checksum_method

-- how many messages have this number
abbrev pub count_with_number : ℕ → List Queued → ℕ
count_with_number n [] = 0
count_with_number n (m ∷ ms) = one_if (m.number == n) + count_with_number n ms

abbrev pub numbered_in : ℕ → Entries → ℕ
numbered_in n [] = 0
numbered_in n (e ∷ es) = count_with_number n e.1.messages + numbered_in n es

-- No two messages have one number, and none has one that is still to be given.
abbrev pub IsNumberedOnce : Queue → Type 0
IsNumberedOnce q = (n : ℕ) → numbered_in n q.streams.entries ≤ one_if (nat_lt n q.next_number)

-- What each call of the queue keeps: the map's order, that of each stream, numbers that differ (as long as they don't wrap),
-- and that something is left of each message.
pub record IsQueue (q : Queue) : Type 0 where
  pub sorted : IsStrictlySortedBy nat_cmp (keys_of q.streams.entries)
  pub order : IsInOrder q
  pub numbers : IsNumberedOnce q
  pub next : q.next_number < 2 ^ 32
  pub rests : HasRests q

abbrev pub message_bytes : List Queued → ℕ
message_bytes [] = 0
message_bytes (m ∷ ms) = length m.payload + message_bytes ms

abbrev pub queue_bytes : Entries → ℕ
queue_bytes [] = 0
queue_bytes (e ∷ es) = message_bytes e.1.messages + queue_bytes es

abbrev pub item_bytes : List Item → ℕ
item_bytes [] = 0
item_bytes (i ∷ is) = length i.fragment.payload + item_bytes is

-- A record has room for fewer than 2^30 items, and its payloads, which count whole, are less than 2^32 bytes. The streams
-- that are received stand in a map's order, and the congestion window is open.
pub record Fits (t : Tcb) (q : Queue) : Type 0 where
  pub few : length t.sender.outstanding.items.kept < 2 ^ 30
  pub short : queue_bytes q.streams.entries + item_bytes t.sender.outstanding.items.kept ≤ most_u32
  pub ordered : IsStrictlySortedBy nat_cmp (keys_of t.reassembly.streams.ordered)
  pub unordered : IsStrictlySortedBy nat_cmp (keys_of t.reassembly.streams.unordered)
  pub window : 0 < t.sender.windows.cwnd

-- ---- both ends

abbrev pub established_state : Tcb → Context (List ℕ) → EndpointState (List ℕ)
established_state t c = record { state = Open Established t; context = c }

-- a new one, with the same options, at the same moment
abbrev pub successor : Context (List ℕ) → Packing (List ℕ) → Words → EndpointState (List ℕ)
successor c pack draws =
    let s : EndpointState (List ℕ) = (fresh c.options pack draws).endpoint_state in
    record s { context = record s.context { now = c.now } }

-- its control block and its queue, as the record has them, before anything is sent
abbrev pub block_again : Tcb → Context (List ℕ) → Tcb
block_again t c = tcb_from c.now c.options (handover_state t c)

abbrev pub context_again : Tcb → Context (List ℕ) → Packing (List ℕ) → Words → Context (List ℕ)
context_again t c pack draws = emit_event_in OnConnected (context_restored (handover_state t c) (successor c pack draws).context)

-- and with stalls avoided, its timers started
abbrev pub woken_again : Tcb → Context (List ℕ) → Packing (List ℕ) → Words → AfterSending (List ℕ)
woken_again t c pack draws =
    woken_if c.options.avoid_stalls (block_again t c) (context_restored (handover_state t c) (successor c pack draws).context)

-- The items come back under their TSNs, with what the record doesn't hold read anew.
pub record ItemsComeBack (now : ℕ) (d after : Outstanding) : Type 0 where
  pub kept : after.items.kept ≡ items_again now d.items.kept
  pub cumulative : wire_tsn after after.items.acked ≡ wire_tsn d d.items.acked
  pub next : wire_tsn after (next_number after.items) ≡ wire_tsn d (next_number d.items)
  pub partial : after.items.is_partial ≡ d.items.is_partial
  pub mode : after.items.is_interleaved ≡ d.items.is_interleaved

-- And so do the streams, with their messages, numbers and priorities. Thresholds are those of a new stream.
pub record QueueComesBack (now threshold : ℕ) (q after : Queue) : Type 0 where
  pub streams : after.streams.entries ≡ entries_again now threshold q.streams.entries
  pub next_number : after.next_number ≡ q.next_number
  pub mode : after.scheduler.is_interleaved ≡ q.scheduler.is_interleaved
  pub order : IsInOrder after

-- Of what was received, the cumulative TSN comes back, and of each stream the number of the next message.
abbrev pub ordered_again : (is_interleaved : Bool) → ℕ × OrderedStream → ℕ × OrderedStream
ordered_again is_interleaved e = (e.0, record { next = again (space_of is_interleaved) e.1.next; held = [] })

abbrev pub unordered_again : ℕ × UnorderedStream → ℕ × UnorderedStream
unordered_again e = (e.0, fresh_unordered)

pub record ReceptionComesBack (t after : Tcb) : Type 0 where
  pub cumulative : tracker.wire_tsn after.tracker after.tracker.tracker.seen.front ≡ tracker.wire_tsn t.tracker t.tracker.tracker.seen.front
  pub seen_packet : after.tracker.tracker.seen_packet ≡ t.tracker.tracker.seen_packet
  pub ordered : after.reassembly.streams.ordered ≡ map (ordered_again t.reassembly.streams.is_interleaved) t.reassembly.streams.ordered
  pub unordered : after.reassembly.streams.unordered ≡ map unordered_again t.reassembly.streams.unordered
  pub mode : after.reassembly.streams.is_interleaved ≡ t.reassembly.streams.is_interleaved

-- What no record speaks of isn't there: nothing waits but messages and items.
pub record NothingWaits (t : Tcb) (q : Queue) : Type 0 where
  pub no_reset : list_any has_reset_pending (values_of q.streams.entries) ≡ false
  pub no_request : is_some t.requests.current ≡ false
  pub no_recovery : is_some t.sender.windows.fast_recovery_exit ≡ false
  pub no_gap : has_gap t.tracker.tracker.seen ≡ false
  pub no_fragment : fragments_of t.reassembly.streams ≡ 0
  pub no_deferred : is_some t.reassembly.deferred ≡ false

-- The end closes. Its record is valid, a new end takes it up and sends what may be sent, and it has the association, what was
-- negotiated, the items, the queue, what was received and the numbers of reset requests again.
pub record GoesOn (t : Tcb) (c : Context (List ℕ)) (pack : Packing (List ℕ)) (draws : Words) : Type 0 where
  pub left : hand_over (established_state t c) ≡ record { state = Closed; context = emit_event_in OnClosed c }
  pub nothing : NothingWaits t c.queue
  pub valid : is_valid_state (handed_over (established_state t c)) ≡ true
  pub taken : restore (handed_over (established_state t c)) (successor c pack draws) ≡ goes_on (woken_again t c pack draws)
  pub association : (block_again t c).identity ≡ t.identity
  pub capabilities : (block_again t c).capabilities ≡ t.capabilities
  pub items : ItemsComeBack c.now t.sender.outstanding (block_again t c).sender.outstanding
  pub queue : QueueComesBack c.now c.options.default_stream_buffered_amount_low_threshold c.queue (context_again t c pack draws).queue
  pub received : ReceptionComesBack t (block_again t c)
  pub next_request : (block_again t c).requests.next ≡ t.requests.next
  pub last_request : (block_again t c).requests.last ≡ t.requests.last
  pub connected : IsConnected (block_again t c) (context_again t c pack draws)

-- where nothing stands in the way
abbrev pub HandoverGoesOn : Type 0
HandoverGoesOn =
    (t : Tcb) (c : Context (List ℕ)) (pack : Packing (List ℕ)) (draws : Words) → readiness (established_state t c) ≡ 0
    → IsConnected t c → IsQueue c.queue → Fits t c.queue → GoesOn t c pack draws

-- ---- a control block that the handshake makes

-- by what was drawn and what the peer announced, with the queue put in its mode
abbrev pub MadeConnected : Type 0
MadeConnected =
    (i : Identity) (a_rwnd : ℕ) (peer : Capabilities) (c : Context (List ℕ)) → 0 < i.my_tag → 0 < i.peer_tag → i.my_first < u32_space → i.peer_first < u32_space
    → c.queue.scheduler.is_interleaved ≡ (negotiate c.options peer).message_interleaving
    → IsConnected (tcb c.options i a_rwnd (negotiate c.options peer)) c

-- An end that has just connected is ready, and has all that is asked.
abbrev pub new_context : Options → Packing (List ℕ) → Capabilities → Context (List ℕ)
new_context o pack peer = record (context o pack) { queue = set_mode (negotiate o peer).message_interleaving (queue o) }

pub record IsReady (t : Tcb) (c : Context (List ℕ)) : Type 0 where
  pub ready : readiness (established_state t c) ≡ 0
  pub connected : IsConnected t c
  pub queued : IsQueue c.queue
  pub fits : Fits t c.queue

abbrev pub NewEndsAreReady : Type 0
NewEndsAreReady =
    (o : Options) (pack : Packing (List ℕ)) (i : Identity) (a_rwnd : ℕ) (peer : Capabilities) → 0 < i.my_tag → 0 < i.peer_tag → i.my_first < u32_space
    → i.peer_first < u32_space → 0 < o.cwnd_mtus_initial * o.mtu → IsReady (tcb o i a_rwnd (negotiate o peer)) (new_context o pack peer)

-- ---- numbers, call by call

pub record CallsNumberOnce : Type 0 where
  pub new : (o : Options) → IsNumberedOnce (queue o)
  pub added : (id : ℕ) (m : Queued) (q : Queue) → m.number ≡ q.next_number → q.next_number + 1 < 2 ^ 32 → IsNumberedOnce q → IsNumberedOnce (add id m q)
  pub produced : (now size : ℕ) (q : Queue) (emitted : Emitted (List ℕ)) → IsNumberedOnce q → IsNumberedOnce (produce now size q emitted).queue
  pub threshold : (id bytes : ℕ) (q : Queue) (emitted : Emitted (List ℕ)) → IsNumberedOnce q → IsNumberedOnce (set_low_threshold id bytes q emitted).queue
  pub priority : (id priority : ℕ) (q : Queue) → IsNumberedOnce q → IsNumberedOnce (set_priority id priority q)
  pub mode : (is_interleaved : Bool) (q : Queue) → IsNumberedOnce q → IsNumberedOnce (set_mode is_interleaved q)
  pub discarded : (id message : ℕ) (q : Queue) (emitted : Emitted (List ℕ)) → IsNumberedOnce q → IsNumberedOnce (discard id message q emitted).queue
  pub prepared : (id : ℕ) (q : Queue) (emitted : Emitted (List ℕ)) → IsNumberedOnce q → IsNumberedOnce (prepare_reset id q emitted).queue
  pub steps : (step : ResetStep) (ids : List ℕ) (q : Queue) → IsNumberedOnce q → IsNumberedOnce (each_stepped step ids q)
  pub restarted : (q : Queue) → IsNumberedOnce q → IsNumberedOnce (reset q)
  pub emptied : (q : Queue) (emitted : Emitted (List ℕ)) → IsNumberedOnce q → IsNumberedOnce (empty q emitted).queue
