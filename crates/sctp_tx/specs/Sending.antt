-- What a packet takes: first what is to be sent again, then new fragments, as far as the windows let them go (RFC 9260
-- sections 6.1, 7.2).
use Rattle.std.specs.Prelude.{ℕ, zero, suc, ◌-◌, ◌*◌, ◌/◌, ◌==◌, ◌&&◌, ◌||◌, not, is_some, length, nat_lt, min, Bool, true, false, if◌then◌else◌, Option, Some, None, List, [], ◌∷◌, ◌++◌}
use Rattle.sctp_chunk.specs.Chunk.{FragmentTree}
use Rattle.sctp_state.specs.Events.{Emitted}
use Rattle.sctp_tx_outstanding.specs.Item.{Item, header_size, size_of}
use Rattle.sctp_tx_outstanding.specs.OutstandingData.{Discard, next_number, wire_tsn, waiting_items, first_sent, append_item}
use Rattle.sctp_tx_outstanding.specs.Resending.{Resent}
use Rattle.sctp_tx_queue.specs.SendQueue.{Queue}
use Rattle.sctp_tx_queue.specs.Produced.{Produced, Turn, produce}
use Rattle.sctp_tx_queue.specs.Settings.{Changed, discard}
use Rattle.sctp_tx.specs.Windows.{saturate_u64, consume_rwnd}
use Rattle.sctp_tx.specs.RetransmissionQueue.{Sender}
use Rattle.sctp_tx.specs.Resent.{sizes, is_interleaved, room_of, may_send_new, resent, resent_by, start_t3_if_sent}

-- ---- new fragments

pub record Filling (P : Type 0) : Type 0 where
  pub sender : Sender
  pub queue : Queue
  pub emitted : Emitted P
  pub chunks : List (ℕ × FragmentTree)
  pub left : ℕ  -- of the packet

-- the payload that the send queue is offered: chunks are padded to 4 bytes
abbrev pub offered_payload : (left : ℕ) → Sender → ℕ
offered_payload left s = min left (room_of s) / 4 * 4 - header_size (is_interleaved s)

abbrev pub item_of : ℕ → Produced → Item
item_of now p = first_sent p.number p.fragment now p.limit p.expires p.lifecycle

-- a fragment takes the next TSN
abbrev pub sent_new : ℕ → Produced → Sender → Sender
sent_new now p s = record s {
  outstanding = record s.outstanding { items = append_item (item_of now p) s.outstanding.items };
  windows = consume_rwnd (size_of (is_interleaved s) p.fragment) s.windows;
}

abbrev pub append : {P : Type 0} → ℕ → Option Produced → Filling P → Filling P
append now None x = x
append now (Some p) x = record x {
  sender = sent_new now p x.sender;
  chunks = x.chunks ++ (wire_tsn x.sender.outstanding (next_number x.sender.outstanding.items), p.fragment) ∷ [];
  left = x.left - size_of (is_interleaved x.sender) p.fragment;
}

abbrev pub filling : {P : Type 0} → Sender → Queue → Emitted P → List (ℕ × FragmentTree) → (left : ℕ) → Filling P
filling s q emitted chunks left = record { sender = s; queue = q; emitted = emitted; chunks = chunks; left = left }

pub record QueueStep (P : Type 0) : Type 0 where
  pub filling : Filling P
  pub is_more : Bool

abbrev pub is_made : Option Produced → Bool
is_made None = false
is_made (Some p) = true

abbrev pub take_turn : {P : Type 0} → ℕ → Turn P → Filling P → QueueStep P
take_turn now t x = record { filling = append now t.made (record x { queue = t.queue; emitted = t.emitted }); is_more = is_made t.made }

abbrev pub queue_step_if : {P : Type 0} → Bool → ℕ → Filling P → QueueStep P
queue_step_if true now x = take_turn now (produce now (offered_payload x.left x.sender) x.queue x.emitted) x
queue_step_if false now x = record { filling = x; is_more = false }

-- one more fragment, where the windows let it go and the queue has one
abbrev pub next_turn : {P : Type 0} → ℕ → Filling P → QueueStep P
next_turn now x = queue_step_if (may_send_new x.sender && nat_lt 0 (offered_payload x.left x.sender)) now x

-- each fragment takes a byte of the packet at least, so that as many turns as it has bytes are enough
abbrev pub fill : {P : Type 0} → (turns : ℕ) → ℕ → Filling P → Filling P
fill zero now x = x
fill (suc turns) now x = let t = next_turn now x in if t.is_more then fill turns now t.filling else t.filling

-- ---- the whole

abbrev pub discard_all : {P : Type 0} → List Discard → Queue → Emitted P → Changed P
discard_all [] q emitted = record { queue = q; emitted = emitted }
discard_all (d ∷ ds) q emitted = let x = discard d.stream d.number q emitted in discard_all ds x.queue x.emitted

abbrev pub without_discards : Sender → Sender
without_discards s = record s { outstanding = record s.outstanding { items = record s.outstanding.items { discards = [] } } }

abbrev pub filled_with : {P : Type 0} → (most : ℕ) → Sender → Resent → Changed P → Filling P
filled_with most s x left = record {
  sender = resent_by s x;
  queue = left.queue;
  emitted = left.emitted;
  chunks = x.chunks;
  left = most - saturate_u64 (sizes (is_interleaved (resent_by s x)) x.chunks);
}

abbrev pub timed_filling : {P : Type 0} → ℕ → Filling P → Filling P
timed_filling now x = record x { sender = start_t3_if_sent now x.chunks x.sender }

abbrev pub fill_and_start_t3 : {P : Type 0} → ℕ → Filling P → Filling P
fill_and_start_t3 now x = timed_filling now (fill (suc x.left) now x)

-- messages that were given up leave the queue first
abbrev pub send : {P : Type 0} → ℕ → (most : ℕ) → Sender → Queue → Emitted P → Filling P
send now most s q emitted =
    fill_and_start_t3 now (filled_with most (without_discards s) (resent most (without_discards s)) (discard_all s.outstanding.items.discards q emitted))

-- nothing is left of messages that were given up, no item waits to be sent again, and the queue has nothing to send
abbrev pub is_idle : Sender → Queue → Bool
is_idle s q =
    length s.outstanding.items.discards == 0 && (not (nat_lt 0 (waiting_items s.outstanding.items)) && not (is_some q.begun || not (length q.scheduler.times == 0)))
