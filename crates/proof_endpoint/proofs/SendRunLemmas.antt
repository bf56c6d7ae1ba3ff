-- The sender of the first message: it goes out at once.
use Rattle.std.proofs.Common.{◌≡◌, ℕ, ◌+◌, ◌-◌, ◌%◌, ◌^◌, ◌<◌, ◌≤◌, ◌&&◌, nat_lt, nat_le, if◌then◌else◌, Bool, true, false, Option, None, List, [], ◌∷◌, ◌++◌, length, refl, ap, ◌∙◌, arith}
use Rattle.std.specs.Prelude.{unwrap_or}
use Rattle.std.proofs.lemmas.Bool.{le-leb}
use Rattle.rand_core.specs.Stream.{next_u64}
use Rattle.rand_core.specs.Stream as rng
use Rattle.sctp_serial.specs.Messages.{Message}
use Rattle.sctp_wire.specs.Item.{padding}
use Rattle.sctp_wire.proofs.SerializeLemmas.{length_padded_item}
use Rattle.sctp_packet.specs.Chunk.{ChunkTree, FragmentTree, data_chunk}
use Rattle.sctp_packet.specs.Written.{chunk_item, chunk_bytes, chunks_bytes}
use Rattle.sctp_chunk.proofs.ValueLemmas.{length_data}
use Rattle.sctp_state.specs.Options.{SendOptions, defaults}
use Rattle.sctp_state.specs.Timer.{Timer, start}
use Rattle.sctp_state.specs.Events.{Event, Emitted, OnBufferedAmountLow, nothing_emitted, emit_events}
use Rattle.sctp_state.specs.declared.api.SocketState.TheVariants.{Connected}
use Rattle.sctp_state.specs.declared.api.errors.SendError.{SendError}
use Rattle.sctp_tx_outstanding.specs.Item.{Item, size_of}
use Rattle.sctp_tx_outstanding.specs.OutstandingData.{first_sent}
use Rattle.sctp_tx_outstanding.specs.Resending.{resend, empty_packet}
use Rattle.sctp_tx_queue.specs.SendQueue.{Queue, expiry_of}
use Rattle.sctp_tx_queue.specs.Produced.{Turn, fully_sent}
use Rattle.sctp_tx.specs.Windows.{Windows, at_first, consume_rwnd}
use Rattle.sctp_tx.specs.RetransmissionQueue.{Sender}
use Rattle.sctp_tx.specs.Sending as fragments
use Rattle.sctp_tx.specs.Sending.{filling, fill, take_turn, timed_filling}
use Rattle.spec_endpoint.specs.Association.{Tcb, Established, Open, Context, EndpointState, Endpoint, with_context, where_open, Packing}
use Rattle.spec_endpoint.specs.Packets.{PacketDraft, fits, added_if, room, has_chunks, new_packet, drained}
use Rattle.spec_endpoint.specs.Sending.{Filling, with_fragments, emit_packet, burst_step_if, continue_burst, burst, sent_by, open_with, send_in}
use Rattle.spec_endpoint.specs.Calls.{send_refusal, offered, sent_unless, send}
use Rattle.spec_endpoint.specs.Input.{in_endpoint_state}
use Rattle.proof_endpoint.specs.FirstRun.{first_of, tag_of, fragment, data_packet, packet_event, sending, IsSmall}
use Rattle.proof_endpoint.proofs.OpeningRunLemmas.{emitting, first_small, drawn, block, open_a, opened_a, opens}
use Rattle.proof_endpoint.proofs.QueueRunLemmas.{holding, emptied, queues, produces}
use Rattle.proof_endpoint.proofs.IdleRunLemmas.{fill_idle, burst_ends}
use Rattle.sctp_serial.proofs.NumberLemmas.{not_zero}
use Rattle.proof_endpoint.proofs.GoesLemmas.{no_bytes}

-- ---- tests

not_large : (n : ℕ) → n ≤ 1000 → nat_lt 262144 n ≡ false
not_large n h = grind (arith)

short_length : (n : ℕ) → n ≤ 1000 → nat_lt (4 + (12 + n)) 65536 ≡ true
short_length n h = grind (arith)

-- the first TSN is written as itself
pub first_written : (first : ℕ) → first < 2 ^ 32 → (first + 4294967296) % 4294967296 ≡ first
first_written first h = omega (arith, h)

pub padding_small : (n : ℕ) → padding n ≤ 3
padding_small n = omega arith

length_chunk : (chunk : ChunkTree) (n : ℕ) → length (chunk_item chunk).value ≡ n → length (chunk_bytes chunk) ≤ 7 + n
unfolding chunk_bytes
length_chunk chunk n h = omega (arith, length_padded_item (chunk_item chunk), padding_small (length (chunk_item chunk).value), h)

-- a chunk of a message of 1,000 bytes fits an empty packet
pub data_fits : (tsn : ℕ) (is_summed : Bool) (tag : ℕ) (f : FragmentTree) → length f.payload ≤ 1000
    → fits (record { tag = tag; is_summed = is_summed; limit = 1188; chunks = [] }) (data_chunk tsn false f) ≡ true
data_fits tsn is_summed tag f few =
    let p : PacketDraft = record { tag = tag; is_summed = is_summed; limit = 1188; chunks = [] } in
    let size : length (chunk_item (data_chunk tsn false f)).value ≡ 12 + length f.payload = length_data tsn false f in
    let long : length (chunk_bytes (data_chunk tsn false f)) ≤ 7 + (12 + length f.payload) = length_chunk (data_chunk tsn false f) (12 + length f.payload) size in
    ap (λ (n : ℕ). (nat_lt (4 + n) 65536 && true) && nat_le (length (chunk_bytes (data_chunk tsn false f))) (room p)) size
    ∙ ap (λ (b : Bool). (b && true) && nat_le (length (chunk_bytes (data_chunk tsn false f))) (room p)) (short_length (length f.payload) few)
    ∙ le-leb (length (chunk_bytes (data_chunk tsn false f))) (room p) (omega (arith, long, few, no_bytes))

-- the queue takes it
pub accepts_message : {P : Type 0} (pack : Packing P) (a : rng.Stream) (m : Message) → IsSmall m → send_refusal m Connected (open_a pack a 2 2) ≡ None
accepts_message pack a m small = simp (not_zero (length m.payload) small.some, not_large (length m.payload) small.few) refl

module _ {P : Type 0} (pack : Packing P) (a b : rng.Stream) (m : Message) (o : SendOptions) where
  -- ---- queued

  abbrev holding_context : Queue → Context P
  holding_context q = record (open_a pack a 2 2) { queue = q; counts = record { rx_packets = 2; tx_packets = 2; tx_messages = 1 } }

  offers : IsSmall m → send m o (opened_a pack a b).endpoint_state ≡ where_open send_in (with_context (opened_a pack a b).endpoint_state (holding_context (holding m o)))
  offers small =
      ap (λ (r : Option SendError). sent_unless r (with_context (opened_a pack a b).endpoint_state (offered r m o (open_a pack a 2 2)))) (accepts_message pack a m small)
      ∙ ap (λ (q : Queue). where_open send_in (with_context (opened_a pack a b).endpoint_state (holding_context q))) (queues m o small.some)

  -- ---- its fragment

  abbrev tcb_a : Tcb
  tcb_a = block pack a b 5242880

  abbrev item : Item
  item = first_sent 0 (fragment m o) 0 (unwrap_or o.max_retransmissions 65535) (expiry_of 0 o.lifetime) o.lifecycle_id

  abbrev pub sent_windows : Windows
  sent_windows = consume_rwnd (size_of false (fragment m o)) (at_first defaults 5242880)

  abbrev emitted : Emitted P
  emitted = emit_events (OnBufferedAmountLow m.stream ∷ fully_sent o.lifecycle_id) nothing_emitted

  abbrev given_t3 : Timer → Sender
  given_t3 t3 = record tcb_a.sender {
    outstanding = record tcb_a.sender.outstanding { items = record tcb_a.sender.outstanding.items { kept = item ∷ [] } };
    windows = sent_windows;
    t3 = t3;
  }

  abbrev numbered : List (ℕ × FragmentTree)
  numbered = ((first_of a + 4294967296) % 4294967296, fragment m o) ∷ []

  -- the packet's data, from what the queue gives
  fills : IsSmall m → fill 1177 0 (filling tcb_a.sender (holding m o) nothing_emitted [] 1176)
      ≡ filling (given_t3 tcb_a.sender.t3) (emptied m o) emitted numbered (1176 - size_of false (fragment m o))
  fills small =
      let start : fragments.Filling P = filling tcb_a.sender (holding m o) nothing_emitted [] 1176 in
      ap (λ (t : Turn P). let u = take_turn 0 t start in if u.is_more then fill 1176 0 u.filling else u.filling) (produces m o nothing_emitted small.some small.few)
      ∙ fill_idle (emptied m o).streams 1 1159 1 emitted 1175 0 (given_t3 tcb_a.sender.t3) numbered (1176 - size_of false (fragment m o))

  abbrev t3 : Timer
  t3 = start 0 tcb_a.sender.t3

  abbrev empty : PacketDraft
  empty = new_packet defaults tcb_a

  abbrev chunk_at : ℕ → ChunkTree
  chunk_at tsn = data_chunk tsn false (fragment m o)

  abbrev before : Filling P
  before = record { packet = empty; tcb = tcb_a; context = holding_context (holding m o) }

  abbrev filling_with : PacketDraft → Filling P
  filling_with p = record { packet = p; tcb = record tcb_a { sender = given_t3 t3 }; context = record (holding_context (emptied m o)) { emitted = emitted } }

  abbrev pub with_message : PacketDraft
  with_message = record empty { chunks = chunk_at (first_of a) ∷ [] }

  abbrev rest : Filling P → Filling P
  rest y = continue_burst (burst 3 false false) (burst_step_if (has_chunks y.packet) false y)

  not_again : (room window : ℕ) → resend false room window (given_t3 t3).outstanding ≡ empty_packet room window (given_t3 t3).outstanding
  not_again room window = refl

  bursts : IsSmall m → burst 4 true false before ≡ emit_packet (filling_with with_message)
  unfolding chunks_bytes
  bursts small =
      ap (λ (f : fragments.Filling P). rest (with_fragments (timed_filling 0 f) before)) (fills small)
      ∙ ap (λ (n : ℕ). rest (filling_with (added_if (fits empty (chunk_at n)) (chunk_at n) empty))) (first_written (first_of a) (first_small a))
      ∙ ap (λ (t : Bool). rest (filling_with (added_if t (chunk_at (first_of a)) empty))) (data_fits (first_of a) true (tag_of b) (fragment m o) small.few)
      ∙ burst_ends (emptied m o).streams 1 1159 1 (emit_packet (filling_with with_message)).context.emitted (first_of a) 4294967295 (item ∷ []) sent_windows t3 false not_again 2
      empty tcb_a (emit_packet (filling_with with_message)).context

  abbrev pub sent_tcb : Tcb
  sent_tcb = record tcb_a { sender = given_t3 t3 }

  abbrev pub sent_end : Endpoint P
  sent_end = record {
    endpoint_state = record {
      state = Open Established sent_tcb;
      context = record (open_a pack a 2 3) { queue = emptied m o; counts = record { rx_packets = 2; tx_packets = 3; tx_messages = 1 } };
    };
    draws = (next_u64 (drawn a)).1;
  }

  abbrev pub sent_events : List (Event P)
  sent_events = OnBufferedAmountLow m.stream ∷ (fully_sent o.lifecycle_id ++ packet_event pack (data_packet a b m o) ∷ [])

  pub sends : IsSmall m → sending pack a b m o ≡ emitting sent_events sent_end
  sends small =
      ap (λ (s : Endpoint P). in_endpoint_state (send m o) (drained s)) (opens pack a b)
      ∙ ap (λ (s : EndpointState P). record (opened_a pack a b) { endpoint_state = s }) (offers small)
      ∙ ap (λ (x : Filling P). record (opened_a pack a b) { endpoint_state = open_with Established (sent_by x) }) (bursts small)
