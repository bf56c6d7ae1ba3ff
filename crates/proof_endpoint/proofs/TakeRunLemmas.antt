-- The receiver of the first message: it is ready at once, and acknowledged.
use Rattle.std.proofs.Common.{◌≡◌, ℕ, ◌+◌, ◌-◌, ◌^◌, ◌<◌, ◌&&◌, not, Bool, true, false, Option, Some, List, [], ◌∷◌, length, refl, sym, ap, ◌∙◌, arith}
use Rattle.std.proofs.lemmas.List.{append-nil}
use Rattle.rand_core.specs.Stream.{next_u64}
use Rattle.rand_core.specs.Stream as rng
use Rattle.sctp_serial.specs.Messages.{Message}
use Rattle.sctp_serial.specs.Unwrapped.{u32_space, nearest}
use Rattle.sctp_serial.proofs.UnwrappedLemmas.{nearest_ahead}
use Rattle.sctp_wire.specs.Field.{be16, be32}
use Rattle.sctp_wire.specs.Serialize.{padded_item}
use Rattle.sctp_packet.specs.Chunk.{ChunkTree, data_chunk, sack_chunk}
use Rattle.sctp_packet.specs.Written.{chunk_bytes, chunks_bytes, chunk_value, sack_value}
use Rattle.sctp_state.specs.Options.{SendOptions, defaults}
use Rattle.sctp_rx.specs.DataTracker.{Tracker, DataTracker, number_of, observe, is_valid, has_seen}
use Rattle.sctp_rx.specs.Delivery.{fresh_ordered, fresh_unordered}
use Rattle.sctp_rx.specs.ReassemblyStreams.{Streams}
use Rattle.sctp_rx.specs.ReassemblyQueue.{Reassembly, admits_fragment}
use Rattle.sctp_rx.specs.ReassemblyQueue as reassembly
use Rattle.spec_endpoint.specs.Association.{Tcb, Established, Open, Context, EndpointState, Endpoint, open_as, where_open, Packing}
use Rattle.spec_endpoint.specs.Packets.{add, new_packet, drained}
use Rattle.spec_endpoint.specs.Sending.{window, take_due_ack, without_duplicates, open_with, send_with}
use Rattle.spec_endpoint.specs.Data.{is_full, accepts_fragment, added_unless, take_fragment, fragment_if, on_data_if, on_data}
use Rattle.spec_endpoint.specs.Input as input
use Rattle.spec_endpoint.specs.Input.{count_packet_at, on_packet_end}
use Rattle.proof_endpoint.specs.FirstRun.{first_of, tag_of, fragment, data_packet, sack_packet, packet_event, give, taking, IsSmall}
use Rattle.proof_endpoint.proofs.OpeningRunLemmas.{emitting, open_b, first_small, tag_some, own_taken, drawn, block, opened_b, accepts}
use Rattle.proof_endpoint.proofs.QueueRunLemmas.{not_below_itself}
use Rattle.proof_endpoint.proofs.SendRunLemmas.{first_written}
use Rattle.sctp_serial.proofs.NumberLemmas.{is_itself, not_zero}

-- the first TSN is read as the first number
pub near_first : (first : ℕ) → first < 2 ^ 32 → nearest u32_space first 4294967295 first ≡ 4294967296
near_first first small =
    ap (nearest u32_space first 4294967295) (sym (first_written first small)) ∙ nearest_ahead u32_space first 4294967295 1 (omega arith)

plus_none : (n : ℕ) → 4718592 - (0 + 0 + (0 + (0 + n))) ≡ 4718592 - n
plus_none n = omega arith

-- the streams once a first message was delivered
abbrev pub delivered_in : (is_unordered : Bool) → (id : ℕ) → Streams
delivered_in false id = record { is_interleaved = false; ordered = (id, record fresh_ordered { next = 4294967297 }) ∷ []; unordered = [] }
delivered_in true id = record { is_interleaved = false; ordered = []; unordered = (id, fresh_unordered) ∷ [] }

module _ (m : Message) (first : ℕ) where
  abbrev empty : Reassembly
  empty = reassembly.reassembly 5242880 false

  abbrev pub filled : (is_unordered : Bool) → Reassembly
  filled is_unordered = record empty { first = Some first; streams = delivered_in is_unordered m.stream; ready = m ∷ []; ready_count = 1 }

  module _ (lifetime retransmissions lifecycle : Option ℕ) where
    abbrev options : (is_unordered : Bool) → SendOptions
    options is_unordered = record { unordered = is_unordered; lifetime = lifetime; max_retransmissions = retransmissions; lifecycle_id = lifecycle }

    adds_as : (is_unordered : Bool) → reassembly.add first (fragment m (options is_unordered)) empty ≡ filled is_unordered
    adds_as false = simp (not_below_itself, is_itself, append-nil) refl
    adds_as true = simp (not_below_itself, is_itself, append-nil) refl

  pub adds : (o : SendOptions) → reassembly.add first (fragment m o) empty ≡ filled o.unordered
  adds o = adds_as o.lifetime o.max_retransmissions o.lifecycle_id o.unordered

  pub window_left : (is_unordered : Bool) → window (filled is_unordered) ≡ 4718592 - length m.payload
  window_left false = plus_none (length m.payload)
  window_left true = plus_none (length m.payload)

module _ {P : Type 0} (pack : Packing P) (a b : rng.Stream) (m : Message) (o : SendOptions) where
  abbrev tcb_b : Tcb
  tcb_b = block pack b a 2000000

  abbrev first : ℕ
  first = first_of a

  abbrev received_context : Context P
  received_context = open_b pack b 3 2

  abbrev tracker_with : Tracker → DataTracker
  tracker_with t = record { first = first; tracker = t }

  abbrev pub seen_first : DataTracker
  seen_first = tracker_with (observe 4294967296 false tcb_b.tracker.tracker)

  abbrev pub filled_tcb : Tcb
  filled_tcb = record tcb_b { tracker = seen_first; reassembly = filled m first o.unordered }

  numbers : number_of tcb_b.tracker first ≡ 4294967296
  numbers = near_first first (first_small a)

  is_taken : accepts_fragment defaults first (fragment m o) tcb_b ≡ true
  is_taken = ap (λ (n : ℕ). (not (is_full tcb_b.reassembly) && is_valid tcb_b.tracker.tracker n) && admits_fragment first (fragment m o).stream_id tcb_b.reassembly) numbers

  abbrev arrived : ℕ → Tcb
  arrived n = record tcb_b {
    tracker = tracker_with (observe n false tcb_b.tracker.tracker);
    reassembly = added_unless (has_seen tcb_b.tracker.tracker n) first (fragment m o) tcb_b.reassembly;
  }

  fills : take_fragment first false (fragment m o) tcb_b ≡ filled_tcb
  fills =
      ap arrived numbers
      ∙ ap (λ (r : Reassembly). record tcb_b { tracker = seen_first; reassembly = r }) (adds m first o)

  receives_data : IsSmall m → on_data first false (fragment m o) (open_as Established tcb_b received_context) ≡ open_as Established filled_tcb received_context
  receives_data small =
      ap (λ (t : Bool). on_data_if t first false (fragment m o) (open_as Established tcb_b received_context)) (not_zero (length m.payload) small.some)
      ∙ ap (λ (t : Bool). open_as Established (fragment_if t first false (fragment m o) tcb_b) received_context) is_taken
      ∙ ap (λ (t : Tcb). open_as Established t received_context) fills

  -- ---- the acknowledgement

  abbrev pub acked_tcb : Tcb
  acked_tcb = without_duplicates (take_due_ack false filled_tcb)

  abbrev sack_with : (cumulative window : ℕ) → ChunkTree
  sack_with cumulative window = sack_chunk (record { cumulative_tsn_ack = cumulative; a_rwnd = window; gap_ack_blocks = []; duplicate_tsns = [] })

  abbrev acked_with : ChunkTree → EndpointState P
  acked_with chunk = open_with Established (send_with false (add chunk (new_packet defaults filled_tcb)) acked_tcb received_context)

  abbrev pub taken_end : Endpoint P
  taken_end = record { endpoint_state = record { state = Open Established acked_tcb; context = open_b pack b 3 3 }; draws = (next_u64 (drawn b)).1 }

  acknowledges : on_packet_end Established filled_tcb received_context ≡ (emitting (packet_event pack (sack_packet a m) ∷ []) taken_end).endpoint_state
  unfolding be16 be32 padded_item chunk_bytes chunks_bytes chunk_value sack_value
  acknowledges =
      ap (λ (n : ℕ). acked_with (sack_with n (window (filled m first o.unordered)))) (first_written first (first_small a))
      ∙ ap (λ (n : ℕ). acked_with (sack_with first n)) (window_left m first o.unordered)

  receives : IsSmall m → give (data_packet a b m o) (opened_b pack a b) ≡ emitting (packet_event pack (sack_packet a m) ∷ []) taken_end
  receives small =
      ap (λ (r : Option (List ℕ)). input.packet_unless r (tag_of b) (data_packet a b m o).chunks (count_packet_at (opened_b pack a b)))
      (own_taken (data_chunk first false (fragment m o)) (tag_of b) (opened_b pack a b).endpoint_state.state refl refl refl refl (tag_some b) refl)
      ∙ ap (λ (s : EndpointState P). record (opened_b pack a b) { endpoint_state = where_open on_packet_end s }) (receives_data small)
      ∙ ap (λ (s : EndpointState P). record (opened_b pack a b) { endpoint_state = s }) acknowledges

  pub takes_it : IsSmall m → taking pack a b m o ≡ emitting (packet_event pack (sack_packet a m) ∷ []) taken_end
  takes_it small = ap (λ (s : Endpoint P). give (data_packet a b m o) (drained s)) (accepts pack a b) ∙ receives small
