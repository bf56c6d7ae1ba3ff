-- The acknowledgement of the first message, which leaves its sender at rest.
use Rattle.std.proofs.Common.{◌≡◌, ℕ, ◌-◌, nat_lt, Bool, true, false, Option, Some, None, List, [], ◌∷◌, length, refl, ap, ◌∙◌}
use Rattle.rand_core.specs.Stream.{next_u64}
use Rattle.rand_core.specs.Stream as rng
use Rattle.sctp_serial.specs.Messages.{Message}
use Rattle.sctp_packet.specs.Chunk.{SackTree, sack_chunk}
use Rattle.sctp_packet.specs.Written.{chunks_bytes}
use Rattle.sctp_state.specs.Options.{SendOptions, defaults}
use Rattle.sctp_state.specs.TxErrorCounter.{ErrorCounter, no_errors}
use Rattle.sctp_state.specs.Events.{nothing_emitted}
use Rattle.sctp_tx_outstanding.specs.Sack.{acked_bytes}
use Rattle.sctp_tx.specs.RetransmissionQueue.{Sender, handle_sack}
use Rattle.spec_endpoint.specs.Association.{Tcb, Established, Open, Context, EndpointState, Endpoint, where_open, Packing}
use Rattle.spec_endpoint.specs.Packets.{has_chunks, new_packet, drained}
use Rattle.spec_endpoint.specs.Sending.{Filling, burst_step_if, continue_burst, burst, sent_by, open_with}
use Rattle.spec_endpoint.specs.Sack.{sample_rtt, on_clean_sack, send_after_sack}
use Rattle.spec_endpoint.specs.Shutdown.{cleared_if, phase_step}
use Rattle.spec_endpoint.specs.Input.{count_packet_at, on_packet_end, packet_unless}
use Rattle.proof_endpoint.specs.FirstRun.{first_of, tag_of, sack_packet, delivered_events, give, resting, IsSmall}
use Rattle.proof_endpoint.proofs.OpeningRunLemmas.{emitting, first_small, tag_some, own_taken, drawn, open_a}
use Rattle.proof_endpoint.proofs.QueueRunLemmas.{emptied}
use Rattle.proof_endpoint.proofs.IdleRunLemmas.{data_idle, none_kept}
use Rattle.proof_endpoint.proofs.SendRunLemmas.{sent_tcb, sent_end, sends}
use Rattle.proof_endpoint.proofs.TakeRunLemmas.{near_first}

-- where there were no errors, there are none
none_again : (is_progress : Bool) (limit : Option ℕ) → cleared_if is_progress (no_errors limit) ≡ no_errors limit
none_again true limit = refl
none_again false limit = refl

module _ {P : Type 0} (pack : Packing P) (a b : rng.Stream) (m : Message) (lifetime retransmissions : Option ℕ) (is_unordered : Bool) where
  abbrev options : Option ℕ → SendOptions
  options lifecycle = record { unordered = is_unordered; lifetime = lifetime; max_retransmissions = retransmissions; lifecycle_id = lifecycle }

  abbrev window : ℕ
  window = 4718592 - length m.payload

  module _ (lifecycle : Option ℕ) where
    abbrev o : SendOptions
    o = options lifecycle

    abbrev tcb : Tcb
    tcb = sent_tcb pack a b m o

    abbrev received_context : Context P
    received_context = record (open_a pack a 3 3) { queue = emptied m o; counts = record { rx_packets = 3; tx_packets = 3; tx_messages = 1 } }

    abbrev acked_sender : Sender
    acked_sender = handle_sack {P = P} 0 4294967296 window [] tcb.sender nothing_emitted

    abbrev pub rested_tcb : Tcb
    rested_tcb = sample_rtt (Some 0) (record tcb { sender = acked_sender })

    abbrev pub rested_end : Endpoint P
    rested_end = record { endpoint_state = record { state = Open Established rested_tcb; context = received_context }; draws = (next_u64 (drawn a)).1 }

    abbrev emitted_context : Context P
    emitted_context = record received_context { emitted = record { events = delivered_events lifecycle; given_up = [] } }

    abbrev rest : Filling P → Filling P
    rest y = continue_burst (burst 3 false false) (burst_step_if (has_chunks y.packet) false y)

    bursts : burst 4 true false (record { packet = new_packet defaults rested_tcb; tcb = rested_tcb; context = emitted_context })
        ≡ record { packet = new_packet defaults rested_tcb; tcb = rested_tcb; context = emitted_context }
    unfolding chunks_bytes
    bursts =
        ap (λ (y : Filling P). rest y)
        (data_idle (emptied m o).streams 1 1159 1 emitted_context.emitted (first_of a) 4294967296 [] rested_tcb.sender.windows rested_tcb.sender.t3 rested_tcb.sender.is_sampled
        (none_kept (first_of a) 4294967296) (new_packet defaults rested_tcb) rested_tcb emitted_context)

    abbrev k : SackTree
    k = record { cumulative_tsn_ack = first_of a; a_rwnd = window; gap_ack_blocks = []; duplicate_tsns = [] }

    receives_by : on_clean_sack 4294967296 window [] Established tcb received_context ≡ send_after_sack rested_tcb (phase_step Established emitted_context)
        → give (sack_packet a m) (sent_end pack a b m o) ≡ emitting (delivered_events lifecycle) rested_end
    receives_by acked =
        ap (λ (r : Option (List ℕ)). packet_unless r (tag_of a) (sack_chunk k ∷ []) (count_packet_at (sent_end pack a b m o)))
        (own_taken (sack_chunk k) (tag_of a) (sent_end pack a b m o).endpoint_state.state refl refl refl refl (tag_some a) refl)
        ∙ ap (λ (n : ℕ). record (sent_end pack a b m o) { endpoint_state = where_open on_packet_end (on_clean_sack n window [] Established tcb received_context) }) (near_first (first_of a) (first_small a))
        ∙ ap (λ (s : EndpointState P). record (sent_end pack a b m o) { endpoint_state = where_open on_packet_end s }) acked
        ∙ ap (λ (x : Filling P). record (sent_end pack a b m o) { endpoint_state = where_open on_packet_end (open_with Established (sent_by x)) }) bursts

  -- what the SACK says, by the message's lifecycle
  acks : (lifecycle : Option ℕ) → on_clean_sack 4294967296 window [] Established (tcb lifecycle) (received_context lifecycle)
      ≡ send_after_sack (rested_tcb lifecycle) (phase_step Established (emitted_context lifecycle))
  acks None =
      ap (λ (e : ErrorCounter). send_after_sack (rested_tcb None) (phase_step Established (record (emitted_context None) { errors = e })))
      (none_again (nat_lt 0 (acked_bytes 4294967296 [] (tcb None).sender.outstanding.items)) (Some 10))
  acks (Some id) =
      ap (λ (e : ErrorCounter). send_after_sack (rested_tcb (Some id)) (phase_step Established (record (emitted_context (Some id)) { errors = e })))
      (none_again (nat_lt 0 (acked_bytes 4294967296 [] (tcb (Some id)).sender.outstanding.items)) (Some 10))

  pub receives_sack : (lifecycle : Option ℕ) → give (sack_packet a m) (sent_end pack a b m (options lifecycle)) ≡ emitting (delivered_events lifecycle) (rested_end lifecycle)
  receives_sack lifecycle = receives_by lifecycle (acks lifecycle)

module _ {P : Type 0} (pack : Packing P) (a b : rng.Stream) (m : Message) (o : SendOptions) (small : IsSmall m) where
  pub rests : resting pack a b m o ≡ emitting (delivered_events o.lifecycle_id) (rested_end pack a b m o.lifetime o.max_retransmissions o.unordered o.lifecycle_id)
  rests =
      ap (λ (s : Endpoint P). give (sack_packet a m) (drained s)) (sends pack a b m o small)
      ∙ receives_sack pack a b m o.lifetime o.max_retransmissions o.unordered o.lifecycle_id
