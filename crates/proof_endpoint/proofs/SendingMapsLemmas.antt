-- What is said, packets that go out and bursts of them do the same whatever packets are.
use Rattle.std.proofs.Common.{◌≡◌, ℕ, zero, suc, nat_le, nat_lt, not, ◌&&◌, Bool, true, false, is_some, List, [], ◌∷◌, refl, ap, ◌∙◌}
use Rattle.sctp_packet.specs.Chunk.{ChunkTree, cookie_echo_chunk}
use Rattle.sctp_state.specs.declared.api.ErrorKind.{ErrorKind}
use Rattle.sctp_state.specs.Numbers.{more}
use Rattle.sctp_state.specs.Events.{Event, SendPacket, OnError, Emitted}
use Rattle.sctp_tx_outstanding.specs.OutstandingData.{fast_items}
use Rattle.sctp_tx_outstanding.specs.Losses.{Step}
use Rattle.sctp_tx_outstanding.specs.Forward.{is_forward_due}
use Rattle.sctp_rx.specs.DataTracker.{is_ack_due}
use Rattle.sctp_tx_queue.specs.Resets.{streams_to_request, request_resets}
use Rattle.sctp_tx.specs.ForwardPoints.{forward_chunk}
use Rattle.sctp_tx.specs.Sending as fragments
use Rattle.spec_endpoint.specs.Association.{Tcb, Phase, Context, Counts}
use Rattle.spec_endpoint.specs.Packets.{PacketDraft, clear_chunks, room, fits, add, has_chunks, packet_to, new_packet, emit_event_in, emit_error, header_to, emit_if, emit, emit_chunk}
use Rattle.spec_endpoint.specs.Sending.{Filling, take_due_ack, ack_if, has_data_to_send, with_ack, forward_added_if, forward_if, with_expired_abandoned, forward_where_due, forward_if_time, with_forward, most_streams, request_of, request_unless, with_request, with_fragments, with_data, filled_as, emit_packet, BurstStep, burst_step_if, next_packet, continue_burst, burst, AfterSending, after_sending, sent_by, is_before_cookie_ack, open_with, send_with, send_buffered, send_unless, send_in, cookie_if, send_cookie, fast_packet, fast_if, send_lost}
use Rattle.proof_endpoint.specs.Mapped.{Mapping, map_event, map_context, map_endpoint_state}
use Rattle.proof_endpoint.proofs.EmittedMapsLemmas.{maps_emit_event, maps_expire, maps_fragments_sent}

-- ---- what holds a context

abbrev pub map_filling : {P Q : Type 0} → Mapping P Q → Filling P → Filling Q
map_filling f x = record { packet = x.packet; tcb = x.tcb; context = map_context f x.context }

abbrev map_turned : {P Q : Type 0} → Mapping P Q → BurstStep P → BurstStep Q
map_turned f x = record { filling = map_filling f x.filling; is_more = x.is_more }

abbrev pub map_sent : {P Q : Type 0} → Mapping P Q → AfterSending P → AfterSending Q
map_sent f x = record { tcb = x.tcb; context = map_context f x.context }

-- a context with this emitted, and these counts
abbrev emitting : {P : Type 0} → Context P → Counts → Emitted P → Context P
emitting c counts t = record c { emitted = t; counts = counts }

abbrev pub filling_with : {P : Type 0} → PacketDraft → Tcb → Context P → Filling P
filling_with p t c = record { packet = p; tcb = t; context = c }

abbrev pub turned_with : {P : Type 0} → Bool → Filling P → BurstStep P
turned_with is_more x = record { filling = x; is_more = is_more }

-- a forward point's test, by what has expired
abbrev tested_by : {P : Type 0} → Filling P → Step P → Filling P
tested_by x step = record x {
  tcb = record x.tcb { sender = record x.tcb.sender { outstanding = record x.tcb.sender.outstanding { items = step.items } } };
  context = record x.context { emitted = step.emitted };
}

module _ {P Q : Type 0} (f : Mapping P Q) where
  -- ---- what is said

  pub maps_say : (e : Event P) (c : Context P) → emit_event_in (map_event f e) (map_context f c) ≡ map_context f (emit_event_in e c)
  maps_say e c = ap (λ (t : Emitted Q). emitting (map_context f c) c.counts t) (maps_emit_event f e c.emitted)

  pub maps_emit_error : (kind : ErrorKind) (text : List ℕ) (c : Context P) → emit_error kind text (map_context f c) ≡ map_context f (emit_error kind text c)
  maps_emit_error kind text c = maps_say (OnError kind text) c

  maps_emit_if : (b : Bool) (p : PacketDraft) (c : Context P) → emit_if b p (map_context f c) ≡ map_context f (emit_if b p c)
  maps_emit_if true p c =
      ap (λ (t : Emitted Q). emitting (map_context f c) (record c.counts { tx_packets = more c.counts.tx_packets }) t)
      (maps_emit_event f (SendPacket (c.pack.write (header_to c.options p.tag) p.is_summed p.chunks)) c.emitted)
  maps_emit_if false p c = refl

  pub maps_emit : (p : PacketDraft) (c : Context P) → emit p (map_context f c) ≡ map_context f (emit p c)
  maps_emit p c = maps_emit_if (has_chunks p) p c

  pub maps_emit_chunk : (chunk : ChunkTree) (t : Tcb) (c : Context P) → emit_chunk chunk t (map_context f c) ≡ map_context f (emit_chunk chunk t c)
  maps_emit_chunk chunk t c = maps_emit (add chunk (new_packet c.options t)) c

  -- ---- what a packet is filled with

  maps_ack_if : (b : Bool) (x : Filling P) → ack_if b (map_filling f x) ≡ map_filling f (ack_if b x)
  maps_ack_if true x = refl
  maps_ack_if false x = refl

  maps_with_ack : (x : Filling P) → with_ack (map_filling f x) ≡ map_filling f (with_ack x)
  maps_with_ack x = maps_ack_if (is_ack_due (has_data_to_send x) x.tcb.tracker.tracker.ack) (record x { tcb = take_due_ack (has_data_to_send x) x.tcb })

  maps_forward_added : (b : Bool) (x : Filling P) → forward_added_if b (map_filling f x) ≡ map_filling f (forward_added_if b x)
  maps_forward_added true x = refl
  maps_forward_added false x = refl

  maps_forward_if : (b : Bool) (x : Filling P) → forward_if b (map_filling f x) ≡ map_filling f (forward_if b x)
  maps_forward_if true x = maps_forward_added (fits x.packet (forward_chunk x.tcb.sender)) x
  maps_forward_if false x = refl

  maps_forward_tested : (x : Filling P) → forward_where_due (map_filling f x) ≡ map_filling f (forward_where_due x)
  maps_forward_tested x = maps_forward_if (is_forward_due x.tcb.sender.outstanding.items) x

  maps_with_expired_abandoned : (x : Filling P) → with_expired_abandoned (map_filling f x) ≡ map_filling f (with_expired_abandoned x)
  maps_with_expired_abandoned x =
      ap (λ (step : Step Q). tested_by (map_filling f x) step) (maps_expire f x.context.now x.tcb.sender.outstanding.items x.context.emitted)

  maps_tested_if : (b : Bool) (x : Filling P) → forward_if_time b (map_filling f x) ≡ map_filling f (forward_if_time b x)
  maps_tested_if true x = ap (λ (y : Filling Q). forward_where_due y) (maps_with_expired_abandoned x) ∙ maps_forward_tested (with_expired_abandoned x)
  maps_tested_if false x = refl

  maps_with_forward : (x : Filling P) → with_forward (map_filling f x) ≡ map_filling f (with_forward x)
  maps_with_forward x = maps_tested_if (nat_le x.context.forward_from x.context.now) x

  maps_request_of : (streams : List ℕ) (x : Filling P) → request_of streams (map_filling f x) ≡ map_filling f (request_of streams x)
  maps_request_of [] x = refl
  maps_request_of (id ∷ ids) x = refl

  maps_request_if : (b : Bool) (x : Filling P) → request_unless b (map_filling f x) ≡ map_filling f (request_unless b x)
  maps_request_if true x = refl
  maps_request_if false x =
      let most : ℕ = most_streams x.packet in
      maps_request_of (streams_to_request most x.context.queue) (record x { context = record x.context { queue = request_resets most x.context.queue } })

  maps_with_request : (x : Filling P) → with_request (map_filling f x) ≡ map_filling f (with_request x)
  maps_with_request x = maps_request_if (is_some x.tcb.requests.current) x

  maps_with_data : (x : Filling P) → with_data (map_filling f x) ≡ map_filling f (with_data x)
  maps_with_data x =
      ap (λ (y : fragments.Filling Q). with_fragments y (map_filling f x))
      (maps_fragments_sent f x.context.now (room x.packet) x.tcb.sender x.context.queue x.context.emitted)

  maps_filled_as : (is_first : Bool) (x : Filling P) → filled_as is_first (map_filling f x) ≡ map_filling f (filled_as is_first x)
  maps_filled_as true x =
      let y : Filling P = with_ack x in
      let r : Filling P = with_forward y in
      ap (λ (z : Filling Q). with_data (with_request (with_forward z))) (maps_with_ack x)
      ∙ (ap (λ (z : Filling Q). with_data (with_request z)) (maps_with_forward y)
      ∙ (ap (λ (z : Filling Q). with_data z) (maps_with_request r) ∙ maps_with_data (with_request r)))
  maps_filled_as false x = maps_with_data x

  -- ---- bursts

  maps_emitted : (x : Filling P) → emit_packet (map_filling f x) ≡ map_filling f (emit_packet x)
  maps_emitted x = ap (λ (c : Context Q). filling_with (clear_chunks x.packet) x.tcb c) (maps_emit x.packet x.context)

  maps_turned_if : (b is_alone : Bool) (x : Filling P) → burst_step_if b is_alone (map_filling f x) ≡ map_turned f (burst_step_if b is_alone x)
  maps_turned_if true is_alone x = ap (λ (y : Filling Q). turned_with (not is_alone) y) (maps_emitted x)
  maps_turned_if false is_alone x = refl

  maps_turned : (is_first is_alone : Bool) (x : Filling P) → next_packet is_first is_alone (map_filling f x) ≡ map_turned f (next_packet is_first is_alone x)
  maps_turned is_first is_alone x =
      let y : Filling P = filled_as is_first x in
      ap (λ (z : Filling Q). burst_step_if (has_chunks z.packet) is_alone z) (maps_filled_as is_first x) ∙ maps_turned_if (has_chunks y.packet) is_alone y

  maps_go_on : (rest : Filling P → Filling P) (mapped : Filling Q → Filling Q) (b : Bool) (x : Filling P)
      → ((y : Filling P) → mapped (map_filling f y) ≡ map_filling f (rest y))
      → continue_burst mapped (turned_with b (map_filling f x)) ≡ map_filling f (continue_burst rest (turned_with b x))
  maps_go_on rest mapped true x h = h x
  maps_go_on rest mapped false x h = refl

  maps_burst : (most : ℕ) (is_first is_alone : Bool) (x : Filling P) → burst most is_first is_alone (map_filling f x) ≡ map_filling f (burst most is_first is_alone x)
  maps_burst zero is_first is_alone x = refl
  maps_burst (suc most) is_first is_alone x =
      let t : BurstStep P = next_packet is_first is_alone x in
      ap (λ (y : BurstStep Q). continue_burst (burst most false is_alone) y) (maps_turned is_first is_alone x)
      ∙ maps_go_on (burst most false is_alone) (burst most false is_alone) t.is_more t.filling (maps_burst most false is_alone)

  -- ---- the sendings

  pub maps_send_with : (is_alone : Bool) (p : PacketDraft) (t : Tcb) (c : Context P) → send_with is_alone p t (map_context f c) ≡ map_sent f (send_with is_alone p t c)
  maps_send_with is_alone p t c = ap (λ (x : Filling Q). sent_by x) (maps_burst c.options.max_burst true is_alone (filling_with p t c))

  pub maps_send_buffered : (is_alone : Bool) (t : Tcb) (c : Context P) → send_buffered is_alone t (map_context f c) ≡ map_sent f (send_buffered is_alone t c)
  maps_send_buffered is_alone t c = maps_send_with is_alone (new_packet c.options t) t c

  pub maps_send_in : (phase : Phase) (t : Tcb) (c : Context P) → send_in phase t (map_context f c) ≡ map_endpoint_state f (send_in phase t c)
  maps_send_in phase t c = ap (λ (x : AfterSending Q). open_with phase x) (go (is_before_cookie_ack phase && c.options.avoid_stalls))
    where
      go : (waits : Bool) → send_unless waits (is_before_cookie_ack phase) t (map_context f c) ≡ map_sent f (send_unless waits (is_before_cookie_ack phase) t c)
      go true = refl
      go false = maps_send_buffered (is_before_cookie_ack phase) t c

  maps_cookie_if : (b : Bool) (cookie : List ℕ) (t : Tcb) (c : Context P) → cookie_if b cookie t (map_context f c) ≡ map_sent f (cookie_if b cookie t c)
  maps_cookie_if true cookie t c = maps_send_with true (add (cookie_echo_chunk cookie) (packet_to t.identity.peer_tag c.options.mtu)) t c
  maps_cookie_if false cookie t c = refl

  pub maps_send_cookie : (cookie : List ℕ) (t : Tcb) (c : Context P) → send_cookie cookie t (map_context f c) ≡ map_sent f (send_cookie cookie t c)
  maps_send_cookie cookie t c = maps_cookie_if (fits (packet_to t.identity.peer_tag c.options.mtu) (cookie_echo_chunk cookie)) cookie t c

  maps_fast_if : (b : Bool) (t : Tcb) (c : Context P) → fast_if b t (map_context f c) ≡ map_sent f (fast_if b t c)
  maps_fast_if true t c = ap (λ (d : Context Q). after_sending (fast_if true t c).tcb d) (maps_emit (fast_packet c.options t) c)
  maps_fast_if false t c = refl

  pub maps_send_lost : (t : Tcb) (c : Context P) → send_lost t (map_context f c) ≡ map_sent f (send_lost t c)
  maps_send_lost t c = maps_fast_if (nat_lt 0 (fast_items t.sender.outstanding.items)) t c
