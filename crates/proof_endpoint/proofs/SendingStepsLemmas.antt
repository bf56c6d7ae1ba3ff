-- What sending emits: bursts of packets within the mtu.
use Rattle.std.proofs.Common.{ℕ, zero, suc, nat_le, nat_lt, Bool, true, false, Option, Some, None, is_some, List, [], ◌∷◌, refl, arith}
use Rattle.sctp_packet.specs.Chunk.{ChunkTree, cookie_echo_chunk}
use Rattle.sctp_tx_outstanding.specs.OutstandingData.{fast_items}
use Rattle.sctp_tx_outstanding.specs.Forward.{is_forward_due}
use Rattle.sctp_rx.specs.DataTracker.{is_ack_due}
use Rattle.sctp_tx.specs.ForwardPoints.{forward_chunk}
use Rattle.sctp_tx.specs.Sending as fragments
use Rattle.sctp_tx.specs.Sending.{send}
use Rattle.sctp_tx.specs.Resent.{resent_fast}
use Rattle.sctp_tx_queue.specs.Resets.{streams_to_request, request_resets}
use Rattle.spec_endpoint.specs.Association.{Tcb, Context, Phase, CookieEchoed, Established, ShutdownPending, ShutdownSent, ShutdownReceived, ShutdownAckSent}
use Rattle.spec_endpoint.specs.ResetRequests.{Request, request_chunk}
use Rattle.spec_endpoint.specs.Packets.{PacketDraft, room, fits, add, has_chunks, packet_to, new_packet, emit}
use Rattle.spec_endpoint.specs.Sending.{Filling, selective_ack, take_due_ack, ack_if, has_data_to_send, with_ack, forward_added_if, forward_if, with_expired_abandoned, forward_if_time, with_forward, most_streams, add_request, request_of, request_at_most, request_unless, with_request, data_chunks, asks_at_once, with_fragments, with_data, filled_as, emit_packet, BurstStep, burst_step_if, next_packet, continue_burst, burst, send_with, send_buffered, cookie_if, send_cookie, fast_most, fast_packet, fast_if, send_lost, cookie_packet_if, answer_packet}
use Rattle.proof_endpoint.proofs.StepsLemmas.{most_bytes, Goes}
use Rattle.proof_endpoint.proofs.EmitsLemmas.{emits_expired, emits_sent}
use Rattle.proof_endpoint.proofs.GoesLemmas.{IsSmall, small_empty, small_add, small_add_all, small_new, small_whole, goes_by, goes_silent, goes_same, goes_then, goes_emit, small_after}

-- a packet that is put together, and what was emitted meanwhile
pub record Fills {P : Type 0} (c d : Context P) (p : PacketDraft) : Type 0 where
  pub goes : Goes 0 c d
  pub small : IsSmall (most_bytes d) p

abbrev pub FillsBy : {P : Type 0} → Context P → Filling P → Type 0
FillsBy c x = Fills c x.context x.packet

pub small_add_request : (most : ℕ) (p : PacketDraft) (o : Option Request) → IsSmall most p → IsSmall most (add_request o p)
small_add_request most p None h = h
small_add_request most p (Some r) h = small_add most p (request_chunk r) h

module _ {P : Type 0} (c : Context P) where
  -- the context goes on, the packet stays small
  fills_on : (d e : Context P) (p : PacketDraft) → Goes 0 d e → Fills c d p → Fills c e p
  fills_on d e p g h = record { goes = goes_then 0 c d e h.goes g; small = small_after d e p g h.small }

  fills_added : (chunk : ChunkTree) (d : Context P) (p : PacketDraft) → Fills c d p → Fills c d (add chunk p)
  fills_added chunk d p h = record { goes = h.goes; small = small_add (most_bytes d) p chunk h.small }

  fills_ack_if : (b : Bool) (x : Filling P) → FillsBy c x → FillsBy c (ack_if b x)
  fills_ack_if true x h = fills_added (selective_ack x.tcb) x.context x.packet h
  fills_ack_if false x h = h

  fills_ack : (x : Filling P) → FillsBy c x → FillsBy c (with_ack x)
  fills_ack x h = fills_ack_if (is_ack_due (has_data_to_send x) x.tcb.tracker.tracker.ack) (record x { tcb = take_due_ack (has_data_to_send x) x.tcb }) h

  fills_forward_added : (b : Bool) (x : Filling P) → FillsBy c x → FillsBy c (forward_added_if b x)
  fills_forward_added true x h =
      let y : Filling P = forward_added_if true x in
      fills_on x.context y.context y.packet (goes_silent x.context y.context refl refl refl) (fills_added (forward_chunk x.tcb.sender) x.context x.packet h)
  fills_forward_added false x h = h

  fills_forward_if : (b : Bool) (x : Filling P) → FillsBy c x → FillsBy c (forward_if b x)
  fills_forward_if true x h = fills_forward_added (fits x.packet (forward_chunk x.tcb.sender)) x h
  fills_forward_if false x h = h

  fills_with_expired_abandoned : (x : Filling P) → FillsBy c x → FillsBy c (with_expired_abandoned x)
  fills_with_expired_abandoned x h =
      let y : Filling P = with_expired_abandoned x in
      fills_on x.context y.context x.packet
      (goes_by 0 x.context y.context refl refl (emits_expired x.context.pack (most_bytes x.context) x.context.now x.tcb.sender.outstanding.items x.context.emitted)) h

  fills_tested_if : (b : Bool) (x : Filling P) → FillsBy c x → FillsBy c (forward_if_time b x)
  fills_tested_if true x h =
      let y : Filling P = with_expired_abandoned x in
      fills_forward_if (is_forward_due y.tcb.sender.outstanding.items) y (fills_with_expired_abandoned x h)
  fills_tested_if false x h = h

  fills_forward : (x : Filling P) → FillsBy c x → FillsBy c (with_forward x)
  fills_forward x h = fills_tested_if (nat_le x.context.forward_from x.context.now) x h

  fills_request_of : (streams : List ℕ) (x : Filling P) → FillsBy c x → FillsBy c (request_of streams x)
  fills_request_of [] x h = h
  fills_request_of (id ∷ ids) x h =
      let y : Filling P = request_of (id ∷ ids) x in
      record { goes = h.goes; small = small_add_request (most_bytes x.context) x.packet y.tcb.requests.current h.small }

  fills_request_at_most : (most : ℕ) (x : Filling P) → FillsBy c x → FillsBy c (request_at_most most x)
  fills_request_at_most most x h =
      let d : Context P = record x.context { queue = request_resets most x.context.queue } in
      fills_request_of (streams_to_request most x.context.queue) (record x { context = d })
      (fills_on x.context d x.packet (goes_silent x.context d refl refl refl) h)

  fills_request_if : (b : Bool) (x : Filling P) → FillsBy c x → FillsBy c (request_unless b x)
  fills_request_if true x h = h
  fills_request_if false x h = fills_request_at_most (most_streams x.packet) x h

  fills_request : (x : Filling P) → FillsBy c x → FillsBy c (with_request x)
  fills_request x h = fills_request_if (is_some x.tcb.requests.current) x h

  fills_data : (x : Filling P) → FillsBy c x → FillsBy c (with_data x)
  fills_data x h =
      let f : fragments.Filling P = send x.context.now (room x.packet) x.tcb.sender x.context.queue x.context.emitted in
      let y : Filling P = with_fragments f x in
      let g : Goes 0 x.context y.context = goes_by 0 x.context y.context refl refl
      (emits_sent x.context.pack (most_bytes x.context) x.context.now (room x.packet) x.tcb.sender x.context.queue x.context.emitted) in
      let k : Fills c y.context x.packet = fills_on x.context y.context x.packet g h in
      record { goes = k.goes; small = small_add_all (most_bytes y.context) x.packet (data_chunks x.tcb (asks_at_once x.context.options x.tcb.sender) f.chunks) k.small }

  fills_as : (is_first : Bool) (x : Filling P) → FillsBy c x → FillsBy c (filled_as is_first x)
  fills_as true x h =
      let y : Filling P = with_forward (with_ack x) in
      fills_data (with_request y) (fills_request y (fills_forward (with_ack x) (fills_ack x h)))
  fills_as false x h = fills_data x h

  fills_emitted : (x : Filling P) → FillsBy c x → FillsBy c (emit_packet x)
  fills_emitted x h =
      let k : Fills c (emit x.packet x.context) x.packet = fills_on x.context (emit x.packet x.context) x.packet (goes_emit x.packet x.context h.small) h in
      record { goes = k.goes; small = small_empty (most_bytes (emit x.packet x.context)) (emit_packet x).packet (omega arith) k.small.limit refl }

  fills_turned_if : (b is_alone : Bool) (x : Filling P) → FillsBy c x → FillsBy c (burst_step_if b is_alone x).filling
  fills_turned_if true is_alone x h = fills_emitted x h
  fills_turned_if false is_alone x h = h

  fills_turned : (is_first is_alone : Bool) (x : Filling P) → FillsBy c x → FillsBy c (next_packet is_first is_alone x).filling
  fills_turned is_first is_alone x h =
      let y : Filling P = filled_as is_first x in
      fills_turned_if (has_chunks y.packet) is_alone y (fills_as is_first x h)

  fills_go_on : (rest : Filling P → Filling P) (b : Bool) (x : Filling P) → ((y : Filling P) → FillsBy c y → FillsBy c (rest y)) → FillsBy c x
      → FillsBy c (continue_burst rest (record { filling = x; is_more = b }))
  fills_go_on rest true x f h = f x h
  fills_go_on rest false x f h = h

  fills_burst : (most : ℕ) (is_first is_alone : Bool) (x : Filling P) → FillsBy c x → FillsBy c (burst most is_first is_alone x)
  fills_burst zero is_first is_alone x h = h
  fills_burst (suc most) is_first is_alone x h =
      let t : BurstStep P = next_packet is_first is_alone x in
      fills_go_on (burst most false is_alone) t.is_more t.filling (fills_burst most false is_alone) (fills_turned is_first is_alone x h)

  -- ---- the sendings

  pub goes_send_with : (is_alone : Bool) (p : PacketDraft) (t : Tcb) → IsSmall (most_bytes c) p → Goes 0 c (send_with is_alone p t c).context
  goes_send_with is_alone p t h =
      (fills_burst c.options.max_burst true is_alone (record { packet = p; tcb = t; context = c }) (record { goes = goes_same c; small = h })).goes

  pub goes_send_buffered : (is_alone : Bool) (t : Tcb) → Goes 0 c (send_buffered is_alone t c).context
  goes_send_buffered is_alone t = goes_send_with is_alone (new_packet c.options t) t (small_new t c)

  small_cookie : (cookie : List ℕ) (t : Tcb) → IsSmall (most_bytes c) (add (cookie_echo_chunk cookie) (packet_to t.identity.peer_tag c.options.mtu))
  small_cookie cookie t =
      let p : PacketDraft = packet_to t.identity.peer_tag c.options.mtu in small_add (most_bytes c) p (cookie_echo_chunk cookie) (small_whole c p refl refl)

  small_cookie_if : (b : Bool) (cookie : List ℕ) (t : Tcb) → IsSmall (most_bytes c) (cookie_packet_if b cookie c.options t)
  small_cookie_if true cookie t = small_cookie cookie t
  small_cookie_if false cookie t = small_new t c

  pub small_answer : (phase : Phase) (t : Tcb) → IsSmall (most_bytes c) (answer_packet phase c.options t)
  small_answer (CookieEchoed t1 cookie) t = small_cookie_if c.options.avoid_stalls cookie t
  small_answer Established t = small_new t c
  small_answer ShutdownPending t = small_new t c
  small_answer (ShutdownSent t2) t = small_new t c
  small_answer ShutdownReceived t = small_new t c
  small_answer (ShutdownAckSent t2) t = small_new t c

  goes_cookie_if : (b : Bool) (cookie : List ℕ) (t : Tcb) → Goes 0 c (cookie_if b cookie t c).context
  goes_cookie_if true cookie t = goes_send_with true (add (cookie_echo_chunk cookie) (packet_to t.identity.peer_tag c.options.mtu)) t (small_cookie cookie t)
  goes_cookie_if false cookie t = goes_same c

  pub goes_send_cookie : (cookie : List ℕ) (t : Tcb) → Goes 0 c (send_cookie cookie t c).context
  goes_send_cookie cookie t = goes_cookie_if (fits (packet_to t.identity.peer_tag c.options.mtu) (cookie_echo_chunk cookie)) cookie t

  goes_fast_if : (b : Bool) (t : Tcb) → Goes 0 c (fast_if b t c).context
  goes_fast_if true t =
      let chunks : List ChunkTree = data_chunks t false (resent_fast (fast_most c.options) t.sender).chunks in
      goes_emit (fast_packet c.options t) c (small_add_all (most_bytes c) (new_packet c.options t) chunks (small_new t c))
  goes_fast_if false t = goes_same c

  pub goes_send_lost : (t : Tcb) → Goes 0 c (send_lost t c).context
  goes_send_lost t = goes_fast_if (nat_lt 0 (fast_items t.sender.outstanding.items)) t
