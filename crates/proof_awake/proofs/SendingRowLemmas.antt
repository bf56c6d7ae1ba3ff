-- What a sending leaves: timers of items, requests and heartbeats that run.
use Rattle.std.proofs.Common.{ℕ, zero, suc, Bool, true, false, List, [], ◌∷◌, length, arith}
use Rattle.std.specs.Prelude.{◌==◌, not, nat_lt, nat_le, is_some}
use Rattle.sctp_packet.specs.Chunk.{ChunkTree, cookie_echo_chunk}
use Rattle.sctp_state.specs.Options.{Options}
use Rattle.sctp_state.specs.Timer.{Timer, start}
use Rattle.sctp_state.specs.RetransmissionTimeout.{rto}
use Rattle.sctp_rx.specs.DataTracker.{is_ack_due, take_ack}
use Rattle.sctp_rx.specs.Sack.{clear_duplicates}
use Rattle.sctp_tx_outstanding.specs.OutstandingData.{fast_items}
use Rattle.sctp_tx_outstanding.specs.Forward.{is_forward_due}
use Rattle.sctp_tx_queue.specs.Resets.{streams_to_request, request_resets}
use Rattle.sctp_tx.specs.RetransmissionQueue.{Sender}
use Rattle.sctp_tx.specs.Resent.{send_fast}
use Rattle.sctp_tx.specs.ForwardPoints.{abandon_expired, forward_chunk}
use Rattle.sctp_tx.specs.Sending as fragments
use Rattle.sctp_tx.specs.Sending.{send}
use Rattle.spec_endpoint.specs.Association.{Tcb, Heartbeats, Context}
use Rattle.spec_endpoint.specs.Packets.{PacketDraft, room, fits, add, packet_to, new_packet, has_chunks, emit_if, emit, emit_chunk}
use Rattle.spec_endpoint.specs.Heartbeats.{restart_interval_if}
use Rattle.spec_endpoint.specs.Sending.{Filling, take_due_ack, ack_if, has_data_to_send, with_ack, forward_added_if, forward_if, with_expired_abandoned, forward_if_time, with_forward, most_streams, last_assigned, add_reset_breakpoint, request_started, request_of, request_unless, with_request, with_data, filled_as, BurstStep, burst_step_if, next_packet, continue_burst, burst, AfterSending, send_with, send_buffered, cookie_if, send_cookie, fast_most, fast_packet, fast_if, send_lost}
use Rattle.proof_awake.specs.Invariant.{BlockHolds, Beats, ContextHolds, waits}
use Rattle.proof_awake.proofs.TimerLemmas.{beats_on}
use Rattle.proof_awake.proofs.SenderLemmas.{expired_holds, fast_holds, send_holds}
use Rattle.proof_awake.proofs.BlockLemmas.{taken_holds, rto_least, request_starts, with_sender, with_requests, with_tracker}

-- ---- what is held beside the control block

pub quieter : (avoids : Bool) (b : Bool) (o : Options) (h : Heartbeats) → ContextHolds avoids b o h → ContextHolds avoids false o h
quieter avoids b o h k = record { options = k.options; restarts = k.restarts; interval = tt }

beats_started : (b : Bool) (now : ℕ) (t : Timer) → Beats b (start now t)
beats_started true now t = beats_on now t
beats_started false now t = tt

pub interval_started : (avoids : Bool) (b d : Bool) (now : ℕ) (o : Options) (h : Heartbeats) → ContextHolds avoids b o h → ContextHolds avoids d o (restart_interval_if true now h)
interval_started avoids b d now o h k = record { options = k.options; restarts = k.restarts; interval = beats_started d now h.interval }

interval_if : (avoids : Bool) (b sending : Bool) (now : ℕ) (o : Options) (h : Heartbeats) → ContextHolds avoids b o h → ContextHolds avoids b o (restart_interval_if sending now h)
interval_if avoids b true now o h k = interval_started avoids b b now o h k
interval_if avoids b false now o h k = k

begins_request : (waits : Bool) (now id : ℕ) (ids : List ℕ) (t : Tcb) → BlockHolds waits t → BlockHolds waits (request_started now (id ∷ ids) t)
begins_request waits now id ids t h =
    let s : Sender = add_reset_breakpoint t.sender in
    let l = rto_least t.rtt h.rtt in
    with_requests waits (record t { sender = s }) _ (request_starts now (rto t.rtt) (last_assigned s) (id ∷ ids) t.requests (omega (arith, l)) h.requests)
    (with_sender waits waits t s (record { lasts = h.sender.lasts; timed = h.sender.timed; some = h.sender.some; windows = h.sender.windows }) h)

module _ {P : Type 0} (avoids : Bool) where
  abbrev pub Beside : Bool → Context P → Type 0
  Beside b c = ContextHolds avoids b c.options c.heartbeats

  goes_out_if : (b some : Bool) (p : PacketDraft) (c : Context P) → Beside b c → Beside b (emit_if some p c)
  goes_out_if b true p c h = h
  goes_out_if b false p c h = h

  pub goes_out : (b : Bool) (p : PacketDraft) (c : Context P) → Beside b c → Beside b (emit p c)
  goes_out b p c h = goes_out_if b (has_chunks p) p c h

  pub chunk_goes_out : (b : Bool) (chunk : ChunkTree) (t : Tcb) (c : Context P) → Beside b c → Beside b (emit_chunk chunk t c)
  chunk_goes_out b chunk t c h = goes_out b (add chunk (new_packet c.options t)) c h

  -- ---- a packet that is filled

  module _ (beats waits : Bool) where
    abbrev pub Holds : Tcb → Context P → Type 0
    Holds t c = Beside beats c × BlockHolds waits t

    abbrev Fine : Filling P → Type 0
    Fine x = Holds x.tcb x.context

    abbrev pub Left : AfterSending P → Type 0
    Left x = Holds x.tcb x.context

    acks_if : (b : Bool) (x : Filling P) → Fine x → Fine (ack_if b x)
    acks_if true x h = (h.0, with_tracker waits x.tcb (clear_duplicates x.tcb.tracker.tracker) h.1.tracker h.1)
    acks_if false x h = h

    acks : (x : Filling P) → Fine x → Fine (with_ack x)
    acks x h =
        let also : Bool = has_data_to_send x in
        acks_if (is_ack_due also x.tcb.tracker.tracker.ack) (record x { tcb = take_due_ack also x.tcb })
        (h.0, with_tracker waits x.tcb (take_ack also x.tcb.tracker.tracker) (taken_holds also x.tcb.tracker.tracker h.1.tracker) h.1)

    forwards_added : (b : Bool) (x : Filling P) → Fine x → Fine (forward_added_if b x)
    forwards_added true x h = h
    forwards_added false x h = h

    forwards_due : (b : Bool) (x : Filling P) → Fine x → Fine (forward_if b x)
    forwards_due true x h = forwards_added (fits x.packet (forward_chunk x.tcb.sender)) x h
    forwards_due false x h = h

    forwards_if : (b : Bool) (x : Filling P) → Fine x → Fine (forward_if_time b x)
    forwards_if true x h =
        let s : Sender = abandon_expired x.context.now x.tcb.sender x.context.emitted in
        let y : Filling P = with_expired_abandoned x in
        forwards_due (is_forward_due y.tcb.sender.outstanding.items) y
        (h.0, with_sender waits waits x.tcb s (expired_holds waits x.context.now x.tcb.sender h.1.sender x.context.emitted) h.1)
    forwards_if false x h = h

    requests_of : (ids : List ℕ) (x : Filling P) → Fine x → Fine (request_of ids x)
    requests_of [] x h = h
    requests_of (id ∷ ids) x h = (h.0, begins_request waits x.context.now id ids x.tcb h.1)

    requests_if : (b : Bool) (x : Filling P) → Fine x → Fine (request_unless b x)
    requests_if true x h = h
    requests_if false x h =
        let most : ℕ = most_streams x.packet in
        requests_of (streams_to_request most x.context.queue) (record x { context = record x.context { queue = request_resets most x.context.queue } }) h

    takes_data : (x : Filling P) → Fine x → Fine (with_data x)
    takes_data x h =
        let f : fragments.Filling P = send x.context.now (room x.packet) x.tcb.sender x.context.queue x.context.emitted in (
          interval_if avoids beats (not (length f.chunks == 0)) x.context.now x.context.options x.context.heartbeats h.0,
          with_sender waits waits x.tcb f.sender (send_holds x.tcb.sender waits x.context.now (room x.packet) x.context.queue x.context.emitted h.1.sender) h.1,
        )

    fills : (is_first : Bool) (x : Filling P) → Fine x → Fine (filled_as is_first x)
    fills true x h =
        let y : Filling P = with_ack x in
        let z : Filling P = with_forward y in
        takes_data (with_request z)
        (requests_if (is_some z.tcb.requests.current) z (forwards_if (nat_le y.context.forward_from y.context.now) y (acks x h)))
    fills false x h = takes_data x h

    turns : (some is_alone : Bool) (x : Filling P) → Fine x → Fine (burst_step_if some is_alone x).filling
    turns true is_alone x h = (goes_out beats x.packet x.context h.0, h.1)
    turns false is_alone x h = h

    goes_on : (rest : Filling P → Filling P) (b : Bool) (x : Filling P) → ((y : Filling P) → Fine y → Fine (rest y)) → Fine x
        → Fine (continue_burst rest (record { filling = x; is_more = b }))
    goes_on rest true x f h = f x h
    goes_on rest false x f h = h

    bursts : (most : ℕ) (is_first is_alone : Bool) (x : Filling P) → Fine x → Fine (burst most is_first is_alone x)
    bursts zero is_first is_alone x h = h
    bursts (suc most) is_first is_alone x h =
        let y : Filling P = filled_as is_first x in
        let t : BurstStep P = next_packet is_first is_alone x in
        goes_on (burst most false is_alone) t.is_more t.filling (bursts most false is_alone) (turns (has_chunks y.packet) is_alone y (fills is_first x h))

    pub sends_with : (is_alone : Bool) (p : PacketDraft) (t : Tcb) (c : Context P) → Holds t c → Left (send_with is_alone p t c)
    sends_with is_alone p t c h = bursts c.options.max_burst true is_alone (record { packet = p; tcb = t; context = c }) h

    pub sends_buffered : (is_alone : Bool) (t : Tcb) (c : Context P) → Holds t c → Left (send_buffered is_alone t c)
    sends_buffered is_alone t c h = sends_with is_alone (new_packet c.options t) t c h

    cookie_goes_if : (b : Bool) (cookie : List ℕ) (t : Tcb) (c : Context P) → Holds t c → Left (cookie_if b cookie t c)
    cookie_goes_if true cookie t c h = sends_with true (add (cookie_echo_chunk cookie) (packet_to t.identity.peer_tag c.options.mtu)) t c h
    cookie_goes_if false cookie t c h = h

    pub cookie_goes : (cookie : List ℕ) (t : Tcb) (c : Context P) → Holds t c → Left (send_cookie cookie t c)
    cookie_goes cookie t c h = cookie_goes_if (fits (packet_to t.identity.peer_tag c.options.mtu) (cookie_echo_chunk cookie)) cookie t c h

    fast_goes_if : (b : Bool) (t : Tcb) (c : Context P) → Holds t c → Left (fast_if b t c)
    fast_goes_if true t c h = (
      goes_out beats (fast_packet c.options t) c h.0,
      with_sender waits waits t (send_fast c.now (fast_most c.options) t.sender) (fast_holds waits c.now (fast_most c.options) t.sender h.1.sender) h.1,
    )
    fast_goes_if false t c h = h

    pub lost_goes : (t : Tcb) (c : Context P) → Holds t c → Left (send_lost t c)
    lost_goes t c h = fast_goes_if (nat_lt 0 (fast_items t.sender.outstanding.items)) t c h
