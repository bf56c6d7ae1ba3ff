-- What a packet leaves, and each call: timers that run.
use Rattle.std.proofs.Common.{sym, subst, ◌≡◌, ℕ, Bool, true, false, Option, Some, None, List, [], ◌∷◌, length}
use Rattle.std.specs.Prelude.{◌==◌}
use Rattle.sctp_packet.specs.Chunk.{ChunkTree, data_chunk, init_chunk, init_ack_chunk, sack_chunk, heartbeat_request_chunk, heartbeat_ack_chunk, abort_chunk, shutdown_chunk, shutdown_ack_chunk, error_chunk, cookie_echo_chunk, cookie_ack_chunk, shutdown_complete_chunk, idata_chunk, re_config_chunk, forward_tsn_chunk, i_forward_tsn_chunk, unknown_chunk}
use Rattle.sctp_wire.specs.Cause.{CauseTree, protocol_violation}
use Rattle.sctp_packet.specs.Packet.{PacketTree}
use Rattle.sctp_state.specs.declared.api.ErrorKind.TheVariants.{PeerReported, ProtocolViolation}
use Rattle.sctp_state.specs.Options.{Options}
use Rattle.sctp_state.specs.Timer.{Timer}
use Rattle.sctp_state.specs.Events.{OnAborted}
use Rattle.sctp_rx.specs.DataTracker.{is_ack_due, take_ack, packet_end}
use Rattle.sctp_rx.specs.Sack.{clear_duplicates}
use Rattle.spec_endpoint.specs.Association.{Tcb, Phase, CookieEchoed, Established, ShutdownPending, ShutdownSent, ShutdownReceived, ShutdownAckSent, State, Closed, CookieWait, Open, Heartbeats, Context, EndpointState, Endpoint, where_open}
use Rattle.spec_endpoint.specs.Packets.{add}
use Rattle.spec_endpoint.specs.Heartbeats.{on_heartbeat_info, ack_by_length, clear_if_last, is_last_info, info_in}
use Rattle.spec_endpoint.specs.Sending.{take_due_ack, without_duplicates, selective_ack, is_before_cookie_ack, answer_packet}
use Rattle.spec_endpoint.specs.Shutdown.{on_shutdown, on_shutdown_complete, abort_for_violation, refused_if, aborted_in, on_error, causes_text}
use Rattle.spec_endpoint.specs.StreamReset.{on_reconfig}
use Rattle.spec_endpoint.specs.Opening.{on_cookie_ack}
use Rattle.spec_endpoint.specs.Calls.{set_max_message_size}
use Rattle.spec_endpoint.specs.Handover.{left_in, left_if, readiness}
use Rattle.spec_endpoint.specs.Input.{packet_refusal, report_unrecognized_in, on_unknown_if, emit_unknown_chunk_error, is_reported, on_heartbeat, on_chunk, AfterChunk, violation, received_unless, receive, receive_rest, receive_all, has_data_chunk, repeats, repeats_if, in_endpoint_state, ack_if_due, at_end, on_packet_end, count_packet_at, packet_unless, on_packet, packet_acked, shut_waiting, shut_if}
use Rattle.spec_endpoint.specs.Laws.{Call, Connect, Close, Shutdown, Send, SendMany, ResetStreams, TakeMessage, SetLowThreshold, SetPriority, SetMaxMessageSize, Advance, HandOver, Restore, ReceivePacket, ReceiveNoPacket, called}
use Rattle.proof_endpoint.specs.Lifecycles.{is_restore}
use Rattle.proof_awake.specs.Invariant.{HasLimits, BlockHolds, ContextHolds, is_established, waits, StateHolds, IsTimed}
use Rattle.proof_awake.proofs.BlockLemmas.{taken_holds, ended_holds, with_tracker}
use Rattle.proof_awake.proofs.SendingRowLemmas.{Beside, chunk_goes_out, sends_with}
use Rattle.proof_awake.proofs.RowLemmas.{t2_runs_again, Going, EndHolds, where_open_holds, closes, shutdown_holds, on_shutdown_holds, on_shutdown_ack_holds, on_complete_holds, abort_holds, close_holds, on_data_holds, on_forward_holds, on_sack_holds, emptier, shutdown_goes_on}
use Rattle.proof_awake.proofs.CallRowLemmas.{reconfig_holds, reset_streams_holds, send_call_holds, send_many_holds, take_holds, advance_holds}
use Rattle.proof_awake.proofs.OpeningRowLemmas.{Whole, beside_in, connect_holds, init_holds, init_ack_holds, cookie_ack_holds, cookie_echo_holds}

-- the time for a heartbeat's answer is no part of it
timeout_aside : (avoids : Bool) (s : State) (o : Options) (h : Heartbeats) (t : Timer) → StateHolds avoids s o h → StateHolds avoids s o (record h { timeout = t })
timeout_aside avoids Closed o h t k = record { options = k.options; restarts = k.restarts; interval = tt }
timeout_aside avoids (CookieWait tag first t1) o h t k = (record { options = k.0.options; restarts = k.0.restarts; interval = tt }, k.1)
timeout_aside avoids (Open phase u) o h t k = (record { options = k.0.options; restarts = k.0.restarts; interval = k.0.interval }, k.1)

module _ {P : Type 0} (avoids : Bool) where
  abbrev Same : State → Context P → Type 0
  Same s c = StateHolds avoids s c.options c.heartbeats

  -- ---- chunks

  last_or_not : (b : Bool) (s : State) (c : Context P) → Same s c → Same s (clear_if_last b c)
  last_or_not true s c h = timeout_aside avoids s c.options c.heartbeats _ h
  last_or_not false s c h = h

  by_length : (b : Bool) (info : List ℕ) (s : State) (c : Context P) → Same s c → Same s (ack_by_length b info c)
  by_length true info s c h = last_or_not (is_last_info info c) s c h
  by_length false info s c h = h

  by_info : (o : Option (List ℕ)) (s : State) (c : Context P) → Same s c → Same s (on_heartbeat_info o c)
  by_info None s c h = h
  by_info (Some info) s c h = by_length (length info == 4) info s c h

  unknown_in : (s : State) (typ flags : ℕ) (value : List ℕ) (c : Context P) → Same s c → Same s (report_unrecognized_in s typ flags value c)
  unknown_in Closed typ flags value c h = h
  unknown_in (CookieWait tag first t1) typ flags value c h = h
  unknown_in (Open phase t) typ flags value c h = (chunk_goes_out avoids (is_established phase) _ t c h.0, h.1)

  unknown_if : (b : Bool) (typ flags : ℕ) (value : List ℕ) (s : EndpointState P) → EndHolds avoids s → EndHolds avoids (on_unknown_if b typ flags value s)
  unknown_if true typ flags value s h = unknown_in s.state typ flags value (emit_unknown_chunk_error typ flags value s.context) h
  unknown_if false typ flags value s h = h

  refused : (b : Bool) (causes : List CauseTree) (tag first : ℕ) (t1 : Timer) (c : Context P) → Same (CookieWait tag first t1) c
      → EndHolds avoids (refused_if b causes (CookieWait tag first t1) c)
  refused true causes tag first t1 c h = closes avoids false (OnAborted PeerReported (causes_text causes)) c h.0
  refused false causes tag first t1 c h = h

  abort_comes : (causes : List CauseTree) (s : State) (c : Context P) → Same s c → EndHolds avoids (aborted_in causes s c)
  abort_comes causes Closed c h = h
  abort_comes causes (CookieWait tag first t1) c h = refused c.options.avoid_stalls causes tag first t1 c h
  abort_comes causes (Open phase t) c h = closes avoids (is_established phase) (OnAborted PeerReported (causes_text causes)) c h.0

  opened : (row : Phase → Tcb → Context P → EndpointState P) → ((phase : Phase) (t : Tcb) (c : Context P) → Going avoids phase t c → EndHolds avoids (row phase t c))
      → (s : Endpoint P) → Whole avoids s → EndHolds avoids (where_open row s.endpoint_state)
  opened row f s h = where_open_holds avoids row f s.endpoint_state.state s.endpoint_state.context h

  chunk_holds : (tag : ℕ) (chunk : ChunkTree) (s : Endpoint P) → Whole avoids s → Whole avoids (on_chunk tag chunk s)
  chunk_holds tag (data_chunk tsn immediate f) s h = on_data_holds avoids tsn immediate f s.endpoint_state h
  chunk_holds tag (idata_chunk tsn immediate f) s h = on_data_holds avoids tsn immediate f s.endpoint_state h
  chunk_holds tag (init_chunk i) s h = init_holds avoids s.endpoint_state.state i s h
  chunk_holds tag (init_ack_chunk i) s h = init_ack_holds avoids s.endpoint_state.state i s h h
  chunk_holds tag (sack_chunk k) s h = on_sack_holds avoids k s.endpoint_state.state s.endpoint_state.context h
  chunk_holds tag (abort_chunk reflected causes) s h = abort_comes causes s.endpoint_state.state s.endpoint_state.context h
  chunk_holds tag (error_chunk causes) s h = opened (on_error causes) (λ phase t c k. k) s h
  chunk_holds tag (cookie_echo_chunk cookie) s h = cookie_echo_holds avoids tag cookie s h
  chunk_holds tag cookie_ack_chunk s h = opened on_cookie_ack (cookie_ack_holds avoids) s h
  chunk_holds tag (forward_tsn_chunk tsn skipped) s h = on_forward_holds avoids tsn skipped s.endpoint_state h
  chunk_holds tag (i_forward_tsn_chunk tsn skipped) s h = on_forward_holds avoids tsn skipped s.endpoint_state h
  chunk_holds tag (unknown_chunk typ flags value) s h = unknown_if (is_reported typ) typ flags value s.endpoint_state h
  chunk_holds tag (heartbeat_request_chunk parameters) s h =
      opened (on_heartbeat parameters) (λ phase t c k. (chunk_goes_out avoids (is_established phase) (heartbeat_ack_chunk parameters) t c k.0, k.1)) s h
  chunk_holds tag (heartbeat_ack_chunk parameters) s h = by_info (info_in parameters) s.endpoint_state.state s.endpoint_state.context h
  chunk_holds tag (shutdown_chunk tsn) s h = opened on_shutdown (on_shutdown_holds avoids) s h
  chunk_holds tag shutdown_ack_chunk s h = on_shutdown_ack_holds avoids tag s.endpoint_state.state s.endpoint_state.context h
  chunk_holds tag (shutdown_complete_chunk reflected) s h = opened on_shutdown_complete (on_complete_holds avoids) s h
  chunk_holds tag (re_config_chunk parameters) s h = opened (on_reconfig parameters) (reconfig_holds avoids parameters) s h

  pub received_holds : (o : Option (List ℕ)) (tag : ℕ) (chunk : ChunkTree) (s : Endpoint P) → Whole avoids s → Whole avoids (received_unless o tag chunk s).end
  received_holds None tag chunk s h = chunk_holds tag chunk s h
  received_holds (Some reason) tag chunk s h =
      opened (λ phase t c. abort_for_violation reason t c)
      (λ phase t c k. abort_holds avoids (is_established phase) (protocol_violation reason) (OnAborted ProtocolViolation reason) t c k.0) s h

  next_holds : (rest : Endpoint P → Endpoint P) → ((s : Endpoint P) → Whole avoids s → Whole avoids (rest s)) → (b : Bool) (s : Endpoint P) → Whole avoids s
      → Whole avoids (receive_rest rest (record { end = s; allows_next = b }))
  next_holds rest f true s h = f s h
  next_holds rest f false s h = h

  pub all_hold : (tag : ℕ) (chunks : List ChunkTree) (s : Endpoint P) → Whole avoids s → Whole avoids (receive_all tag chunks s)
  all_hold tag [] s h = h
  all_hold tag (chunk ∷ chunks) s h =
      let x : AfterChunk P = receive tag chunk s in
      next_holds (receive_all tag chunks) (all_hold tag chunks) x.allows_next x.end (received_holds (violation s.endpoint_state.state chunk) tag chunk s h)

  -- ---- a packet

  repeats_hold : (phase : Phase) (t : Tcb) (c : Context P) → Going avoids phase t c → EndHolds avoids (repeats phase t c)
  repeats_hold (CookieEchoed t1 cookie) t c h = h
  repeats_hold Established t c h = h
  repeats_hold ShutdownPending t c h = h
  repeats_hold (ShutdownSent t2) t c h = (chunk_goes_out avoids false _ t c h.0, (t2_runs_again c.now t2 t h.1.1, h.1.1))
  repeats_hold ShutdownReceived t c h = h
  repeats_hold (ShutdownAckSent t2) t c h = h

  pub repeats_if_hold : (b : Bool) (s : Endpoint P) → Whole avoids s → Whole avoids (in_endpoint_state (repeats_if b) s)
  repeats_if_hold true s h = opened repeats repeats_hold s h
  repeats_if_hold false s h = h

  acks_if_due : (b : Bool) (phase : Phase) (t : Tcb) (c : Context P) → Going avoids phase t c → EndHolds avoids (ack_if_due b phase t c)
  acks_if_due true phase t c h =
      let k : BlockHolds (waits avoids phase) (without_duplicates t) = with_tracker (waits avoids phase) t (clear_duplicates t.tracker.tracker) h.1.1.tracker h.1.1 in
      let x = sends_with avoids (is_established phase) (waits avoids phase) (is_before_cookie_ack phase) (add (selective_ack t) (answer_packet phase c.options t)) (without_duplicates t) c (h.0, k) in
      (x.0, (h.1.0, x.1))
  acks_if_due false phase t c h = h

  acked_holds : (phase : Phase) (t : Tcb) (c : Context P) → Going avoids phase t c → EndHolds avoids (packet_acked phase t c)
  acked_holds phase t c h =
      let u : Tcb = at_end c.now t in
      let k : BlockHolds (waits avoids phase) u = with_tracker (waits avoids phase) t (packet_end c.now t.tracker.tracker) (ended_holds c.now t.tracker.tracker h.1.1.tracker) h.1.1 in
      acks_if_due (is_ack_due false u.tracker.tracker.ack) phase (take_due_ack false u) c
      (h.0, (h.1.0, with_tracker (waits avoids phase) u (take_ack false u.tracker.tracker) (taken_holds false u.tracker.tracker k.tracker) k))

  shut_waiting_holds : (phase : Phase) (t : Tcb) (c : Context P) → Going avoids phase t c → EndHolds avoids (shut_waiting phase t c)
  shut_waiting_holds phase t c h = shutdown_goes_on avoids phase t c h.0 h.1.0 (emptier (waits avoids phase) t h.1.1)

  shut_if_holds : (b : Bool) (s : EndpointState P) → EndHolds avoids s → EndHolds avoids (shut_if b s)
  shut_if_holds true s h = where_open_holds avoids shut_waiting shut_waiting_holds s.state s.context h
  shut_if_holds false s h = h

  end_holds : (phase : Phase) (t : Tcb) (c : Context P) → Going avoids phase t c → EndHolds avoids (on_packet_end phase t c)
  end_holds phase t c h = shut_if_holds c.options.avoid_stalls (packet_acked phase t c) (acked_holds phase t c h)

  packet_by : (o : Option (List ℕ)) (tag : ℕ) (chunks : List ChunkTree) (s : Endpoint P) → Whole avoids s → Whole avoids (packet_unless o tag chunks s)
  packet_by None tag chunks s h =
      let x : Endpoint P = in_endpoint_state (repeats_if (has_data_chunk chunks)) s in
      opened on_packet_end end_holds (receive_all tag chunks x) (all_hold tag chunks x (repeats_if_hold (has_data_chunk chunks) s h))
  packet_by (Some text) tag chunks s h = h

  packet_holds : (p : PacketTree) (s : Endpoint P) → Whole avoids s → Whole avoids (on_packet p s)
  packet_holds p s h =
      packet_by (packet_refusal p.header.verification_tag p.chunks s.endpoint_state.state) p.header.verification_tag p.chunks (count_packet_at s) h

  -- ---- each call

  left : (s : State) (c : Context P) → Same s c → EndHolds avoids (left_in s c)
  left Closed c h = h
  left (CookieWait tag first t1) c h = h
  left (Open phase t) c h = record { options = h.0.options; restarts = h.0.restarts; interval = tt }

  leaves : (b : Bool) (s : EndpointState P) → EndHolds avoids s → EndHolds avoids (left_if b s)
  leaves true s h = left s.state s.context h
  leaves false s h = h

  sized_beside : (n : ℕ) (b : Bool) (c : Context P) → Beside avoids b c → Beside avoids b (set_max_message_size n c)
  sized_beside n b c h = record { options = times h.options; restarts = h.restarts; interval = h.interval }
    where
      times : HasLimits avoids c.options → HasLimits avoids (set_max_message_size n c).options
      times k = record { rto_range = k.rto_range; rto_min = k.rto_min; rto_initial = k.rto_initial; t1_init = k.t1_init; t1_cookie = k.t1_cookie; delayed_ack = k.delayed_ack; stalls = k.stalls; mtu_least = k.mtu_least; mtu_most = k.mtu_most; cwnd_initial = k.cwnd_initial; cwnd_min = k.cwnd_min }

  sized : (n : ℕ) (s : State) (c : Context P) → Same s c → Same s (set_max_message_size n c)
  sized n Closed c h = sized_beside n false c h
  sized n (CookieWait tag first t1) c h = (sized_beside n false c h.0, h.1)
  sized n (Open phase t) c h = (sized_beside n (is_established phase) c h.0, h.1)

  pub each_call : (call : Call) (s : Endpoint P) → is_restore call ≡ false → Whole avoids s → Whole avoids (called call s)
  each_call Connect s e h = connect_holds avoids s.endpoint_state.state s h h
  each_call Close s e h = close_holds avoids s.endpoint_state.state s.endpoint_state.context h
  each_call Shutdown s e h = shutdown_holds avoids s.endpoint_state.state s.endpoint_state.context h
  each_call (Send m o) s e h = send_call_holds avoids m o s.endpoint_state h
  each_call (SendMany ms o) s e h = send_many_holds avoids ms o s.endpoint_state h
  each_call (ResetStreams streams) s e h = reset_streams_holds avoids streams s.endpoint_state h
  each_call TakeMessage s e h = take_holds avoids s.endpoint_state h
  each_call (SetLowThreshold stream bytes) s e h = h
  each_call (SetPriority stream priority) s e h = h
  each_call (SetMaxMessageSize bytes) s e h = sized bytes s.endpoint_state.state s.endpoint_state.context h
  each_call (Advance now) s e h = advance_holds avoids now s.endpoint_state h
  each_call HandOver s e h = leaves (readiness s.endpoint_state == 0) s.endpoint_state h
  each_call (Restore r) s e h = absurd (cc)
  each_call (ReceivePacket p) s e h = packet_holds p s h
  each_call ReceiveNoPacket s e h = h

-- as the options say
pub timed_as : {P : Type 0} (avoids : Bool) (s : EndpointState P) → EndHolds avoids s → IsTimed s
timed_as avoids s h =
    let k : ContextHolds avoids false s.context.options s.context.heartbeats = beside_in avoids s.state s.context h in
    subst (λ (b : Bool). StateHolds b s.state s.context.options s.context.heartbeats) (sym k.options.stalls) h

pub each_stays_timed : {P : Type 0} (call : Call) (s : Endpoint P) → is_restore call ≡ false → IsTimed s.endpoint_state → IsTimed (called call s).endpoint_state
each_stays_timed call s e h =
    let b : Bool = s.endpoint_state.context.options.avoid_stalls in
    timed_as b (called call s).endpoint_state (each_call b call s e h)
