-- Packets and calls leave no stream in line where no item is kept.
use Rattle.std.proofs.Common.{◌≡◌, ℕ, ◌≤◌, ◌&&◌, Bool, true, false, Option, Some, None, List, [], ◌∷◌, length, refl, sym, ap, subst, ◌∙◌}
use Rattle.std.specs.Prelude.{◌==◌, nat_lt}
use Rattle.std.proofs.lemmas.Bool.{and_parts}
use Rattle.sctp_serial.specs.Messages.{Message}
use Rattle.sctp_wire.specs.Cause.{CauseTree, protocol_violation}
use Rattle.sctp_packet.specs.Chunk.{ChunkTree, data_chunk, init_chunk, init_ack_chunk, sack_chunk, heartbeat_request_chunk, heartbeat_ack_chunk, abort_chunk, shutdown_chunk, shutdown_ack_chunk, error_chunk, cookie_echo_chunk, cookie_ack_chunk, shutdown_complete_chunk, idata_chunk, re_config_chunk, forward_tsn_chunk, i_forward_tsn_chunk, unknown_chunk}
use Rattle.sctp_packet.specs.Packet.{PacketTree}
use Rattle.sctp_state.specs.declared.api.ErrorKind.TheVariants.{PeerReported, ProtocolViolation}
use Rattle.sctp_state.specs.declared.api.errors.SendError.{SendError}
use Rattle.sctp_state.specs.declared.api.errors.ResetStreamsError.{ResetStreamsError}
use Rattle.sctp_state.specs.Options.{Options, SendOptions}
use Rattle.sctp_state.specs.Events.{OnAborted}
use Rattle.sctp_rx.specs.DataTracker.{is_ack_due}
use Rattle.spec_endpoint.specs.Association.{Tcb, Phase, CookieEchoed, Established, ShutdownPending, ShutdownSent, ShutdownReceived, ShutdownAckSent, State, Closed, CookieWait, Open, Context, EndpointState, Endpoint, where_open}
use Rattle.spec_endpoint.specs.Packets.{PacketDraft, add, new_packet}
use Rattle.spec_endpoint.specs.Heartbeats.{on_heartbeat_info, ack_by_length, clear_if_last, is_last_info, info_in}
use Rattle.spec_endpoint.specs.Sending.{is_before_cookie_ack, selective_ack, take_due_ack, without_duplicates, send_unless, send_in, answer_packet}
use Rattle.spec_endpoint.specs.Shutdown.{on_shutdown, on_shutdown_complete, abort_for_violation, refused_if, aborted_in, causes_text, on_error}
use Rattle.spec_endpoint.specs.StreamReset.{on_reconfig, prepare_all, streams_reset_unless, reset_refusal}
use Rattle.proof_endpoint.specs.Lifecycles.{is_restore}
use Rattle.proof_awake.specs.Invariant.{waits}
use Rattle.proof_awake.specs.Invariant.{BlockHolds}
use Rattle.sctp_tx_outstanding.specs.Item.{Item}
use Rattle.sctp_stream_scheduler.specs.StreamScheduler.{Scheduler}
use Rattle.sctp_tx_queue.specs.SendQueue.{Queue}
use Rattle.proof_awake.specs.Line.{PhaseHasNoLine, StateHasNoLine, HasNoLine, chunk_asks_once, all_ask_once, call_asks_once, EachCallKeepsLined, NewEndsAreLined}
use Rattle.spec_endpoint.specs.Laws.{Call, Connect, Close, Shutdown, Send, SendMany, ResetStreams, TakeMessage, SetLowThreshold, SetPriority, SetMaxMessageSize, Advance, HandOver, Restore, ReceivePacket, ReceiveNoPacket, called}
use Rattle.spec_endpoint.specs.Calls.{set_low_threshold, set_priority, shown_state, send_refusal_of, offered, sent_unless, offer_all, take_message, told_if, opens_window, without_first_message}
use Rattle.spec_endpoint.specs.Handover.{left_in, left_if, readiness}
use Rattle.spec_endpoint.specs.Opening.{on_cookie_ack}
use Rattle.sctp_rx.specs.DataTracker.{packet_end, take_ack}
use Rattle.spec_endpoint.specs.Input.{packet_refusal, report_unrecognized_in, on_unknown_if, emit_unknown_chunk_error, is_reported, on_heartbeat, on_chunk, AfterChunk, violation, received_unless, receive, receive_rest, receive_all, has_data_chunk, repeats, repeats_if, in_endpoint_state, ack_if_due, at_end, on_packet_end, count_packet_at, packet_unless, packet_acked, shut_waiting, shut_if}
use Rattle.proof_awake.proofs.BlockLemmas.{ended_holds, taken_holds, with_tracker}
use Rattle.proof_awake.proofs.OpeningRowLemmas.{Whole}
use Rattle.proof_awake.proofs.InputRowLemmas.{received_holds, repeats_if_hold, all_hold, each_stays_timed}
use Rattle.proof_awake.proofs.LawLemmas.{new_ends}
use Rattle.proof_awake.proofs.LineCallLemmas.{Same, offered_same, sends_then, offers_same, prepared_same}
use Rattle.proof_awake.proofs.LineEachLemmas.{reconfig_lined}
use Rattle.proof_awake.proofs.LineTimeLemmas.{advance_lined, connect_lined, init_is_lined, init_ack_lined, cookie_ack_lined, cookie_echo_lined}
use Rattle.proof_awake.proofs.RowLemmas.{Going, EndHolds}
use Rattle.proof_awake.proofs.LineRowLemmas.{Big, Lined, EndLined, big_chunk, big_sent, chunk_lined, sent_lined, open_lined, closes_lined, abort_lined, shutdown_lined, on_shutdown_lined, on_shutdown_ack_lined, on_complete_lined, close_lined, on_data_lined, on_forward_lined, on_sack_lined, goes_on_lined, answer_limit}
use Rattle.proof_awake.proofs.LineLemmas.{limit_added}

-- the line alone counts
same_phase : (phase : Phase) (kept : List Item) (q r : Queue) → r.scheduler ≡ q.scheduler → PhaseHasNoLine phase kept q → PhaseHasNoLine phase kept r
same_phase (CookieEchoed t1 cookie) kept q r e h = tt
same_phase Established kept q r e h = λ n. ap (λ (z : Scheduler). z.times) e ∙ h n
same_phase ShutdownPending kept q r e h = tt
same_phase (ShutdownSent t2) kept q r e h = tt
same_phase ShutdownReceived kept q r e h = tt
same_phase (ShutdownAckSent t2) kept q r e h = tt

same_line : (s : State) (q r : Queue) → r.scheduler ≡ q.scheduler → StateHasNoLine s q → StateHasNoLine s r
same_line Closed q r e h = tt
same_line (CookieWait tag first t1) q r e h = tt
same_line (Open phase t) q r e h = same_phase phase t.sender.outstanding.items.kept q r e h

module _ {P : Type 0} (avoids : Bool) where
  -- ---- chunks

  last_lined : (b : Bool) (s : State) (c : Context P) → Lined avoids s c → Lined avoids s (clear_if_last b c)
  last_lined true s c l = l
  last_lined false s c l = l

  length_lined : (b : Bool) (info : List ℕ) (s : State) (c : Context P) → Lined avoids s c → Lined avoids s (ack_by_length b info c)
  length_lined true info s c l = last_lined (is_last_info info c) s c l
  length_lined false info s c l = l

  info_lined : (o : Option (List ℕ)) (s : State) (c : Context P) → Lined avoids s c → Lined avoids s (on_heartbeat_info o c)
  info_lined None s c l = l
  info_lined (Some info) s c l = length_lined (length info == 4) info s c l

  unknown_in : (s : State) (typ flags : ℕ) (value : List ℕ) (c : Context P) → Lined avoids s c → Lined avoids s (report_unrecognized_in s typ flags value c)
  unknown_in Closed typ flags value c l = l
  unknown_in (CookieWait tag first t1) typ flags value c l = l
  unknown_in (Open phase t) typ flags value c l = chunk_lined avoids _ t (Open phase t) c l

  unknown_lined : (b : Bool) (typ flags : ℕ) (value : List ℕ) (s : EndpointState P) → EndLined avoids s → EndLined avoids (on_unknown_if b typ flags value s)
  unknown_lined true typ flags value s l = unknown_in s.state typ flags value (emit_unknown_chunk_error typ flags value s.context) l
  unknown_lined false typ flags value s l = l

  connect_refused_lined : (b : Bool) (causes : List CauseTree) (s : State) (c : Context P) → Lined avoids s c → EndLined avoids (refused_if b causes s c)
  connect_refused_lined true causes s c l = closes_lined avoids (OnAborted PeerReported (causes_text causes)) c l.0
  connect_refused_lined false causes s c l = l

  aborted_lined : (causes : List CauseTree) (s : State) (c : Context P) → Lined avoids s c → EndLined avoids (aborted_in causes s c)
  aborted_lined causes Closed c l = l
  aborted_lined causes (CookieWait tag first t1) c l = connect_refused_lined c.options.avoid_stalls causes (CookieWait tag first t1) c l
  aborted_lined causes (Open phase t) c l = closes_lined avoids (OnAborted PeerReported (causes_text causes)) c l.0

  chunk_is_lined : (tag : ℕ) (chunk : ChunkTree) (s : Endpoint P) → chunk_asks_once chunk ≡ true → Whole avoids s → EndLined avoids s.endpoint_state → EndLined avoids (on_chunk tag chunk s).endpoint_state
  chunk_is_lined tag (data_chunk tsn immediate f) s e h l = on_data_lined avoids tsn immediate f s.endpoint_state l
  chunk_is_lined tag (idata_chunk tsn immediate f) s e h l = on_data_lined avoids tsn immediate f s.endpoint_state l
  chunk_is_lined tag (init_chunk i) s e h l = init_is_lined avoids s.endpoint_state.state i s l
  chunk_is_lined tag (init_ack_chunk i) s e h l = init_ack_lined avoids s.endpoint_state.state i s l
  chunk_is_lined tag (sack_chunk k) s e h l = on_sack_lined avoids k s.endpoint_state.state s.endpoint_state.context h l
  chunk_is_lined tag (abort_chunk reflected causes) s e h l = aborted_lined causes s.endpoint_state.state s.endpoint_state.context l
  chunk_is_lined tag (error_chunk causes) s e h l = open_lined avoids (on_error causes) (λ phase t c k m. m) s.endpoint_state h l
  chunk_is_lined tag (cookie_echo_chunk cookie) s e h l = cookie_echo_lined avoids tag cookie s h l
  chunk_is_lined tag cookie_ack_chunk s e h l = open_lined avoids on_cookie_ack (cookie_ack_lined avoids) s.endpoint_state h l
  chunk_is_lined tag (forward_tsn_chunk tsn skipped) s e h l = on_forward_lined avoids tsn skipped s.endpoint_state l
  chunk_is_lined tag (i_forward_tsn_chunk tsn skipped) s e h l = on_forward_lined avoids tsn skipped s.endpoint_state l
  chunk_is_lined tag (unknown_chunk typ flags value) s e h l = unknown_lined (is_reported typ) typ flags value s.endpoint_state l
  chunk_is_lined tag (heartbeat_request_chunk parameters) s e h l =
      open_lined avoids (on_heartbeat parameters) (λ phase t c k m. chunk_lined avoids (heartbeat_ack_chunk parameters) t (Open phase t) c m) s.endpoint_state h l
  chunk_is_lined tag (heartbeat_ack_chunk parameters) s e h l = info_lined (info_in parameters) s.endpoint_state.state s.endpoint_state.context l
  chunk_is_lined tag (shutdown_chunk tsn) s e h l = open_lined avoids on_shutdown (on_shutdown_lined avoids) s.endpoint_state h l
  chunk_is_lined tag shutdown_ack_chunk s e h l = on_shutdown_ack_lined avoids tag s.endpoint_state.state s.endpoint_state.context l
  chunk_is_lined tag (shutdown_complete_chunk reflected) s e h l = open_lined avoids on_shutdown_complete (on_complete_lined avoids) s.endpoint_state h l
  chunk_is_lined tag (re_config_chunk parameters) s e h l = open_lined avoids (on_reconfig parameters) (reconfig_lined avoids parameters e) s.endpoint_state h l

  received_lined : (o : Option (List ℕ)) (tag : ℕ) (chunk : ChunkTree) (s : Endpoint P) → chunk_asks_once chunk ≡ true → Whole avoids s → EndLined avoids s.endpoint_state → EndLined avoids (received_unless o tag chunk s).end.endpoint_state
  received_lined None tag chunk s e h l = chunk_is_lined tag chunk s e h l
  received_lined (Some reason) tag chunk s e h l =
      open_lined avoids (λ phase t c. abort_for_violation reason t c)
      (λ phase t c k m. abort_lined avoids (protocol_violation reason) (OnAborted ProtocolViolation reason) t c m.0) s.endpoint_state h l

  next_lined : (rest : Endpoint P → Endpoint P) → ((s : Endpoint P) → Whole avoids s → EndLined avoids s.endpoint_state → EndLined avoids (rest s).endpoint_state) → (b : Bool) (s : Endpoint P) → Whole avoids s → EndLined avoids s.endpoint_state
      → EndLined avoids (receive_rest rest (record { end = s; allows_next = b })).endpoint_state
  next_lined rest f true s h l = f s h l
  next_lined rest f false s h l = l

  all_lined : (tag : ℕ) (chunks : List ChunkTree) (s : Endpoint P) → all_ask_once chunks ≡ true → Whole avoids s → EndLined avoids s.endpoint_state → EndLined avoids (receive_all tag chunks s).endpoint_state
  all_lined tag [] s e h l = l
  all_lined tag (chunk ∷ chunks) s e h l =
      let a = and_parts (chunk_asks_once chunk) (all_ask_once chunks) e in
      let x : AfterChunk P = receive tag chunk s in
      next_lined (receive_all tag chunks) (λ t k m. all_lined tag chunks t a.1 k m) x.allows_next x.end (received_holds avoids (violation s.endpoint_state.state chunk) tag chunk s h)
      (received_lined (violation s.endpoint_state.state chunk) tag chunk s a.0 h l)

  -- ---- a packet

  repeats_lined : (phase : Phase) (t : Tcb) (c : Context P) → Going avoids phase t c → Lined avoids (Open phase t) c → EndLined avoids (repeats phase t c)
  repeats_lined (CookieEchoed t1 cookie) t c h l = l
  repeats_lined Established t c h l = l
  repeats_lined ShutdownPending t c h l = l
  repeats_lined (ShutdownSent t2) t c h l = (big_chunk avoids _ t c l.0, tt)
  repeats_lined ShutdownReceived t c h l = l
  repeats_lined (ShutdownAckSent t2) t c h l = l

  repeats_if_lined : (b : Bool) (s : Endpoint P) → Whole avoids s → EndLined avoids s.endpoint_state → EndLined avoids (in_endpoint_state (repeats_if b) s).endpoint_state
  repeats_if_lined true s h l = open_lined avoids repeats repeats_lined s.endpoint_state h l
  repeats_if_lined false s h l = l

  due_lined : (b : Bool) (phase : Phase) (t : Tcb) (c : Context P) → Going avoids phase t c → Lined avoids (Open phase t) c → EndLined avoids (ack_if_due b phase t c)
  due_lined true phase t c h l =
      let q : PacketDraft = answer_packet phase c.options t in
      let p : PacketDraft = add (selective_ack t) q in
      let k : 44 ≤ p.limit = subst (λ (n : ℕ). 44 ≤ n) (sym (limit_added (selective_ack t) q)) (answer_limit phase c.options t h.0.options.mtu_least) in
      sent_lined avoids phase p (without_duplicates t) c l.0 k h.1.1.sender.windows
  due_lined false phase t c h l = l

  acked_lined : (phase : Phase) (t : Tcb) (c : Context P) → Going avoids phase t c → Lined avoids (Open phase t) c → EndLined avoids (packet_acked phase t c)
  acked_lined phase t c h l =
      let u : Tcb = at_end c.now t in
      let k : BlockHolds (waits avoids phase) u = with_tracker (waits avoids phase) t (packet_end c.now t.tracker.tracker) (ended_holds c.now t.tracker.tracker h.1.1.tracker) h.1.1 in
      due_lined (is_ack_due false u.tracker.tracker.ack) phase (take_due_ack false u) c
      (h.0, (h.1.0, with_tracker (waits avoids phase) u (take_ack false u.tracker.tracker) (taken_holds false u.tracker.tracker k.tracker) k)) l

  shut_if_lined : (b : Bool) (s : EndpointState P) → EndLined avoids s → EndLined avoids (shut_if b s)
  shut_if_lined true s l = where_open_lined s.state s.context l
    where
      where_open_lined : (st : State) (c : Context P) → Lined avoids st c → EndLined avoids (where_open shut_waiting (record { state = st; context = c }))
      where_open_lined Closed c l = l
      where_open_lined (CookieWait tag first t1) c l = l
      where_open_lined (Open phase t) c l = goes_on_lined avoids phase t c l
  shut_if_lined false s l = l

  end_lined : (phase : Phase) (t : Tcb) (c : Context P) → Going avoids phase t c → Lined avoids (Open phase t) c → EndLined avoids (on_packet_end phase t c)
  end_lined phase t c h l = shut_if_lined c.options.avoid_stalls (packet_acked phase t c) (acked_lined phase t c h l)

  packet_by_lined : (o : Option (List ℕ)) (tag : ℕ) (chunks : List ChunkTree) (s : Endpoint P) → all_ask_once chunks ≡ true → Whole avoids s → EndLined avoids s.endpoint_state → EndLined avoids (packet_unless o tag chunks s).endpoint_state
  packet_by_lined None tag chunks s e h l =
      let x : Endpoint P = in_endpoint_state (repeats_if (has_data_chunk chunks)) s in
      let hx = repeats_if_hold avoids (has_data_chunk chunks) s h in
      open_lined avoids on_packet_end end_lined (receive_all tag chunks x).endpoint_state (all_hold avoids tag chunks x hx)
      (all_lined tag chunks x e hx (repeats_if_lined (has_data_chunk chunks) s h l))
  packet_by_lined (Some text) tag chunks s e h l = l

  -- whatever it asks, a packet that is refused leaves the end as it was
  pub refused_lined : (p : PacketTree) (text : List ℕ) (s : Endpoint P) → packet_refusal p.header.verification_tag p.chunks s.endpoint_state.state ≡ Some text → EndLined avoids s.endpoint_state
      → EndLined avoids (called (ReceivePacket p) s).endpoint_state
  refused_lined p text s is l =
      subst (λ (o : Option (List ℕ)). EndLined avoids (packet_unless o p.header.verification_tag p.chunks (count_packet_at s)).endpoint_state) (sym is) l

  -- ---- calls

  left_lined : (s : State) (c : Context P) → Lined avoids s c → EndLined avoids (left_in s c)
  left_lined Closed c l = l
  left_lined (CookieWait tag first t1) c l = l
  left_lined (Open phase t) c l = (l.0, tt)

  leaves_lined : (b : Bool) (s : EndpointState P) → EndLined avoids s → EndLined avoids (left_if b s)
  leaves_lined true s l = left_lined s.state s.context l
  leaves_lined false s l = l

  -- a sending
  in_phase : (phase : Phase) (t : Tcb) (c : Context P) → Big avoids c → HasNoLine (send_in phase t c) → EndLined avoids (send_in phase t c)
  in_phase phase t c b n = (go (is_before_cookie_ack phase && c.options.avoid_stalls), n)
    where
      go : (waits : Bool) → Big avoids (send_unless waits (is_before_cookie_ack phase) t c).context
      go true = b
      go false = big_sent avoids (is_before_cookie_ack phase) (new_packet c.options t) t c b

  in_state : (s : State) (d : Context P) → Big avoids d → HasNoLine (where_open send_in (record { state = s; context = d })) → EndLined avoids (where_open send_in (record { state = s; context = d }))
  in_state Closed d b n = (b, n)
  in_state (CookieWait tag first t1) d b n = (b, n)
  in_state (Open phase t) d b n = in_phase phase t d b n

  sent_then : (s : State) (c d : Context P) → Same avoids c d → EndHolds avoids (record { state = s; context = c }) → Big avoids c → EndLined avoids (where_open send_in (record { state = s; context = d }))
  sent_then s c d e h b = in_state s d (subst (λ (o : Options). 2 ≤ o.max_burst) (sym e.options_are) b) (sends_then avoids s c d e b h)

  send_lined : (r : Option SendError) (m : Message) (o : SendOptions) (s : EndpointState P) → EndHolds avoids s → EndLined avoids s → EndLined avoids (sent_unless r (record { state = s.state; context = offered r m o s.context }))
  send_lined None m o s h l = sent_then s.state s.context (offered None m o s.context) (offered_same avoids None m o s.context) h l.0
  send_lined (Some e) m o s h l = l

  reset_lined : (o : Option ResetStreamsError) (ids : List ℕ) (s : EndpointState P) → EndHolds avoids s → EndLined avoids s → EndLined avoids (streams_reset_unless o ids s)
  reset_lined None ids s h l = sent_then s.state s.context (prepare_all ids s.context) (prepared_same avoids ids s.context) h l.0
  reset_lined (Some e) ids s h l = l

  told_if_lined : (opens : Bool) (phase : Phase) (t : Tcb) (c : Context P) → Lined avoids (Open phase t) c → Lined avoids (Open phase (told_if opens t)) c
  told_if_lined true phase t c l = l
  told_if_lined false phase t c l = l

  took_lined : (s : State) (c : Context P) → Lined avoids s c → EndLined avoids (take_message (record { state = s; context = c }))
  took_lined Closed c l = l
  took_lined (CookieWait tag first t1) c l = l
  took_lined (Open phase t) c l = let u : Tcb = without_first_message t in told_if_lined (opens_window c.options t.reassembly u.reassembly) phase u c l

  pub call_lined : (call : Call) (s : Endpoint P) → is_restore call ≡ false → call_asks_once call ≡ true → Whole avoids s → EndLined avoids s.endpoint_state → EndLined avoids (called call s).endpoint_state
  call_lined Connect s r e h l = connect_lined avoids s.endpoint_state.state s l
  call_lined Close s r e h l = close_lined avoids s.endpoint_state.state s.endpoint_state.context l
  call_lined Shutdown s r e h l = shutdown_lined avoids s.endpoint_state.state s.endpoint_state.context l
  call_lined (Send m o) s r e h l = send_lined (send_refusal_of m s.endpoint_state) m o s.endpoint_state h l
  call_lined (SendMany ms o) s r e h l =
      let t : EndpointState P = s.endpoint_state in
      sent_then t.state t.context (offer_all ms o (shown_state t.state) t.context) (offers_same avoids ms o (shown_state t.state) t.context) h l.0
  call_lined (ResetStreams streams) s r e h l = reset_lined (reset_refusal s.endpoint_state.state) streams s.endpoint_state h l
  call_lined TakeMessage s r e h l = took_lined s.endpoint_state.state s.endpoint_state.context l
  call_lined (SetLowThreshold stream bytes) s r e h l =
      let c : Context P = s.endpoint_state.context in
      (l.0, same_line s.endpoint_state.state c.queue (set_low_threshold stream bytes c).queue refl l.1)
  call_lined (SetPriority stream priority) s r e h l =
      let c : Context P = s.endpoint_state.context in
      (l.0, same_line s.endpoint_state.state c.queue (set_priority stream priority c).queue refl l.1)
  call_lined (SetMaxMessageSize bytes) s r e h l = l
  call_lined (Advance now) s r e h l = advance_lined avoids (nat_lt now s.endpoint_state.context.now) now s.endpoint_state h l
  call_lined HandOver s r e h l = leaves_lined (readiness s.endpoint_state == 0) s.endpoint_state l
  call_lined (Restore record_of) s r e h l = absurd (cc)
  call_lined (ReceivePacket p) s r e h l =
      packet_by_lined (packet_refusal p.header.verification_tag p.chunks s.endpoint_state.state) p.header.verification_tag p.chunks (count_packet_at s) e h l
  call_lined ReceiveNoPacket s r e h l = l

pub each_call_lined : EachCallKeepsLined
each_call_lined call s r e h =
    let l = call_lined s.endpoint_state.context.options.avoid_stalls call s r e h.timed (h.burst, h.line) in
    record { timed = each_stays_timed call s r h.timed; burst = l.0; line = l.1 }

pub new_lined : NewEndsAreLined
new_lined o pack draws v b = record { timed = new_ends o pack draws v; burst = b; line = tt }
