-- How an association ends, and the end of a packet, under other names.
use Rattle.std.proofs.Common.{◌≡◌, ℕ, Bool, true, false, List, [], ◌∷◌, codes, refl, ap, ◌∙◌}
use Rattle.sctp_wire.specs.Cause.{CauseTree, user_initiated_abort, protocol_violation}
use Rattle.sctp_packet.specs.Chunk.{abort_chunk, shutdown_ack_chunk, shutdown_complete_chunk, ChunkTree}
use Rattle.sctp_state.specs.declared.api.ErrorKind.TheVariants.{TooManyRetries, ProtocolViolation}
use Rattle.sctp_state.specs.Events.{Event, OnClosed, OnAborted}
use Rattle.sctp_rx.specs.DataTracker.{is_ack_due}
use Rattle.spec_endpoint.specs.Association.{Tcb, Phase, CookieEchoed, Established, ShutdownPending, ShutdownSent, ShutdownReceived, ShutdownAckSent, State, Closed, CookieWait, Open, Context, EndpointState, where_open, Packing}
use Rattle.spec_endpoint.specs.Packets.{PacketDraft, add, packet_to, emit}
use Rattle.spec_endpoint.specs.Sending.{AfterSending, take_due_ack, without_duplicates, selective_ack, is_before_cookie_ack, open_with, send_with, answer_packet}
use Rattle.spec_endpoint.specs.Shutdown.{close_with, send_shutdown_ack, PhaseStep, shutdown_in_phase, open_phase_step, shutdown_in, shutdown, shut_by_peer, on_shutdown, complete_shutdown, out_of_the_blue, on_shutdown_ack_open, on_shutdown_ack_in, on_shutdown_ack, on_shutdown_complete, abort, close_in, close, too_many, abort_for_violation, on_error, refused_if, aborted_in, aborted}
use Rattle.spec_endpoint.specs.Input.{ack_if_due, at_end, on_packet_end, repeats, packet_acked, shut_waiting, shut_if}
use Rattle.spec_endpoint.specs.Opening.{on_cookie_ack}
use Rattle.proof_draws.specs.NamedChunks.{Names, AreNames}
use Rattle.proof_draws.specs.Names.{named_packet, named_phase, named_tcb, named_state, named_endpoint_state, plain}
use Rattle.proof_draws.proofs.WritingLemmas.{Knows, named_add, named_emit, named_emit_chunk}
use Rattle.proof_draws.proofs.TagLemmas.{alone_named}
use Rattle.proof_draws.proofs.FillingLemmas.{ack_named, send_with_named, send_with_stays}
use Rattle.proof_draws.proofs.SackLemmas.{named_onward, send_shutdown_named, go_on_named, pending_named, answer_packet_named}
use Rattle.proof_draws.proofs.AnswerLemmas.{established_named}
use Rattle.proof_endpoint.proofs.RowMapsLemmas.{endpoint_state_in}
use Rattle.sctp_tx.specs.RetransmissionQueue.{nothing_in_flight}

-- a row for states with a control block
abbrev pub OpenIsNamed : {P : Type 0} → Names → Packing P → (row : Phase → Tcb → Context P → EndpointState P) → Type 0
OpenIsNamed {P} n pack row =
    (phase : Phase) (t : Tcb) (c : Context P) → Knows n pack c → row (named_phase n phase) (named_tcb n t) (plain n pack c) ≡ named_endpoint_state n pack (row phase t c)

module _ {P : Type 0} (n : Names) (are : AreNames n) (pack : Packing P) where
  where_from : (row : Phase → Tcb → Context P → EndpointState P) (st : State) (c : Context P) → OpenIsNamed n pack row → Knows n pack c
      → where_open row (endpoint_state_in (named_state n st) (plain n pack c)) ≡ named_endpoint_state n pack (where_open row (endpoint_state_in st c))
  where_from row Closed c h k = refl
  where_from row (CookieWait tag first t1) c h k = refl
  where_from row (Open phase t) c h k = h phase t c k

  pub where_named : (row : Phase → Tcb → Context P → EndpointState P) (s : EndpointState P) → OpenIsNamed n pack row → Knows n pack s.context
      → where_open row (named_endpoint_state n pack s) ≡ named_endpoint_state n pack (where_open row s)
  where_named row s h k = where_from row s.state s.context h k

  -- ---- shutdown

  shut_named : (phase : Phase) (t : Tcb) (c : Context P) → Knows n pack c → shutdown_in_phase (named_phase n phase) (named_tcb n t) (plain n pack c) ≡ named_onward n pack (shutdown_in_phase phase t c)
  shut_named (CookieEchoed t1 cookie) t c k = pending_named n are pack (nothing_in_flight t.sender.outstanding.items) t c k
  shut_named Established t c k = go_on_named n are pack ShutdownPending t c k
  shut_named ShutdownPending t c k = refl
  shut_named (ShutdownSent t2) t c k = refl
  shut_named ShutdownReceived t c k = refl
  shut_named (ShutdownAckSent t2) t c k = refl

  onward_named : (t : Tcb) (o x : PhaseStep P) → x ≡ named_onward n pack o → open_phase_step (named_tcb n t) x ≡ named_endpoint_state n pack (open_phase_step t o)
  onward_named t o x h = ap (λ (y : PhaseStep P). open_phase_step (named_tcb n t) y) h

  shutdown_in_named : (st : State) (c : Context P) → Knows n pack c → shutdown_in (named_state n st) (plain n pack c) ≡ named_endpoint_state n pack (shutdown_in st c)
  shutdown_in_named Closed c k = refl
  shutdown_in_named (CookieWait tag first t1) c k = refl
  shutdown_in_named (Open phase t) c k = onward_named t (shutdown_in_phase phase t c) _ (shut_named phase t c k)

  pub shutdown_named : (s : EndpointState P) → Knows n pack s.context → shutdown (named_endpoint_state n pack s) ≡ named_endpoint_state n pack (shutdown s)
  shutdown_named s k = shutdown_in_named s.state s.context k

  pub acked_named : (t : Tcb) (c : Context P) → Knows n pack c → send_shutdown_ack (named_tcb n t) (plain n pack c) ≡ plain n pack (send_shutdown_ack t c)
  acked_named t c k = named_emit_chunk n are pack shutdown_ack_chunk t c k

  by_peer_named : (phase : Phase) (t : Tcb) (c : Context P) → Knows n pack c → shut_by_peer (named_phase n phase) (named_tcb n t) (plain n pack c) ≡ named_onward n pack (shut_by_peer phase t c)
  by_peer_named (CookieEchoed t1 cookie) t c k = refl
  by_peer_named Established t c k = go_on_named n are pack ShutdownReceived t c k
  by_peer_named ShutdownPending t c k = go_on_named n are pack ShutdownReceived t c k
  by_peer_named (ShutdownSent t2) t c k = ap (λ (d : Context P). record (named_onward n pack (shut_by_peer (ShutdownSent t2) t c)) { context = d }) (acked_named t c k)
  by_peer_named ShutdownReceived t c k = refl
  by_peer_named (ShutdownAckSent t2) t c k = ap (λ (d : Context P). record (named_onward n pack (shut_by_peer (ShutdownAckSent t2) t c)) { context = d }) (acked_named t c k)

  pub on_shutdown_named : OpenIsNamed n pack on_shutdown
  on_shutdown_named phase t c k = onward_named t (shut_by_peer phase t c) _ (by_peer_named phase t c k)

  completed_named : (t : Tcb) (c : Context P) → Knows n pack c → complete_shutdown (named_tcb n t) (plain n pack c) ≡ named_endpoint_state n pack (complete_shutdown t c)
  completed_named t c k = ap (λ (d : Context P). close_with OnClosed d) (named_emit_chunk n are pack (shutdown_complete_chunk false) t c k)

  blue_named : (tag : ℕ) (c : Context P) → Knows n pack c → out_of_the_blue (n.tag tag) (plain n pack c) ≡ plain n pack (out_of_the_blue tag c)
  blue_named tag c k =
      let p : PacketDraft = packet_to tag c.options.mtu in
      ap (λ (q : PacketDraft). emit q (plain n pack c)) (named_add n are (shutdown_complete_chunk true) p) ∙ named_emit n are pack (add (shutdown_complete_chunk true) p) c k

  in_blue : (tag : ℕ) (st : State) (c : Context P) → Knows n pack c
      → endpoint_state_in (named_state n st) (out_of_the_blue (n.tag tag) (plain n pack c)) ≡ named_endpoint_state n pack (endpoint_state_in st (out_of_the_blue tag c))
  in_blue tag st c k = ap (λ (d : Context P). endpoint_state_in (named_state n st) d) (blue_named tag c k)

  shutdown_ack_open_named : (tag : ℕ) (phase : Phase) (t : Tcb) (c : Context P) → Knows n pack c
      → on_shutdown_ack_open (n.tag tag) (named_phase n phase) (named_tcb n t) (plain n pack c) ≡ named_endpoint_state n pack (on_shutdown_ack_open tag phase t c)
  shutdown_ack_open_named tag (CookieEchoed t1 cookie) t c k = in_blue tag (Open (CookieEchoed t1 cookie) t) c k
  shutdown_ack_open_named tag Established t c k = in_blue tag (Open Established t) c k
  shutdown_ack_open_named tag ShutdownPending t c k = in_blue tag (Open ShutdownPending t) c k
  shutdown_ack_open_named tag (ShutdownSent t2) t c k = completed_named t c k
  shutdown_ack_open_named tag ShutdownReceived t c k = in_blue tag (Open ShutdownReceived t) c k
  shutdown_ack_open_named tag (ShutdownAckSent t2) t c k = completed_named t c k

  shutdown_ack_in_named : (tag : ℕ) (st : State) (c : Context P) → Knows n pack c
      → on_shutdown_ack_in (n.tag tag) (named_state n st) (plain n pack c) ≡ named_endpoint_state n pack (on_shutdown_ack_in tag st c)
  shutdown_ack_in_named tag Closed c k = in_blue tag Closed c k
  shutdown_ack_in_named tag (CookieWait mine first t1) c k = in_blue tag (CookieWait mine first t1) c k
  shutdown_ack_in_named tag (Open phase t) c k = shutdown_ack_open_named tag phase t c k

  pub shutdown_ack_named : (tag : ℕ) (s : EndpointState P) → Knows n pack s.context → on_shutdown_ack (n.tag tag) (named_endpoint_state n pack s) ≡ named_endpoint_state n pack (on_shutdown_ack tag s)
  shutdown_ack_named tag s k = shutdown_ack_in_named tag s.state s.context k

  pub shutdown_complete_named : OpenIsNamed n pack on_shutdown_complete
  shutdown_complete_named (CookieEchoed t1 cookie) t c k = refl
  shutdown_complete_named Established t c k = refl
  shutdown_complete_named ShutdownPending t c k = refl
  shutdown_complete_named (ShutdownSent t2) t c k = refl
  shutdown_complete_named ShutdownReceived t c k = refl
  shutdown_complete_named (ShutdownAckSent t2) t c k = refl

  -- ---- aborts

  abort_named : (cause : CauseTree) (e : Event P) (t : Tcb) (c : Context P) → Knows n pack c → abort cause e (named_tcb n t) (plain n pack c) ≡ named_endpoint_state n pack (abort cause e t c)
  abort_named cause e t c k = ap (λ (d : Context P). close_with e d) (named_emit_chunk n are pack (abort_chunk false (cause ∷ [])) t c k)

  close_in_named : (st : State) (c : Context P) → Knows n pack c → close_in (named_state n st) (plain n pack c) ≡ named_endpoint_state n pack (close_in st c)
  close_in_named Closed c k = refl
  close_in_named (CookieWait tag first t1) c k = refl
  close_in_named (Open phase t) c k = abort_named (user_initiated_abort (codes "Close called")) OnClosed t c k

  pub close_named : (s : EndpointState P) → Knows n pack s.context → close (named_endpoint_state n pack s) ≡ named_endpoint_state n pack (close s)
  close_named s k = close_in_named s.state s.context k

  pub too_many_named : (t : Tcb) (c : Context P) → Knows n pack c → too_many (named_tcb n t) (plain n pack c) ≡ named_endpoint_state n pack (too_many t c)
  too_many_named t c k = abort_named (user_initiated_abort (codes "Too many retransmissions")) (OnAborted TooManyRetries (codes "Too many retransmissions")) t c k

  pub abort_for_violation_named : (reason : List ℕ) (t : Tcb) (c : Context P) → Knows n pack c → abort_for_violation reason (named_tcb n t) (plain n pack c) ≡ named_endpoint_state n pack (abort_for_violation reason t c)
  abort_for_violation_named reason t c k = abort_named (protocol_violation reason) (OnAborted ProtocolViolation reason) t c k

  connect_refused_named : (b : Bool) (causes : List CauseTree) (st : State) (c : Context P)
      → refused_if b causes (named_state n st) (plain n pack c) ≡ named_endpoint_state n pack (refused_if b causes st c)
  connect_refused_named true causes st c = refl
  connect_refused_named false causes st c = refl

  aborted_in_named : (causes : List CauseTree) (st : State) (c : Context P) → aborted_in causes (named_state n st) (plain n pack c) ≡ named_endpoint_state n pack (aborted_in causes st c)
  aborted_in_named causes Closed c = refl
  aborted_in_named causes (CookieWait tag first t1) c = connect_refused_named c.options.avoid_stalls causes (CookieWait tag first t1) c
  aborted_in_named causes (Open phase t) c = refl

  pub aborted_named : (causes : List CauseTree) (s : EndpointState P) → aborted causes (named_endpoint_state n pack s) ≡ named_endpoint_state n pack (aborted causes s)
  aborted_named causes s = aborted_in_named causes s.state s.context

  pub on_error_named : (causes : List CauseTree) → OpenIsNamed n pack (on_error causes)
  on_error_named causes phase t c k = refl

  -- ---- COOKIE ACK

  pub on_cookie_ack_named : OpenIsNamed n pack on_cookie_ack
  on_cookie_ack_named (CookieEchoed t1 cookie) t c k = established_named n are pack t c k
  on_cookie_ack_named Established t c k = refl
  on_cookie_ack_named ShutdownPending t c k = refl
  on_cookie_ack_named (ShutdownSent t2) t c k = refl
  on_cookie_ack_named ShutdownReceived t c k = refl
  on_cookie_ack_named (ShutdownAckSent t2) t c k = refl

  -- ---- a packet's beginning and end

  pub repeats_named : OpenIsNamed n pack repeats
  repeats_named (CookieEchoed t1 cookie) t c k = refl
  repeats_named Established t c k = refl
  repeats_named ShutdownPending t c k = refl
  repeats_named (ShutdownSent t2) t c k = ap (λ (d : Context P). record (named_endpoint_state n pack (repeats (ShutdownSent t2) t c)) { context = d }) (send_shutdown_named n are pack t c k)
  repeats_named ShutdownReceived t c k = refl
  repeats_named (ShutdownAckSent t2) t c k = refl

  ended_if_named : (b : Bool) → OpenIsNamed n pack (ack_if_due b)
  ended_if_named true phase t c k =
      let p : PacketDraft = answer_packet phase c.options t in
      let u : Tcb = named_tcb n (without_duplicates t) in
      ap (λ (q : PacketDraft). open_with (named_phase n phase) (send_with (is_before_cookie_ack (named_phase n phase)) (add (selective_ack (named_tcb n t)) q) u (plain n pack c)))
      (answer_packet_named n are pack phase c.options t)
      ∙ (ap (λ (b : Bool). open_with (named_phase n phase) (send_with b (add (selective_ack (named_tcb n t)) (named_packet n p)) u (plain n pack c))) (alone_named n phase)
      ∙ (ap (λ (chunk : ChunkTree). open_with (named_phase n phase) (send_with (is_before_cookie_ack phase) (add chunk (named_packet n p)) u (plain n pack c))) (ack_named n t)
      ∙ (ap (λ (q : PacketDraft). open_with (named_phase n phase) (send_with (is_before_cookie_ack phase) q u (plain n pack c))) (named_add n are (selective_ack t) p)
      ∙ ap (λ (x : AfterSending P). open_with (named_phase n phase) x) (send_with_named n are pack (is_before_cookie_ack phase) (add (selective_ack t) p) (without_duplicates t) c k))))
  ended_if_named false phase t c k = refl

  packet_acked_named : OpenIsNamed n pack packet_acked
  packet_acked_named phase t c k =
      let u : Tcb = at_end c.now t in
      ended_if_named (is_ack_due false u.tracker.tracker.ack) phase (take_due_ack false u) c k

  acked_if_stays : (b : Bool) (phase : Phase) (t : Tcb) (c : Context P) → (ack_if_due b phase t c).context.pack ≡ c.pack
  acked_if_stays true phase t c = send_with_stays (is_before_cookie_ack phase) (add (selective_ack t) (answer_packet phase c.options t)) (without_duplicates t) c
  acked_if_stays false phase t c = refl

  acked_stays : (phase : Phase) (t : Tcb) (c : Context P) → (packet_acked phase t c).context.pack ≡ c.pack
  acked_stays phase t c = let u : Tcb = at_end c.now t in acked_if_stays (is_ack_due false u.tracker.tracker.ack) phase (take_due_ack false u) c

  shut_waiting_named : OpenIsNamed n pack shut_waiting
  shut_waiting_named phase t c k = ap (λ (o : PhaseStep P). open_phase_step (named_tcb n t) o) (go_on_named n are pack phase t c k)

  shut_if_named : (b : Bool) (s : EndpointState P) → Knows n pack s.context → shut_if b (named_endpoint_state n pack s) ≡ named_endpoint_state n pack (shut_if b s)
  shut_if_named true s k = where_named shut_waiting s shut_waiting_named k
  shut_if_named false s k = refl

  pub ended_named : OpenIsNamed n pack on_packet_end
  ended_named phase t c k =
      ap (λ (s : EndpointState P). shut_if c.options.avoid_stalls s) (packet_acked_named phase t c k)
      ∙ shut_if_named c.options.avoid_stalls (packet_acked phase t c) (acked_stays phase t c ∙ k)
