-- The rows without draws: closing, data and acknowledgements.
use Rattle.std.proofs.Common.{◌≡◌, ℕ, ◌==◌, Bool, true, false, List, [], ◌∷◌, length, codes, refl, ap, ◌∙◌}
use Rattle.sctp_wire.specs.Cause.{CauseTree, user_initiated_abort, protocol_violation, no_user_data}
use Rattle.sctp_chunk.specs.declared.sack.GapAckBlock.{GapAckBlock}
use Rattle.sctp_chunk.specs.declared.forward_tsn.SkippedStream.{SkippedStream}
use Rattle.sctp_packet.specs.Chunk.{ChunkTree, FragmentTree, SackTree, abort_chunk, error_chunk, shutdown_chunk, shutdown_ack_chunk, shutdown_complete_chunk}
use Rattle.sctp_state.specs.declared.api.ErrorKind.TheVariants.{TooManyRetries, PeerReported, ProtocolViolation, NotConnected}
use Rattle.sctp_state.specs.Events.{Event, OnClosed, OnAborted, Emitted}
use Rattle.sctp_tx_outstanding.specs.OutstandingData.{number_of}
use Rattle.sctp_tx_outstanding.specs.Sack.{is_valid}
use Rattle.sctp_rx.specs.DataTracker as tracker
use Rattle.sctp_tx_queue.specs.Settings.{Changed}
use Rattle.sctp_tx.specs.RetransmissionQueue.{Sender, SackAnswer, Invalid, Valid, sender_if, emitted_if, answer_if, nothing_in_flight}
use Rattle.spec_endpoint.specs.Association.{Tcb, Phase, CookieEchoed, Established, ShutdownPending, ShutdownSent, ShutdownReceived, ShutdownAckSent, State, Closed, CookieWait, Open, Heartbeats, Context, EndpointState, where_open}
use Rattle.spec_endpoint.specs.Heartbeats.{stop_heartbeats}
use Rattle.spec_endpoint.specs.Packets.{add, packet_to, emit_error, emit_chunk}
use Rattle.spec_endpoint.specs.Sending.{AfterSending, is_before_cookie_ack, open_with, send_lost, answer_packet, send_with}
use Rattle.spec_endpoint.specs.Shutdown.{ended, cleared_if, emptied_if, over, close_with, t2_shutdown, send_shutdown, send_shutdown_ack, PhaseStep, phase_step, pending_next, received_next, maybe_send_shutdown_or_ack, shutdown_in_phase, open_phase_step, shutdown_in, shutdown, shut_by_peer, on_shutdown, complete_shutdown, out_of_the_blue, on_shutdown_ack_open, on_shutdown_ack_in, on_shutdown_ack, on_shutdown_complete, abort, close_in, close, too_many, abort_for_violation, causes_text, on_abort, refused_if, aborted_in, aborted, on_error, is_quiet}
use Rattle.spec_endpoint.specs.Data.{no_data, on_no_data, not_connected, on_data_in, on_data_if, on_data, on_forward}
use Rattle.spec_endpoint.specs.Sack.{clean_blocks, sample_rtt, clear_errors_if, send_after, after_sack, on_clean_sack, no_block, on_sack_in, on_sack, is_late, sampled_unless}
use Rattle.spec_endpoint.specs.Sack as acks
use Rattle.proof_endpoint.specs.Mapped.{Mapping, map_event, map_emitted, map_context, map_endpoint_state}
use Rattle.proof_endpoint.proofs.EmittedMapsLemmas.{same_sender, maps_sack}
use Rattle.proof_endpoint.proofs.EmptiedLemmas.{maps_emptied}
use Rattle.proof_endpoint.proofs.SendingMapsLemmas.{map_sent, maps_say, maps_emit_error, maps_emit, maps_emit_chunk, maps_send_lost, maps_send_with}

abbrev pub endpoint_state_in : {P : Type 0} → State → Context P → EndpointState P
endpoint_state_in st c = record { state = st; context = c }

abbrev map_onward : {P Q : Type 0} → Mapping P Q → PhaseStep P → PhaseStep Q
map_onward f o = record { phase = o.phase; context = map_context f o.context }

-- a row for states with a control block
abbrev pub OpenMaps : {P Q : Type 0} → Mapping P Q → (Phase → Tcb → Context P → EndpointState P) → (Phase → Tcb → Context Q → EndpointState Q) → Type 0
OpenMaps {P} {Q} f row mapped = (phase : Phase) (t : Tcb) (c : Context P) → mapped phase t (map_context f c) ≡ map_endpoint_state f (row phase t c)

-- an answer to a SACK, in a context that emitted it
abbrev pub received_with : {P : Type 0} → SackAnswer → Phase → Tcb → Context P → Sender → Emitted P → EndpointState P
received_with a phase t c s u = after_sack a phase (record t { sender = s }) (record c { emitted = u })

-- a context with this queue and what was emitted
abbrev changed_to : {P : Type 0} → Context P → Changed P → Context P
changed_to c x = record c { queue = x.queue; emitted = x.emitted }

-- a context with these heartbeats
abbrev pub beating_as : {P : Type 0} → Context P → Heartbeats → Context P
beating_as c h = record c { heartbeats = h }

module _ {P Q : Type 0} (f : Mapping P Q) where
  where_open_from : (row : Phase → Tcb → Context P → EndpointState P) (mapped : Phase → Tcb → Context Q → EndpointState Q) (st : State) (c : Context P) → OpenMaps f row mapped
      → where_open mapped (endpoint_state_in st (map_context f c)) ≡ map_endpoint_state f (where_open row (endpoint_state_in st c))
  where_open_from row mapped Closed c h = refl
  where_open_from row mapped (CookieWait tag first t1) c h = refl
  where_open_from row mapped (Open phase t) c h = h phase t c

  pub maps_where_open : (row : Phase → Tcb → Context P → EndpointState P) (mapped : Phase → Tcb → Context Q → EndpointState Q) (s : EndpointState P) → OpenMaps f row mapped
      → where_open mapped (map_endpoint_state f s) ≡ map_endpoint_state f (where_open row s)
  maps_where_open row mapped s h = where_open_from row mapped s.state s.context h

  -- the state stays
  pub maps_in_state : (st : State) (c : Context P) (d : Context Q) → d ≡ map_context f c → endpoint_state_in st d ≡ map_endpoint_state f (endpoint_state_in st c)
  maps_in_state st c d h = ap (λ (e : Context Q). endpoint_state_in st e) h

  maps_onward : (phase : Phase) (c : Context P) (d : Context Q) → d ≡ map_context f c → phase_step phase d ≡ map_onward f (phase_step phase c)
  maps_onward phase c d h = ap (λ (e : Context Q). phase_step phase e) h

  -- ---- shutdown and aborts

  pub maps_send_shutdown : (t : Tcb) (c : Context P) → send_shutdown t (map_context f c) ≡ map_context f (send_shutdown t c)
  maps_send_shutdown t c = maps_emit_chunk f (shutdown_chunk (tracker.wire_tsn t.tracker t.tracker.tracker.seen.front)) t c

  pub maps_send_shutdown_ack : (t : Tcb) (c : Context P) → send_shutdown_ack t (map_context f c) ≡ map_context f (send_shutdown_ack t c)
  maps_send_shutdown_ack t c = maps_emit_chunk f shutdown_ack_chunk t c

  maps_pending : (b : Bool) (t : Tcb) (c : Context P) → pending_next b t (map_context f c) ≡ map_onward f (pending_next b t c)
  maps_pending true t c = maps_onward (ShutdownSent (t2_shutdown t c)) (send_shutdown t c) (send_shutdown t (map_context f c)) (maps_send_shutdown t c)
  maps_pending false t c = refl

  maps_received : (b : Bool) (t : Tcb) (c : Context P) → received_next b t (map_context f c) ≡ map_onward f (received_next b t c)
  maps_received true t c = maps_onward (ShutdownAckSent (t2_shutdown t c)) (send_shutdown_ack t c) (send_shutdown_ack t (map_context f c)) (maps_send_shutdown_ack t c)
  maps_received false t c = refl

  pub maps_go_on : (phase : Phase) (t : Tcb) (c : Context P) → maybe_send_shutdown_or_ack phase t (map_context f c) ≡ map_onward f (maybe_send_shutdown_or_ack phase t c)
  maps_go_on (CookieEchoed t1 cookie) t c = refl
  maps_go_on Established t c = refl
  maps_go_on ShutdownPending t c = maps_pending (is_quiet t c) t c
  maps_go_on (ShutdownSent t2) t c = refl
  maps_go_on ShutdownReceived t c = maps_received (is_quiet t c) t c
  maps_go_on (ShutdownAckSent t2) t c = refl

  pub maps_emptied_in : (b : Bool) (c : Context P) → emptied_if b (map_context f c) ≡ map_context f (emptied_if b c)
  maps_emptied_in b c = ap (λ (x : Changed Q). changed_to (record (map_context f c) { errors = cleared_if b c.errors }) x) (maps_emptied f b c.queue c.emitted)

  pub maps_over : (e : Event P) (c : Context P) → over (map_event f e) (map_context f c) ≡ map_context f (over e c)
  maps_over e c =
      let b : Bool = c.options.avoid_stalls in
      ap (λ (x : Context Q). emptied_if b x) (ap (λ (x : Context Q). beating_as x (stop_heartbeats c.heartbeats)) (maps_say f e c))
      ∙ maps_emptied_in b (ended e c)

  pub maps_closed : (e : Event P) (c : Context P) → close_with (map_event f e) (map_context f c) ≡ map_endpoint_state f (close_with e c)
  maps_closed e c = maps_in_state Closed (over e c) _ (maps_over e c)

  -- behind what went out
  pub maps_closed_by : (e : Event P) (c : Context P) (d : Context Q) → d ≡ map_context f c → close_with (map_event f e) d ≡ map_endpoint_state f (close_with e c)
  maps_closed_by e c d h = ap (λ (x : Context Q). close_with (map_event f e) x) h ∙ maps_closed e c

  maps_abort : (cause : CauseTree) (e : Event P) (t : Tcb) (c : Context P) → abort cause (map_event f e) t (map_context f c) ≡ map_endpoint_state f (abort cause e t c)
  maps_abort cause e t c = maps_closed_by e (emit_chunk (abort_chunk false (cause ∷ [])) t c) _ (maps_emit_chunk f (abort_chunk false (cause ∷ [])) t c)

  maps_close_in : (st : State) (c : Context P) → close_in st (map_context f c) ≡ map_endpoint_state f (close_in st c)
  maps_close_in Closed c = refl
  maps_close_in (CookieWait tag first t1) c = maps_closed OnClosed c
  maps_close_in (Open phase t) c = maps_abort (user_initiated_abort (codes "Close called")) OnClosed t c

  pub maps_close : (s : EndpointState P) → close (map_endpoint_state f s) ≡ map_endpoint_state f (close s)
  maps_close s = maps_close_in s.state s.context

  -- ---- the call for a shutdown, and its chunks

  maps_open_onward : (t : Tcb) (o : PhaseStep P) (x : PhaseStep Q) → x ≡ map_onward f o → open_phase_step t x ≡ map_endpoint_state f (open_phase_step t o)
  maps_open_onward t o x h = ap (λ (y : PhaseStep Q). open_phase_step t y) h

  maps_shut : (phase : Phase) (t : Tcb) (c : Context P) → shutdown_in_phase phase t (map_context f c) ≡ map_onward f (shutdown_in_phase phase t c)
  maps_shut (CookieEchoed t1 cookie) t c = maps_pending (nothing_in_flight t.sender.outstanding.items) t c
  maps_shut Established t c = maps_go_on ShutdownPending t c
  maps_shut ShutdownPending t c = refl
  maps_shut (ShutdownSent t2) t c = refl
  maps_shut ShutdownReceived t c = refl
  maps_shut (ShutdownAckSent t2) t c = refl

  maps_shutdown_in : (st : State) (c : Context P) → shutdown_in st (map_context f c) ≡ map_endpoint_state f (shutdown_in st c)
  maps_shutdown_in Closed c = refl
  maps_shutdown_in (CookieWait tag first t1) c = maps_closed OnClosed c
  maps_shutdown_in (Open phase t) c = maps_open_onward t (shutdown_in_phase phase t c) (shutdown_in_phase phase t (map_context f c)) (maps_shut phase t c)

  pub maps_shutdown : (s : EndpointState P) → shutdown (map_endpoint_state f s) ≡ map_endpoint_state f (shutdown s)
  maps_shutdown s = maps_shutdown_in s.state s.context

  maps_shut_by_peer : (phase : Phase) (t : Tcb) (c : Context P) → shut_by_peer phase t (map_context f c) ≡ map_onward f (shut_by_peer phase t c)
  maps_shut_by_peer (CookieEchoed t1 cookie) t c = refl
  maps_shut_by_peer Established t c = maps_go_on ShutdownReceived t c
  maps_shut_by_peer ShutdownPending t c = maps_go_on ShutdownReceived t c
  maps_shut_by_peer (ShutdownSent t2) t c =
      let o : PhaseStep P = shut_by_peer (ShutdownSent t2) t c in
      maps_onward o.phase o.context (send_shutdown_ack t (map_context f c)) (maps_send_shutdown_ack t c)
  maps_shut_by_peer ShutdownReceived t c = refl
  maps_shut_by_peer (ShutdownAckSent t2) t c =
      let o : PhaseStep P = shut_by_peer (ShutdownAckSent t2) t c in
      maps_onward o.phase o.context (send_shutdown_ack t (map_context f c)) (maps_send_shutdown_ack t c)

  pub maps_on_shutdown : OpenMaps f on_shutdown on_shutdown
  maps_on_shutdown phase t c = maps_open_onward t (shut_by_peer phase t c) (shut_by_peer phase t (map_context f c)) (maps_shut_by_peer phase t c)

  maps_completed : (t : Tcb) (c : Context P) → complete_shutdown t (map_context f c) ≡ map_endpoint_state f (complete_shutdown t c)
  maps_completed t c = maps_closed_by OnClosed (emit_chunk (shutdown_complete_chunk false) t c) _ (maps_emit_chunk f (shutdown_complete_chunk false) t c)

  maps_out_of_the_blue : (tag : ℕ) (c : Context P) → out_of_the_blue tag (map_context f c) ≡ map_context f (out_of_the_blue tag c)
  maps_out_of_the_blue tag c = maps_emit f (add (shutdown_complete_chunk true) (packet_to tag c.options.mtu)) c

  maps_unasked : (tag : ℕ) (st : State) (c : Context P) → endpoint_state_in st (out_of_the_blue tag (map_context f c)) ≡ map_endpoint_state f (endpoint_state_in st (out_of_the_blue tag c))
  maps_unasked tag st c = maps_in_state st (out_of_the_blue tag c) (out_of_the_blue tag (map_context f c)) (maps_out_of_the_blue tag c)

  maps_shutdown_ack_open : (tag : ℕ) → OpenMaps f (on_shutdown_ack_open tag) (on_shutdown_ack_open tag)
  maps_shutdown_ack_open tag (CookieEchoed t1 cookie) t c = maps_unasked tag (Open (CookieEchoed t1 cookie) t) c
  maps_shutdown_ack_open tag Established t c = maps_unasked tag (Open Established t) c
  maps_shutdown_ack_open tag ShutdownPending t c = maps_unasked tag (Open ShutdownPending t) c
  maps_shutdown_ack_open tag (ShutdownSent t2) t c = maps_completed t c
  maps_shutdown_ack_open tag ShutdownReceived t c = maps_unasked tag (Open ShutdownReceived t) c
  maps_shutdown_ack_open tag (ShutdownAckSent t2) t c = maps_completed t c

  maps_shutdown_ack_in : (tag : ℕ) (st : State) (c : Context P) → on_shutdown_ack_in tag st (map_context f c) ≡ map_endpoint_state f (on_shutdown_ack_in tag st c)
  maps_shutdown_ack_in tag Closed c = maps_unasked tag Closed c
  maps_shutdown_ack_in tag (CookieWait my_tag first t1) c = maps_unasked tag (CookieWait my_tag first t1) c
  maps_shutdown_ack_in tag (Open phase t) c = maps_shutdown_ack_open tag phase t c

  pub maps_shutdown_ack : (tag : ℕ) (s : EndpointState P) → on_shutdown_ack tag (map_endpoint_state f s) ≡ map_endpoint_state f (on_shutdown_ack tag s)
  maps_shutdown_ack tag s = maps_shutdown_ack_in tag s.state s.context

  pub maps_shutdown_complete : OpenMaps f on_shutdown_complete on_shutdown_complete
  maps_shutdown_complete (CookieEchoed t1 cookie) t c = refl
  maps_shutdown_complete Established t c = refl
  maps_shutdown_complete ShutdownPending t c = refl
  maps_shutdown_complete (ShutdownSent t2) t c = refl
  maps_shutdown_complete ShutdownReceived t c = refl
  maps_shutdown_complete (ShutdownAckSent t2) t c = maps_closed OnClosed c

  pub maps_too_many : (t : Tcb) (c : Context P) → too_many t (map_context f c) ≡ map_endpoint_state f (too_many t c)
  maps_too_many t c = maps_abort (user_initiated_abort (codes "Too many retransmissions")) (OnAborted TooManyRetries (codes "Too many retransmissions")) t c

  pub maps_abort_for_violation : (reason : List ℕ) (t : Tcb) (c : Context P) → abort_for_violation reason t (map_context f c) ≡ map_endpoint_state f (abort_for_violation reason t c)
  maps_abort_for_violation reason t c = maps_abort (protocol_violation reason) (OnAborted ProtocolViolation reason) t c

  maps_on_abort : (causes : List CauseTree) → OpenMaps f (on_abort causes) (on_abort causes)
  maps_on_abort causes phase t c = maps_closed (OnAborted PeerReported (causes_text causes)) c

  maps_refused : (b : Bool) (causes : List CauseTree) (st : State) (c : Context P) → refused_if b causes st (map_context f c) ≡ map_endpoint_state f (refused_if b causes st c)
  maps_refused true causes st c = maps_closed (OnAborted PeerReported (causes_text causes)) c
  maps_refused false causes st c = refl

  maps_aborted_in : (causes : List CauseTree) (st : State) (c : Context P) → aborted_in causes st (map_context f c) ≡ map_endpoint_state f (aborted_in causes st c)
  maps_aborted_in causes Closed c = refl
  maps_aborted_in causes (CookieWait tag first t1) c = maps_refused c.options.avoid_stalls causes (CookieWait tag first t1) c
  maps_aborted_in causes (Open phase t) c = maps_on_abort causes phase t c

  pub maps_aborted : (causes : List CauseTree) (s : EndpointState P) → aborted causes (map_endpoint_state f s) ≡ map_endpoint_state f (aborted causes s)
  maps_aborted causes s = maps_aborted_in causes s.state s.context

  pub maps_on_error : (causes : List CauseTree) → OpenMaps f (on_error causes) (on_error causes)
  maps_on_error causes phase t c = maps_in_state (Open phase t) (emit_error PeerReported (causes_text causes) c) _ (maps_emit_error f PeerReported (causes_text causes) c)

  -- ---- data and forward points

  maps_no_data : (c : Context P) → no_data (map_context f c) ≡ map_context f (no_data c)
  maps_no_data c = maps_emit_error f ProtocolViolation (codes "Received DATA chunk with no user data") c

  maps_on_no_data : (tsn : ℕ) (st : State) (c : Context P) → on_no_data tsn st (map_context f c) ≡ map_context f (on_no_data tsn st c)
  maps_on_no_data tsn Closed c = maps_no_data c
  maps_on_no_data tsn (CookieWait tag first t1) c = maps_no_data c
  maps_on_no_data tsn (Open phase t) c =
      let chunk : ChunkTree = error_chunk (no_user_data (record { 0 = tsn }) ∷ []) in
      ap (λ (d : Context Q). emit_chunk chunk t d) (maps_no_data c) ∙ maps_emit_chunk f chunk t (no_data c)

  maps_not_connected : (c : Context P) → not_connected (map_context f c) ≡ map_context f (not_connected c)
  maps_not_connected c = maps_emit_error f NotConnected (codes "Received unexpected commands on socket that is not connected") c

  maps_data_in : (st : State) (tsn : ℕ) (is_immediate : Bool) (g : FragmentTree) (c : Context P)
      → on_data_in st tsn is_immediate g (map_context f c) ≡ map_endpoint_state f (on_data_in st tsn is_immediate g c)
  maps_data_in Closed tsn is_immediate g c = maps_in_state Closed (not_connected c) _ (maps_not_connected c)
  maps_data_in (CookieWait tag first t1) tsn is_immediate g c = maps_in_state (CookieWait tag first t1) (not_connected c) _ (maps_not_connected c)
  maps_data_in (Open phase t) tsn is_immediate g c = refl

  maps_data_if : (is_empty : Bool) (tsn : ℕ) (is_immediate : Bool) (g : FragmentTree) (s : EndpointState P)
      → on_data_if is_empty tsn is_immediate g (map_endpoint_state f s) ≡ map_endpoint_state f (on_data_if is_empty tsn is_immediate g s)
  maps_data_if true tsn is_immediate g s = maps_in_state s.state (on_no_data tsn s.state s.context) _ (maps_on_no_data tsn s.state s.context)
  maps_data_if false tsn is_immediate g s = maps_data_in s.state tsn is_immediate g s.context

  pub maps_data : (tsn : ℕ) (is_immediate : Bool) (g : FragmentTree) (s : EndpointState P)
      → on_data tsn is_immediate g (map_endpoint_state f s) ≡ map_endpoint_state f (on_data tsn is_immediate g s)
  maps_data tsn is_immediate g s = maps_data_if (length g.payload == 0) tsn is_immediate g s

  pub maps_forward : (tsn : ℕ) (skipped : List SkippedStream) (s : EndpointState P) → on_forward tsn skipped (map_endpoint_state f s) ≡ map_endpoint_state f (on_forward tsn skipped s)
  maps_forward tsn skipped s = refl

  -- ---- acknowledgements

  maps_send_after : (phase : Phase) (t : Tcb) (c : Context P) → send_after phase t (map_context f c) ≡ map_sent f (send_after phase t c)
  maps_send_after phase t c =
      let x : AfterSending P = send_lost t c in
      ap (λ (y : AfterSending Q). send_with (is_before_cookie_ack phase) (answer_packet phase y.context.options y.tcb) y.tcb y.context) (maps_send_lost f t c)
      ∙ maps_send_with f (is_before_cookie_ack phase) (answer_packet phase x.context.options x.tcb) x.tcb x.context

  maps_goes_on : (t : Tcb) (o : PhaseStep P) → acks.send_after_sack t (map_onward f o) ≡ map_endpoint_state f (acks.send_after_sack t o)
  maps_goes_on t o = ap (λ (x : AfterSending Q). open_with o.phase x) (maps_send_after o.phase t o.context)

  maps_receive : (a : SackAnswer) (phase : Phase) (t : Tcb) (c : Context P) → after_sack a phase t (map_context f c) ≡ map_endpoint_state f (after_sack a phase t c)
  maps_receive Invalid phase t c = refl
  maps_receive (Valid rtt is_progress) phase t c =
      let d : Context P = clear_errors_if is_progress c in
      let v : Tcb = sample_rtt rtt t in
      ap (λ (o : PhaseStep Q). acks.send_after_sack v o) (maps_go_on phase v d) ∙ maps_goes_on v (maybe_send_shutdown_or_ack phase v d)

  maps_clean_sack : (n a_rwnd : ℕ) (blocks : List GapAckBlock) → OpenMaps f (on_clean_sack n a_rwnd blocks) (on_clean_sack n a_rwnd blocks)
  maps_clean_sack n a_rwnd blocks phase t c =
      let valid : Bool = is_valid n blocks t.sender.outstanding.items in
      let a : SackAnswer = sampled_unless (is_late c.options n t.sender.outstanding.items) (answer_if valid c.now n blocks t.sender) in
      let s : Sender = sender_if valid c.now n a_rwnd blocks t.sender c.emitted in
      let u : Emitted P = emitted_if valid n blocks t.sender c.emitted in
      ap (λ (x : Sender). received_with a phase t (map_context f c) x (emitted_if valid n blocks t.sender (map_emitted f c.emitted))) (same_sender f valid c.now n a_rwnd blocks t.sender c.emitted)
      ∙ (ap (λ (x : Emitted Q). received_with a phase t (map_context f c) s x) (maps_sack f valid n blocks t.sender c.emitted)
      ∙ maps_receive a phase (record t { sender = s }) (record c { emitted = u }))

  maps_no_block : (c : Context P) → no_block (map_context f c) ≡ map_context f (no_block c)
  maps_no_block c = maps_emit_error f NotConnected (codes "No TCB") c

  maps_sack_in : (st : State) (k : SackTree) (c : Context P) → on_sack_in st k (map_context f c) ≡ map_endpoint_state f (on_sack_in st k c)
  maps_sack_in Closed k c = maps_in_state Closed (no_block c) _ (maps_no_block c)
  maps_sack_in (CookieWait tag first t1) k c = maps_in_state (CookieWait tag first t1) (no_block c) _ (maps_no_block c)
  maps_sack_in (Open phase t) k c = maps_clean_sack (number_of t.sender.outstanding k.cumulative_tsn_ack) k.a_rwnd (clean_blocks k.gap_ack_blocks) phase t c

  pub maps_on_sack : (k : SackTree) (s : EndpointState P) → on_sack k (map_endpoint_state f s) ≡ map_endpoint_state f (on_sack k s)
  maps_on_sack k s = maps_sack_in s.state k s.context
