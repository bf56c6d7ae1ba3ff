-- What shutdown, aborts, data, forward points and acknowledgements emit.
use Rattle.std.proofs.Common.{◌≡◌, ℕ, ◌==◌, Bool, true, false, List, [], ◌∷◌, length, codes, refl, sym, subst}
use Rattle.sctp_wire.specs.Cause.{CauseTree, no_user_data, user_initiated_abort, protocol_violation}
use Rattle.sctp_chunk.specs.declared.forward_tsn.SkippedStream.{SkippedStream}
use Rattle.sctp_chunk.specs.declared.sack.GapAckBlock.{GapAckBlock}
use Rattle.sctp_packet.specs.Chunk.{ChunkTree, FragmentTree, SackTree, abort_chunk, error_chunk, shutdown_chunk, shutdown_ack_chunk, shutdown_complete_chunk}
use Rattle.sctp_state.specs.declared.api.ErrorKind.TheVariants.{TooManyRetries, PeerReported, ProtocolViolation, NotConnected}
use Rattle.sctp_state.specs.Events.{Event, OnClosed, OnAborted}
use Rattle.sctp_tx_outstanding.specs.OutstandingData.{number_of}
use Rattle.sctp_tx_outstanding.specs.Sack.{is_valid}
use Rattle.sctp_rx.specs.DataTracker as tracker
use Rattle.sctp_tx.specs.RetransmissionQueue.{SackAnswer, Invalid, Valid, sender_if, emitted_if, answer_if, nothing_in_flight}
use Rattle.sctp_state.specs.Timer.{Timer}
use Rattle.spec_endpoint.specs.Association.{Tcb, Phase, CookieEchoed, Established, ShutdownPending, ShutdownSent, ShutdownReceived, ShutdownAckSent, State, Closed, CookieWait, Open, Context, EndpointState, open_as, with_context, where_open}
use Rattle.spec_endpoint.specs.Packets.{PacketDraft, add, packet_to, emit_chunk}
use Rattle.spec_endpoint.specs.Sending.{is_before_cookie_ack, send_lost, answer_packet}
use Rattle.spec_endpoint.specs.Shutdown.{ended, close_with, send_shutdown, send_shutdown_ack, PhaseStep, pending_next, received_next, maybe_send_shutdown_or_ack, shutdown_in_phase, shutdown_in, shutdown, on_shutdown, complete_shutdown, out_of_the_blue, on_shutdown_ack_open, on_shutdown_ack_in, on_shutdown_ack, on_shutdown_complete, abort, close_in, close, too_many, abort_for_violation, causes_text, refused_if, aborted_in, aborted, on_error, is_quiet}
use Rattle.spec_endpoint.specs.Data.{no_data, on_no_data, not_connected, on_data_in, on_data_if, on_data, handle_forward_tsn_in, on_forward}
use Rattle.spec_endpoint.specs.Sack.{clean_blocks, sample_rtt, clear_errors_if, send_after, after_sack, on_clean_sack, no_block, on_sack_in, on_sack, is_late, sampled_unless}
use Rattle.spec_endpoint.specs.Sack as acks
use Rattle.spec_endpoint.specs.Laws.{IsShort, ending, ends}
use Rattle.proof_endpoint.proofs.StepsLemmas.{most_bytes, Goes, Steps}
use Rattle.proof_endpoint.proofs.EmitsLemmas.{emits_sack}
use Rattle.proof_endpoint.proofs.GoesLemmas.{small_add, small_whole, goes_emit, goes_by, goes_silent, goes_same, goes_then, goes_last, goes_said, goes_emit_error, goes_emit_chunk}
use Rattle.proof_endpoint.proofs.SendingStepsLemmas.{goes_send_lost, goes_send_with, small_answer}
use Rattle.proof_endpoint.proofs.EmptiedLemmas.{emits_emptied}

-- from a state and a context
abbrev pub StepsFrom : {P : Type 0} → State → Context P → EndpointState P → Type 0
StepsFrom st c s = Goes (ends st s.state) c s.context

-- a row for states with a control block
abbrev pub OpenSteps : {P : Type 0} → (Phase → Tcb → Context P → EndpointState P) → Type 0
OpenSteps {P} row = (phase : Phase) (t : Tcb) (c : Context P) → StepsFrom (Open phase t) c (row phase t c)

ends_same : (st : State) → ends st st ≡ 0
ends_same Closed = refl
ends_same (CookieWait tag first t1) = refl
ends_same (Open phase t) = refl

ends_open : (st : State) (phase : Phase) (t : Tcb) → ends st (Open phase t) ≡ 0
ends_open Closed phase t = refl
ends_open (CookieWait tag first t1) phase t = refl
ends_open (Open old_phase u) phase t = refl

module _ {P : Type 0} where
  -- the state stays
  pub steps_context : (s : EndpointState P) (d : Context P) → Goes 0 s.context d → Steps s (with_context s d)
  steps_context s d g = subst (λ (n : ℕ). Goes n s.context d) (sym (ends_same s.state)) g

  pub steps_same : (s : EndpointState P) → Steps s s
  steps_same s = steps_context s s.context (goes_same s.context)

  -- there is a control block afterwards
  pub steps_opened : (st : State) (c : Context P) (phase : Phase) (t : Tcb) (d : Context P) → Goes 0 c d → StepsFrom st c (open_as phase t d)
  steps_opened st c phase t d g = subst (λ (n : ℕ). Goes n c d) (sym (ends_open st phase t)) g

  where_open_from : (row : Phase → Tcb → Context P → EndpointState P) (st : State) (c : Context P) → OpenSteps row
      → StepsFrom st c (where_open row (record { state = st; context = c }))
  where_open_from row Closed c h = goes_same c
  where_open_from row (CookieWait tag first t1) c h = goes_same c
  where_open_from row (Open phase t) c h = h phase t c

  pub steps_where_open : (row : Phase → Tcb → Context P → EndpointState P) (s : EndpointState P) → OpenSteps row → Steps s (where_open row s)
  steps_where_open row s h = where_open_from row s.state s.context h

  -- ---- shutdown and aborts

  pub goes_send_shutdown : (t : Tcb) (c : Context P) → Goes 0 c (send_shutdown t c)
  goes_send_shutdown t c = goes_emit_chunk (shutdown_chunk (tracker.wire_tsn t.tracker t.tracker.tracker.seen.front)) t c

  pub goes_send_shutdown_ack : (t : Tcb) (c : Context P) → Goes 0 c (send_shutdown_ack t c)
  goes_send_shutdown_ack t c = goes_emit_chunk shutdown_ack_chunk t c

  goes_pending : (b : Bool) (t : Tcb) (c : Context P) → Goes 0 c (pending_next b t c).context
  goes_pending true t c = goes_send_shutdown t c
  goes_pending false t c = goes_same c

  goes_received : (b : Bool) (t : Tcb) (c : Context P) → Goes 0 c (received_next b t c).context
  goes_received true t c = goes_send_shutdown_ack t c
  goes_received false t c = goes_same c

  pub goes_on : (phase : Phase) (t : Tcb) (c : Context P) → Goes 0 c (maybe_send_shutdown_or_ack phase t c).context
  goes_on (CookieEchoed t1 cookie) t c = goes_same c
  goes_on Established t c = goes_same c
  goes_on ShutdownPending t c = goes_pending (is_quiet t c) t c
  goes_on (ShutdownSent t2) t c = goes_same c
  goes_on ShutdownReceived t c = goes_received (is_quiet t c) t c
  goes_on (ShutdownAckSent t2) t c = goes_same c

  -- one ending, behind which what waits is given up
  pub goes_closed : (e : Event P) (c : Context P) → IsShort c.pack (most_bytes c) e → ending e ≡ 1 → Goes 1 c (close_with e c).context
  goes_closed e c short is =
      let d : Context P = ended e c in
      goes_last 1 c d (close_with e c).context (goes_said 1 c d e refl refl refl short is)
      (goes_by 0 d (close_with e c).context refl refl (emits_emptied d.pack (most_bytes d) c.options.avoid_stalls d.queue d.emitted))

  -- of an event that is no packet
  pub goes_aborted : (cause : CauseTree) (e : Event P) (t : Tcb) (c : Context P) → ((d : Context P) → IsShort d.pack (most_bytes d) e) → ending e ≡ 1
      → Goes 1 c (abort cause e t c).context
  goes_aborted cause e t c short is =
      let d : Context P = emit_chunk (abort_chunk false (cause ∷ [])) t c in
      goes_then 1 c d (close_with e d).context (goes_emit_chunk (abort_chunk false (cause ∷ [])) t c) (goes_closed e d (short d) is)

  steps_close_in : (st : State) (c : Context P) → StepsFrom st c (close_in st c)
  steps_close_in Closed c = goes_same c
  steps_close_in (CookieWait tag first t1) c = goes_closed OnClosed c tt refl
  steps_close_in (Open phase t) c = goes_aborted (user_initiated_abort (codes "Close called")) OnClosed t c (λ d. tt) refl

  pub steps_close : (s : EndpointState P) → Steps s (close s)
  steps_close s = steps_close_in s.state s.context

  -- ---- the call for a shutdown, and its chunks

  goes_shut : (phase : Phase) (t : Tcb) (c : Context P) → Goes 0 c (shutdown_in_phase phase t c).context
  goes_shut (CookieEchoed t1 cookie) t c = goes_pending (nothing_in_flight t.sender.outstanding.items) t c
  goes_shut Established t c = goes_on ShutdownPending t c
  goes_shut ShutdownPending t c = goes_same c
  goes_shut (ShutdownSent t2) t c = goes_same c
  goes_shut ShutdownReceived t c = goes_same c
  goes_shut (ShutdownAckSent t2) t c = goes_same c

  steps_shutdown_in : (st : State) (c : Context P) → StepsFrom st c (shutdown_in st c)
  steps_shutdown_in Closed c = goes_same c
  steps_shutdown_in (CookieWait tag first t1) c = goes_closed OnClosed c tt refl
  steps_shutdown_in (Open phase t) c = goes_shut phase t c

  pub steps_shutdown : (s : EndpointState P) → Steps s (shutdown s)
  steps_shutdown s = steps_shutdown_in s.state s.context

  pub steps_shut_by_peer : OpenSteps (on_shutdown {P = P})
  steps_shut_by_peer (CookieEchoed t1 cookie) t c = goes_same c
  steps_shut_by_peer Established t c = goes_on ShutdownReceived t c
  steps_shut_by_peer ShutdownPending t c = goes_on ShutdownReceived t c
  steps_shut_by_peer (ShutdownSent t2) t c = goes_send_shutdown_ack t c
  steps_shut_by_peer ShutdownReceived t c = goes_same c
  steps_shut_by_peer (ShutdownAckSent t2) t c = goes_send_shutdown_ack t c

  goes_completed : (t : Tcb) (c : Context P) → Goes 1 c (complete_shutdown t c).context
  goes_completed t c =
      let d : Context P = emit_chunk (shutdown_complete_chunk false) t c in
      goes_then 1 c d (close_with OnClosed d).context (goes_emit_chunk (shutdown_complete_chunk false) t c) (goes_closed OnClosed d tt refl)

  goes_out_of_the_blue : (tag : ℕ) (c : Context P) → Goes 0 c (out_of_the_blue tag c)
  goes_out_of_the_blue tag c =
      let p : PacketDraft = packet_to tag c.options.mtu in
      goes_emit (add (shutdown_complete_chunk true) p) c (small_add (most_bytes c) p (shutdown_complete_chunk true) (small_whole c p refl refl))

  steps_shutdown_ack_open : (tag : ℕ) → OpenSteps (on_shutdown_ack_open {P = P} tag)
  steps_shutdown_ack_open tag (CookieEchoed t1 cookie) t c = goes_out_of_the_blue tag c
  steps_shutdown_ack_open tag Established t c = goes_out_of_the_blue tag c
  steps_shutdown_ack_open tag ShutdownPending t c = goes_out_of_the_blue tag c
  steps_shutdown_ack_open tag (ShutdownSent t2) t c = goes_completed t c
  steps_shutdown_ack_open tag ShutdownReceived t c = goes_out_of_the_blue tag c
  steps_shutdown_ack_open tag (ShutdownAckSent t2) t c = goes_completed t c

  steps_shutdown_ack_in : (tag : ℕ) (st : State) (c : Context P) → StepsFrom st c (on_shutdown_ack_in tag st c)
  steps_shutdown_ack_in tag Closed c = goes_out_of_the_blue tag c
  steps_shutdown_ack_in tag (CookieWait my_tag first t1) c = goes_out_of_the_blue tag c
  steps_shutdown_ack_in tag (Open phase t) c = steps_shutdown_ack_open tag phase t c

  pub steps_shutdown_ack : (tag : ℕ) (s : EndpointState P) → Steps s (on_shutdown_ack tag s)
  steps_shutdown_ack tag s = steps_shutdown_ack_in tag s.state s.context

  pub steps_shutdown_complete : OpenSteps (on_shutdown_complete {P = P})
  steps_shutdown_complete (CookieEchoed t1 cookie) t c = goes_same c
  steps_shutdown_complete Established t c = goes_same c
  steps_shutdown_complete ShutdownPending t c = goes_same c
  steps_shutdown_complete (ShutdownSent t2) t c = goes_same c
  steps_shutdown_complete ShutdownReceived t c = goes_same c
  steps_shutdown_complete (ShutdownAckSent t2) t c = goes_closed OnClosed c tt refl

  pub goes_too_many : (t : Tcb) (c : Context P) → Goes 1 c (too_many t c).context
  goes_too_many t c =
      goes_aborted (user_initiated_abort (codes "Too many retransmissions")) (OnAborted TooManyRetries (codes "Too many retransmissions")) t c (λ d. tt) refl

  pub steps_abort_for_violation : (reason : List ℕ) → OpenSteps (λ phase t c. abort_for_violation {P = P} reason t c)
  steps_abort_for_violation reason phase t c = goes_aborted (protocol_violation reason) (OnAborted ProtocolViolation reason) t c (λ d. tt) refl

  steps_refused : (b : Bool) (causes : List CauseTree) (tag first : ℕ) (t1 : Timer) (c : Context P) → StepsFrom (CookieWait tag first t1) c (refused_if b causes (CookieWait tag first t1) c)
  steps_refused true causes tag first t1 c = goes_closed (OnAborted PeerReported (causes_text causes)) c tt refl
  steps_refused false causes tag first t1 c = goes_same c

  steps_aborted_in : (causes : List CauseTree) (st : State) (c : Context P) → StepsFrom st c (aborted_in causes st c)
  steps_aborted_in causes Closed c = goes_same c
  steps_aborted_in causes (CookieWait tag first t1) c = steps_refused c.options.avoid_stalls causes tag first t1 c
  steps_aborted_in causes (Open phase t) c = goes_closed (OnAborted PeerReported (causes_text causes)) c tt refl

  pub steps_aborted : (causes : List CauseTree) (s : EndpointState P) → Steps s (aborted causes s)
  steps_aborted causes s = steps_aborted_in causes s.state s.context

  pub steps_error : (causes : List CauseTree) → OpenSteps (on_error {P = P} causes)
  steps_error causes phase t c = goes_emit_error PeerReported (causes_text causes) c

  -- ---- data and forward points

  goes_no_data : (c : Context P) → Goes 0 c (no_data c)
  goes_no_data c = goes_emit_error ProtocolViolation (codes "Received DATA chunk with no user data") c

  goes_on_no_data : (tsn : ℕ) (st : State) (c : Context P) → Goes 0 c (on_no_data tsn st c)
  goes_on_no_data tsn Closed c = goes_no_data c
  goes_on_no_data tsn (CookieWait tag first t1) c = goes_no_data c
  goes_on_no_data tsn (Open phase t) c =
      let chunk : ChunkTree = error_chunk (no_user_data (record { 0 = tsn }) ∷ []) in
      goes_then 0 c (no_data c) (emit_chunk chunk t (no_data c)) (goes_no_data c) (goes_emit_chunk chunk t (no_data c))

  goes_not_connected : (c : Context P) → Goes 0 c (not_connected c)
  goes_not_connected c = goes_emit_error NotConnected (codes "Received unexpected commands on socket that is not connected") c

  steps_data_in : (st : State) (tsn : ℕ) (is_immediate : Bool) (f : FragmentTree) (c : Context P) → StepsFrom st c (on_data_in st tsn is_immediate f c)
  steps_data_in Closed tsn is_immediate f c = goes_not_connected c
  steps_data_in (CookieWait tag first t1) tsn is_immediate f c = goes_not_connected c
  steps_data_in (Open phase t) tsn is_immediate f c = goes_same c

  steps_data_if : (is_empty : Bool) (tsn : ℕ) (is_immediate : Bool) (f : FragmentTree) (s : EndpointState P) → Steps s (on_data_if is_empty tsn is_immediate f s)
  steps_data_if true tsn is_immediate f s = steps_context s (on_no_data tsn s.state s.context) (goes_on_no_data tsn s.state s.context)
  steps_data_if false tsn is_immediate f s = steps_data_in s.state tsn is_immediate f s.context

  pub steps_data : (tsn : ℕ) (is_immediate : Bool) (f : FragmentTree) (s : EndpointState P) → Steps s (on_data tsn is_immediate f s)
  steps_data tsn is_immediate f s = steps_data_if (length f.payload == 0) tsn is_immediate f s

  steps_forward_in : (st : State) (tsn : ℕ) (skipped : List SkippedStream) (c : Context P) → Goes (ends st (handle_forward_tsn_in st tsn skipped)) c c
  steps_forward_in Closed tsn skipped c = goes_same c
  steps_forward_in (CookieWait tag first t1) tsn skipped c = goes_same c
  steps_forward_in (Open phase t) tsn skipped c = goes_same c

  pub steps_forward : (tsn : ℕ) (skipped : List SkippedStream) (s : EndpointState P) → Steps s (on_forward tsn skipped s)
  steps_forward tsn skipped s = steps_forward_in s.state tsn skipped s.context

  -- ---- acknowledgements

  goes_send_after : (phase : Phase) (t : Tcb) (c : Context P) → Goes 0 c (send_after phase t c).context
  goes_send_after phase t c =
      let x = send_lost t c in
      goes_then 0 c x.context (send_after phase t c).context (goes_send_lost c t)
      (goes_send_with x.context (is_before_cookie_ack phase) (answer_packet phase x.context.options x.tcb) x.tcb (small_answer x.context phase x.tcb))

  goes_received_on : (t : Tcb) (o : PhaseStep P) → Goes 0 o.context (acks.send_after_sack t o).context
  goes_received_on t o = goes_send_after o.phase t o.context

  steps_received : (a : SackAnswer) (phase : Phase) (t : Tcb) (c : Context P) (old : Phase) (u : Tcb) → StepsFrom (Open old u) c (after_sack a phase t c)
  steps_received Invalid phase t c old u = goes_same c
  steps_received (Valid rtt is_progress) phase t c old u =
      let d : Context P = clear_errors_if is_progress c in
      let v : Tcb = sample_rtt rtt t in
      let o : PhaseStep P = maybe_send_shutdown_or_ack phase v d in
      goes_then 0 c d (acks.send_after_sack v o).context (goes_silent c d refl refl refl)
      (goes_then 0 d o.context (acks.send_after_sack v o).context (goes_on phase v d) (goes_received_on v o))

  steps_clean_sack : (n a_rwnd : ℕ) (blocks : List GapAckBlock) (phase : Phase) (t : Tcb) (c : Context P)
      → StepsFrom (Open phase t) c (on_clean_sack n a_rwnd blocks phase t c)
  steps_clean_sack n a_rwnd blocks phase t c =
      let valid : Bool = is_valid n blocks t.sender.outstanding.items in
      let d : Context P = record c { emitted = emitted_if valid n blocks t.sender c.emitted } in
      let u : Tcb = record t { sender = sender_if valid c.now n a_rwnd blocks t.sender c.emitted } in
      let a : SackAnswer = sampled_unless (is_late c.options n t.sender.outstanding.items) (answer_if valid c.now n blocks t.sender) in
      let s : EndpointState P = after_sack a phase u d in
      goes_then (ends (Open phase t) s.state) c d s.context (goes_by 0 c d refl refl (emits_sack c.pack (most_bytes c) valid n blocks t.sender c.emitted))
      (steps_received a phase u d phase t)

  goes_no_block : (c : Context P) → Goes 0 c (no_block c)
  goes_no_block c = goes_emit_error NotConnected (codes "No TCB") c

  steps_sack_in : (st : State) (k : SackTree) (c : Context P) → StepsFrom st c (on_sack_in st k c)
  steps_sack_in Closed k c = goes_no_block c
  steps_sack_in (CookieWait tag first t1) k c = goes_no_block c
  steps_sack_in (Open phase t) k c = steps_clean_sack (number_of t.sender.outstanding k.cumulative_tsn_ack) k.a_rwnd (clean_blocks k.gap_ack_blocks) phase t c

  pub steps_sack : (k : SackTree) (s : EndpointState P) → Steps s (on_sack k s)
  steps_sack k s = steps_sack_in s.state k s.context
