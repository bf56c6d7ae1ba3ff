-- The walk over the rows: shutdown, aborts, data, forward points and acknowledgements.
use Rattle.std.proofs.Common.{◌≡◌, ℕ, ◌<◌, ◌^◌, ◌==◌, Bool, true, false, Option, Some, None, List, [], ◌∷◌, ◌&&◌, length, codes, refl, sym, ap, subst}
use Rattle.std.specs.Str.{IsUtf8}
use Rattle.std.proofs.lemmas.Bool.{and_parts}
use Rattle.rand_core.specs.Stream.{Stream}
use Rattle.sctp_wire.specs.Cause.{CauseTree, no_user_data, user_initiated_abort, protocol_violation}
use Rattle.sctp_chunk.specs.declared.forward_tsn.SkippedStream.{SkippedStream}
use Rattle.sctp_packet.specs.Chunk.{ChunkTree, FragmentTree, SackTree, data_chunk, idata_chunk, forward_tsn_chunk, i_forward_tsn_chunk, sack_chunk, abort_chunk, error_chunk, shutdown_chunk, shutdown_ack_chunk, shutdown_complete_chunk}
use Rattle.sctp_state.specs.declared.api.ErrorKind.TheVariants.{TooManyRetries, PeerReported, ProtocolViolation, NotConnected}
use Rattle.sctp_state.specs.Options.{Options}
use Rattle.sctp_state.specs.Events.{Event, OnClosed, OnAborted}
use Rattle.sctp_state.specs.RetransmissionTimeout.{observe_rto}
use Rattle.sctp_tx_outstanding.specs.Sack.{is_valid}
use Rattle.sctp_rx.specs.DataTracker as tracker
use Rattle.sctp_rx.specs.ReassemblyQueue.{admits_fragment, admits_point}
use Rattle.sctp_tx.specs.RetransmissionQueue.{SackAnswer, Invalid, Valid, sender_if, emitted_if, answer_if, nothing_in_flight}
use Rattle.sctp_state.specs.Timer.{Timer}
use Rattle.spec_endpoint.specs.Association.{Tcb, Phase, CookieEchoed, Established, ShutdownPending, ShutdownSent, ShutdownReceived, ShutdownAckSent, State, Closed, CookieWait, Open, Context, EndpointState, where_open}
use Rattle.spec_endpoint.specs.Packets.{PacketDraft, packet_to, emit_chunk}
use Rattle.spec_endpoint.specs.Sending.{AfterSending, is_before_cookie_ack, send_lost, answer_packet}
use Rattle.spec_endpoint.specs.Shutdown.{t2_shutdown, close_with, send_shutdown, send_shutdown_ack, PhaseStep, is_quiet, pending_next, received_next, maybe_send_shutdown_or_ack, shutdown_in_phase, shutdown_in, shutdown, shut_by_peer, on_shutdown, complete_shutdown, out_of_the_blue, on_shutdown_ack_open, on_shutdown_ack_in, on_shutdown_ack, on_shutdown_complete, abort, close_in, close, too_many, abort_for_violation, causes_text, refused_if, aborted_in, aborted, on_error}
use Rattle.spec_endpoint.specs.Data.{no_data, on_no_data, not_connected, has_room, accepts_tsn, accepts_fragment, told_of_drop, take_fragment, fragment_if, on_data_in, on_data_if, on_data, accepts_point, handle_forward_tsn, handle_forward_tsn_if, handle_forward_tsn_in, on_forward}
use Rattle.spec_endpoint.specs.Sack.{clean_blocks, is_late, sampled_unless, sample_rtt, clear_errors_if, send_after, after_sack, no_block, on_sack_in, on_sack}
use Rattle.spec_endpoint.specs.Input.{misuse, violation}
use Rattle.spec_endpoint.specs.Laws.{Call, Shutdown, ending, is_closed}
use Rattle.proof_endpoint.specs.Fair.{IsFairCause}
use Rattle.proof_endpoint.specs.Acts.{always, EndWithPacket, idle, in_open, BringsChunk, Fitting, point_of, closes, shuts, shuts_on, takes_data, takes_idata, takes_forward, takes_iforward, takes_sack, samples, counts_errors, forces_ack, Preserves}
use Rattle.proof_endpoint.proofs.OwnChunksLemmas.{fair_user_abort, fair_abort, fair_error, fair_shutdown, fair_shutdown_ack, fair_complete}
use Rattle.proof_endpoint.proofs.PacketActsLemmas.{whole_addressed, does_plain, does_chunk, does_emit_error, does_send_lost, does_begin_answer, does_send_with}
use Rattle.proof_endpoint.proofs.BundledLemmas.{answer_more}

-- an end with this endpoint state and this random stream, and nothing begun
abbrev pub placed : {P : Type 0} → EndpointState P → Stream → EndWithPacket P
placed s w = idle s.state s.context w

-- a row for states with a control block
abbrev pub OpenActs : {P : Type 0} → (EndWithPacket P → EndWithPacket P → Type 0) → Stream → (Phase → Tcb → Context P → EndpointState P) → Type 0
OpenActs {P} R w row = (phase : Phase) (t : Tcb) (c : Context P) → R (idle (Open phase t) c w) (placed (row phase t c) w)

module _ {P : Type 0} {call : Call} {R : EndWithPacket P → EndWithPacket P → Type 0} (k : Preserves call R) (w : Stream) where
  does_where_open_from : (row : Phase → Tcb → Context P → EndpointState P) (s : State) (c : Context P) → OpenActs R w row
      → R (idle s c w) (placed (where_open row (record { state = s; context = c })) w)
  does_where_open_from row Closed c h = k.same (idle Closed c w)
  does_where_open_from row (CookieWait tag first t1) c h = k.same (idle (CookieWait tag first t1) c w)
  does_where_open_from row (Open phase t) c h = h phase t c

  pub does_where_open : (row : Phase → Tcb → Context P → EndpointState P) (s : EndpointState P) → OpenActs R w row → R (placed s w) (placed (where_open row s) w)
  does_where_open row s h = does_where_open_from row s.state s.context h

  -- ---- shutdown and aborts

  pub does_send_shutdown : (phase : Phase) (t : Tcb) (c : Context P) → R (idle (Open phase t) c w) (idle (Open phase t) (send_shutdown t c) w)
  does_send_shutdown phase t c =
      does_chunk k (shutdown_chunk (tracker.wire_tsn t.tracker t.tracker.tracker.seen.front)) phase t c w refl (λ f. fair_shutdown t)

  pub does_send_shutdown_ack : (phase : Phase) (t : Tcb) (c : Context P) → R (idle (Open phase t) c w) (idle (Open phase t) (send_shutdown_ack t c) w)
  does_send_shutdown_ack phase t c = does_chunk k shutdown_ack_chunk phase t c w refl (λ f. fair_shutdown_ack)

  -- to another phase of a shutdown
  pub does_shut_on : (phase next : Phase) (t : Tcb) (c : Context P) → is_before_cookie_ack phase ≡ false → is_before_cookie_ack next ≡ false
      → R (idle (Open phase t) c w) (idle (Open next t) c w)
  does_shut_on phase next t c late later = k.closing (shuts_on phase next t (idle (Open phase t) c w) late later)

  does_pending : (b : Bool) (t : Tcb) (c : Context P)
      → R (idle (Open ShutdownPending t) c w) (idle (Open (pending_next b t c).phase t) (pending_next b t c).context w)
  does_pending true t c =
      k.through (does_shut_on ShutdownPending (ShutdownSent (t2_shutdown t c)) t c refl refl) (does_send_shutdown (ShutdownSent (t2_shutdown t c)) t c)
  does_pending false t c = k.same (idle (Open ShutdownPending t) c w)

  does_received : (b : Bool) (t : Tcb) (c : Context P)
      → R (idle (Open ShutdownReceived t) c w) (idle (Open (received_next b t c).phase t) (received_next b t c).context w)
  does_received true t c =
      k.through (does_shut_on ShutdownReceived (ShutdownAckSent (t2_shutdown t c)) t c refl refl) (does_send_shutdown_ack (ShutdownAckSent (t2_shutdown t c)) t c)
  does_received false t c = k.same (idle (Open ShutdownReceived t) c w)

  pub does_on : (phase : Phase) (t : Tcb) (c : Context P) → R (idle (Open phase t) c w) (idle (Open (maybe_send_shutdown_or_ack phase t c).phase t) (maybe_send_shutdown_or_ack phase t c).context w)
  does_on (CookieEchoed t1 cookie) t c = k.same (idle (Open (CookieEchoed t1 cookie) t) c w)
  does_on Established t c = k.same (idle (Open Established t) c w)
  does_on ShutdownPending t c = does_pending (is_quiet t c) t c
  does_on (ShutdownSent t2) t c = k.same (idle (Open (ShutdownSent t2) t) c w)
  does_on ShutdownReceived t c = does_received (is_quiet t c) t c
  does_on (ShutdownAckSent t2) t c = k.same (idle (Open (ShutdownAckSent t2) t) c w)

  -- the association is over
  pub does_closed : (e : Event P) (s : State) (c : Context P) → is_closed s ≡ false → ending e ≡ 1 → R (idle s c w) (placed (close_with e c) w)
  does_closed e s c there is = k.closing (closes e (idle s c w) there is)

  does_aborted : (cause : CauseTree) (e : Event P) (phase : Phase) (t : Tcb) (c : Context P) → ending e ≡ 1 → IsFairCause cause
      → R (idle (Open phase t) c w) (placed (abort cause e t c) w)
  does_aborted cause e phase t c is fair =
      k.through (does_chunk k (abort_chunk false (cause ∷ [])) phase t c w refl (λ f. fair_abort cause fair))
      (does_closed e (Open phase t) (emit_chunk (abort_chunk false (cause ∷ [])) t c) refl is)

  does_close_in : (s : State) (c : Context P) → R (idle s c w) (placed (close_in s c) w)
  does_close_in Closed c = k.same (idle Closed c w)
  does_close_in (CookieWait tag first t1) c = does_closed OnClosed (CookieWait tag first t1) c refl refl
  does_close_in (Open phase t) c = does_aborted (user_initiated_abort (codes "Close called")) OnClosed phase t c refl (fair_user_abort (codes "Close called") refl)

  pub does_close : (s : EndpointState P) → R (placed s w) (placed (close s) w)
  does_close s = does_close_in s.state s.context

  -- ---- the call for a shutdown, and its chunks

  does_shut : (phase : Phase) (t : Tcb) (c : Context P) → call ≡ Shutdown
      → R (idle (Open phase t) c w) (idle (Open (shutdown_in_phase phase t c).phase t) (shutdown_in_phase phase t c).context w)
  does_shut (CookieEchoed t1 cookie) t c is =
      k.through (k.closing (shuts (CookieEchoed t1 cookie) t (idle (Open (CookieEchoed t1 cookie) t) c w) is refl)) (does_pending (nothing_in_flight t.sender.outstanding.items) t c)
  does_shut Established t c is =
      k.through (k.closing (shuts Established t (idle (Open Established t) c w) is refl)) (does_on ShutdownPending t c)
  does_shut ShutdownPending t c is = k.same (idle (Open ShutdownPending t) c w)
  does_shut (ShutdownSent t2) t c is = k.same (idle (Open (ShutdownSent t2) t) c w)
  does_shut ShutdownReceived t c is = k.same (idle (Open ShutdownReceived t) c w)
  does_shut (ShutdownAckSent t2) t c is = k.same (idle (Open (ShutdownAckSent t2) t) c w)

  does_shutdown_in : (s : State) (c : Context P) → call ≡ Shutdown → R (idle s c w) (placed (shutdown_in s c) w)
  does_shutdown_in Closed c is = k.same (idle Closed c w)
  does_shutdown_in (CookieWait tag first t1) c is = does_closed OnClosed (CookieWait tag first t1) c refl refl
  does_shutdown_in (Open phase t) c is = does_shut phase t c is

  pub does_shutdown : (s : EndpointState P) → call ≡ Shutdown → R (placed s w) (placed (shutdown s) w)
  does_shutdown s is = does_shutdown_in s.state s.context is

  pub does_shut_by_peer : OpenActs R w on_shutdown
  does_shut_by_peer (CookieEchoed t1 cookie) t c = k.same (idle (Open (CookieEchoed t1 cookie) t) c w)
  does_shut_by_peer Established t c = k.through (does_shut_on Established ShutdownReceived t c refl refl) (does_on ShutdownReceived t c)
  does_shut_by_peer ShutdownPending t c = k.through (does_shut_on ShutdownPending ShutdownReceived t c refl refl) (does_on ShutdownReceived t c)
  does_shut_by_peer (ShutdownSent t2) t c =
      let next : Phase = (shut_by_peer (ShutdownSent t2) t c).phase in
      k.through (does_shut_on (ShutdownSent t2) next t c refl refl) (does_send_shutdown_ack next t c)
  does_shut_by_peer ShutdownReceived t c = k.same (idle (Open ShutdownReceived t) c w)
  does_shut_by_peer (ShutdownAckSent t2) t c =
      let next : Phase = (shut_by_peer (ShutdownAckSent t2) t c).phase in
      k.through (does_shut_on (ShutdownAckSent t2) next t c refl refl) (does_send_shutdown_ack next t c)

  does_completed : (phase : Phase) (t : Tcb) (c : Context P) → R (idle (Open phase t) c w) (placed (complete_shutdown t c) w)
  does_completed phase t c =
      k.through (does_chunk k (shutdown_complete_chunk false) phase t c w refl (λ f. fair_complete false))
      (does_closed OnClosed (Open phase t) (emit_chunk (shutdown_complete_chunk false) t c) refl refl)

  module _ (tag : ℕ) (h : BringsChunk call tag shutdown_ack_chunk) where
    does_out_of_the_blue : (s : State) (c : Context P) → R (idle s c w) (idle s (out_of_the_blue tag c) w)
    does_out_of_the_blue s c =
        let p : PacketDraft = packet_to tag c.options.mtu in
        does_plain k (shutdown_complete_chunk true) p s c w refl refl (always refl)
        (whole_addressed s c w p refl (λ f held. (f.chunks tag shutdown_ack_chunk h).0)) (λ f. fair_complete true)

    does_shutdown_ack_open : OpenActs R w (on_shutdown_ack_open tag)
    does_shutdown_ack_open (CookieEchoed t1 cookie) t c = does_out_of_the_blue (Open (CookieEchoed t1 cookie) t) c
    does_shutdown_ack_open Established t c = does_out_of_the_blue (Open Established t) c
    does_shutdown_ack_open ShutdownPending t c = does_out_of_the_blue (Open ShutdownPending t) c
    does_shutdown_ack_open (ShutdownSent t2) t c = does_completed (ShutdownSent t2) t c
    does_shutdown_ack_open ShutdownReceived t c = does_out_of_the_blue (Open ShutdownReceived t) c
    does_shutdown_ack_open (ShutdownAckSent t2) t c = does_completed (ShutdownAckSent t2) t c

    does_shutdown_ack_in : (s : State) (c : Context P) → R (idle s c w) (placed (on_shutdown_ack_in tag s c) w)
    does_shutdown_ack_in Closed c = does_out_of_the_blue Closed c
    does_shutdown_ack_in (CookieWait my_tag first t1) c = does_out_of_the_blue (CookieWait my_tag first t1) c
    does_shutdown_ack_in (Open phase t) c = does_shutdown_ack_open phase t c

    pub does_shutdown_ack : (s : EndpointState P) → R (placed s w) (placed (on_shutdown_ack tag s) w)
    does_shutdown_ack s = does_shutdown_ack_in s.state s.context

  pub does_shutdown_complete : OpenActs R w on_shutdown_complete
  does_shutdown_complete (CookieEchoed t1 cookie) t c = k.same (idle (Open (CookieEchoed t1 cookie) t) c w)
  does_shutdown_complete Established t c = k.same (idle (Open Established t) c w)
  does_shutdown_complete ShutdownPending t c = k.same (idle (Open ShutdownPending t) c w)
  does_shutdown_complete (ShutdownSent t2) t c = k.same (idle (Open (ShutdownSent t2) t) c w)
  does_shutdown_complete ShutdownReceived t c = k.same (idle (Open ShutdownReceived t) c w)
  does_shutdown_complete (ShutdownAckSent t2) t c = does_closed OnClosed (Open (ShutdownAckSent t2) t) c refl refl

  pub does_too_many : OpenActs R w (λ phase t c. too_many t c)
  does_too_many phase t c =
      does_aborted (user_initiated_abort (codes "Too many retransmissions")) (OnAborted TooManyRetries (codes "Too many retransmissions")) phase t c refl
      (fair_user_abort (codes "Too many retransmissions") refl)

  pub does_abort_for_violation : (reason : List ℕ) → IsUtf8 reason → OpenActs R w (λ phase t c. abort_for_violation reason t c)
  does_abort_for_violation reason text phase t c =
      does_aborted (protocol_violation reason) (OnAborted ProtocolViolation reason) phase t c refl (record { fits = tt; text = text; of_its_variant = tt })

  does_refused : (b : Bool) (causes : List CauseTree) (tag first : ℕ) (t1 : Timer) (c : Context P)
      → R (idle (CookieWait tag first t1) c w) (placed (refused_if b causes (CookieWait tag first t1) c) w)
  does_refused true causes tag first t1 c = does_closed (OnAborted PeerReported (causes_text causes)) (CookieWait tag first t1) c refl refl
  does_refused false causes tag first t1 c = k.same (idle (CookieWait tag first t1) c w)

  does_aborted_in : (causes : List CauseTree) (s : State) (c : Context P) → R (idle s c w) (placed (aborted_in causes s c) w)
  does_aborted_in causes Closed c = k.same (idle Closed c w)
  does_aborted_in causes (CookieWait tag first t1) c = does_refused c.options.avoid_stalls causes tag first t1 c
  does_aborted_in causes (Open phase t) c = does_closed (OnAborted PeerReported (causes_text causes)) (Open phase t) c refl refl

  pub does_abort : (causes : List CauseTree) (s : EndpointState P) → R (placed s w) (placed (aborted causes s) w)
  does_abort causes s = does_aborted_in causes s.state s.context

  pub does_error : (causes : List CauseTree) → OpenActs R w (on_error causes)
  does_error causes phase t c = does_emit_error k PeerReported (causes_text causes) (Open phase t) c w

  -- ---- data

  does_no_data : (s : State) (c : Context P) → R (idle s c w) (idle s (no_data c) w)
  does_no_data s c = does_emit_error k ProtocolViolation (codes "Received DATA chunk with no user data") s c w

  does_on_no_data : (tsn : ℕ) (s : State) (c : Context P) → (Fitting call → tsn < 2 ^ 32) → R (idle s c w) (idle s (on_no_data tsn s c) w)
  does_on_no_data tsn Closed c small = does_no_data Closed c
  does_on_no_data tsn (CookieWait tag first t1) c small = does_no_data (CookieWait tag first t1) c
  does_on_no_data tsn (Open phase t) c small =
      let cause : CauseTree = no_user_data (record { 0 = tsn }) in
      k.through (does_no_data (Open phase t) c)
      (does_chunk k (error_chunk (cause ∷ [])) phase t (no_data c) w refl (λ f. fair_error cause (record { fits = small f; text = tt; of_its_variant = tt })))

  does_not_connected : (s : State) (c : Context P) → R (idle s c w) (idle s (not_connected c) w)
  does_not_connected s c = does_emit_error k NotConnected (codes "Received unexpected commands on socket that is not connected") s c w

  -- a fragment that came in such a chunk may be taken
  abbrev pub MayTake : (chunk : ChunkTree) (tsn : ℕ) (is_immediate : Bool) (f : FragmentTree) → Type 0
  MayTake chunk tsn is_immediate f =
      (phase : Phase) (t : Tcb) (m : EndWithPacket P) → misuse t.capabilities chunk ≡ None → (length f.payload == 0) ≡ false → accepts_tsn m.context.options tsn t ≡ true
      → R (in_open phase t m) (in_open phase (take_fragment tsn is_immediate f t) m)

  does_taken_if : (chunk : ChunkTree) (tsn : ℕ) (is_immediate : Bool) (f : FragmentTree) → MayTake chunk tsn is_immediate f → (b : Bool) (phase : Phase) (t : Tcb)
      (c : Context P) → misuse t.capabilities chunk ≡ None → (length f.payload == 0) ≡ false → accepts_fragment c.options tsn f t ≡ b
      → R (idle (Open phase t) c w) (idle (Open phase (fragment_if b tsn is_immediate f t)) c w)
  does_taken_if chunk tsn is_immediate f may true phase t c right some is =
      may phase t (idle (Open phase t) c w) right some (and_parts (accepts_tsn c.options tsn t) (admits_fragment tsn f.stream_id t.reassembly) is).0
  does_taken_if chunk tsn is_immediate f may false phase t c right some is = k.same (idle (Open phase t) c w)

  does_told_of_drop : (b : Bool) (phase : Phase) (t : Tcb) (c : Context P) → R (idle (Open phase t) c w) (idle (Open phase (told_of_drop b false t)) c w)
  does_told_of_drop true phase t c = k.sending (forces_ack phase t (idle (Open phase t) c w))
  does_told_of_drop false phase t c = k.same (idle (Open phase t) c w)

  told_of_none : (b : Bool) (t : Tcb) → told_of_drop b true t ≡ t
  told_of_none true t = refl
  told_of_none false t = refl

  -- by whether there is room
  abbrev takes_by : (has_room : Bool) → (tsn : ℕ) → FragmentTree → Tcb → Bool
  takes_by room tsn f t = (room && tracker.is_valid t.tracker.tracker (tracker.number_of t.tracker tsn)) && admits_fragment tsn f.stream_id t.reassembly

  abbrev data_by : (has_room : Bool) → Options → (tsn : ℕ) → (is_immediate : Bool) → FragmentTree → Tcb → Tcb
  data_by room o tsn is_immediate f t =
      fragment_if (takes_by room tsn f t) tsn is_immediate f (told_of_drop o.avoid_stalls room t)

  does_take_data : (chunk : ChunkTree) (tsn : ℕ) (is_immediate : Bool) (f : FragmentTree) → MayTake chunk tsn is_immediate f → (room : Bool) (phase : Phase) (t : Tcb)
      (c : Context P) → misuse t.capabilities chunk ≡ None → (length f.payload == 0) ≡ false → has_room c.options tsn t ≡ room
      → R (idle (Open phase t) c w) (idle (Open phase (data_by room c.options tsn is_immediate f t)) c w)
  does_take_data chunk tsn is_immediate f may false phase t c right some is = does_told_of_drop c.options.avoid_stalls phase t c
  does_take_data chunk tsn is_immediate f may true phase t c right some is =
      let takes : Bool = takes_by true tsn f t in
      subst (λ (u : Tcb). R (idle (Open phase t) c w) (idle (Open phase (fragment_if takes tsn is_immediate f u)) c w)) (sym (told_of_none c.options.avoid_stalls t))
      (does_taken_if chunk tsn is_immediate f may takes phase t c right some (ap (λ (r : Bool). takes_by r tsn f t) is))

  does_data_in : (chunk : ChunkTree) (tsn : ℕ) (is_immediate : Bool) (f : FragmentTree) → MayTake chunk tsn is_immediate f → (s : State) (c : Context P)
      → violation s chunk ≡ None → (length f.payload == 0) ≡ false → R (idle s c w) (placed (on_data_in s tsn is_immediate f c) w)
  does_data_in chunk tsn is_immediate f may Closed c right some = does_not_connected Closed c
  does_data_in chunk tsn is_immediate f may (CookieWait tag first t1) c right some = does_not_connected (CookieWait tag first t1) c
  does_data_in chunk tsn is_immediate f may (Open phase t) c right some = does_take_data chunk tsn is_immediate f may (has_room c.options tsn t) phase t c right some refl

  does_data_if : (chunk : ChunkTree) (tsn : ℕ) (is_immediate : Bool) (f : FragmentTree) → MayTake chunk tsn is_immediate f → (b : Bool) (s : EndpointState P)
      → (Fitting call → tsn < 2 ^ 32) → violation s.state chunk ≡ None → (length f.payload == 0) ≡ b → R (placed s w) (placed (on_data_if b tsn is_immediate f s) w)
  does_data_if chunk tsn is_immediate f may true s small right is = does_on_no_data tsn s.state s.context small
  does_data_if chunk tsn is_immediate f may false s small right is = does_data_in chunk tsn is_immediate f may s.state s.context right is

  pub does_data_chunk : (tag tsn : ℕ) (is_immediate : Bool) (f : FragmentTree) (s : EndpointState P) → BringsChunk call tag (data_chunk tsn is_immediate f)
      → violation s.state (data_chunk tsn is_immediate f) ≡ None → R (placed s w) (placed (on_data tsn is_immediate f s) w)
  does_data_chunk tag tsn is_immediate f s h right =
      does_data_if (data_chunk tsn is_immediate f) tsn is_immediate f
      (λ phase t m fine some is. k.data_acts (takes_data tag tsn is_immediate f phase t m h fine some is)) (length f.payload == 0) s
      (λ g. (g.chunks tag (data_chunk tsn is_immediate f) h).1) right refl

  pub does_idata_chunk : (tag tsn : ℕ) (is_immediate : Bool) (f : FragmentTree) (s : EndpointState P) → BringsChunk call tag (idata_chunk tsn is_immediate f)
      → violation s.state (idata_chunk tsn is_immediate f) ≡ None → R (placed s w) (placed (on_data tsn is_immediate f s) w)
  does_idata_chunk tag tsn is_immediate f s h right =
      does_data_if (idata_chunk tsn is_immediate f) tsn is_immediate f
      (λ phase t m fine some is. k.data_acts (takes_idata tag tsn is_immediate f phase t m h fine some is)) (length f.payload == 0) s
      (λ g. (g.chunks tag (idata_chunk tsn is_immediate f) h).1) right refl

  -- ---- forward points

  abbrev pub MayForward : (chunk : ChunkTree) (tsn : ℕ) (skipped : List SkippedStream) → Type 0
  MayForward chunk tsn skipped =
      (phase : Phase) (t : Tcb) (m : EndWithPacket P) → misuse t.capabilities chunk ≡ None → tracker.is_valid t.tracker.tracker (tracker.number_of t.tracker tsn) ≡ true
      → R (in_open phase t m) (in_open phase (handle_forward_tsn tsn skipped t) m)

  does_forwarded_if : (chunk : ChunkTree) (tsn : ℕ) (skipped : List SkippedStream) → MayForward chunk tsn skipped → (b : Bool) (phase : Phase) (t : Tcb)
      (c : Context P) → misuse t.capabilities chunk ≡ None → accepts_point tsn skipped t ≡ b
      → R (idle (Open phase t) c w) (idle (Open phase (handle_forward_tsn_if b tsn skipped t)) c w)
  does_forwarded_if chunk tsn skipped may true phase t c right is =
      may phase t (idle (Open phase t) c w) right (and_parts (tracker.is_valid t.tracker.tracker (tracker.number_of t.tracker tsn)) (admits_point tsn skipped t.reassembly) is).0
  does_forwarded_if chunk tsn skipped may false phase t c right is = k.same (idle (Open phase t) c w)

  does_forward_in : (chunk : ChunkTree) (tsn : ℕ) (skipped : List SkippedStream) → MayForward chunk tsn skipped → (s : State) (c : Context P)
      → violation s chunk ≡ None → R (idle s c w) (idle (handle_forward_tsn_in s tsn skipped) c w)
  does_forward_in chunk tsn skipped may Closed c right = k.same (idle Closed c w)
  does_forward_in chunk tsn skipped may (CookieWait tag first t1) c right = k.same (idle (CookieWait tag first t1) c w)
  does_forward_in chunk tsn skipped may (Open phase t) c right =
      does_forwarded_if chunk tsn skipped may (accepts_point tsn skipped t) phase t c right refl

  pub does_forward_chunk : (tag tsn : ℕ) (skipped : List SkippedStream) (s : EndpointState P) → BringsChunk call tag (forward_tsn_chunk tsn skipped)
      → violation s.state (forward_tsn_chunk tsn skipped) ≡ None → R (placed s w) (placed (on_forward tsn skipped s) w)
  does_forward_chunk tag tsn skipped s h right =
      does_forward_in (forward_tsn_chunk tsn skipped) tsn skipped (λ phase t m fine is. k.data_acts (takes_forward tag tsn skipped phase t m h fine is)) s.state
      s.context right

  pub does_iforward_chunk : (tag tsn : ℕ) (skipped : List SkippedStream) (s : EndpointState P) → BringsChunk call tag (i_forward_tsn_chunk tsn skipped)
      → violation s.state (i_forward_tsn_chunk tsn skipped) ≡ None → R (placed s w) (placed (on_forward tsn skipped s) w)
  does_iforward_chunk tag tsn skipped s h right =
      does_forward_in (i_forward_tsn_chunk tsn skipped) tsn skipped (λ phase t m fine is. k.data_acts (takes_iforward tag tsn skipped phase t m h fine is)) s.state
      s.context right

  -- ---- acknowledgements

  does_send_after : (phase : Phase) (t : Tcb) (c : Context P)
      → R (idle (Open phase t) c w) (idle (Open phase (send_after phase t c).tcb) (send_after phase t c).context w)
  does_send_after phase t c =
      let x : AfterSending P = send_lost t c in
      let p : PacketDraft = answer_packet phase x.context.options x.tcb in
      k.through (does_send_lost k phase w t c)
      (k.through (does_begin_answer k w phase x.tcb x.context)
      (does_send_with k phase w (is_before_cookie_ack phase) p x.tcb x.context (answer_more phase x.context.options x.tcb)))

  does_sampled : (o : Option ℕ) (phase : Phase) (t : Tcb) (c : Context P) → R (idle (Open phase t) c w) (idle (Open phase (sample_rtt o t)) c w)
  does_sampled None phase t c = k.same (idle (Open phase t) c w)
  does_sampled (Some sample) phase t c = k.acknowledging (samples (observe_rto sample t.rtt) phase t (idle (Open phase t) c w))

  does_answered : (is_progress : Bool) (s : State) (c : Context P) → R (idle s c w) (idle s (clear_errors_if is_progress c) w)
  does_answered is_progress s c = k.acknowledging (counts_errors (clear_errors_if is_progress c).errors (idle s c w))

  does_receive : (a : SackAnswer) → OpenActs R w (after_sack a)
  does_receive Invalid phase t c = k.same (idle (Open phase t) c w)
  does_receive (Valid rtt is_progress) phase t c =
      let d : Context P = clear_errors_if is_progress c in
      let u : Tcb = sample_rtt rtt t in
      let o : PhaseStep P = maybe_send_shutdown_or_ack phase u d in
      k.through (does_sampled rtt phase t c)
      (k.through (does_answered is_progress (Open phase u) c) (k.through (does_on phase u d) (does_send_after o.phase u o.context)))

  does_sack_if : (late b : Bool) (tag : ℕ) (a : SackTree) (phase : Phase) (t : Tcb) (c : Context P) → BringsChunk call tag (sack_chunk a)
      → is_valid (point_of a t) (clean_blocks a.gap_ack_blocks) t.sender.outstanding.items ≡ b
      → R (idle (Open phase t) c w) (placed (after_sack (sampled_unless late (answer_if b c.now (point_of a t) (clean_blocks a.gap_ack_blocks) t.sender)) phase
      (record t { sender = sender_if b c.now (point_of a t) a.a_rwnd (clean_blocks a.gap_ack_blocks) t.sender c.emitted })
      (record c { emitted = emitted_if b (point_of a t) (clean_blocks a.gap_ack_blocks) t.sender c.emitted })) w)
  does_sack_if late true tag a phase t c h is =
      k.through (k.acknowledging (takes_sack tag a phase t (idle (Open phase t) c w) h is))
      (does_receive (sampled_unless late (answer_if true c.now (point_of a t) (clean_blocks a.gap_ack_blocks) t.sender)) phase
      (record t { sender = sender_if true c.now (point_of a t) a.a_rwnd (clean_blocks a.gap_ack_blocks) t.sender c.emitted })
      (record c { emitted = emitted_if true (point_of a t) (clean_blocks a.gap_ack_blocks) t.sender c.emitted }))
  does_sack_if late false tag a phase t c h is = does_receive (sampled_unless late Invalid) phase t c

  does_no_block : (s : State) (c : Context P) → R (idle s c w) (idle s (no_block c) w)
  does_no_block s c = does_emit_error k NotConnected (codes "No TCB") s c w

  does_sack_in : (s : State) (tag : ℕ) (a : SackTree) (c : Context P) → BringsChunk call tag (sack_chunk a) → R (idle s c w) (placed (on_sack_in s a c) w)
  does_sack_in Closed tag a c h = does_no_block Closed c
  does_sack_in (CookieWait my_tag first t1) tag a c h = does_no_block (CookieWait my_tag first t1) c
  does_sack_in (Open phase t) tag a c h =
      does_sack_if (is_late c.options (point_of a t) t.sender.outstanding.items) (is_valid (point_of a t) (clean_blocks a.gap_ack_blocks) t.sender.outstanding.items) tag a phase t c h refl

  pub does_sack : (tag : ℕ) (a : SackTree) (s : EndpointState P) → BringsChunk call tag (sack_chunk a) → R (placed s w) (placed (on_sack a s) w)
  does_sack tag a s h = does_sack_in s.state tag a s.context h
