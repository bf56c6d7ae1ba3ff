-- The walk over the rows: packets that come, and the whole. What each act preserves, each call preserves.
use Rattle.std.proofs.Common.{◌≡◌, ℕ, ◌==◌, Bool, true, false, Option, Some, None, List, [], ◌∷◌, ◌++◌, length, codes, refl, sym, ◌∙◌, append_assoc}
use Rattle.rand_core.specs.Stream.{Stream}
use Rattle.sctp_wire.specs.Parameter.{ParameterTree}
use Rattle.sctp_wire.specs.Cause.{unrecognized_chunk}
use Rattle.sctp_packet.specs.Chunk.{ChunkTree, data_chunk, init_chunk, init_ack_chunk, sack_chunk, heartbeat_request_chunk, heartbeat_ack_chunk, abort_chunk, shutdown_chunk, shutdown_ack_chunk, error_chunk, cookie_echo_chunk, cookie_ack_chunk, shutdown_complete_chunk, idata_chunk, re_config_chunk, forward_tsn_chunk, i_forward_tsn_chunk, unknown_chunk}
use Rattle.sctp_packet.specs.ChunkText.{chunk_text}
use Rattle.sctp_packet.specs.Packet.{PacketTree}
use Rattle.sctp_state.specs.declared.api.ErrorKind.TheVariants.{ParseFailed}
use Rattle.sctp_rx.specs.DataTracker.{is_ack_due}
use Rattle.spec_endpoint.specs.Association.{Tcb, Phase, CookieEchoed, Established, ShutdownPending, ShutdownSent, ShutdownReceived, ShutdownAckSent, State, Closed, CookieWait, Open, Context, EndpointState, Endpoint, in_context}
use Rattle.spec_endpoint.specs.Heartbeats.{info_in, clear_if_last, is_last_info, no_info, ack_by_length, on_heartbeat_info, on_heartbeat_ack}
use Rattle.spec_endpoint.specs.Packets.{PacketDraft, add}
use Rattle.spec_endpoint.specs.Sending.{take_due_ack, without_duplicates, selective_ack, is_before_cookie_ack, answer_packet}
use Rattle.spec_endpoint.specs.Shutdown.{abort_for_violation, on_error, on_shutdown, on_shutdown_complete}
use Rattle.spec_endpoint.specs.Opening.{on_cookie_ack}
use Rattle.spec_endpoint.specs.StreamReset.{on_reconfig}
use Rattle.spec_endpoint.specs.Input.{packet_refusal, is_reported, unrecognized_chunk_error, report_unrecognized_in, emit_unknown_chunk_error, on_unknown_if, on_heartbeat, AfterChunk, in_endpoint_state, on_chunk, violation, received_unless, receive, receive_rest, receive_all, has_data_chunk, repeats, repeats_if, ack_if_due, at_end, on_packet_end, on_accepted_packet, count_packet_at as counts_row, packet_unless, on_packet, on_no_packet, packet_acked, shut_waiting, shut_if}
use Rattle.spec_endpoint.specs.Laws.{Call, Connect, Close, Shutdown, Send, SendMany, ResetStreams, TakeMessage, SetLowThreshold, SetPriority, SetMaxMessageSize, Advance, HandOver, Restore, ReceivePacket as Given, ReceiveNoPacket, called}
use Rattle.proof_endpoint.specs.Acts.{EndWithPacket, at, idle, calm, BringsChunk, counts, asks, adds_ack, beats, counts_errors, shuts_on, ends_packet, Preserves}
use Rattle.proof_endpoint.proofs.BundledLemmas.{added_more, answer_more}
use Rattle.proof_endpoint.proofs.OwnChunksLemmas.{fair_error, reason_is_text}
use Rattle.proof_endpoint.proofs.PacketActsLemmas.{does_chunk, does_emit_error, does_send_with, does_begin_answer}
use Rattle.proof_endpoint.proofs.RowActsLemmas.{placed, OpenActs, does_where_open, does_send_shutdown, does_close, does_shutdown, does_shut_by_peer, does_shutdown_ack, does_shutdown_complete, does_abort_for_violation, does_abort, does_error, does_data_chunk, does_idata_chunk, does_forward_chunk, does_iforward_chunk, does_sack, does_on}
use Rattle.proof_endpoint.proofs.OpeningActsLemmas.{does_connect, does_init, does_init_ack, does_cookie_ack, does_cookie_echo}
use Rattle.proof_endpoint.proofs.TimeActsLemmas.{does_advance}
use Rattle.proof_endpoint.proofs.CallActsLemmas.{does_send, does_send_many, does_low_threshold, does_priority, does_max_message_size, does_take_message, does_reconfig, does_reset_streams, does_hand_over, does_restore}

module _ {P : Type 0} {call : Call} {R : EndWithPacket P → EndWithPacket P → Type 0} (k : Preserves call R) where
  -- ---- one chunk

  does_echoed_in : (s : State) (typ flags : ℕ) (value : List ℕ) (c : Context P) (w : Stream) → R (idle s c w) (idle s (report_unrecognized_in s typ flags value c) w)
  does_echoed_in Closed typ flags value c w = k.same (idle Closed c w)
  does_echoed_in (CookieWait tag first t1) typ flags value c w = k.same (idle (CookieWait tag first t1) c w)
  does_echoed_in (Open phase t) typ flags value c w =
      does_chunk k (unrecognized_chunk_error c.options.mtu typ flags value) phase t c w refl
      (λ f. fair_error (unrecognized_chunk _) (record { fits = tt; text = tt; of_its_variant = tt }))

  does_unknown_if : (b : Bool) (typ flags : ℕ) (value : List ℕ) (s : EndpointState P) (w : Stream)
      → R (placed s w) (placed (on_unknown_if b typ flags value s) w)
  does_unknown_if true typ flags value s w =
      k.through (does_emit_error k ParseFailed (codes "Received " ++ (chunk_text (unknown_chunk typ flags value) ++ codes ", ")) s.state s.context w)
      (does_echoed_in s.state typ flags value (emit_unknown_chunk_error typ flags value s.context) w)
  does_unknown_if false typ flags value s w = k.same (placed s w)

  does_heartbeat : (tag : ℕ) (parameters : List ParameterTree) (w : Stream) → BringsChunk call tag (heartbeat_request_chunk parameters)
      → OpenActs R w (on_heartbeat parameters)
  does_heartbeat tag parameters w h phase t c =
      does_chunk k (heartbeat_ack_chunk parameters) phase t c w refl (λ f. record { fits = tt; inside = (f.chunks tag (heartbeat_request_chunk parameters) h).1 })

  does_acked_if : (b : Bool) (s : State) (c : Context P) (w : Stream) → R (idle s c w) (idle s (clear_if_last b c) w)
  does_acked_if true s c w =
      let d : Context P = record c { heartbeats = (clear_if_last true c).heartbeats } in
      k.through (k.time (beats d.heartbeats (idle s c w))) (k.acknowledging (counts_errors (clear_if_last true c).errors (idle s d w)))
  does_acked_if false s c w = k.same (idle s c w)

  does_no_info : (s : State) (c : Context P) (w : Stream) → R (idle s c w) (idle s (no_info c) w)
  does_no_info s c w = does_emit_error k ParseFailed (codes "Failed to parse HEARTBEAT-ACK; Invalid info parameter") s c w

  does_acked_by : (b : Bool) (info : List ℕ) (s : State) (c : Context P) (w : Stream) → R (idle s c w) (idle s (ack_by_length b info c) w)
  does_acked_by true info s c w = does_acked_if (is_last_info info c) s c w
  does_acked_by false info s c w = does_no_info s c w

  does_heartbeat_info : (o : Option (List ℕ)) (s : State) (c : Context P) (w : Stream) → R (idle s c w) (idle s (on_heartbeat_info o c) w)
  does_heartbeat_info None s c w = does_no_info s c w
  does_heartbeat_info (Some info) s c w = does_acked_by (length info == 4) info s c w

  does_heartbeat_ack : (parameters : List ParameterTree) (s : EndpointState P) (w : Stream) → R (placed s w) (placed (in_context (on_heartbeat_ack parameters) s) w)
  does_heartbeat_ack parameters s w = does_heartbeat_info (info_in parameters) s.state s.context w

  does_on_chunk : (tag : ℕ) (chunk : ChunkTree) (s : Endpoint P) → BringsChunk call tag chunk → violation s.endpoint_state.state chunk ≡ None
      → R (calm s) (calm (on_chunk tag chunk s))
  does_on_chunk tag (data_chunk tsn immediate f) s h right = does_data_chunk k s.draws tag tsn immediate f s.endpoint_state h right
  does_on_chunk tag (idata_chunk tsn immediate f) s h right = does_idata_chunk k s.draws tag tsn immediate f s.endpoint_state h right
  does_on_chunk tag (init_chunk i) s h right = does_init k tag i h s
  does_on_chunk tag (init_ack_chunk i) s h right = does_init_ack k tag i h s
  does_on_chunk tag (sack_chunk a) s h right = does_sack k s.draws tag a s.endpoint_state h
  does_on_chunk tag (abort_chunk reflected causes) s h right = does_abort k s.draws causes s.endpoint_state
  does_on_chunk tag (error_chunk causes) s h right = does_where_open k s.draws (on_error causes) s.endpoint_state (does_error k s.draws causes)
  does_on_chunk tag (cookie_echo_chunk cookie) s h right = does_cookie_echo k tag cookie s h
  does_on_chunk tag cookie_ack_chunk s h right = does_where_open k s.draws on_cookie_ack s.endpoint_state (does_cookie_ack k tag s.draws h)
  does_on_chunk tag (forward_tsn_chunk tsn skipped) s h right = does_forward_chunk k s.draws tag tsn skipped s.endpoint_state h right
  does_on_chunk tag (i_forward_tsn_chunk tsn skipped) s h right = does_iforward_chunk k s.draws tag tsn skipped s.endpoint_state h right
  does_on_chunk tag (unknown_chunk typ flags value) s h right = does_unknown_if (is_reported typ) typ flags value s.endpoint_state s.draws
  does_on_chunk tag (heartbeat_request_chunk parameters) s h right =
      does_where_open k s.draws (on_heartbeat parameters) s.endpoint_state (does_heartbeat tag parameters s.draws h)
  does_on_chunk tag (heartbeat_ack_chunk parameters) s h right = does_heartbeat_ack parameters s.endpoint_state s.draws
  does_on_chunk tag (shutdown_chunk tsn) s h right = does_where_open k s.draws on_shutdown s.endpoint_state (does_shut_by_peer k s.draws)
  does_on_chunk tag shutdown_ack_chunk s h right = does_shutdown_ack k s.draws tag h s.endpoint_state
  does_on_chunk tag (shutdown_complete_chunk reflected) s h right = does_where_open k s.draws on_shutdown_complete s.endpoint_state (does_shutdown_complete k s.draws)
  does_on_chunk tag (re_config_chunk parameters) s h right = does_where_open k s.draws (on_reconfig parameters) s.endpoint_state (does_reconfig k s.draws tag parameters h)

  does_received_unless : (v : Option (List ℕ)) (tag : ℕ) (chunk : ChunkTree) (s : Endpoint P) → BringsChunk call tag chunk → violation s.endpoint_state.state chunk ≡ v
      → R (calm s) (calm (received_unless v tag chunk s).end)
  does_received_unless (Some reason) tag chunk s h is =
      does_where_open k s.draws (λ phase t c. abort_for_violation reason t c) s.endpoint_state
      (does_abort_for_violation k s.draws reason (reason_is_text s.endpoint_state.state chunk reason is))
  does_received_unless None tag chunk s h is = does_on_chunk tag chunk s h is

  pub does_receive : (tag : ℕ) (chunk : ChunkTree) (s : Endpoint P) → BringsChunk call tag chunk → R (calm s) (calm (receive tag chunk s).end)
  does_receive tag chunk s h = does_received_unless (violation s.endpoint_state.state chunk) tag chunk s h refl

  does_receive_rest : (b : Bool) (rest : Endpoint P → Endpoint P) (s : Endpoint P) → ((t : Endpoint P) → R (calm t) (calm (rest t)))
      → R (calm s) (calm (receive_rest rest (record { end = s; allows_next = b })))
  does_receive_rest true rest s f = f s
  does_receive_rest false rest s f = k.same (calm s)

  -- those chunks of a packet that stand behind others
  does_receive_all : (p : PacketTree) (before chunks : List ChunkTree) (s : Endpoint P) → call ≡ Given p → p.chunks ≡ before ++ chunks
      → R (calm s) (calm (receive_all p.header.verification_tag chunks s))
  does_receive_all p before [] s is e = k.same (calm s)
  does_receive_all p before (chunk ∷ chunks) s is e =
      let tag : ℕ = p.header.verification_tag in
      let h : AfterChunk P = receive tag chunk s in
      let this : BringsChunk call tag chunk = record { packet = p; given = is; under = refl; among = record { before = before; behind = chunks; split = e } } in
      let next : p.chunks ≡ (before ++ chunk ∷ []) ++ chunks = e ∙ sym (append_assoc before (chunk ∷ []) chunks) in
      k.through (does_receive tag chunk s this)
      (does_receive_rest h.allows_next (receive_all tag chunks) h.end (λ t. does_receive_all p (before ++ chunk ∷ []) chunks t is next))

  -- ---- before the chunks and behind them

  does_repeats : (w : Stream) → OpenActs R w repeats
  does_repeats w (CookieEchoed t1 cookie) t c = k.same (idle (Open (CookieEchoed t1 cookie) t) c w)
  does_repeats w Established t c = k.same (idle (Open Established t) c w)
  does_repeats w ShutdownPending t c = k.same (idle (Open ShutdownPending t) c w)
  does_repeats w (ShutdownSent t2) t c =
      let next : State = (repeats (ShutdownSent t2) t c).state in
      k.through (k.closing (shuts_on (ShutdownSent t2) _ t (idle (Open (ShutdownSent t2) t) c w) refl refl)) (does_send_shutdown k w _ t c)
  does_repeats w ShutdownReceived t c = k.same (idle (Open ShutdownReceived t) c w)
  does_repeats w (ShutdownAckSent t2) t c = k.same (idle (Open (ShutdownAckSent t2) t) c w)

  pub does_repeats_if : (b : Bool) (s : EndpointState P) (w : Stream) → R (placed s w) (placed (repeats_if b s) w)
  does_repeats_if true s w = does_where_open k w repeats s (does_repeats w)
  does_repeats_if false s w = k.same (placed s w)

  does_ended_if : (b : Bool) (phase : Phase) (t : Tcb) (c : Context P) (w : Stream) → R (idle (Open phase t) c w) (placed (ack_if_due b phase t c) w)
  does_ended_if true phase t c w =
      let p : PacketDraft = answer_packet phase c.options t in
      k.through (does_begin_answer k w phase t c)
      (k.through (k.sending (adds_ack phase t (at (Open phase t) c w p)))
      (does_send_with k phase w (is_before_cookie_ack phase) (add (selective_ack t) p) (without_duplicates t) c (added_more (selective_ack t) p (answer_more phase c.options t) refl)))
  does_ended_if false phase t c w = k.same (idle (Open phase t) c w)

  does_acked : (w : Stream) → OpenActs R w packet_acked
  does_acked w phase t c =
      let u : Tcb = at_end c.now t in
      k.through (k.input (ends_packet phase t (idle (Open phase t) c w)))
      (k.through (k.sending (asks false phase u (idle (Open phase u) c w))) (does_ended_if (is_ack_due false u.tracker.tracker.ack) phase (take_due_ack false u) c w))

  does_shut_if : (b : Bool) (s : EndpointState P) (w : Stream) → R (placed s w) (placed (shut_if b s) w)
  does_shut_if true s w = does_where_open k w shut_waiting s (does_on k w)
  does_shut_if false s w = k.same (placed s w)

  pub does_ended : (w : Stream) → OpenActs R w on_packet_end
  does_ended w phase t c = k.through (does_acked w phase t c) (does_shut_if c.options.avoid_stalls (packet_acked phase t c) w)

  -- ---- packets

  does_handled : (p : PacketTree) (s : Endpoint P) → call ≡ Given p → R (calm s) (calm (on_accepted_packet p.header.verification_tag p.chunks s))
  does_handled p s is =
      let first : Endpoint P = in_endpoint_state (repeats_if (has_data_chunk p.chunks)) s in
      let middle : Endpoint P = receive_all p.header.verification_tag p.chunks first in
      k.through (does_repeats_if (has_data_chunk p.chunks) s.endpoint_state s.draws)
      (k.through (does_receive_all p [] p.chunks first is refl) (does_where_open k middle.draws on_packet_end middle.endpoint_state (does_ended middle.draws)))

  does_taken_if : (o : Option (List ℕ)) (p : PacketTree) (s : Endpoint P) → call ≡ Given p
      → R (calm s) (calm (packet_unless o p.header.verification_tag p.chunks s))
  does_taken_if None p s is = does_handled p s is
  does_taken_if (Some text) p s is = does_emit_error k ParseFailed text s.endpoint_state.state s.endpoint_state.context s.draws

  does_packet : (p : PacketTree) (s : Endpoint P) → call ≡ Given p → R (calm s) (calm (on_packet p s))
  does_packet p s is =
      k.through (k.packets (counts (calm s))) (does_taken_if (packet_refusal p.header.verification_tag p.chunks s.endpoint_state.state) p (counts_row s) is)

  pub does_no_packet : (s : Endpoint P) → R (calm s) (calm (on_no_packet s))
  does_no_packet s =
      let t : Endpoint P = counts_row s in
      k.through (k.packets (counts (calm s))) (does_emit_error k ParseFailed (codes "Failed to parse SCTP packet") t.endpoint_state.state t.endpoint_state.context t.draws)

-- ---- each call

pub keeps_call : {P : Type 0} (call : Call) {R : EndWithPacket P → EndWithPacket P → Type 0} → Preserves call R → (s : Endpoint P) → R (calm s) (calm (called call s))
keeps_call Connect k s = does_connect k s refl
keeps_call Close k s = does_close k s.draws s.endpoint_state
keeps_call Shutdown k s = does_shutdown k s.draws s.endpoint_state refl
keeps_call (Send m o) k s = does_send k s.draws m o s.endpoint_state refl
keeps_call (SendMany ms o) k s = does_send_many k s.draws ms o s.endpoint_state refl
keeps_call (ResetStreams streams) k s = does_reset_streams k s.draws streams s.endpoint_state refl
keeps_call TakeMessage k s = does_take_message k s.draws s.endpoint_state refl
keeps_call (SetLowThreshold stream bytes) k s = does_low_threshold k s.draws stream bytes s.endpoint_state refl
keeps_call (SetPriority stream priority) k s = does_priority k s.draws stream priority s.endpoint_state refl
keeps_call (SetMaxMessageSize bytes) k s = does_max_message_size k s.draws bytes s.endpoint_state refl
keeps_call (Advance now) k s = does_advance k s.draws now s.endpoint_state refl
keeps_call HandOver k s = does_hand_over k s.draws s.endpoint_state refl
keeps_call (Restore h) k s = does_restore k s.draws h s.endpoint_state refl
keeps_call (Given p) k s = does_packet k p s refl
keeps_call ReceiveNoPacket k s = does_no_packet k s
