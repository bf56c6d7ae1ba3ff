-- Packets that come in.
use Rattle.std.proofs.Common.{◌≡◌, ℕ, ◌==◌, Bool, true, false, Option, Some, None, List, [], ◌∷◌, ◌++◌, length, codes, refl, ap, ◌∙◌}
use Rattle.sctp_packet.specs.Chunk.{ChunkTree, data_chunk, init_chunk, init_ack_chunk, sack_chunk, heartbeat_request_chunk, heartbeat_ack_chunk, abort_chunk, shutdown_chunk, shutdown_ack_chunk, error_chunk, cookie_echo_chunk, cookie_ack_chunk, shutdown_complete_chunk, idata_chunk, re_config_chunk, forward_tsn_chunk, i_forward_tsn_chunk, unknown_chunk}
use Rattle.sctp_packet.specs.Packet.{PacketTree}
use Rattle.sctp_packet.specs.ChunkText.{chunk_text}
use Rattle.sctp_wire.specs.Parameter.{ParameterTree}
use Rattle.sctp_state.specs.declared.api.ErrorKind.TheVariants.{ParseFailed}
use Rattle.sctp_rx.specs.DataTracker.{is_ack_due}
use Rattle.spec_endpoint.specs.Association.{Tcb, Phase, CookieEchoed, Established, ShutdownPending, ShutdownSent, ShutdownReceived, ShutdownAckSent, State, Closed, CookieWait, Open, Context, EndpointState, Endpoint, in_context, where_open}
use Rattle.spec_endpoint.specs.Heartbeats.{info_in, clear_if_last, is_last_info, no_info, ack_by_length, on_heartbeat_info, on_heartbeat_ack}
use Rattle.spec_endpoint.specs.Packets.{add, emit_chunk}
use Rattle.spec_endpoint.specs.Sending.{AfterSending, take_due_ack, without_duplicates, selective_ack, is_before_cookie_ack, open_with, answer_packet}
use Rattle.spec_endpoint.specs.Shutdown.{send_shutdown, abort_for_violation, aborted, on_error, on_shutdown, on_shutdown_ack, on_shutdown_complete, PhaseStep, open_phase_step}
use Rattle.spec_endpoint.specs.Data.{on_data, on_forward}
use Rattle.spec_endpoint.specs.Sack.{on_sack}
use Rattle.spec_endpoint.specs.Opening.{on_cookie_ack}
use Rattle.spec_endpoint.specs.StreamReset.{on_reconfig}
use Rattle.spec_endpoint.specs.Input.{packet_refusal, is_reported, unrecognized_chunk_error, report_unrecognized_in, emit_unknown_chunk_error, on_unknown_if, on_unknown, on_heartbeat, AfterChunk, in_endpoint_state, on_chunk, allows_next, violation, received_unless, receive, receive_rest, receive_all, has_data_chunk, repeats, repeats_if, ack_if_due, at_end, on_packet_end, on_accepted_packet, count_packet_at, packet_unless, on_packet, on_no_packet, packet_acked, shut_waiting, shut_if}
use Rattle.proof_endpoint.specs.Mapped.{Mapping, map_context, map_endpoint_state, map_end}
use Rattle.proof_endpoint.proofs.SendingMapsLemmas.{maps_emit_error, maps_emit_chunk, maps_send_with}
use Rattle.proof_endpoint.proofs.RowMapsLemmas.{OpenMaps, maps_where_open, maps_in_state, maps_send_shutdown, maps_on_shutdown, maps_shutdown_ack, maps_shutdown_complete, maps_abort_for_violation, maps_aborted, maps_on_error, maps_data, maps_forward, maps_on_sack, maps_go_on}
use Rattle.proof_endpoint.proofs.ResetMapsLemmas.{maps_reconfig}
use Rattle.proof_endpoint.proofs.OpeningMapsLemmas.{maps_stands, maps_init, maps_init_ack, maps_cookie_ack, maps_cookie_echo, maps_emit_parse_error}

abbrev map_received : {P Q : Type 0} → Mapping P Q → AfterChunk P → AfterChunk Q
map_received f h = record { end = map_end f h.end; allows_next = h.allows_next }

abbrev pub received_as : {P : Type 0} → Bool → Endpoint P → AfterChunk P
received_as on s = record { end = s; allows_next = on }

module _ {P Q : Type 0} (f : Mapping P Q) where
  -- a row that the random stream has no part in
  pub maps_on_endpoint_state : (row : EndpointState P → EndpointState P) (mapped : EndpointState Q → EndpointState Q) (s : Endpoint P)
      → mapped (map_endpoint_state f s.endpoint_state) ≡ map_endpoint_state f (row s.endpoint_state) → in_endpoint_state mapped (map_end f s) ≡ map_end f (in_endpoint_state row s)
  maps_on_endpoint_state row mapped s h = maps_stands f s (row s.endpoint_state) (mapped (map_endpoint_state f s.endpoint_state)) h

  maps_on_open : (row : Phase → Tcb → Context P → EndpointState P) (mapped : Phase → Tcb → Context Q → EndpointState Q) (s : Endpoint P) → OpenMaps f row mapped
      → in_endpoint_state (where_open mapped) (map_end f s) ≡ map_end f (in_endpoint_state (where_open row) s)
  maps_on_open row mapped s h = maps_on_endpoint_state (where_open row) (where_open mapped) s (maps_where_open f row mapped s.endpoint_state h)

  -- ---- one chunk

  maps_echoed_in : (st : State) (typ flags : ℕ) (value : List ℕ) (c : Context P) → report_unrecognized_in st typ flags value (map_context f c) ≡ map_context f (report_unrecognized_in st typ flags value c)
  maps_echoed_in Closed typ flags value c = refl
  maps_echoed_in (CookieWait tag first t1) typ flags value c = refl
  maps_echoed_in (Open phase t) typ flags value c = maps_emit_chunk f (unrecognized_chunk_error c.options.mtu typ flags value) t c

  maps_unknown : (st : State) (typ flags : ℕ) (value : List ℕ) (c : Context P)
      → report_unrecognized_in st typ flags value (emit_unknown_chunk_error typ flags value (map_context f c)) ≡ map_context f (report_unrecognized_in st typ flags value (emit_unknown_chunk_error typ flags value c))
  maps_unknown st typ flags value c =
      ap (λ (d : Context Q). report_unrecognized_in st typ flags value d)
      (maps_emit_error f ParseFailed (codes "Received " ++ (chunk_text (unknown_chunk typ flags value) ++ codes ", ")) c)
      ∙ maps_echoed_in st typ flags value (emit_unknown_chunk_error typ flags value c)

  maps_unknown_if : (b : Bool) (typ flags : ℕ) (value : List ℕ) (s : EndpointState P)
      → on_unknown_if b typ flags value (map_endpoint_state f s) ≡ map_endpoint_state f (on_unknown_if b typ flags value s)
  maps_unknown_if true typ flags value s = maps_in_state f s.state (report_unrecognized_in s.state typ flags value (emit_unknown_chunk_error typ flags value s.context)) _ (maps_unknown s.state typ flags value s.context)
  maps_unknown_if false typ flags value s = refl

  maps_on_unknown : (typ flags : ℕ) (value : List ℕ) (s : EndpointState P) → on_unknown typ flags value (map_endpoint_state f s) ≡ map_endpoint_state f (on_unknown typ flags value s)
  maps_on_unknown typ flags value s = maps_unknown_if (is_reported typ) typ flags value s

  maps_heartbeat : (parameters : List ParameterTree) → OpenMaps f (on_heartbeat parameters) (on_heartbeat parameters)
  maps_heartbeat parameters phase t c = maps_in_state f (Open phase t) (emit_chunk (heartbeat_ack_chunk parameters) t c) _ (maps_emit_chunk f (heartbeat_ack_chunk parameters) t c)

  maps_acked_if : (b : Bool) (c : Context P) → clear_if_last b (map_context f c) ≡ map_context f (clear_if_last b c)
  maps_acked_if true c = refl
  maps_acked_if false c = refl

  maps_no_info : (c : Context P) → no_info (map_context f c) ≡ map_context f (no_info c)
  maps_no_info c = maps_emit_error f ParseFailed (codes "Failed to parse HEARTBEAT-ACK; Invalid info parameter") c

  maps_acked_by : (b : Bool) (info : List ℕ) (c : Context P) → ack_by_length b info (map_context f c) ≡ map_context f (ack_by_length b info c)
  maps_acked_by true info c = maps_acked_if (is_last_info info c) c
  maps_acked_by false info c = maps_no_info c

  maps_heartbeat_info : (o : Option (List ℕ)) (c : Context P) → on_heartbeat_info o (map_context f c) ≡ map_context f (on_heartbeat_info o c)
  maps_heartbeat_info None c = maps_no_info c
  maps_heartbeat_info (Some info) c = maps_acked_by (length info == 4) info c

  maps_heartbeat_ack : (parameters : List ParameterTree) (s : EndpointState P)
      → in_context (on_heartbeat_ack parameters) (map_endpoint_state f s) ≡ map_endpoint_state f (in_context (on_heartbeat_ack parameters) s)
  maps_heartbeat_ack parameters s = maps_in_state f s.state (on_heartbeat_info (info_in parameters) s.context) _ (maps_heartbeat_info (info_in parameters) s.context)

  maps_chunk : (tag : ℕ) (chunk : ChunkTree) (s : Endpoint P) → on_chunk tag chunk (map_end f s) ≡ map_end f (on_chunk tag chunk s)
  maps_chunk tag (data_chunk tsn immediate g) s = maps_on_endpoint_state (on_data tsn immediate g) (on_data tsn immediate g) s (maps_data f tsn immediate g s.endpoint_state)
  maps_chunk tag (idata_chunk tsn immediate g) s = maps_on_endpoint_state (on_data tsn immediate g) (on_data tsn immediate g) s (maps_data f tsn immediate g s.endpoint_state)
  maps_chunk tag (init_chunk i) s = maps_init f i s
  maps_chunk tag (init_ack_chunk i) s = maps_init_ack f i s
  maps_chunk tag (sack_chunk k) s = maps_on_endpoint_state (on_sack k) (on_sack k) s (maps_on_sack f k s.endpoint_state)
  maps_chunk tag (abort_chunk reflected causes) s = maps_on_endpoint_state (aborted causes) (aborted causes) s (maps_aborted f causes s.endpoint_state)
  maps_chunk tag (error_chunk causes) s = maps_on_open (on_error causes) (on_error causes) s (maps_on_error f causes)
  maps_chunk tag (cookie_echo_chunk cookie) s = maps_cookie_echo f tag cookie s
  maps_chunk tag cookie_ack_chunk s = maps_on_open on_cookie_ack on_cookie_ack s (maps_cookie_ack f)
  maps_chunk tag (forward_tsn_chunk tsn skipped) s = maps_on_endpoint_state (on_forward tsn skipped) (on_forward tsn skipped) s (maps_forward f tsn skipped s.endpoint_state)
  maps_chunk tag (i_forward_tsn_chunk tsn skipped) s = maps_on_endpoint_state (on_forward tsn skipped) (on_forward tsn skipped) s (maps_forward f tsn skipped s.endpoint_state)
  maps_chunk tag (unknown_chunk typ flags value) s = maps_on_endpoint_state (on_unknown typ flags value) (on_unknown typ flags value) s (maps_on_unknown typ flags value s.endpoint_state)
  maps_chunk tag (heartbeat_request_chunk parameters) s = maps_on_open (on_heartbeat parameters) (on_heartbeat parameters) s (maps_heartbeat parameters)
  maps_chunk tag (heartbeat_ack_chunk parameters) s =
      maps_on_endpoint_state (in_context (on_heartbeat_ack parameters)) (in_context (on_heartbeat_ack parameters)) s (maps_heartbeat_ack parameters s.endpoint_state)
  maps_chunk tag (shutdown_chunk tsn) s = maps_on_open on_shutdown on_shutdown s (maps_on_shutdown f)
  maps_chunk tag shutdown_ack_chunk s = maps_on_endpoint_state (on_shutdown_ack tag) (on_shutdown_ack tag) s (maps_shutdown_ack f tag s.endpoint_state)
  maps_chunk tag (shutdown_complete_chunk reflected) s = maps_on_open on_shutdown_complete on_shutdown_complete s (maps_shutdown_complete f)
  maps_chunk tag (re_config_chunk parameters) s = maps_on_open (on_reconfig parameters) (on_reconfig parameters) s (maps_reconfig f parameters)

  maps_received_unless : (o : Option (List ℕ)) (tag : ℕ) (chunk : ChunkTree) (s : Endpoint P) → received_unless o tag chunk (map_end f s) ≡ map_received f (received_unless o tag chunk s)
  maps_received_unless (Some reason) tag chunk s =
      ap (λ (e : Endpoint Q). received_as false e)
      (maps_on_open (λ phase t c. abort_for_violation reason t c) (λ phase t c. abort_for_violation reason t c) s (λ phase t c. maps_abort_for_violation f reason t c))
  maps_received_unless None tag chunk s =
      ap (λ (e : Endpoint Q). received_as (allows_next s.endpoint_state.context.options.avoid_stalls s.endpoint_state.context.last_tag tag s.endpoint_state.state chunk) e) (maps_chunk tag chunk s)

  maps_receive : (tag : ℕ) (chunk : ChunkTree) (s : Endpoint P) → receive tag chunk (map_end f s) ≡ map_received f (receive tag chunk s)
  maps_receive tag chunk s = maps_received_unless (violation s.endpoint_state.state chunk) tag chunk s

  maps_receive_rest : (rest : Endpoint P → Endpoint P) (mapped : Endpoint Q → Endpoint Q) (b : Bool) (s : Endpoint P)
      → ((t : Endpoint P) → mapped (map_end f t) ≡ map_end f (rest t)) → receive_rest mapped (received_as b (map_end f s)) ≡ map_end f (receive_rest rest (received_as b s))
  maps_receive_rest rest mapped true s h = h s
  maps_receive_rest rest mapped false s h = refl

  maps_receive_all : (tag : ℕ) (chunks : List ChunkTree) (s : Endpoint P) → receive_all tag chunks (map_end f s) ≡ map_end f (receive_all tag chunks s)
  maps_receive_all tag [] s = refl
  maps_receive_all tag (chunk ∷ chunks) s =
      let x : AfterChunk P = receive tag chunk s in
      ap (λ (h : AfterChunk Q). receive_rest (receive_all tag chunks) h) (maps_receive tag chunk s)
      ∙ maps_receive_rest (receive_all tag chunks) (receive_all tag chunks) x.allows_next x.end (maps_receive_all tag chunks)

  -- ---- before the chunks, and at the end of a packet

  maps_repeats : OpenMaps f repeats repeats
  maps_repeats (CookieEchoed t1 cookie) t c = refl
  maps_repeats Established t c = refl
  maps_repeats ShutdownPending t c = refl
  maps_repeats (ShutdownSent t2) t c =
      let s : EndpointState P = repeats (ShutdownSent t2) t c in
      maps_in_state f s.state (send_shutdown t c) (send_shutdown t (map_context f c)) (maps_send_shutdown f t c)
  maps_repeats ShutdownReceived t c = refl
  maps_repeats (ShutdownAckSent t2) t c = refl

  maps_repeats_if : (b : Bool) (s : EndpointState P) → repeats_if b (map_endpoint_state f s) ≡ map_endpoint_state f (repeats_if b s)
  maps_repeats_if true s = maps_where_open f repeats repeats s maps_repeats
  maps_repeats_if false s = refl

  maps_ended_if : (b : Bool) → OpenMaps f (ack_if_due b) (ack_if_due b)
  maps_ended_if true phase t c =
      ap (λ (x : AfterSending Q). open_with phase x) (maps_send_with f (is_before_cookie_ack phase) (add (selective_ack t) (answer_packet phase c.options t)) (without_duplicates t) c)
  maps_ended_if false phase t c = refl

  maps_acked : OpenMaps f packet_acked packet_acked
  maps_acked phase t c =
      let u : Tcb = at_end c.now t in
      maps_ended_if (is_ack_due false u.tracker.tracker.ack) phase (take_due_ack false u) c

  maps_shut_waiting : OpenMaps f shut_waiting shut_waiting
  maps_shut_waiting phase t c = ap (λ (o : PhaseStep Q). open_phase_step t o) (maps_go_on f phase t c)

  maps_shut_if : (b : Bool) (s : EndpointState P) → shut_if b (map_endpoint_state f s) ≡ map_endpoint_state f (shut_if b s)
  maps_shut_if true s = maps_where_open f shut_waiting shut_waiting s maps_shut_waiting
  maps_shut_if false s = refl

  maps_ended : OpenMaps f on_packet_end on_packet_end
  maps_ended phase t c =
      ap (λ (s : EndpointState Q). shut_if c.options.avoid_stalls s) (maps_acked phase t c) ∙ maps_shut_if c.options.avoid_stalls (packet_acked phase t c)

  maps_handled : (tag : ℕ) (chunks : List ChunkTree) (s : Endpoint P) → on_accepted_packet tag chunks (map_end f s) ≡ map_end f (on_accepted_packet tag chunks s)
  maps_handled tag chunks s =
      let first : Endpoint P = in_endpoint_state (repeats_if (has_data_chunk chunks)) s in
      ap (λ (e : Endpoint Q). in_endpoint_state (where_open on_packet_end) (receive_all tag chunks e))
      (maps_on_endpoint_state (repeats_if (has_data_chunk chunks)) (repeats_if (has_data_chunk chunks)) s (maps_repeats_if (has_data_chunk chunks) s.endpoint_state))
      ∙ (ap (λ (e : Endpoint Q). in_endpoint_state (where_open on_packet_end) e) (maps_receive_all tag chunks first)
      ∙ maps_on_open on_packet_end on_packet_end (receive_all tag chunks first) maps_ended)

  -- ---- packets

  maps_taken_if : (o : Option (List ℕ)) (tag : ℕ) (chunks : List ChunkTree) (s : Endpoint P) → packet_unless o tag chunks (map_end f s) ≡ map_end f (packet_unless o tag chunks s)
  maps_taken_if None tag chunks s = maps_handled tag chunks s
  maps_taken_if (Some text) tag chunks s = maps_emit_parse_error f text s

  pub maps_packet : (p : PacketTree) (s : Endpoint P) → on_packet p (map_end f s) ≡ map_end f (on_packet p s)
  maps_packet p s =
      maps_taken_if (packet_refusal p.header.verification_tag p.chunks s.endpoint_state.state) p.header.verification_tag p.chunks (count_packet_at s)

  pub maps_no_packet : (s : Endpoint P) → on_no_packet (map_end f s) ≡ map_end f (on_no_packet s)
  maps_no_packet s = maps_emit_parse_error f (codes "Failed to parse SCTP packet") (count_packet_at s)
