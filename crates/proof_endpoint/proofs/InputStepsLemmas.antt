-- What the rows of packets emit.
use Rattle.std.proofs.Common.{ℕ, ◌+◌, ◌==◌, Bool, true, false, Option, Some, None, List, [], ◌∷◌, ◌++◌, length, codes, refl}
use Rattle.sctp_packet.specs.Chunk.{ChunkTree, data_chunk, init_chunk, init_ack_chunk, sack_chunk, heartbeat_request_chunk, heartbeat_ack_chunk, abort_chunk, shutdown_chunk, shutdown_ack_chunk, error_chunk, cookie_echo_chunk, cookie_ack_chunk, shutdown_complete_chunk, idata_chunk, re_config_chunk, forward_tsn_chunk, i_forward_tsn_chunk, unknown_chunk}
use Rattle.sctp_packet.specs.Packet.{PacketTree}
use Rattle.sctp_wire.specs.Parameter.{ParameterTree}
use Rattle.sctp_packet.specs.ChunkText.{chunk_text}
use Rattle.sctp_state.specs.declared.api.ErrorKind.TheVariants.{ParseFailed}
use Rattle.sctp_rx.specs.DataTracker.{is_ack_due}
use Rattle.spec_endpoint.specs.Association.{Tcb, Phase, CookieEchoed, Established, ShutdownPending, ShutdownSent, ShutdownReceived, ShutdownAckSent, State, Closed, CookieWait, Open, Context, EndpointState, Endpoint, in_context, where_open}
use Rattle.spec_endpoint.specs.Heartbeats.{info_in, clear_if_last, is_last_info, no_info, ack_by_length, on_heartbeat_info, on_heartbeat_ack}
use Rattle.spec_endpoint.specs.Packets.{PacketDraft, add}
use Rattle.spec_endpoint.specs.Sending.{take_due_ack, without_duplicates, selective_ack, is_before_cookie_ack, answer_packet}
use Rattle.spec_endpoint.specs.Shutdown.{abort_for_violation, on_error, on_shutdown, on_shutdown_complete}
use Rattle.spec_endpoint.specs.Opening.{on_cookie_ack}
use Rattle.spec_endpoint.specs.StreamReset.{on_reconfig}
use Rattle.spec_endpoint.specs.Input.{packet_refusal, is_reported, unrecognized_chunk_error, report_unrecognized_in, emit_unknown_chunk_error, on_unknown_if, on_unknown, on_heartbeat, AfterChunk, in_endpoint_state, on_chunk, violation, received_unless, receive, receive_rest, receive_all, has_data_chunk, repeats, repeats_if, ack_if_due, at_end, on_packet_end, on_accepted_packet, count_packet, count_packet_at, packet_unless, on_packet, on_no_packet, packet_acked, shut_waiting, shut_if}
use Rattle.spec_endpoint.specs.Laws.{ends, endings_after, endings_by, endings_unless, endings_in}
use Rattle.proof_endpoint.proofs.StepsLemmas.{most_bytes, Goes, Steps, EndSteps}
use Rattle.proof_endpoint.proofs.GoesLemmas.{small_add, goes_silent, goes_same, goes_through, goes_then, goes_last, goes_emit_error, goes_emit_chunk}
use Rattle.proof_endpoint.proofs.SendingStepsLemmas.{goes_send_with, small_answer}
use Rattle.proof_endpoint.proofs.RowStepsLemmas.{OpenSteps, steps_context, steps_same, steps_where_open, goes_send_shutdown, steps_abort_for_violation, steps_aborted, steps_error, steps_data, steps_forward, steps_sack, steps_shut_by_peer, steps_shutdown_ack, steps_shutdown_complete, goes_on}
use Rattle.proof_endpoint.proofs.ResetStepsLemmas.{steps_reconfig}
use Rattle.proof_endpoint.proofs.OpeningStepsLemmas.{steps_init, steps_init_ack, steps_cookie_ack, steps_emit_parse_error, steps_cookie_echo}

module _ {P : Type 0} where
  -- ---- one chunk

  goes_echoed_in : (st : State) (typ flags : ℕ) (value : List ℕ) (c : Context P) → Goes 0 c (report_unrecognized_in st typ flags value c)
  goes_echoed_in Closed typ flags value c = goes_same c
  goes_echoed_in (CookieWait tag first t1) typ flags value c = goes_same c
  goes_echoed_in (Open phase t) typ flags value c = goes_emit_chunk (unrecognized_chunk_error c.options.mtu typ flags value) t c

  goes_unknown : (st : State) (typ flags : ℕ) (value : List ℕ) (c : Context P) → Goes 0 c (report_unrecognized_in st typ flags value (emit_unknown_chunk_error typ flags value c))
  goes_unknown st typ flags value c =
      let d : Context P = emit_unknown_chunk_error typ flags value c in
      goes_then 0 c d (report_unrecognized_in st typ flags value d)
      (goes_emit_error ParseFailed (codes "Received " ++ (chunk_text (unknown_chunk typ flags value) ++ codes ", ")) c) (goes_echoed_in st typ flags value d)

  steps_unknown_if : (b : Bool) (typ flags : ℕ) (value : List ℕ) (s : EndpointState P) → Steps s (on_unknown_if b typ flags value s)
  steps_unknown_if true typ flags value s =
      steps_context s (report_unrecognized_in s.state typ flags value (emit_unknown_chunk_error typ flags value s.context)) (goes_unknown s.state typ flags value s.context)
  steps_unknown_if false typ flags value s = steps_same s

  steps_unknown : (typ flags : ℕ) (value : List ℕ) (s : EndpointState P) → Steps s (on_unknown typ flags value s)
  steps_unknown typ flags value s = steps_unknown_if (is_reported typ) typ flags value s

  steps_heartbeat : (parameters : List ParameterTree) → OpenSteps (on_heartbeat {P = P} parameters)
  steps_heartbeat parameters phase t c = goes_emit_chunk (heartbeat_ack_chunk parameters) t c

  goes_acked_if : (b : Bool) (c : Context P) → Goes 0 c (clear_if_last b c)
  goes_acked_if true c = goes_silent c (clear_if_last true c) refl refl refl
  goes_acked_if false c = goes_same c

  goes_no_info : (c : Context P) → Goes 0 c (no_info c)
  goes_no_info c = goes_emit_error ParseFailed (codes "Failed to parse HEARTBEAT-ACK; Invalid info parameter") c

  goes_acked_by : (b : Bool) (info : List ℕ) (c : Context P) → Goes 0 c (ack_by_length b info c)
  goes_acked_by true info c = goes_acked_if (is_last_info info c) c
  goes_acked_by false info c = goes_no_info c

  goes_heartbeat_info : (o : Option (List ℕ)) (c : Context P) → Goes 0 c (on_heartbeat_info o c)
  goes_heartbeat_info None c = goes_no_info c
  goes_heartbeat_info (Some info) c = goes_acked_by (length info == 4) info c

  steps_heartbeat_ack : (parameters : List ParameterTree) (s : EndpointState P) → Steps s (in_context (on_heartbeat_ack parameters) s)
  steps_heartbeat_ack parameters s = steps_context s (on_heartbeat_ack parameters s.context) (goes_heartbeat_info (info_in parameters) s.context)

  steps_chunk : (tag : ℕ) (chunk : ChunkTree) (s : Endpoint P) → EndSteps s (on_chunk tag chunk s)
  steps_chunk tag (data_chunk tsn immediate f) s = steps_data tsn immediate f s.endpoint_state
  steps_chunk tag (idata_chunk tsn immediate f) s = steps_data tsn immediate f s.endpoint_state
  steps_chunk tag (init_chunk i) s = steps_init i s
  steps_chunk tag (init_ack_chunk i) s = steps_init_ack i s
  steps_chunk tag (sack_chunk k) s = steps_sack k s.endpoint_state
  steps_chunk tag (abort_chunk reflected causes) s = steps_aborted causes s.endpoint_state
  steps_chunk tag (error_chunk causes) s = steps_where_open (on_error causes) s.endpoint_state (steps_error causes)
  steps_chunk tag (cookie_echo_chunk cookie) s = steps_cookie_echo tag cookie s
  steps_chunk tag cookie_ack_chunk s = steps_where_open on_cookie_ack s.endpoint_state steps_cookie_ack
  steps_chunk tag (forward_tsn_chunk tsn skipped) s = steps_forward tsn skipped s.endpoint_state
  steps_chunk tag (i_forward_tsn_chunk tsn skipped) s = steps_forward tsn skipped s.endpoint_state
  steps_chunk tag (unknown_chunk typ flags value) s = steps_unknown typ flags value s.endpoint_state
  steps_chunk tag (heartbeat_request_chunk parameters) s = steps_where_open (on_heartbeat parameters) s.endpoint_state (steps_heartbeat parameters)
  steps_chunk tag (heartbeat_ack_chunk parameters) s = steps_heartbeat_ack parameters s.endpoint_state
  steps_chunk tag (shutdown_chunk tsn) s = steps_where_open on_shutdown s.endpoint_state steps_shut_by_peer
  steps_chunk tag shutdown_ack_chunk s = steps_shutdown_ack tag s.endpoint_state
  steps_chunk tag (shutdown_complete_chunk reflected) s = steps_where_open on_shutdown_complete s.endpoint_state steps_shutdown_complete
  steps_chunk tag (re_config_chunk parameters) s = steps_where_open (on_reconfig parameters) s.endpoint_state (steps_reconfig parameters)

  steps_received_unless : (v : Option (List ℕ)) (tag : ℕ) (chunk : ChunkTree) (s : Endpoint P) → EndSteps s (received_unless v tag chunk s).end
  steps_received_unless (Some reason) tag chunk s = steps_where_open (λ phase t c. abort_for_violation reason t c) s.endpoint_state (steps_abort_for_violation reason)
  steps_received_unless None tag chunk s = steps_chunk tag chunk s

  steps_receive : (tag : ℕ) (chunk : ChunkTree) (s : Endpoint P) → EndSteps s (receive tag chunk s).end
  steps_receive tag chunk s = steps_received_unless (violation s.endpoint_state.state chunk) tag chunk s

  goes_receive_rest : (b : Bool) (n : ℕ) (rest : Endpoint P → Endpoint P) (count : Endpoint P → ℕ) (c : Context P) (s : Endpoint P)
      → ((t : Endpoint P) → Goes (count t) t.endpoint_state.context (rest t).endpoint_state.context) → Goes n c s.endpoint_state.context
      → Goes (n + endings_after count (record { end = s; allows_next = b })) c (receive_rest rest (record { end = s; allows_next = b })).endpoint_state.context
  goes_receive_rest true n rest count c s f g = goes_through n (count s) c s.endpoint_state.context (rest s).endpoint_state.context g (f s)
  goes_receive_rest false n rest count c s f g = goes_through n 0 c s.endpoint_state.context s.endpoint_state.context g (goes_same s.endpoint_state.context)

  goes_receive_all : (tag : ℕ) (chunks : List ChunkTree) (s : Endpoint P) → Goes (endings_by tag chunks s) s.endpoint_state.context (receive_all tag chunks s).endpoint_state.context
  goes_receive_all tag [] s = goes_same s.endpoint_state.context
  goes_receive_all tag (chunk ∷ chunks) s =
      let h : AfterChunk P = receive tag chunk s in
      goes_receive_rest h.allows_next (ends s.endpoint_state.state h.end.endpoint_state.state) (receive_all tag chunks) (endings_by tag chunks) s.endpoint_state.context h.end
      (goes_receive_all tag chunks) (steps_receive tag chunk s)

  -- ---- before the chunks and behind them

  goes_where_open_from : (row : Phase → Tcb → Context P → EndpointState P) (st : State) (c : Context P)
      → ((phase : Phase) (t : Tcb) (d : Context P) → Goes 0 d (row phase t d).context) → Goes 0 c (where_open row (record { state = st; context = c })).context
  goes_where_open_from row Closed c h = goes_same c
  goes_where_open_from row (CookieWait tag first t1) c h = goes_same c
  goes_where_open_from row (Open phase t) c h = h phase t c

  goes_where_open : (row : Phase → Tcb → Context P → EndpointState P) (s : EndpointState P)
      → ((phase : Phase) (t : Tcb) (d : Context P) → Goes 0 d (row phase t d).context) → Goes 0 s.context (where_open row s).context
  goes_where_open row s h = goes_where_open_from row s.state s.context h

  goes_repeats : (phase : Phase) (t : Tcb) (c : Context P) → Goes 0 c (repeats phase t c).context
  goes_repeats (CookieEchoed t1 cookie) t c = goes_same c
  goes_repeats Established t c = goes_same c
  goes_repeats ShutdownPending t c = goes_same c
  goes_repeats (ShutdownSent t2) t c = goes_send_shutdown t c
  goes_repeats ShutdownReceived t c = goes_same c
  goes_repeats (ShutdownAckSent t2) t c = goes_same c

  goes_repeats_if : (b : Bool) (s : EndpointState P) → Goes 0 s.context (repeats_if b s).context
  goes_repeats_if true s = goes_where_open repeats s goes_repeats
  goes_repeats_if false s = goes_same s.context

  goes_ended_if : (b : Bool) (phase : Phase) (t : Tcb) (c : Context P) → Goes 0 c (ack_if_due b phase t c).context
  goes_ended_if true phase t c =
      let p : PacketDraft = answer_packet phase c.options t in
      goes_send_with c (is_before_cookie_ack phase) (add (selective_ack t) p) (without_duplicates t) (small_add (most_bytes c) p (selective_ack t) (small_answer c phase t))
  goes_ended_if false phase t c = goes_same c

  goes_acked : (phase : Phase) (t : Tcb) (c : Context P) → Goes 0 c (packet_acked phase t c).context
  goes_acked phase t c =
      let u : Tcb = at_end c.now t in
      goes_ended_if (is_ack_due false u.tracker.tracker.ack) phase (take_due_ack false u) c

  goes_shut_if : (b : Bool) (s : EndpointState P) → Goes 0 s.context (shut_if b s).context
  goes_shut_if true s = goes_where_open shut_waiting s goes_on
  goes_shut_if false s = goes_same s.context

  goes_ended : (phase : Phase) (t : Tcb) (c : Context P) → Goes 0 c (on_packet_end phase t c).context
  goes_ended phase t c =
      let s : EndpointState P = packet_acked phase t c in
      goes_then 0 c s.context (on_packet_end phase t c).context (goes_acked phase t c) (goes_shut_if c.options.avoid_stalls s)

  goes_handled : (tag : ℕ) (chunks : List ChunkTree) (s : Endpoint P)
      → Goes (endings_by tag chunks (in_endpoint_state (repeats_if (has_data_chunk chunks)) s)) s.endpoint_state.context (on_accepted_packet tag chunks s).endpoint_state.context
  goes_handled tag chunks s =
      let first : Endpoint P = in_endpoint_state (repeats_if (has_data_chunk chunks)) s in
      let middle : Endpoint P = receive_all tag chunks first in
      let last : Endpoint P = on_accepted_packet tag chunks s in
      let n : ℕ = endings_by tag chunks first in
      goes_then n s.endpoint_state.context first.endpoint_state.context last.endpoint_state.context (goes_repeats_if (has_data_chunk chunks) s.endpoint_state)
      (goes_last n first.endpoint_state.context middle.endpoint_state.context last.endpoint_state.context (goes_receive_all tag chunks first) (goes_where_open on_packet_end middle.endpoint_state goes_ended))

  -- ---- packets

  goes_taken_if : (o : Option (List ℕ)) (tag : ℕ) (chunks : List ChunkTree) (s : Endpoint P)
      → Goes (endings_unless o tag chunks s) s.endpoint_state.context (packet_unless o tag chunks s).endpoint_state.context
  goes_taken_if None tag chunks s = goes_handled tag chunks s
  goes_taken_if (Some text) tag chunks s = goes_emit_error ParseFailed text s.endpoint_state.context

  goes_counted : (c : Context P) → Goes 0 c (count_packet c)
  goes_counted c = goes_silent c (count_packet c) refl refl refl

  pub goes_packet : (p : PacketTree) (s : Endpoint P) → Goes (endings_in p s) s.endpoint_state.context (on_packet p s).endpoint_state.context
  goes_packet p s =
      let t : Endpoint P = count_packet_at s in
      let o : Option (List ℕ) = packet_refusal p.header.verification_tag p.chunks s.endpoint_state.state in
      goes_then (endings_in p s) s.endpoint_state.context t.endpoint_state.context (on_packet p s).endpoint_state.context (goes_counted s.endpoint_state.context)
      (goes_taken_if o p.header.verification_tag p.chunks t)

  pub steps_no_packet : (s : Endpoint P) → EndSteps s (on_no_packet s)
  steps_no_packet s =
      let t : Endpoint P = count_packet_at s in
      let u : Endpoint P = on_no_packet s in
      goes_then (ends s.endpoint_state.state u.endpoint_state.state) s.endpoint_state.context t.endpoint_state.context u.endpoint_state.context (goes_counted s.endpoint_state.context)
      (steps_emit_parse_error (codes "Failed to parse SCTP packet") t)
