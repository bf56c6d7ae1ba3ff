-- Packets that open no association, chunk by chunk, under other names.
use Rattle.std.proofs.Common.{◌≡◌, ℕ, ◌==◌, Bool, true, false, Option, Some, None, List, [], ◌∷◌, length, map, refl, ap, ◌∙◌}
use Rattle.std.proofs.lemmas.Bool.{and_parts, not-true}
use Rattle.std.specs.List.{list_all}
use Rattle.sctp_wire.specs.Parameter.{ParameterTree}
use Rattle.sctp_wire.specs.Cause.{no_user_data, protocol_violation, CauseTree}
use Rattle.sctp_chunk.specs.declared.sack.GapAckBlock.{GapAckBlock}
use Rattle.sctp_packet.specs.Chunk.{ChunkTree, FragmentTree, SackTree, data_chunk, idata_chunk, init_chunk, init_ack_chunk, sack_chunk, heartbeat_request_chunk, heartbeat_ack_chunk, abort_chunk, shutdown_chunk, shutdown_ack_chunk, error_chunk, cookie_echo_chunk, cookie_ack_chunk, shutdown_complete_chunk, re_config_chunk, forward_tsn_chunk, i_forward_tsn_chunk, unknown_chunk}
use Rattle.sctp_capabilities.specs.Capabilities.{Capabilities}
use Rattle.sctp_tx_outstanding.specs.OutstandingData.{number_of}
use Rattle.sctp_tx_outstanding.specs.Sack.{is_valid}
use Rattle.sctp_rx.specs.DataTracker.{wire_tsn}
use Rattle.sctp_tx.specs.RetransmissionQueue.{SackAnswer, Invalid, Valid, sender_if, emitted_if, answer_if}
use Rattle.spec_endpoint.specs.Association.{Tcb, Phase, CookieEchoed, Established, ShutdownPending, ShutdownSent, ShutdownReceived, ShutdownAckSent, State, Closed, CookieWait, Open, Context, EndpointState, Endpoint, in_context, where_open, Packing}
use Rattle.spec_endpoint.specs.Heartbeats.{info_in, is_last_info, clear_if_last, ack_by_length, on_heartbeat_info, on_heartbeat_ack}
use Rattle.spec_endpoint.specs.Packets.{add, packet_to, new_packet}
use Rattle.spec_endpoint.specs.Sending.{is_before_cookie_ack, send_lost, answer_packet}
use Rattle.spec_endpoint.specs.Shutdown.{on_shutdown, out_of_the_blue, on_shutdown_ack_open, on_shutdown_ack_in, on_shutdown_ack, on_shutdown_complete, abort_for_violation, on_error, maybe_send_shutdown_or_ack, refused_if, aborted_in, aborted}
use Rattle.spec_endpoint.specs.Data.{on_no_data, no_data, on_data_in, on_data_if, on_data, on_forward}
use Rattle.spec_endpoint.specs.Sack.{clean_blocks, sample_rtt, after_sack, on_sack_in, on_sack, is_late, sampled_unless}
use Rattle.spec_endpoint.specs.Sack as acks
use Rattle.spec_endpoint.specs.Opening.{on_cookie_ack, with_endpoint_state, enter_connected}
use Rattle.spec_endpoint.specs.StreamReset.{on_reconfig}
use Rattle.spec_endpoint.specs.Input.{misuse, violation, is_reported, unrecognized_chunk_error, report_unrecognized_in, emit_unknown_chunk_error, on_unknown_if, on_unknown, on_heartbeat, AfterChunk, in_endpoint_state, on_chunk, allows_next, received_unless, receive, receive_rest, receive_all, has_data_chunk, repeats, repeats_if, on_packet_end, on_accepted_packet}
use Rattle.proof_draws.specs.NamedChunks.{Names, AreNames, flip, move_by, named_parameter, named_sack, named_chunk, named_chunks}
use Rattle.proof_draws.specs.Names.{named_state, named_endpoint_state, named_end, plain}
use Rattle.proof_draws.specs.Laws.{NumbersFitIn, number_fits, is_flowing}
use Rattle.proof_draws.proofs.WritingLemmas.{Knows, named_emit_chunk, emit_stays}
use Rattle.proof_draws.proofs.ReadingLemmas.{named_data, named_forward}
use Rattle.proof_draws.proofs.TagLemmas.{data_named}
use Rattle.proof_draws.proofs.FillingLemmas.{send_with_stays, send_lost_stays}
use Rattle.proof_draws.proofs.SackLemmas.{named_on_sack, go_on_stays}
use Rattle.proof_draws.proofs.NumberLemmas.{receive_fits, repeats_if_fits}
use Rattle.proof_draws.proofs.ResetLemmas.{reconfig_stays, reconfig_named}
use Rattle.proof_draws.proofs.ClosingLemmas.{OpenIsNamed, where_named, on_shutdown_named, shutdown_ack_named, shutdown_complete_named, abort_for_violation_named, on_error_named, on_cookie_ack_named, repeats_named, ended_named, aborted_named}
use Rattle.proof_endpoint.proofs.InputMapsLemmas.{received_as}

-- ---- who writes stays

module _ {P : Type 0} where
  where_from : (row : Phase → Tcb → Context P → EndpointState P) (st : State) (c : Context P) → ((phase : Phase) (t : Tcb) (d : Context P) → (row phase t d).context.pack ≡ d.pack)
      → (where_open row (record { state = st; context = c })).context.pack ≡ c.pack
  where_from row Closed c h = refl
  where_from row (CookieWait tag first t1) c h = refl
  where_from row (Open phase t) c h = h phase t c

  where_stays : (row : Phase → Tcb → Context P → EndpointState P) (s : EndpointState P) → ((phase : Phase) (t : Tcb) (d : Context P) → (row phase t d).context.pack ≡ d.pack)
      → (where_open row s).context.pack ≡ s.context.pack
  where_stays row s h = where_from row s.state s.context h

  no_data_stays : (tsn : ℕ) (st : State) (c : Context P) → (on_no_data tsn st c).pack ≡ c.pack
  no_data_stays tsn Closed c = refl
  no_data_stays tsn (CookieWait tag first t1) c = refl
  no_data_stays tsn (Open phase t) c = emit_stays (add (error_chunk (no_user_data (record { 0 = tsn }) ∷ [])) (new_packet (no_data c).options t)) (no_data c)

  data_in_stays : (st : State) (tsn : ℕ) (immediate : Bool) (f : FragmentTree) (c : Context P) → (on_data_in st tsn immediate f c).context.pack ≡ c.pack
  data_in_stays Closed tsn immediate f c = refl
  data_in_stays (CookieWait tag first t1) tsn immediate f c = refl
  data_in_stays (Open phase t) tsn immediate f c = refl

  data_if_stays : (b : Bool) (tsn : ℕ) (immediate : Bool) (f : FragmentTree) (s : EndpointState P) → (on_data_if b tsn immediate f s).context.pack ≡ s.context.pack
  data_if_stays true tsn immediate f s = no_data_stays tsn s.state s.context
  data_if_stays false tsn immediate f s = data_in_stays s.state tsn immediate f s.context

  data_stays : (tsn : ℕ) (immediate : Bool) (f : FragmentTree) (s : EndpointState P) → (on_data tsn immediate f s).context.pack ≡ s.context.pack
  data_stays tsn immediate f s = data_if_stays (length f.payload == 0) tsn immediate f s

  received_stays : (a : SackAnswer) (phase : Phase) (t : Tcb) (c : Context P) → (after_sack a phase t c).context.pack ≡ c.pack
  received_stays Invalid phase t c = refl
  received_stays (Valid rtt progress) phase t c =
      let v : Tcb = sample_rtt rtt t in
      let d : Context P = acks.clear_errors_if progress c in
      let o = maybe_send_shutdown_or_ack phase v d in
      let x = send_lost v o.context in
      send_with_stays (is_before_cookie_ack o.phase) (answer_packet o.phase x.context.options x.tcb) x.tcb x.context ∙ (send_lost_stays v o.context ∙ go_on_stays phase v d)

  sack_in_stays : (st : State) (k : SackTree) (c : Context P) → (on_sack_in st k c).context.pack ≡ c.pack
  sack_in_stays Closed k c = refl
  sack_in_stays (CookieWait tag first t1) k c = refl
  sack_in_stays (Open phase t) k c =
      let m : ℕ = number_of t.sender.outstanding k.cumulative_tsn_ack in
      let bs : List GapAckBlock = clean_blocks k.gap_ack_blocks in
      let valid : Bool = is_valid m bs t.sender.outstanding.items in
      received_stays (sampled_unless (is_late c.options m t.sender.outstanding.items) (answer_if valid c.now m bs t.sender)) phase (record t { sender = sender_if valid c.now m k.a_rwnd bs t.sender c.emitted }) (record c { emitted = emitted_if valid m bs t.sender c.emitted })

  sack_stays : (k : SackTree) (s : EndpointState P) → (on_sack k s).context.pack ≡ s.context.pack
  sack_stays k s = sack_in_stays s.state k s.context

  answered_if_stays : (b : Bool) (c : Context P) → (clear_if_last b c).pack ≡ c.pack
  answered_if_stays true c = refl
  answered_if_stays false c = refl

  answered_by_stays : (b : Bool) (info : List ℕ) (c : Context P) → (ack_by_length b info c).pack ≡ c.pack
  answered_by_stays true info c = answered_if_stays (is_last_info info c) c
  answered_by_stays false info c = refl

  heartbeat_info_stays : (o : Option (List ℕ)) (c : Context P) → (on_heartbeat_info o c).pack ≡ c.pack
  heartbeat_info_stays None c = refl
  heartbeat_info_stays (Some info) c = answered_by_stays (length info == 4) info c

  cookie_ack_stays : (phase : Phase) (t : Tcb) (c : Context P) → (on_cookie_ack phase t c).context.pack ≡ c.pack
  cookie_ack_stays (CookieEchoed t1 cookie) t c = send_with_stays false (new_packet c.options t) t (enter_connected c)
  cookie_ack_stays Established t c = refl
  cookie_ack_stays ShutdownPending t c = refl
  cookie_ack_stays (ShutdownSent t2) t c = refl
  cookie_ack_stays ShutdownReceived t c = refl
  cookie_ack_stays (ShutdownAckSent t2) t c = refl

  echoed_stays : (st : State) (typ flags : ℕ) (value : List ℕ) (c : Context P) → (report_unrecognized_in st typ flags value c).pack ≡ c.pack
  echoed_stays Closed typ flags value c = refl
  echoed_stays (CookieWait tag first t1) typ flags value c = refl
  echoed_stays (Open phase t) typ flags value c = emit_stays (add (unrecognized_chunk_error c.options.mtu typ flags value) (new_packet c.options t)) c

  unknown_stays : (b : Bool) (typ flags : ℕ) (value : List ℕ) (s : EndpointState P) → (on_unknown_if b typ flags value s).context.pack ≡ s.context.pack
  unknown_stays true typ flags value s = echoed_stays s.state typ flags value (emit_unknown_chunk_error typ flags value s.context)
  unknown_stays false typ flags value s = refl

  shutdown_stays : (phase : Phase) (t : Tcb) (c : Context P) → (on_shutdown phase t c).context.pack ≡ c.pack
  shutdown_stays (CookieEchoed t1 cookie) t c = refl
  shutdown_stays Established t c = go_on_stays ShutdownReceived t c
  shutdown_stays ShutdownPending t c = go_on_stays ShutdownReceived t c
  shutdown_stays (ShutdownSent t2) t c = emit_stays (add shutdown_ack_chunk (new_packet c.options t)) c
  shutdown_stays ShutdownReceived t c = refl
  shutdown_stays (ShutdownAckSent t2) t c = emit_stays (add shutdown_ack_chunk (new_packet c.options t)) c

  blue_stays : (tag : ℕ) (c : Context P) → (out_of_the_blue tag c).pack ≡ c.pack
  blue_stays tag c = emit_stays (add (shutdown_complete_chunk true) (packet_to tag c.options.mtu)) c

  done_stays : (t : Tcb) (c : Context P) → (on_shutdown_ack_open 0 (ShutdownSent c.heartbeats.interval) t c).context.pack ≡ c.pack
  done_stays t c = emit_stays (add (shutdown_complete_chunk false) (new_packet c.options t)) c

  shutdown_ack_stays : (tag : ℕ) (st : State) (c : Context P) → (on_shutdown_ack_in tag st c).context.pack ≡ c.pack
  shutdown_ack_stays tag Closed c = blue_stays tag c
  shutdown_ack_stays tag (CookieWait mine first t1) c = blue_stays tag c
  shutdown_ack_stays tag (Open (CookieEchoed t1 cookie) t) c = blue_stays tag c
  shutdown_ack_stays tag (Open Established t) c = blue_stays tag c
  shutdown_ack_stays tag (Open ShutdownPending t) c = blue_stays tag c
  shutdown_ack_stays tag (Open (ShutdownSent t2) t) c = done_stays t c
  shutdown_ack_stays tag (Open ShutdownReceived t) c = blue_stays tag c
  shutdown_ack_stays tag (Open (ShutdownAckSent t2) t) c = done_stays t c

  complete_stays : (phase : Phase) (t : Tcb) (c : Context P) → (on_shutdown_complete phase t c).context.pack ≡ c.pack
  complete_stays (CookieEchoed t1 cookie) t c = refl
  complete_stays Established t c = refl
  complete_stays ShutdownPending t c = refl
  complete_stays (ShutdownSent t2) t c = refl
  complete_stays ShutdownReceived t c = refl
  complete_stays (ShutdownAckSent t2) t c = refl

  refused_stays : (b : Bool) (causes : List CauseTree) (st : State) (c : Context P) → (refused_if b causes st c).context.pack ≡ c.pack
  refused_stays true causes st c = refl
  refused_stays false causes st c = refl

  aborted_stays : (causes : List CauseTree) (st : State) (c : Context P) → (aborted_in causes st c).context.pack ≡ c.pack
  aborted_stays causes Closed c = refl
  aborted_stays causes (CookieWait tag first t1) c = refused_stays c.options.avoid_stalls causes (CookieWait tag first t1) c
  aborted_stays causes (Open phase t) c = refl

  chunk_stays : (tag : ℕ) (chunk : ChunkTree) (e : Endpoint P) → is_flowing chunk ≡ true → (on_chunk tag chunk e).endpoint_state.context.pack ≡ e.endpoint_state.context.pack
  chunk_stays tag (data_chunk tsn immediate f) e h = data_stays tsn immediate f e.endpoint_state
  chunk_stays tag (idata_chunk tsn immediate f) e h = data_stays tsn immediate f e.endpoint_state
  chunk_stays tag (init_chunk i) e h = cc
  chunk_stays tag (init_ack_chunk i) e h = cc
  chunk_stays tag (sack_chunk k) e h = sack_stays k e.endpoint_state
  chunk_stays tag (heartbeat_request_chunk parameters) e h = where_stays (on_heartbeat parameters) e.endpoint_state (λ phase t c. emit_stays (add (heartbeat_ack_chunk parameters) (new_packet c.options t)) c)
  chunk_stays tag (heartbeat_ack_chunk parameters) e h = heartbeat_info_stays (info_in parameters) e.endpoint_state.context
  chunk_stays tag (abort_chunk reflected causes) e h = aborted_stays causes e.endpoint_state.state e.endpoint_state.context
  chunk_stays tag (shutdown_chunk tsn) e h = where_stays on_shutdown e.endpoint_state shutdown_stays
  chunk_stays tag shutdown_ack_chunk e h = shutdown_ack_stays tag e.endpoint_state.state e.endpoint_state.context
  chunk_stays tag (error_chunk causes) e h = where_stays (on_error causes) e.endpoint_state (λ phase t c. refl)
  chunk_stays tag (cookie_echo_chunk cookie) e h = cc
  chunk_stays tag cookie_ack_chunk e h = where_stays on_cookie_ack e.endpoint_state cookie_ack_stays
  chunk_stays tag (shutdown_complete_chunk reflected) e h = where_stays on_shutdown_complete e.endpoint_state complete_stays
  chunk_stays tag (re_config_chunk parameters) e h = where_stays (on_reconfig parameters) e.endpoint_state (reconfig_stays parameters)
  chunk_stays tag (forward_tsn_chunk tsn skipped) e h = refl
  chunk_stays tag (i_forward_tsn_chunk tsn skipped) e h = refl
  chunk_stays tag (unknown_chunk typ flags value) e h = unknown_stays (is_reported typ) typ flags value e.endpoint_state

  received_unless_stays : (o : Option (List ℕ)) (tag : ℕ) (chunk : ChunkTree) (e : Endpoint P) → is_flowing chunk ≡ true → (received_unless o tag chunk e).end.endpoint_state.context.pack ≡ e.endpoint_state.context.pack
  received_unless_stays (Some reason) tag chunk e h =
      where_stays (λ phase t c. abort_for_violation reason t c) e.endpoint_state (λ phase t c. emit_stays (add (abort_chunk false (protocol_violation reason ∷ [])) (new_packet c.options t)) c)
  received_unless_stays None tag chunk e h = chunk_stays tag chunk e h

  rest_stays : (rest : Endpoint P → Endpoint P) (b : Bool) (e : Endpoint P) → ((x : Endpoint P) → (rest x).endpoint_state.context.pack ≡ x.endpoint_state.context.pack)
      → (receive_rest rest (received_as b e)).endpoint_state.context.pack ≡ e.endpoint_state.context.pack
  rest_stays rest true e h = h e
  rest_stays rest false e h = refl

  pub all_stay : (tag : ℕ) (chunks : List ChunkTree) (e : Endpoint P) → list_all is_flowing chunks ≡ true → (receive_all tag chunks e).endpoint_state.context.pack ≡ e.endpoint_state.context.pack
  all_stay tag [] e h = refl
  all_stay tag (c ∷ cs) e h =
      let both = and_parts (is_flowing c) (list_all is_flowing cs) h in
      let x : AfterChunk P = receive tag c e in
      rest_stays (receive_all tag cs) x.allows_next x.end (λ y. all_stay tag cs y both.1) ∙ received_unless_stays (violation e.endpoint_state.state c) tag c e both.0

  repeats_stay : (phase : Phase) (t : Tcb) (c : Context P) → (repeats phase t c).context.pack ≡ c.pack
  repeats_stay (CookieEchoed t1 cookie) t c = refl
  repeats_stay Established t c = refl
  repeats_stay ShutdownPending t c = refl
  repeats_stay (ShutdownSent t2) t c = emit_stays (add (shutdown_chunk (wire_tsn t.tracker t.tracker.tracker.seen.front)) (new_packet c.options t)) c
  repeats_stay ShutdownReceived t c = refl
  repeats_stay (ShutdownAckSent t2) t c = refl

  pub repeats_if_stays : (b : Bool) (s : EndpointState P) → (repeats_if b s).context.pack ≡ s.context.pack
  repeats_if_stays true s = where_stays repeats s repeats_stay
  repeats_if_stays false s = refl

-- ---- chunks

module _ (m : Names) where
  misused_named : (k : Capabilities) (chunk : ChunkTree) → misuse k (named_chunk m chunk) ≡ misuse k chunk
  misused_named k (data_chunk tsn immediate f) = refl
  misused_named k (idata_chunk tsn immediate f) = refl
  misused_named k (init_chunk i) = refl
  misused_named k (init_ack_chunk i) = refl
  misused_named k (sack_chunk h) = refl
  misused_named k (heartbeat_request_chunk parameters) = refl
  misused_named k (heartbeat_ack_chunk parameters) = refl
  misused_named k (abort_chunk reflected causes) = refl
  misused_named k (shutdown_chunk tsn) = refl
  misused_named k shutdown_ack_chunk = refl
  misused_named k (error_chunk causes) = refl
  misused_named k (cookie_echo_chunk cookie) = refl
  misused_named k cookie_ack_chunk = refl
  misused_named k (shutdown_complete_chunk reflected) = refl
  misused_named k (re_config_chunk parameters) = refl
  misused_named k (forward_tsn_chunk tsn skipped) = refl
  misused_named k (i_forward_tsn_chunk tsn skipped) = refl
  misused_named k (unknown_chunk typ flags value) = refl

  goes_on_named : (avoids : Bool) (last now tag to : ℕ) (st r : State) (chunk : ChunkTree) → is_flowing chunk ≡ true
      → allows_next avoids now to r (named_chunk m chunk) ≡ allows_next avoids last tag st chunk
  goes_on_named avoids last now tag to st r (data_chunk tsn immediate f) h = refl
  goes_on_named avoids last now tag to st r (idata_chunk tsn immediate f) h = refl
  goes_on_named avoids last now tag to st r (init_chunk i) h = refl
  goes_on_named avoids last now tag to st r (init_ack_chunk i) h = refl
  goes_on_named avoids last now tag to st r (sack_chunk k) h = refl
  goes_on_named avoids last now tag to st r (heartbeat_request_chunk parameters) h = refl
  goes_on_named avoids last now tag to st r (heartbeat_ack_chunk parameters) h = refl
  goes_on_named avoids last now tag to st r (abort_chunk reflected causes) h = refl
  goes_on_named avoids last now tag to st r (shutdown_chunk tsn) h = refl
  goes_on_named avoids last now tag to st r shutdown_ack_chunk h = refl
  goes_on_named avoids last now tag to st r (error_chunk causes) h = refl
  goes_on_named avoids last now tag to st r (cookie_echo_chunk cookie) h = cc
  goes_on_named avoids last now tag to st r cookie_ack_chunk h = refl
  goes_on_named avoids last now tag to st r (shutdown_complete_chunk reflected) h = refl
  goes_on_named avoids last now tag to st r (re_config_chunk parameters) h = refl
  goes_on_named avoids last now tag to st r (forward_tsn_chunk tsn skipped) h = refl
  goes_on_named avoids last now tag to st r (i_forward_tsn_chunk tsn skipped) h = refl
  goes_on_named avoids last now tag to st r (unknown_chunk typ flags value) h = refl

pub violation_named : (n m : Names) (st : State) (chunk : ChunkTree) → violation (named_state n st) (named_chunk m chunk) ≡ violation st chunk
violation_named n m Closed chunk = refl
violation_named n m (CookieWait tag first t1) chunk = refl
violation_named n m (Open phase t) chunk = misused_named m t.capabilities chunk

module _ {P : Type 0} (n : Names) (are : AreNames n) (pack : Packing P) where
  on_named : (row named : EndpointState P → EndpointState P) (e : Endpoint P) → named (named_endpoint_state n pack e.endpoint_state) ≡ named_endpoint_state n pack (row e.endpoint_state)
      → in_endpoint_state named (named_end n pack e) ≡ named_end n pack (in_endpoint_state row e)
  on_named row named e h = ap (λ (s : EndpointState P). with_endpoint_state s e) h

  on_open : (row : Phase → Tcb → Context P → EndpointState P) (e : Endpoint P) → OpenIsNamed n pack row → Knows n pack e.endpoint_state.context
      → in_endpoint_state (where_open row) (named_end n pack e) ≡ named_end n pack (in_endpoint_state (where_open row) e)
  on_open row e h knows = on_named (where_open row) (where_open row) e (where_named n are pack row e.endpoint_state h knows)

  heartbeat_named : (parameters : List ParameterTree) → OpenIsNamed n pack (on_heartbeat parameters)
  heartbeat_named parameters phase t c k =
      ap (λ (d : Context P). record (named_endpoint_state n pack (on_heartbeat parameters phase t c)) { context = d }) (named_emit_chunk n are pack (heartbeat_ack_chunk parameters) t c k)

  answered_if_named : (b : Bool) (c : Context P) → clear_if_last b (plain n pack c) ≡ plain n pack (clear_if_last b c)
  answered_if_named true c = refl
  answered_if_named false c = refl

  answered_by_named : (b : Bool) (info : List ℕ) (c : Context P) → ack_by_length b info (plain n pack c) ≡ plain n pack (ack_by_length b info c)
  answered_by_named true info c = answered_if_named (is_last_info info c) c
  answered_by_named false info c = refl

  heartbeat_info_named : (o : Option (List ℕ)) (c : Context P) → on_heartbeat_info o (plain n pack c) ≡ plain n pack (on_heartbeat_info o c)
  heartbeat_info_named None c = refl
  heartbeat_info_named (Some info) c = answered_by_named (length info == 4) info c

  echoed_named : (st : State) (typ flags : ℕ) (value : List ℕ) (c : Context P) → Knows n pack c → report_unrecognized_in (named_state n st) typ flags value (plain n pack c) ≡ plain n pack (report_unrecognized_in st typ flags value c)
  echoed_named Closed typ flags value c k = refl
  echoed_named (CookieWait tag first t1) typ flags value c k = refl
  echoed_named (Open phase t) typ flags value c k = named_emit_chunk n are pack (unrecognized_chunk_error c.options.mtu typ flags value) t c k

  unknown_named : (b : Bool) (typ flags : ℕ) (value : List ℕ) (s : EndpointState P) → Knows n pack s.context
      → on_unknown_if b typ flags value (named_endpoint_state n pack s) ≡ named_endpoint_state n pack (on_unknown_if b typ flags value s)
  unknown_named true typ flags value s k =
      ap (λ (c : Context P). record (named_endpoint_state n pack s) { context = c }) (echoed_named s.state typ flags value (emit_unknown_chunk_error typ flags value s.context) k)
  unknown_named false typ flags value s k = refl

  -- RE-CONFIG, in an end whose request numbers are of 32 bits
  reconfig_in_named : (ps : List ParameterTree) (st : State) (c : Context P) → list_all number_fits ps ≡ true → NumbersFitIn st → Knows n pack c
      → where_open (on_reconfig (map (named_parameter (flip n)) ps)) (record { state = named_state n st; context = plain n pack c })
      ≡ named_endpoint_state n pack (where_open (on_reconfig ps) (record { state = st; context = c }))
  reconfig_in_named ps Closed c all f k = refl
  reconfig_in_named ps (CookieWait tag first t1) c all f k = refl
  reconfig_in_named ps (Open phase t) c all f k = reconfig_named n are pack ps phase t c all f k

  chunk_named : (tag : ℕ) (chunk : ChunkTree) (e : Endpoint P) → is_flowing chunk ≡ true → NumbersFitIn e.endpoint_state.state → Knows n pack e.endpoint_state.context
      → on_chunk (n.tag tag) (named_chunk (flip n) chunk) (named_end n pack e) ≡ named_end n pack (on_chunk tag chunk e)
  chunk_named tag (data_chunk tsn immediate f) e h fit knows = on_named (on_data tsn immediate f) (on_data (move_by n.peer tsn) immediate f) e (named_data n pack tsn immediate f e.endpoint_state (not-true (length f.payload == 0) h))
  chunk_named tag (idata_chunk tsn immediate f) e h fit knows = on_named (on_data tsn immediate f) (on_data (move_by n.peer tsn) immediate f) e (named_data n pack tsn immediate f e.endpoint_state (not-true (length f.payload == 0) h))
  chunk_named tag (init_chunk i) e h f knows = cc
  chunk_named tag (init_ack_chunk i) e h f knows = cc
  chunk_named tag (sack_chunk k) e h f knows = on_named (on_sack k) (on_sack (named_sack (flip n) k)) e (named_on_sack n are pack k e.endpoint_state knows)
  chunk_named tag (heartbeat_request_chunk parameters) e h f knows = on_open (on_heartbeat parameters) e (heartbeat_named parameters) knows
  chunk_named tag (heartbeat_ack_chunk parameters) e h f knows = on_named (in_context (on_heartbeat_ack parameters)) (in_context (on_heartbeat_ack parameters)) e (ap (λ (c : Context P). record (named_endpoint_state n pack e.endpoint_state) { context = c }) (heartbeat_info_named (info_in parameters) e.endpoint_state.context))
  chunk_named tag (abort_chunk reflected causes) e h f knows = on_named (aborted causes) (aborted causes) e (aborted_named n are pack causes e.endpoint_state)
  chunk_named tag (shutdown_chunk tsn) e h f knows = on_open on_shutdown e (on_shutdown_named n are pack) knows
  chunk_named tag shutdown_ack_chunk e h f knows = on_named (on_shutdown_ack tag) (on_shutdown_ack (n.tag tag)) e (shutdown_ack_named n are pack tag e.endpoint_state knows)
  chunk_named tag (error_chunk causes) e h f knows = on_open (on_error causes) e (on_error_named n are pack causes) knows
  chunk_named tag (cookie_echo_chunk cookie) e h f knows = cc
  chunk_named tag cookie_ack_chunk e h f knows = on_open on_cookie_ack e (on_cookie_ack_named n are pack) knows
  chunk_named tag (shutdown_complete_chunk reflected) e h f knows = on_open on_shutdown_complete e (shutdown_complete_named n are pack) knows
  chunk_named tag (re_config_chunk parameters) e h f knows = on_named (where_open (on_reconfig parameters)) (where_open (on_reconfig (map (named_parameter (flip n)) parameters))) e (reconfig_in_named parameters e.endpoint_state.state e.endpoint_state.context h f knows)
  chunk_named tag (forward_tsn_chunk tsn skipped) e h f knows = on_named (on_forward tsn skipped) (on_forward (move_by n.peer tsn) skipped) e (named_forward n pack tsn skipped e.endpoint_state)
  chunk_named tag (i_forward_tsn_chunk tsn skipped) e h f knows = on_named (on_forward tsn skipped) (on_forward (move_by n.peer tsn) skipped) e (named_forward n pack tsn skipped e.endpoint_state)
  chunk_named tag (unknown_chunk typ flags value) e h f knows = on_named (on_unknown typ flags value) (on_unknown typ flags value) e (unknown_named (is_reported typ) typ flags value e.endpoint_state knows)

  received_unless_named : (o : Option (List ℕ)) (tag : ℕ) (chunk : ChunkTree) (e : Endpoint P) → is_flowing chunk ≡ true → NumbersFitIn e.endpoint_state.state → Knows n pack e.endpoint_state.context
      → received_unless o (n.tag tag) (named_chunk (flip n) chunk) (named_end n pack e) ≡ received_as (received_unless o tag chunk e).allows_next (named_end n pack (received_unless o tag chunk e).end)
  received_unless_named (Some reason) tag chunk e h f k =
      ap (λ (x : Endpoint P). received_as false x) (on_open (λ phase t c. abort_for_violation reason t c) e (λ phase t c knows. abort_for_violation_named n are pack reason t c knows) k)
  received_unless_named None tag chunk e h f k =
      let avoids : Bool = e.endpoint_state.context.options.avoid_stalls in
      let st : State = e.endpoint_state.state in
      let last : ℕ = e.endpoint_state.context.last_tag in
      ap (λ (b : Bool). received_as b (on_chunk (n.tag tag) (named_chunk (flip n) chunk) (named_end n pack e))) (goes_on_named (flip n) avoids last (n.tag last) tag (n.tag tag) st (named_state n st) chunk h)
      ∙ ap (λ (x : Endpoint P). received_as (allows_next avoids last tag st chunk) x) (chunk_named tag chunk e h f k)

  receive_named : (tag : ℕ) (chunk : ChunkTree) (e : Endpoint P) → is_flowing chunk ≡ true → NumbersFitIn e.endpoint_state.state → Knows n pack e.endpoint_state.context
      → receive (n.tag tag) (named_chunk (flip n) chunk) (named_end n pack e) ≡ received_as (receive tag chunk e).allows_next (named_end n pack (receive tag chunk e).end)
  receive_named tag chunk e h f k =
      ap (λ (o : Option (List ℕ)). received_unless o (n.tag tag) (named_chunk (flip n) chunk) (named_end n pack e)) (violation_named n (flip n) e.endpoint_state.state chunk)
      ∙ received_unless_named (violation e.endpoint_state.state chunk) tag chunk e h f k

  rest_named : (rest named : Endpoint P → Endpoint P) (b : Bool) (e : Endpoint P) → named (named_end n pack e) ≡ named_end n pack (rest e)
      → receive_rest named (received_as b (named_end n pack e)) ≡ named_end n pack (receive_rest rest (received_as b e))
  rest_named rest named true e h = h
  rest_named rest named false e h = refl

  pub all_named : (tag : ℕ) (cs : List ChunkTree) (e : Endpoint P) → list_all is_flowing cs ≡ true → NumbersFitIn e.endpoint_state.state → Knows n pack e.endpoint_state.context
      → receive_all (n.tag tag) (named_chunks (flip n) cs) (named_end n pack e) ≡ named_end n pack (receive_all tag cs e)
  all_named tag [] e h f k = refl
  all_named tag (c ∷ cs) e h f k =
      let both = and_parts (is_flowing c) (list_all is_flowing cs) h in
      let x : AfterChunk P = receive tag c e in
      ap (λ (y : AfterChunk P). receive_rest (receive_all (n.tag tag) (named_chunks (flip n) cs)) y) (receive_named tag c e both.0 f k)
      ∙ rest_named (receive_all tag cs) (receive_all (n.tag tag) (named_chunks (flip n) cs)) x.allows_next x.end
      (all_named tag cs x.end both.1 (receive_fits tag c e both.0 f) (received_unless_stays (violation e.endpoint_state.state c) tag c e both.0 ∙ k))

  pub repeats_if_named : (b : Bool) (s : EndpointState P) → Knows n pack s.context → repeats_if b (named_endpoint_state n pack s) ≡ named_endpoint_state n pack (repeats_if b s)
  repeats_if_named true s k = where_named n are pack repeats s (repeats_named n are pack) k
  repeats_if_named false s k = refl

  pub handled_named : (tag : ℕ) (cs : List ChunkTree) (e : Endpoint P) → list_all is_flowing cs ≡ true → NumbersFitIn e.endpoint_state.state → Knows n pack e.endpoint_state.context
      → on_accepted_packet (n.tag tag) (named_chunks (flip n) cs) (named_end n pack e) ≡ named_end n pack (on_accepted_packet tag cs e)
  handled_named tag cs e h f k =
      let ds : List ChunkTree = named_chunks (flip n) cs in
      let first : Endpoint P = in_endpoint_state (repeats_if (has_data_chunk cs)) e in
      let at_first : Knows n pack first.endpoint_state.context = repeats_if_stays (has_data_chunk cs) e.endpoint_state ∙ k in
      ap (λ (b : Bool). in_endpoint_state (where_open on_packet_end) (receive_all (n.tag tag) ds (in_endpoint_state (repeats_if b) (named_end n pack e)))) (data_named (flip n) cs)
      ∙ (ap (λ (x : Endpoint P). in_endpoint_state (where_open on_packet_end) (receive_all (n.tag tag) ds x)) (on_named (repeats_if (has_data_chunk cs)) (repeats_if (has_data_chunk cs)) e (repeats_if_named (has_data_chunk cs) e.endpoint_state k))
      ∙ (ap (λ (x : Endpoint P). in_endpoint_state (where_open on_packet_end) x) (all_named tag cs first h (repeats_if_fits (has_data_chunk cs) e.endpoint_state f) at_first)
      ∙ on_open on_packet_end (receive_all tag cs first) (ended_named n are pack) (all_stay tag cs first h ∙ at_first)))
