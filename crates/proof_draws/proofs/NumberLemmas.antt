-- Request numbers stay of 32 bits, whatever is received and sent.
use Rattle.std.proofs.Common.{◌≡◌, ℕ, zero, suc, ◌+◌, ◌-◌, ◌%◌, ◌<◌, ◌&&◌, ◌||◌, ◌==◌, not, nat_le, nat_lt, Bool, true, false, is_some, Option, Some, None, Result, Ok, Err, List, [], ◌∷◌, length, refl, arith}
use Rattle.std.specs.List.{list_all}
use Rattle.std.proofs.lemmas.Bool.{ltb-true, and_parts}
use Rattle.std.proofs.lemmas.Nat.{mod_below}
use Rattle.rand_core.specs.Stream.{Stream}
use Rattle.sctp_serial.specs.declared.api.StreamId.{StreamId}
use Rattle.sctp_serial.specs.Unwrapped.{u32_space}
use Rattle.sctp_wire.specs.Parameter.{ParameterTree, outgoing_reset_request, incoming_reset_request, reset_response}
use Rattle.sctp_chunk.specs.declared.sack.GapAckBlock.{GapAckBlock}
use Rattle.sctp_packet.specs.Chunk.{ChunkTree, FragmentTree, SackTree, data_chunk, idata_chunk, init_chunk, init_ack_chunk, sack_chunk, heartbeat_request_chunk, heartbeat_ack_chunk, abort_chunk, shutdown_chunk, shutdown_ack_chunk, error_chunk, cookie_echo_chunk, cookie_ack_chunk, shutdown_complete_chunk, re_config_chunk, forward_tsn_chunk, i_forward_tsn_chunk, unknown_chunk}
use Rattle.sctp_capabilities.specs.declared.state_cookie.StateCookieError.{StateCookieError}
use Rattle.sctp_capabilities.specs.Capabilities.{negotiate, zero_checksum_enabled}
use Rattle.sctp_capabilities.specs.StateCookie.{Cookie, read_cookie}
use Rattle.sctp_tx_outstanding.specs.OutstandingData.{number_of, fast_items}
use Rattle.sctp_tx_outstanding.specs.Sack.{is_valid}
use Rattle.sctp_tx_outstanding.specs.Forward.{is_forward_due}
use Rattle.sctp_rx.specs.DataTracker.{is_ack_due}
use Rattle.sctp_tx_queue.specs.Resets.{streams_to_request, request_resets}
use Rattle.sctp_tx.specs.RetransmissionQueue.{SackAnswer, Invalid, Valid, sender_if, emitted_if, answer_if}
use Rattle.sctp_tx.specs.ForwardPoints.{forward_chunk}
use Rattle.spec_endpoint.specs.Association.{Tcb, Phase, CookieEchoed, Established, ShutdownPending, ShutdownSent, ShutdownReceived, ShutdownAckSent, State, Closed, CookieWait, Open, Context, EndpointState, Endpoint, where_open}
use Rattle.spec_endpoint.specs.Packets.{PacketDraft, fits, add, has_chunks, packet_to, new_packet}
use Rattle.spec_endpoint.specs.ResetRequests.{Request, Requests, is_final, is_last_request, is_next_request, is_known_request, end_or_defer, response_if, handle_response_in}
use Rattle.spec_endpoint.specs.Sending.{Filling, take_due_ack, ack_if, has_data_to_send, with_ack, forward_added_if, forward_if, with_expired_abandoned, forward_if_time, with_forward, most_streams, request_of, request_unless, filled_as, BurstStep, burst_step_if, next_packet, continue_burst, burst, is_before_cookie_ack, send_with, fast_if, send_lost, answer_packet}
use Rattle.spec_endpoint.specs.Shutdown.{on_shutdown, on_shutdown_ack_in, on_shutdown_complete, abort_for_violation, on_error, refused_if, aborted_in}
use Rattle.spec_endpoint.specs.Shutdown as closing
use Rattle.spec_endpoint.specs.Data.{on_data_in, on_data_if, on_data, accepts_fragment, fragment_if, accepts_point, handle_forward_tsn_if, handle_forward_tsn_in, has_room, told_of_drop}
use Rattle.spec_endpoint.specs.Sack.{clean_blocks, sample_rtt, after_sack, on_sack_in, is_late, sampled_unless}
use Rattle.spec_endpoint.specs.Sack as acks
use Rattle.spec_endpoint.specs.Opening.{on_cookie_ack, enter_connected, tcb_by, queue_for, cookie_ack, anew, maintain_existing, maintain_existing_in, restarts, restarts_in, restart, CookieResolution, EstablishNew, RestartDetected, SimultaneousInit, MaintainExisting, Discard, InvalidTag, resolve_cookie, on_resolution, on_read_cookie, on_cookie_echo, long_word, restarted, on_cookie_unless, is_spent_at}
use Rattle.spec_endpoint.specs.StreamReset.{Handling, handling, is_ahead, resets_unless, outgoing_by, incoming_if, on_parameter, is_outgoing, HandledParameters, handle_next, handle_all, send_responses, finish_reconfig_if, on_reconfig}
use Rattle.spec_endpoint.specs.Input.{violation, on_unknown_if, is_reported, on_heartbeat, on_chunk, received_unless, receive, repeats, repeats_if}
use Rattle.sctp_wire.specs.Cause.{CauseTree}
use Rattle.proof_draws.specs.Laws.{NumberFits, NumbersFit, NumbersFitIn, number_fits, is_flowing}
use Rattle.proof_endpoint.proofs.RowMapsLemmas.{endpoint_state_in}

pub next_fits : (n : ℕ) → (n + 1) % u32_space < u32_space
next_fits n = mod_below (n + 1) u32_space (omega arith)

-- ---- bursts

module _ {P : Type 0} where
  ack_fits : (b : Bool) (x : Filling P) → NumbersFit x.tcb.requests → NumbersFit (ack_if b x).tcb.requests
  ack_fits true x h = h
  ack_fits false x h = h

  added_fits : (b : Bool) (x : Filling P) → NumbersFit x.tcb.requests → NumbersFit (forward_added_if b x).tcb.requests
  added_fits true x h = h
  added_fits false x h = h

  forward_fits : (b : Bool) (x : Filling P) → NumbersFit x.tcb.requests → NumbersFit (forward_if b x).tcb.requests
  forward_fits true x h = added_fits (fits x.packet (forward_chunk x.tcb.sender)) x h
  forward_fits false x h = h

  tested_fits : (b : Bool) (x : Filling P) → NumbersFit x.tcb.requests → NumbersFit (forward_if_time b x).tcb.requests
  tested_fits true x h = let y : Filling P = with_expired_abandoned x in forward_fits (is_forward_due y.tcb.sender.outstanding.items) y h
  tested_fits false x h = h

  -- the next number is that of the request, and the one behind it the next
  request_of_fits : (ids : List ℕ) (x : Filling P) → NumbersFit x.tcb.requests → NumbersFit (request_of ids x).tcb.requests
  request_of_fits [] x h = h
  request_of_fits (id ∷ ids) x h = record { next = next_fits x.tcb.requests.next; current = h.next; last = h.last }

  request_fits : (b : Bool) (x : Filling P) → NumbersFit x.tcb.requests → NumbersFit (request_unless b x).tcb.requests
  request_fits true x h = h
  request_fits false x h =
      let most : ℕ = most_streams x.packet in
      request_of_fits (streams_to_request most x.context.queue) (record x { context = record x.context { queue = request_resets most x.context.queue } }) h

  filled_fits : (is_first : Bool) (x : Filling P) → NumbersFit x.tcb.requests → NumbersFit (filled_as is_first x).tcb.requests
  filled_fits true x h =
      let y : Filling P = with_ack x in
      let r : Filling P = with_forward y in
      request_fits (is_some r.tcb.requests.current) r
      (tested_fits (nat_le y.context.forward_from y.context.now) y
      (ack_fits (is_ack_due (has_data_to_send x) x.tcb.tracker.tracker.ack) (record x { tcb = take_due_ack (has_data_to_send x) x.tcb }) h))
  filled_fits false x h = h

  turned_if_fits : (b is_alone : Bool) (x : Filling P) → NumbersFit x.tcb.requests → NumbersFit (burst_step_if b is_alone x).filling.tcb.requests
  turned_if_fits true is_alone x h = h
  turned_if_fits false is_alone x h = h

  go_on_fits : (rest : Filling P → Filling P) (b : Bool) (x : Filling P) → ((y : Filling P) → NumbersFit y.tcb.requests → NumbersFit (rest y).tcb.requests)
      → NumbersFit x.tcb.requests → NumbersFit (continue_burst rest (record { filling = x; is_more = b })).tcb.requests
  go_on_fits rest true x f h = f x h
  go_on_fits rest false x f h = h

  burst_fits : (most : ℕ) (is_first is_alone : Bool) (x : Filling P) → NumbersFit x.tcb.requests → NumbersFit (burst most is_first is_alone x).tcb.requests
  burst_fits zero is_first is_alone x h = h
  burst_fits (suc most) is_first is_alone x h =
      let y : Filling P = filled_as is_first x in
      let t : BurstStep P = next_packet is_first is_alone x in
      go_on_fits (burst most false is_alone) t.is_more t.filling (burst_fits most false is_alone)
      (turned_if_fits (has_chunks y.packet) is_alone y (filled_fits is_first x h))

  send_with_fits : (is_alone : Bool) (p : PacketDraft) (t : Tcb) (c : Context P) → NumbersFit t.requests → NumbersFit (send_with is_alone p t c).tcb.requests
  send_with_fits is_alone p t c h = burst_fits c.options.max_burst true is_alone (record { packet = p; tcb = t; context = c }) h

  fast_fits : (b : Bool) (t : Tcb) (c : Context P) → NumbersFit t.requests → NumbersFit (fast_if b t c).tcb.requests
  fast_fits true t c h = h
  fast_fits false t c h = h

  lost_fits : (t : Tcb) (c : Context P) → NumbersFit t.requests → NumbersFit (send_lost t c).tcb.requests
  lost_fits t c h = fast_fits (nat_lt 0 (fast_items t.sender.outstanding.items)) t c h

-- ---- control blocks

taken_fits : (b : Bool) (tsn : ℕ) (immediate : Bool) (f : FragmentTree) (t : Tcb) → NumbersFit t.requests → NumbersFit (fragment_if b tsn immediate f t).requests
taken_fits true tsn immediate f t h = h
taken_fits false tsn immediate f t h = h

told_fits : (b room : Bool) (t : Tcb) → NumbersFit t.requests → NumbersFit (told_of_drop b room t).requests
told_fits true true t h = h
told_fits true false t h = h
told_fits false room t h = h

sampled_fits : (o : Option ℕ) (t : Tcb) → NumbersFit t.requests → NumbersFit (sample_rtt o t).requests
sampled_fits None t h = h
sampled_fits (Some sample) t h = h

forwarded_fits : (b : Bool) (tsn : ℕ) (es : List _) (t : Tcb) → NumbersFit t.requests → NumbersFit (handle_forward_tsn_if b tsn es t).requests
forwarded_fits true tsn es t h = h
forwarded_fits false tsn es t h = h

forward_in_fits : (st : State) (tsn : ℕ) (es : List _) → NumbersFitIn st → NumbersFitIn (handle_forward_tsn_in st tsn es)
forward_in_fits Closed tsn es h = tt
forward_in_fits (CookieWait tag first t1) tsn es h = tt
forward_in_fits (Open phase t) tsn es h = forwarded_fits (accepts_point tsn es t) tsn es t h

answered_by_fits : (b : Bool) (now rto : ℕ) (r : Request) (x : Requests) → r.number < u32_space → NumbersFit x → NumbersFit (end_or_defer b now rto r x)
answered_by_fits true now rto r x k h = record { next = h.next; current = tt; last = h.last }
answered_by_fits false now rto r x k h = record { next = h.next; current = k; last = h.last }

answered_if_fits : (b : Bool) (now rto result : ℕ) (r : Request) (x : Requests) → r.number < u32_space → NumbersFit x → NumbersFit (response_if b now rto result r x)
answered_if_fits true now rto result r x k h = answered_by_fits (is_final result) now rto r x k h
answered_if_fits false now rto result r x k h = h

pub answered_in_fits : (o : Option Request) (now rto number result : ℕ) (x : Requests) → NumberFits o → NumbersFit x → NumbersFit (handle_response_in o now rto number result x)
answered_in_fits None now rto number result x k h = h
answered_in_fits (Some r) now rto number result x k h = answered_if_fits (r.number == number) now rto result r x k h

-- ---- rows

-- a row for states with a control block
abbrev OpenFits : {P : Type 0} → (row : Phase → Tcb → Context P → EndpointState P) → Type 0
OpenFits {P} row = (phase : Phase) (t : Tcb) (c : Context P) → NumbersFit t.requests → NumbersFitIn (row phase t c).state

module _ {P : Type 0} where
  where_from : (row : Phase → Tcb → Context P → EndpointState P) (st : State) (c : Context P) → OpenFits row → NumbersFitIn st
      → NumbersFitIn (where_open row (endpoint_state_in st c)).state
  where_from row Closed c f h = tt
  where_from row (CookieWait tag first t1) c f h = tt
  where_from row (Open phase t) c f h = f phase t c h

  where_fits : (row : Phase → Tcb → Context P → EndpointState P) (s : EndpointState P) → OpenFits row → NumbersFitIn s.state → NumbersFitIn (where_open row s).state
  where_fits row s f h = where_from row s.state s.context f h

  data_in_fits : (st : State) (tsn : ℕ) (immediate : Bool) (f : FragmentTree) (c : Context P) → NumbersFitIn st → NumbersFitIn (on_data_in st tsn immediate f c).state
  data_in_fits Closed tsn immediate f c h = tt
  data_in_fits (CookieWait tag first t1) tsn immediate f c h = tt
  data_in_fits (Open phase t) tsn immediate f c h =
      let b : Bool = c.options.avoid_stalls in
      let room : Bool = has_room c.options tsn t in
      taken_fits (accepts_fragment c.options tsn f t) tsn immediate f (told_of_drop b room t) (told_fits b room t h)

  data_if_fits : (b : Bool) (tsn : ℕ) (immediate : Bool) (f : FragmentTree) (s : EndpointState P) → NumbersFitIn s.state → NumbersFitIn (on_data_if b tsn immediate f s).state
  data_if_fits true tsn immediate f s h = h
  data_if_fits false tsn immediate f s h = data_in_fits s.state tsn immediate f s.context h

  data_fits : (tsn : ℕ) (immediate : Bool) (f : FragmentTree) (s : EndpointState P) → NumbersFitIn s.state → NumbersFitIn (on_data tsn immediate f s).state
  data_fits tsn immediate f s h = data_if_fits (length f.payload == 0) tsn immediate f s h

  received_fits : (a : SackAnswer) → OpenFits {P = P} (after_sack a)
  received_fits Invalid phase t c h = h
  received_fits (Valid rtt progress) phase t c h =
      let v : Tcb = sample_rtt rtt t in
      let o = closing.maybe_send_shutdown_or_ack phase v (acks.clear_errors_if progress c) in
      let x = send_lost v o.context in
      send_with_fits (is_before_cookie_ack o.phase) (answer_packet o.phase x.context.options x.tcb) x.tcb x.context (lost_fits v o.context (sampled_fits rtt t h))

  sack_in_fits : (st : State) (k : SackTree) (c : Context P) → NumbersFitIn st → NumbersFitIn (on_sack_in st k c).state
  sack_in_fits Closed k c h = tt
  sack_in_fits (CookieWait tag first t1) k c h = tt
  sack_in_fits (Open phase t) k c h =
      let m : ℕ = number_of t.sender.outstanding k.cumulative_tsn_ack in
      let bs : List GapAckBlock = clean_blocks k.gap_ack_blocks in
      let valid : Bool = is_valid m bs t.sender.outstanding.items in
      received_fits (sampled_unless (is_late c.options m t.sender.outstanding.items) (answer_if valid c.now m bs t.sender)) phase (record t { sender = sender_if valid c.now m k.a_rwnd bs t.sender c.emitted }) (record c { emitted = emitted_if valid m bs t.sender c.emitted }) h

  cookie_ack_fits : OpenFits {P = P} on_cookie_ack
  cookie_ack_fits (CookieEchoed t1 cookie) t c h = send_with_fits false (new_packet c.options t) t (enter_connected c) h
  cookie_ack_fits Established t c h = h
  cookie_ack_fits ShutdownPending t c h = h
  cookie_ack_fits (ShutdownSent t2) t c h = h
  cookie_ack_fits ShutdownReceived t c h = h
  cookie_ack_fits (ShutdownAckSent t2) t c h = h

  complete_fits : OpenFits {P = P} on_shutdown_complete
  complete_fits (CookieEchoed t1 cookie) t c h = h
  complete_fits Established t c h = h
  complete_fits ShutdownPending t c h = h
  complete_fits (ShutdownSent t2) t c h = h
  complete_fits ShutdownReceived t c h = h
  complete_fits (ShutdownAckSent t2) t c h = tt

  shutdown_ack_fits : (tag : ℕ) (st : State) (c : Context P) → NumbersFitIn st → NumbersFitIn (on_shutdown_ack_in tag st c).state
  shutdown_ack_fits tag Closed c h = tt
  shutdown_ack_fits tag (CookieWait mine first t1) c h = tt
  shutdown_ack_fits tag (Open (CookieEchoed t1 cookie) t) c h = h
  shutdown_ack_fits tag (Open Established t) c h = h
  shutdown_ack_fits tag (Open ShutdownPending t) c h = h
  shutdown_ack_fits tag (Open (ShutdownSent t2) t) c h = tt
  shutdown_ack_fits tag (Open ShutdownReceived t) c h = h
  shutdown_ack_fits tag (Open (ShutdownAckSent t2) t) c h = tt

  unknown_fits : (b : Bool) (typ flags : ℕ) (value : List ℕ) (s : EndpointState P) → NumbersFitIn s.state → NumbersFitIn (on_unknown_if b typ flags value s).state
  unknown_fits true typ flags value s h = h
  unknown_fits false typ flags value s h = h

  resets_fit : (b : Bool) (number last_tsn : ℕ) (streams : List StreamId) (x : Handling P) → number < u32_space → NumbersFit x.tcb.requests
      → NumbersFit (resets_unless b number last_tsn streams x).tcb.requests
  resets_fit true number last_tsn streams x k h = record { next = h.next; current = h.current; last = k }
  resets_fit false number last_tsn streams x k h = record { next = h.next; current = h.current; last = k }

  outgoing_fits : (a b d : Bool) (number last_tsn : ℕ) (streams : List StreamId) (x : Handling P) → number < u32_space → NumbersFit x.tcb.requests
      → NumbersFit (outgoing_by a b d number last_tsn streams x).tcb.requests
  outgoing_fits true b true number last_tsn streams x k h = h
  outgoing_fits true b false number last_tsn streams x k h = resets_fit (is_ahead last_tsn x.tcb) number last_tsn streams x k h
  outgoing_fits false true d number last_tsn streams x k h = resets_fit (is_ahead last_tsn x.tcb) number last_tsn streams x k h
  outgoing_fits false false d number last_tsn streams x k h = h

  incoming_fits : (b : Bool) (number : ℕ) (x : Handling P) → number < u32_space → NumbersFit x.tcb.requests → NumbersFit (incoming_if b number x).tcb.requests
  incoming_fits true number x k h = record { next = h.next; current = h.current; last = k }
  incoming_fits false number x k h = h

  pub parameter_fits : (p : ParameterTree) (x : Handling P) → number_fits p ≡ true → NumbersFit x.tcb.requests → NumbersFit (on_parameter p x).tcb.requests
  parameter_fits (outgoing_reset_request number response last_tsn streams) x k h =
      outgoing_fits (is_last_request number x.tcb.requests) (is_next_request number x.tcb.requests) (is_final x.tcb.requests.result) number last_tsn.0 streams x (ltb-true number u32_space k) h
  parameter_fits (incoming_reset_request number streams) x k h = incoming_fits (is_known_request number x.tcb.requests) number x (ltb-true number u32_space k) h
  parameter_fits (reset_response number result sender receiver) x k h = answered_in_fits x.tcb.requests.current x.context.now _ number result x.tcb.requests h.current h
  parameter_fits p x k h = h

  next_fits_by : (b : Bool) (rest : Handling P → HandledParameters P) (p : ParameterTree) (x : Handling P) → number_fits p ≡ true
      → ((y : Handling P) → NumbersFit y.tcb.requests → NumbersFit (rest y).handling.tcb.requests) → NumbersFit x.tcb.requests
      → NumbersFit (handle_next b rest p x).handling.tcb.requests
  next_fits_by true rest p x k f h = h
  next_fits_by false rest p x k f h = f (on_parameter p x) (parameter_fits p x k h)

  handled_fits : (ps : List ParameterTree) (b : Bool) (x : Handling P) → list_all number_fits ps ≡ true → NumbersFit x.tcb.requests
      → NumbersFit (handle_all ps b x).handling.tcb.requests
  handled_fits [] b x k h = h
  handled_fits (p ∷ ps) b x k h =
      let both = and_parts (number_fits p) (list_all number_fits ps) k in
      next_fits_by (is_outgoing p && b) (handle_all ps (is_outgoing p || b)) p x both.0 (λ y. handled_fits ps (is_outgoing p || b) y both.1) h

  finished_fits : (b : Bool) (phase : Phase) (x : Handling P) → NumbersFit x.tcb.requests → NumbersFitIn (finish_reconfig_if b phase x).state
  finished_fits true phase x h =
      let d : Context P = send_responses x.responses x.tcb x.context in
      send_with_fits (is_before_cookie_ack phase) (new_packet d.options x.tcb) x.tcb d h
  finished_fits false phase x h = h

  reconfig_fits : (ps : List ParameterTree) → list_all number_fits ps ≡ true → OpenFits {P = P} (on_reconfig ps)
  reconfig_fits [] k phase t c h = h
  reconfig_fits (p ∷ ps) k phase t c h =
      let x : HandledParameters P = handle_all (p ∷ ps) false (handling t c) in
      finished_fits x.is_whole phase x.handling (handled_fits (p ∷ ps) false (handling t c) k h)

  -- ---- chunks

  refused_fits : (b : Bool) (causes : List CauseTree) (st : State) (c : Context P) → NumbersFitIn st → NumbersFitIn (refused_if b causes st c).state
  refused_fits true causes st c h = tt
  refused_fits false causes st c h = h

  aborted_fits : (causes : List CauseTree) (st : State) (c : Context P) → NumbersFitIn st → NumbersFitIn (aborted_in causes st c).state
  aborted_fits causes Closed c h = h
  aborted_fits causes (CookieWait tag first t1) c h = refused_fits c.options.avoid_stalls causes (CookieWait tag first t1) c h
  aborted_fits causes (Open phase t) c h = tt

  chunk_fits : (tag : ℕ) (chunk : ChunkTree) (e : Endpoint P) → is_flowing chunk ≡ true → NumbersFitIn e.endpoint_state.state → NumbersFitIn (on_chunk tag chunk e).endpoint_state.state
  chunk_fits tag (data_chunk tsn immediate f) e k h = data_fits tsn immediate f e.endpoint_state h
  chunk_fits tag (idata_chunk tsn immediate f) e k h = data_fits tsn immediate f e.endpoint_state h
  chunk_fits tag (init_chunk i) e k h = cc
  chunk_fits tag (init_ack_chunk i) e k h = cc
  chunk_fits tag (sack_chunk x) e k h = sack_in_fits e.endpoint_state.state x e.endpoint_state.context h
  chunk_fits tag (heartbeat_request_chunk parameters) e k h = where_fits (on_heartbeat parameters) e.endpoint_state (λ phase t c j. j) h
  chunk_fits tag (heartbeat_ack_chunk parameters) e k h = h
  chunk_fits tag (abort_chunk reflected causes) e k h = aborted_fits causes e.endpoint_state.state e.endpoint_state.context h
  chunk_fits tag (shutdown_chunk tsn) e k h = where_fits on_shutdown e.endpoint_state (λ phase t c j. j) h
  chunk_fits tag shutdown_ack_chunk e k h = shutdown_ack_fits tag e.endpoint_state.state e.endpoint_state.context h
  chunk_fits tag (error_chunk causes) e k h = where_fits (on_error causes) e.endpoint_state (λ phase t c j. j) h
  chunk_fits tag (cookie_echo_chunk cookie) e k h = cc
  chunk_fits tag cookie_ack_chunk e k h = where_fits on_cookie_ack e.endpoint_state cookie_ack_fits h
  chunk_fits tag (shutdown_complete_chunk reflected) e k h = where_fits on_shutdown_complete e.endpoint_state complete_fits h
  chunk_fits tag (re_config_chunk parameters) e k h = where_fits (on_reconfig parameters) e.endpoint_state (reconfig_fits parameters k) h
  chunk_fits tag (forward_tsn_chunk tsn skipped) e k h = forward_in_fits e.endpoint_state.state tsn skipped h
  chunk_fits tag (i_forward_tsn_chunk tsn skipped) e k h = forward_in_fits e.endpoint_state.state tsn skipped h
  chunk_fits tag (unknown_chunk typ flags value) e k h = unknown_fits (is_reported typ) typ flags value e.endpoint_state h

  received_unless_fits : (o : Option (List ℕ)) (tag : ℕ) (chunk : ChunkTree) (e : Endpoint P) → is_flowing chunk ≡ true → NumbersFitIn e.endpoint_state.state
      → NumbersFitIn (received_unless o tag chunk e).end.endpoint_state.state
  received_unless_fits (Some reason) tag chunk e k h = where_fits (λ phase t c. abort_for_violation reason t c) e.endpoint_state (λ phase t c j. tt) h
  received_unless_fits None tag chunk e k h = chunk_fits tag chunk e k h

  pub receive_fits : (tag : ℕ) (chunk : ChunkTree) (e : Endpoint P) → is_flowing chunk ≡ true → NumbersFitIn e.endpoint_state.state
      → NumbersFitIn (receive tag chunk e).end.endpoint_state.state
  receive_fits tag chunk e k h = received_unless_fits (violation e.endpoint_state.state chunk) tag chunk e k h

  repeats_fit : OpenFits {P = P} repeats
  repeats_fit (CookieEchoed t1 cookie) t c h = h
  repeats_fit Established t c h = h
  repeats_fit ShutdownPending t c h = h
  repeats_fit (ShutdownSent t2) t c h = h
  repeats_fit ShutdownReceived t c h = h
  repeats_fit (ShutdownAckSent t2) t c h = h

  pub repeats_if_fits : (b : Bool) (s : EndpointState P) → NumbersFitIn s.state → NumbersFitIn (repeats_if b s).state
  repeats_if_fits true s h = where_fits repeats s repeats_fit h
  repeats_if_fits false s h = h

  -- ---- COOKIE ECHO

  new_fits : (k : Cookie) (c : Context P) (tie : ℕ) → k.my_initial_tsn < u32_space → NumbersFit (tcb_by c.options k tie).requests
  new_fits k c tie first = record { next = first; current = tt; last = mod_below (k.peer_initial_tsn + u32_space - 1) u32_space (omega arith) }

  sent_fits : (tag : ℕ) (t : Tcb) (c : Context P) → NumbersFit t.requests → NumbersFit (cookie_ack tag t c).tcb.requests
  sent_fits tag t c h =
      send_with_fits false (add cookie_ack_chunk (record (packet_to tag c.options.mtu) { is_summed = not (zero_checksum_enabled t.capabilities) })) t c h

  anew_fits : (resets : Bool) (k : Cookie) (tie : ℕ) (c : Context P) → k.my_initial_tsn < u32_space → NumbersFitIn (anew resets k tie c).state
  anew_fits resets k tie c first =
      sent_fits k.peer_tag (tcb_by c.options k tie)
      (enter_connected (record c { queue = queue_for resets (negotiate c.options k.peer_capabilities).message_interleaving c.queue; last_tag = k.my_tag })) (new_fits k c tie first)

  kept_fits : (k : Cookie) → OpenFits {P = P} (maintain_existing k)
  kept_fits k (CookieEchoed t1 cookie) t c h = sent_fits k.peer_tag t (enter_connected c) h
  kept_fits k Established t c h = sent_fits k.peer_tag t c h
  kept_fits k ShutdownPending t c h = sent_fits k.peer_tag t c h
  kept_fits k (ShutdownSent t2) t c h = sent_fits k.peer_tag t c h
  kept_fits k ShutdownReceived t c h = sent_fits k.peer_tag t c h
  kept_fits k (ShutdownAckSent t2) t c h = sent_fits k.peer_tag t c h

  keep_fits : (k : Cookie) (st : State) (c : Context P) → NumbersFitIn st → NumbersFitIn (maintain_existing_in k (endpoint_state_in st c)).state
  keep_fits k Closed c h = tt
  keep_fits k (CookieWait tag first t1) c h = tt
  keep_fits k (Open phase t) c h = kept_fits k phase t c h

  restarted_fits : (k : Cookie) (e : Endpoint P) → k.my_initial_tsn < u32_space → NumbersFitIn (restarts k e).endpoint_state.state
  restarted_fits k e first = anew_fits true k (long_word e) (restarted e.endpoint_state.context) first

  restarts_fit : (phase : Phase) (t : Tcb) (k : Cookie) (e : Endpoint P) → k.my_initial_tsn < u32_space → NumbersFitIn e.endpoint_state.state
      → NumbersFitIn (restarts_in phase t k e).endpoint_state.state
  restarts_fit (CookieEchoed t1 cookie) t k e first h = restarted_fits k e first
  restarts_fit Established t k e first h = restarted_fits k e first
  restarts_fit ShutdownPending t k e first h = restarted_fits k e first
  restarts_fit (ShutdownSent t2) t k e first h = restarted_fits k e first
  restarts_fit ShutdownReceived t k e first h = restarted_fits k e first
  restarts_fit (ShutdownAckSent t2) t k e first h = h

  restart_fits : (st : State) (k : Cookie) (c : Context P) (w : Stream) → k.my_initial_tsn < u32_space → NumbersFitIn st
      → NumbersFitIn (restart k (record { endpoint_state = endpoint_state_in st c; draws = w })).endpoint_state.state
  restart_fits Closed k c w first h = h
  restart_fits (CookieWait tag mine t1) k c w first h = h
  restart_fits (Open phase t) k c w first h = restarts_fit phase t k (record { endpoint_state = endpoint_state_in (Open phase t) c; draws = w }) first h

  verdict_fits : (v : CookieResolution) (k : Cookie) (e : Endpoint P) → k.my_initial_tsn < u32_space → NumbersFitIn e.endpoint_state.state → NumbersFitIn (on_resolution v k e).endpoint_state.state
  verdict_fits EstablishNew k e first h = anew_fits e.endpoint_state.context.options.avoid_stalls k (long_word e) e.endpoint_state.context first
  verdict_fits RestartDetected k e first h = restart_fits e.endpoint_state.state k e.endpoint_state.context e.draws first h
  verdict_fits SimultaneousInit k e first h = anew_fits true k (long_word e) e.endpoint_state.context first
  verdict_fits MaintainExisting k e first h = keep_fits k e.endpoint_state.state e.endpoint_state.context h
  verdict_fits Discard k e first h = h
  verdict_fits InvalidTag k e first h = h

  cookie_unless_fits : (b : Bool) (tag : ℕ) (k : Cookie) (e : Endpoint P) → k.my_initial_tsn < u32_space → NumbersFitIn e.endpoint_state.state
      → NumbersFitIn (on_cookie_unless b tag k e).endpoint_state.state
  cookie_unless_fits true tag k e first h = h
  cookie_unless_fits false tag k e first h = verdict_fits (resolve_cookie e.endpoint_state.context.options.avoid_stalls tag k e.endpoint_state.state) k e first h

  read_fits : (tag : ℕ) (r : Result Cookie StateCookieError) (e : Endpoint P) → ((k : Cookie) → r ≡ Ok k → k.my_initial_tsn < u32_space) → NumbersFitIn e.endpoint_state.state
      → NumbersFitIn (on_read_cookie tag r e).endpoint_state.state
  read_fits tag (Ok k) e first h = cookie_unless_fits (is_spent_at k e.endpoint_state) tag k e (first k refl) h
  read_fits tag (Err fault) e first h = h

  pub cookie_echo_fits : (tag : ℕ) (cookie : List ℕ) (e : Endpoint P) → ((k : Cookie) → read_cookie cookie ≡ Ok k → k.my_initial_tsn < u32_space) → NumbersFitIn e.endpoint_state.state
      → NumbersFitIn (on_cookie_echo tag cookie e).endpoint_state.state
  cookie_echo_fits tag cookie e first h = read_fits tag (read_cookie cookie) e first h
