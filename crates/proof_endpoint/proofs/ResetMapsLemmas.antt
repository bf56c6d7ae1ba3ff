-- Resets of streams.
use Rattle.std.proofs.Common.{◌≡◌, ℕ, ◌&&◌, ◌||◌, Bool, true, false, cond, Option, Some, None, List, [], ◌∷◌, codes, refl, ap, ◌∙◌}
use Rattle.sctp_serial.specs.declared.api.StreamId.{StreamId}
use Rattle.sctp_wire.specs.Parameter.{ParameterTree, outgoing_reset_request, incoming_reset_request, reset_response}
use Rattle.sctp_packet.specs.Chunk.{re_config_chunk}
use Rattle.sctp_state.specs.declared.api.ErrorKind.TheVariants.{ProtocolViolation}
use Rattle.sctp_state.specs.declared.api.errors.ResetStreamsError.{ResetStreamsError}
use Rattle.sctp_state.specs.Events.{OnIncomingStreamReset, OnStreamsResetPerformed, OnStreamsResetFailed, Emitted, emit_events, emit_given_up, expired_events, numbers_of}
use Rattle.sctp_state.specs.declared.api.GivenUpCause.TheVariants.{Reset}
use Rattle.sctp_tx_queue.specs.SendQueue.{Queued, Queue, stream}
use Rattle.sctp_tx_queue.specs.Settings.{Changed}
use Rattle.sctp_tx_queue.specs.Resets.{is_partly, emit_unsent, prepare_reset, commit_resets, roll_back_resets}
use Rattle.spec_endpoint.specs.Association.{Tcb, Phase, Context, EndpointState, open_as, with_context, where_open}
use Rattle.spec_endpoint.specs.ResetRequests.{is_final, Outcome, Unsettled, Done, Denied, outcome, is_last_request, is_next_request, is_known_request}
use Rattle.spec_endpoint.specs.Sending.{AfterSending, is_before_cookie_ack, open_with, send_buffered, send_in}
use Rattle.spec_endpoint.specs.StreamReset.{Handling, handling, performs, is_ahead, resets_unless, resets, outgoing_by, incoming_if, on_outcome, on_response, is_outgoing, on_parameter, HandledParameters, handle_next, handle_all, send_responses, finish_reconfig_if, finish_reconfig, on_reconfig, reset_refusal, prepare_all, streams_reset_unless, reset_streams}
use Rattle.spec_endpoint.specs.StreamReset as rows
use Rattle.proof_endpoint.specs.Mapped.{Mapping, map_context, map_emitted, map_endpoint_state}
use Rattle.proof_endpoint.proofs.EmittedMapsLemmas.{map_changed, maps_cond, maps_expiry, maps_emit_event_all}
use Rattle.proof_endpoint.proofs.SendingMapsLemmas.{maps_say, maps_emit_error, maps_emit_chunk, maps_send_buffered, maps_send_in}
use Rattle.proof_endpoint.proofs.RowMapsLemmas.{OpenMaps, maps_where_open}

abbrev map_handling : {P Q : Type 0} → Mapping P Q → Handling P → Handling Q
map_handling f x = record { tcb = x.tcb; context = map_context f x.context; responses = x.responses }

abbrev map_handled : {P Q : Type 0} → Mapping P Q → HandledParameters P → HandledParameters Q
map_handled f h = record { handling = map_handling f h.handling; is_whole = h.is_whole }

abbrev handling_with : {P : Type 0} → Tcb → List ParameterTree → Context P → Handling P
handling_with t rs c = record { tcb = t; context = c; responses = rs }

abbrev with_queue : {P : Type 0} → Queue → Context P → Context P
with_queue q c = record c { queue = q }

-- a queue that was changed, and what was emitted
abbrev changed_with : {P : Type 0} → Queue → Emitted P → Changed P
changed_with q t = record { queue = q; emitted = t }

abbrev changed_to : {P : Type 0} → Context P → Changed P → Context P
changed_to c x = record c { queue = x.queue; emitted = x.emitted }

module _ {P Q : Type 0} (f : Mapping P Q) where
  -- ---- messages that are dropped

  maps_waiting : (ms : List Queued) (t : Emitted P) → emit_unsent ms (map_emitted f t) ≡ map_emitted f (emit_unsent ms t)
  maps_waiting [] t = refl
  maps_waiting (m ∷ ms) t =
      let given_up : Emitted P = emit_given_up m.number Reset t in
      let said : Emitted P = emit_events (expired_events m.lifecycle) given_up in
      ap (λ (u : Emitted Q). emit_unsent ms u)
      (maps_cond (map_emitted f) (is_partly m) t said (map_emitted f t) (emit_events (expired_events m.lifecycle) (map_emitted f given_up)) refl
      (maps_emit_event_all f (expired_events m.lifecycle) (expired_events m.lifecycle) given_up (maps_expiry f m.lifecycle)))
      ∙ maps_waiting ms (cond (is_partly m) t said)

  maps_prepare_reset : (id : ℕ) (q : Queue) (t : Emitted P) → prepare_reset id q (map_emitted f t) ≡ map_changed f (prepare_reset id q t)
  maps_prepare_reset id q t = ap (λ (u : Emitted Q). changed_with (prepare_reset id q t).queue u) (maps_waiting (stream id q.streams).messages t)

  -- ---- requests of the peer

  maps_performs : (number : ℕ) (streams : List StreamId) (x : Handling P) → performs number streams (map_handling f x) ≡ map_handling f (performs number streams x)
  maps_performs number streams x =
      let y : Handling P = performs number streams x in
      ap (λ (c : Context Q). handling_with y.tcb y.responses c) (maps_say f (OnIncomingStreamReset (numbers_of streams)) x.context)

  maps_resets_unless : (b : Bool) (number last_tsn : ℕ) (streams : List StreamId) (x : Handling P)
      → resets_unless b number last_tsn streams (map_handling f x) ≡ map_handling f (resets_unless b number last_tsn streams x)
  maps_resets_unless true number last_tsn streams x = refl
  maps_resets_unless false number last_tsn streams x = maps_performs number streams x

  maps_resets : (number last_tsn : ℕ) (streams : List StreamId) (x : Handling P)
      → resets number last_tsn streams (map_handling f x) ≡ map_handling f (resets number last_tsn streams x)
  maps_resets number last_tsn streams x = maps_resets_unless (is_ahead last_tsn x.tcb) number last_tsn streams x

  maps_outgoing_by : (a b d : Bool) (number last_tsn : ℕ) (streams : List StreamId) (x : Handling P)
      → outgoing_by a b d number last_tsn streams (map_handling f x) ≡ map_handling f (outgoing_by a b d number last_tsn streams x)
  maps_outgoing_by true b true number last_tsn streams x = refl
  maps_outgoing_by true b false number last_tsn streams x = maps_resets number last_tsn streams x
  maps_outgoing_by false true d number last_tsn streams x = maps_resets number last_tsn streams x
  maps_outgoing_by false false d number last_tsn streams x = refl

  maps_incoming_if : (b : Bool) (number : ℕ) (x : Handling P) → incoming_if b number (map_handling f x) ≡ map_handling f (incoming_if b number x)
  maps_incoming_if true number x = refl
  maps_incoming_if false number x = refl

  -- ---- an answer to the own one

  maps_outcome : (o : Outcome) (c : Context P) → on_outcome o (map_context f c) ≡ map_context f (on_outcome o c)
  maps_outcome Unsettled c = refl
  maps_outcome (Done streams) c = ap (λ (d : Context Q). with_queue (commit_resets streams c.queue) d) (maps_say f (OnStreamsResetPerformed streams) c)
  maps_outcome (Denied streams) c = ap (λ (d : Context Q). with_queue (roll_back_resets streams c.queue) d) (maps_say f (OnStreamsResetFailed streams) c)

  -- ---- RE-CONFIG

  maps_parameter : (p : ParameterTree) (x : Handling P) → on_parameter p (map_handling f x) ≡ map_handling f (on_parameter p x)
  maps_parameter (outgoing_reset_request number response last_tsn streams) x =
      maps_outgoing_by (is_last_request number x.tcb.requests) (is_next_request number x.tcb.requests) (is_final x.tcb.requests.result) number last_tsn.0 streams x
  maps_parameter (incoming_reset_request number streams) x = maps_incoming_if (is_known_request number x.tcb.requests) number x
  maps_parameter (reset_response number result sender receiver) x =
      let s : AfterSending P = on_response number result x.tcb x.context in
      ap (λ (c : Context Q). handling_with s.tcb x.responses c) (maps_outcome (outcome number result x.tcb.requests.current) x.context)
  maps_parameter p x = refl

  maps_handle_next : (b : Bool) (rest : Handling P → HandledParameters P) (mapped : Handling Q → HandledParameters Q) (p : ParameterTree) (x : Handling P)
      → ((y : Handling P) → mapped (map_handling f y) ≡ map_handled f (rest y)) → handle_next b mapped p (map_handling f x) ≡ map_handled f (handle_next b rest p x)
  maps_handle_next true rest mapped p x h = refl
  maps_handle_next false rest mapped p x h = ap (λ (y : Handling Q). mapped y) (maps_parameter p x) ∙ h (on_parameter p x)

  maps_handle_all : (ps : List ParameterTree) (b : Bool) (x : Handling P) → handle_all ps b (map_handling f x) ≡ map_handled f (handle_all ps b x)
  maps_handle_all [] b x = refl
  maps_handle_all (p ∷ ps) b x =
      maps_handle_next (is_outgoing p && b) (handle_all ps (is_outgoing p || b)) (handle_all ps (is_outgoing p || b)) p x (maps_handle_all ps (is_outgoing p || b))

  maps_send_responses : (rs : List ParameterTree) (t : Tcb) (c : Context P) → send_responses rs t (map_context f c) ≡ map_context f (send_responses rs t c)
  maps_send_responses [] t c = refl
  maps_send_responses (r ∷ rs) t c = maps_emit_chunk f (re_config_chunk (r ∷ rs)) t c

  maps_finished_if : (b : Bool) (phase : Phase) (x : Handling P) → finish_reconfig_if b phase (map_handling f x) ≡ map_endpoint_state f (finish_reconfig_if b phase x)
  maps_finished_if true phase x =
      let d : Context P = send_responses x.responses x.tcb x.context in
      ap (λ (e : Context Q). open_with phase (send_buffered (is_before_cookie_ack phase) x.tcb e)) (maps_send_responses x.responses x.tcb x.context)
      ∙ ap (λ (s : AfterSending Q). open_with phase s) (maps_send_buffered f (is_before_cookie_ack phase) x.tcb d)
  maps_finished_if false phase x =
      ap (λ (e : Context Q). open_as phase x.tcb e)
      (maps_emit_error f ProtocolViolation (codes "RE-CONFIG chunk must not have multiple Outgoing SSN Reset Request parameters") x.context)

  pub maps_reconfig : (ps : List ParameterTree) → OpenMaps f (on_reconfig ps) (on_reconfig ps)
  maps_reconfig [] phase t c =
      ap (λ (e : Context Q). open_as phase t e) (maps_emit_error f ProtocolViolation (codes "RE-CONFIG chunk must have at least one parameter") c)
  maps_reconfig (p ∷ ps) phase t c =
      let h : HandledParameters P = handle_all (p ∷ ps) false (handling t c) in
      ap (λ (y : HandledParameters Q). finish_reconfig phase y) (maps_handle_all (p ∷ ps) false (handling t c)) ∙ maps_finished_if h.is_whole phase h.handling

  -- ---- the call

  maps_prepared : (id : ℕ) (c : Context P) → rows.prepare_reset_stream id (map_context f c) ≡ map_context f (rows.prepare_reset_stream id c)
  maps_prepared id c = ap (λ (x : Changed Q). changed_to (map_context f c) x) (maps_prepare_reset id c.queue c.emitted)

  maps_prepare_all : (ids : List ℕ) (c : Context P) → prepare_all ids (map_context f c) ≡ map_context f (prepare_all ids c)
  maps_prepare_all [] c = refl
  maps_prepare_all (id ∷ ids) c =
      ap (λ (d : Context Q). prepare_all ids d) (maps_prepared id c) ∙ maps_prepare_all ids (rows.prepare_reset_stream id c)

  maps_streams_reset_unless : (o : Option ResetStreamsError) (ids : List ℕ) (s : EndpointState P) → streams_reset_unless o ids (map_endpoint_state f s) ≡ map_endpoint_state f (streams_reset_unless o ids s)
  maps_streams_reset_unless None ids s =
      let d : Context P = prepare_all ids s.context in
      ap (λ (e : Context Q). where_open send_in (with_context (map_endpoint_state f s) e)) (maps_prepare_all ids s.context)
      ∙ maps_where_open f send_in send_in (with_context s d) (maps_send_in f)
  maps_streams_reset_unless (Some e) ids s = refl

  pub maps_reset_streams : (ids : List ℕ) (s : EndpointState P) → reset_streams ids (map_endpoint_state f s) ≡ map_endpoint_state f (reset_streams ids s)
  maps_reset_streams ids s = maps_streams_reset_unless (reset_refusal s.state) ids s
