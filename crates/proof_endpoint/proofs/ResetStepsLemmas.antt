-- What resets of streams emit.
use Rattle.std.proofs.Common.{ℕ, ◌&&◌, ◌||◌, Bool, true, false, cond, Option, Some, None, List, [], ◌∷◌, codes, refl}
use Rattle.sctp_serial.specs.declared.api.StreamId.{StreamId}
use Rattle.sctp_wire.specs.Parameter.{ParameterTree, outgoing_reset_request, incoming_reset_request, reset_response}
use Rattle.sctp_packet.specs.Chunk.{re_config_chunk}
use Rattle.sctp_state.specs.declared.api.ErrorKind.TheVariants.{ProtocolViolation}
use Rattle.sctp_state.specs.declared.api.errors.ResetStreamsError.{ResetStreamsError}
use Rattle.sctp_state.specs.Events.{OnIncomingStreamReset, OnStreamsResetPerformed, OnStreamsResetFailed, Emitted, emit_events, emit_given_up, expired_events, numbers_of}
use Rattle.sctp_state.specs.declared.api.GivenUpCause.TheVariants.{Reset}
use Rattle.sctp_tx_queue.specs.SendQueue.{Queued, Queue, stream}
use Rattle.sctp_tx_queue.specs.Resets.{is_partly, emit_unsent, prepare_reset}
use Rattle.spec_endpoint.specs.Association.{Tcb, Phase, Open, Context, EndpointState, with_context, Packing}
use Rattle.spec_endpoint.specs.ResetRequests.{is_final, Outcome, Unsettled, Done, Denied, outcome, is_last_request, is_next_request, is_known_request}
use Rattle.spec_endpoint.specs.Sending.{is_before_cookie_ack, send_in}
use Rattle.spec_endpoint.specs.StreamReset.{Handling, handling, performs, is_ahead, resets_unless, resets, outgoing_by, incoming_if, on_outcome, is_outgoing, on_parameter, HandledParameters, handle_next, handle_all, send_responses, finish_reconfig_if, on_reconfig, reset_refusal, prepare_reset_stream, prepare_all, streams_reset_unless, reset_streams}
use Rattle.proof_endpoint.proofs.StepsLemmas.{Emits, most_bytes, Goes, Steps}
use Rattle.proof_endpoint.proofs.EmitsLemmas.{quiet_expiry, emits_nothing, emits_given_up, emits_all, emits_then}
use Rattle.proof_endpoint.proofs.GoesLemmas.{goes_by, goes_same, goes_then, goes_said, goes_emit_error, goes_emit_chunk}
use Rattle.proof_endpoint.proofs.SendingStepsLemmas.{goes_send_buffered}
use Rattle.proof_endpoint.proofs.RowStepsLemmas.{StepsFrom, OpenSteps, steps_same, steps_where_open}
use Rattle.proof_endpoint.proofs.CallStepsLemmas.{steps_send_in, steps_then}

-- ---- messages that are dropped

module _ {P : Type 0} (pack : Packing P) (most : ℕ) where
  drops_if : (b : Bool) (t u : Emitted P) → Emits pack most 0 t u → Emits pack most 0 t (cond b t u)
  drops_if true t u h = emits_nothing pack most t
  drops_if false t u h = h

  drops : (ms : List Queued) (t : Emitted P) → Emits pack most 0 t (emit_unsent ms t)
  drops [] t = emits_nothing pack most t
  drops (m ∷ ms) t =
      let given_up : Emitted P = emit_given_up m.number Reset t in
      let said : Emitted P = emit_events (expired_events m.lifecycle) given_up in
      let u : Emitted P = cond (is_partly m) t said in
      emits_then pack most t u (emit_unsent ms u)
      (drops_if (is_partly m) t said (emits_then pack most t given_up said (emits_given_up pack most m.number Reset t) (emits_all pack most (expired_events m.lifecycle) given_up (quiet_expiry P m.lifecycle))))
      (drops ms u)

  emits_prepared : (id : ℕ) (q : Queue) (t : Emitted P) → Emits pack most 0 t (prepare_reset id q t).emitted
  emits_prepared id q t = drops (stream id q.streams).messages t

module _ {P : Type 0} where
  -- ---- requests of the peer

  goes_performs : (number : ℕ) (streams : List StreamId) (x : Handling P) → Goes 0 x.context (performs number streams x).context
  goes_performs number streams x =
      goes_said 0 x.context (performs number streams x).context (OnIncomingStreamReset (numbers_of streams)) refl refl refl tt refl

  goes_resets_unless : (b : Bool) (number last_tsn : ℕ) (streams : List StreamId) (x : Handling P) → Goes 0 x.context (resets_unless b number last_tsn streams x).context
  goes_resets_unless true number last_tsn streams x = goes_same x.context
  goes_resets_unless false number last_tsn streams x = goes_performs number streams x

  goes_resets : (number last_tsn : ℕ) (streams : List StreamId) (x : Handling P) → Goes 0 x.context (resets number last_tsn streams x).context
  goes_resets number last_tsn streams x = goes_resets_unless (is_ahead last_tsn x.tcb) number last_tsn streams x

  goes_outgoing_by : (a b d : Bool) (number last_tsn : ℕ) (streams : List StreamId) (x : Handling P)
      → Goes 0 x.context (outgoing_by a b d number last_tsn streams x).context
  goes_outgoing_by true b true number last_tsn streams x = goes_same x.context
  goes_outgoing_by true b false number last_tsn streams x = goes_resets number last_tsn streams x
  goes_outgoing_by false true d number last_tsn streams x = goes_resets number last_tsn streams x
  goes_outgoing_by false false d number last_tsn streams x = goes_same x.context

  goes_incoming_if : (b : Bool) (number : ℕ) (x : Handling P) → Goes 0 x.context (incoming_if b number x).context
  goes_incoming_if true number x = goes_same x.context
  goes_incoming_if false number x = goes_same x.context

  -- ---- an answer to the own one

  goes_on_outcome : (o : Outcome) (c : Context P) → Goes 0 c (on_outcome o c)
  goes_on_outcome Unsettled c = goes_same c
  goes_on_outcome (Done streams) c = goes_said 0 c (on_outcome (Done streams) c) (OnStreamsResetPerformed streams) refl refl refl tt refl
  goes_on_outcome (Denied streams) c = goes_said 0 c (on_outcome (Denied streams) c) (OnStreamsResetFailed streams) refl refl refl tt refl

  -- ---- RE-CONFIG

  goes_parameter : (p : ParameterTree) (x : Handling P) → Goes 0 x.context (on_parameter p x).context
  goes_parameter (outgoing_reset_request number response last_tsn streams) x =
      goes_outgoing_by (is_last_request number x.tcb.requests) (is_next_request number x.tcb.requests) (is_final x.tcb.requests.result) number last_tsn.0 streams x
  goes_parameter (incoming_reset_request number streams) x = goes_incoming_if (is_known_request number x.tcb.requests) number x
  goes_parameter (reset_response number result sender receiver) x = goes_on_outcome (outcome number result x.tcb.requests.current) x.context
  goes_parameter p x = goes_same x.context

  goes_handle_next : (b : Bool) (rest : Handling P → HandledParameters P) (p : ParameterTree) (x : Handling P)
      → ((y : Handling P) → Goes 0 y.context (rest y).handling.context) → Goes 0 x.context (handle_next b rest p x).handling.context
  goes_handle_next true rest p x h = goes_same x.context
  goes_handle_next false rest p x h =
      let y : Handling P = on_parameter p x in
      goes_then 0 x.context y.context (rest y).handling.context (goes_parameter p x) (h y)

  goes_handle_all : (ps : List ParameterTree) (b : Bool) (x : Handling P) → Goes 0 x.context (handle_all ps b x).handling.context
  goes_handle_all [] b x = goes_same x.context
  goes_handle_all (p ∷ ps) b x =
      goes_handle_next (is_outgoing p && b) (handle_all ps (is_outgoing p || b)) p x (goes_handle_all ps (is_outgoing p || b))

  goes_send_responses : (rs : List ParameterTree) (t : Tcb) (c : Context P) → Goes 0 c (send_responses rs t c)
  goes_send_responses [] t c = goes_same c
  goes_send_responses (r ∷ rs) t c = goes_emit_chunk (re_config_chunk (r ∷ rs)) t c

  steps_finished_if : (b : Bool) (phase old : Phase) (u : Tcb) (c : Context P) (x : Handling P) → Goes 0 c x.context
      → StepsFrom (Open old u) c (finish_reconfig_if b phase x)
  steps_finished_if true phase old u c x g =
      let d : Context P = send_responses x.responses x.tcb x.context in
      goes_then 0 c x.context (finish_reconfig_if true phase x).context g
      (goes_then 0 x.context d (finish_reconfig_if true phase x).context (goes_send_responses x.responses x.tcb x.context) (goes_send_buffered d (is_before_cookie_ack phase) x.tcb))
  steps_finished_if false phase old u c x g =
      goes_then 0 c x.context (finish_reconfig_if false phase x).context g
      (goes_emit_error ProtocolViolation (codes "RE-CONFIG chunk must not have multiple Outgoing SSN Reset Request parameters") x.context)

  pub steps_reconfig : (ps : List ParameterTree) → OpenSteps (on_reconfig {P = P} ps)
  steps_reconfig [] phase t c = goes_emit_error ProtocolViolation (codes "RE-CONFIG chunk must have at least one parameter") c
  steps_reconfig (p ∷ ps) phase t c =
      let h : HandledParameters P = handle_all (p ∷ ps) false (handling t c) in
      steps_finished_if h.is_whole phase phase t c h.handling (goes_handle_all (p ∷ ps) false (handling t c))

  -- ---- the call

  goes_prepare_all : (ids : List ℕ) (c : Context P) → Goes 0 c (prepare_all ids c)
  goes_prepare_all [] c = goes_same c
  goes_prepare_all (id ∷ ids) c =
      let d : Context P = prepare_reset_stream id c in
      goes_then 0 c d (prepare_all ids d) (goes_by 0 c d refl refl (emits_prepared c.pack (most_bytes c) id c.queue c.emitted)) (goes_prepare_all ids d)

  steps_streams_reset_unless : (o : Option ResetStreamsError) (ids : List ℕ) (s : EndpointState P) → Steps s (streams_reset_unless o ids s)
  steps_streams_reset_unless None ids s =
      let d : Context P = prepare_all ids s.context in
      steps_then s d (streams_reset_unless None ids s) (goes_prepare_all ids s.context) (steps_where_open send_in (with_context s d) steps_send_in)
  steps_streams_reset_unless (Some e) ids s = steps_same s

  pub steps_reset_streams : (ids : List ℕ) (s : EndpointState P) → Steps s (reset_streams ids s)
  steps_reset_streams ids s = steps_streams_reset_unless (reset_refusal s.state) ids s
