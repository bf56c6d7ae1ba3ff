-- The calls that send, and the settings.
use Rattle.std.proofs.Common.{◌≡◌, ℕ, Option, Some, None, List, [], ◌∷◌, ◌++◌, map, refl, ap, ◌∙◌}
use Rattle.sctp_serial.specs.Messages.{Message}
use Rattle.sctp_state.specs.declared.api.SocketState.{SocketState}
use Rattle.sctp_state.specs.declared.api.errors.SendError.{SendError}
use Rattle.sctp_state.specs.declared.api.errors.SendError.TheVariants.{EmptyPayload, MessageTooLarge, ShuttingDown, ResourceExhaustion as QueueFull, Memory, Failed}
use Rattle.sctp_state.specs.Options.{SendOptions}
use Rattle.sctp_state.specs.Events.{Emitted}
use Rattle.sctp_tx_queue.specs.Settings.{Changed}
use Rattle.spec_endpoint.specs.Association.{Context, EndpointState, with_context, where_open}
use Rattle.spec_endpoint.specs.Sending.{send_in}
use Rattle.spec_endpoint.specs.Calls.{shown_state, send_refusal, send_refusal_of, refusal_events, lifecycle_end_events, refuse, offered, offer, sent_unless, send, offer_all, send_many, set_low_threshold}
use Rattle.proof_endpoint.specs.Mapped.{Mapping, map_event, map_context, map_endpoint_state}
use Rattle.proof_endpoint.proofs.EmittedMapsLemmas.{maps_emit_event_all, maps_threshold}
use Rattle.proof_endpoint.proofs.SendingMapsLemmas.{maps_send_in}
use Rattle.proof_endpoint.proofs.RowMapsLemmas.{maps_where_open}

-- a context with this emitted
abbrev emitting : {P : Type 0} → Context P → Emitted P → Context P
emitting c t = record c { emitted = t }

-- a queue that was changed, and what was emitted
abbrev changed_to : {P : Type 0} → Context P → Changed P → Context P
changed_to c x = record c { queue = x.queue; emitted = x.emitted }

module _ {P Q : Type 0} (f : Mapping P Q) where
  maps_refusal : (l : Option ℕ) (e : SendError) → map (map_event f) (lifecycle_end_events l ++ refusal_events e) ≡ lifecycle_end_events l ++ refusal_events e
  maps_refusal None EmptyPayload = refl
  maps_refusal None (MessageTooLarge len limit) = refl
  maps_refusal None ShuttingDown = refl
  maps_refusal None QueueFull = refl
  maps_refusal None Memory = refl
  maps_refusal None Failed = refl
  maps_refusal (Some id) EmptyPayload = refl
  maps_refusal (Some id) (MessageTooLarge len limit) = refl
  maps_refusal (Some id) ShuttingDown = refl
  maps_refusal (Some id) QueueFull = refl
  maps_refusal (Some id) Memory = refl
  maps_refusal (Some id) Failed = refl

  maps_refused : (e : SendError) (l : Option ℕ) (c : Context P) → refuse e l (map_context f c) ≡ map_context f (refuse e l c)
  maps_refused e l c =
      ap (λ (t : Emitted Q). emitting (map_context f c) t) (maps_emit_event_all f (lifecycle_end_events l ++ refusal_events e) (lifecycle_end_events l ++ refusal_events e) c.emitted (maps_refusal l e))

  maps_offered : (o : Option SendError) (m : Message) (how : SendOptions) (c : Context P) → offered o m how (map_context f c) ≡ map_context f (offered o m how c)
  maps_offered None m how c = refl
  maps_offered (Some e) m how c = maps_refused e how.lifecycle_id c

  maps_offer : (m : Message) (how : SendOptions) (shown : SocketState) (c : Context P) → offer m how shown (map_context f c) ≡ map_context f (offer m how shown c)
  maps_offer m how shown c = maps_offered (send_refusal m shown c) m how c

  maps_offer_all : (ms : List Message) (how : SendOptions) (shown : SocketState) (c : Context P)
      → offer_all ms how shown (map_context f c) ≡ map_context f (offer_all ms how shown c)
  maps_offer_all [] how shown c = refl
  maps_offer_all (m ∷ ms) how shown c =
      ap (λ (d : Context Q). offer_all ms how shown d) (maps_offer m how shown c) ∙ maps_offer_all ms how shown (offer m how shown c)

  maps_sent_unless : (o : Option SendError) (s : EndpointState P) → sent_unless o (map_endpoint_state f s) ≡ map_endpoint_state f (sent_unless o s)
  maps_sent_unless None s = maps_where_open f send_in send_in s (maps_send_in f)
  maps_sent_unless (Some e) s = refl

  pub maps_send : (m : Message) (how : SendOptions) (s : EndpointState P) → send m how (map_endpoint_state f s) ≡ map_endpoint_state f (send m how s)
  maps_send m how s =
      let d : Context P = offer m how (shown_state s.state) s.context in
      ap (λ (e : Context Q). sent_unless (send_refusal_of m s) (with_context (map_endpoint_state f s) e)) (maps_offer m how (shown_state s.state) s.context)
      ∙ maps_sent_unless (send_refusal_of m s) (with_context s d)

  pub maps_send_many : (ms : List Message) (how : SendOptions) (s : EndpointState P) → send_many ms how (map_endpoint_state f s) ≡ map_endpoint_state f (send_many ms how s)
  maps_send_many ms how s =
      let d : Context P = offer_all ms how (shown_state s.state) s.context in
      ap (λ (e : Context Q). where_open send_in (with_context (map_endpoint_state f s) e)) (maps_offer_all ms how (shown_state s.state) s.context)
      ∙ maps_where_open f send_in send_in (with_context s d) (maps_send_in f)

  pub maps_low_threshold : (id bytes : ℕ) (c : Context P) → set_low_threshold id bytes (map_context f c) ≡ map_context f (set_low_threshold id bytes c)
  maps_low_threshold id bytes c = ap (λ (x : Changed Q). changed_to (map_context f c) x) (maps_threshold f id bytes c.queue c.emitted)
