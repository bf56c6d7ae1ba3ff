-- An end under other names answers a call alike, but for the record that it hands over.
use Rattle.std.proofs.Common.{◌≡◌, ℕ, zero, suc, ◌+◌, Option, Some, None, List, [], ◌∷◌, refl, ap, ◌∙◌}
use Rattle.sctp_serial.specs.Messages.{Message}
use Rattle.sctp_state.specs.Events.{first_of}
use Rattle.spec_endpoint.specs.Association.{State, Closed, CookieWait, Open, Context, Endpoint}
use Rattle.spec_endpoint.specs.Calls.{shown_state, send_refusal, refusals, ready_in, offered, with_refusal}
use Rattle.sctp_state.specs.declared.api.SocketState.{SocketState}
use Rattle.spec_endpoint.specs.StreamReset.{reset_refusal}
use Rattle.spec_endpoint.specs.Handover.{readiness_in, readiness}
use Rattle.proof_draws.specs.NamedChunks.{Names}
use Rattle.proof_draws.specs.Names.{named_state, named_context}
use Rattle.proof_draws.proofs.CallLemmas.{shown_named, reset_refusal_named, readiness_named}
use Rattle.spec_world.specs.Observations.{Call, Connect, Shutdown, Close, Send, SendMany, TakeMessage, Reset, SetPriority, SetMaxMessageSize, SetLowThreshold, HandOver, Sent, SentMany, TookMessage, AskedReset}
use Rattle.spec_world.specs.World.{handed_by, answer_to}
use Rattle.proof_world.specs.Visible.{without_record}
use Rattle.sctp_state.specs.Options.{SendOptions}
use Rattle.sctp_state.specs.declared.api.errors.SendError.{SendError}

pub ready_named : (n : Names) (s : State) → ready_in (named_state n s) ≡ ready_in s
ready_named n Closed = refl
ready_named n (CookieWait tag first t1) = refl
ready_named n (Open phase t) = refl

handing : (k : ℕ) (s r : Endpoint (List ℕ)) → without_record (handed_by k r) ≡ without_record (handed_by k s)
handing zero s r = refl
handing (suc k) s r = refl

-- no refusal goes by the last tag
module _ (tag : ℕ → ℕ) where
  offered_same : (e : Option SendError) (m : Message) (o : SendOptions) (c : Context (List ℕ)) → offered e m o (named_context tag c) ≡ named_context tag (offered e m o c)
  offered_same None m o c = refl
  offered_same (Some e) m o c = refl

  refusals_same : (place : ℕ) (ms : List Message) (o : SendOptions) (shown : SocketState) (c : Context (List ℕ))
      → refusals place ms o shown (named_context tag c) ≡ refusals place ms o shown c
  refusals_same place [] o shown c = refl
  refusals_same place (m ∷ ms) o shown c =
      let e : Option SendError = send_refusal m shown c in
      ap (λ (d : Context (List ℕ)). with_refusal place e (refusals (place + 1) ms o shown d)) (offered_same e m o c)
      ∙ ap (λ (es : List (ℕ × SendError)). with_refusal place e es) (refusals_same (place + 1) ms o shown (offered e m o c))

module _ (n : Names) (s r : Endpoint (List ℕ)) (state : r.endpoint_state.state ≡ named_state n s.endpoint_state.state)
    (context : r.endpoint_state.context ≡ named_context n.tag s.endpoint_state.context) where
  shown_same : shown_state r.endpoint_state.state ≡ shown_state s.endpoint_state.state
  shown_same = ap shown_state state ∙ shown_named n s.endpoint_state.state

  readiness_same : readiness r.endpoint_state ≡ readiness s.endpoint_state
  readiness_same =
      ap (λ (u : State). readiness_in u r.endpoint_state.context) state
      ∙ (ap (λ (c : Context (List ℕ)). readiness_in (named_state n s.endpoint_state.state) c) context
      ∙ readiness_named n s.endpoint_state.context.pack s.endpoint_state.state s.endpoint_state.context)

  pub answers_alike : (call : Call) → without_record (answer_to call r) ≡ without_record (answer_to call s)
  answers_alike Connect = refl
  answers_alike Shutdown = refl
  answers_alike Close = refl
  answers_alike (Send m o) =
      ap (λ (u : SocketState). Sent (send_refusal m u r.endpoint_state.context)) shown_same
      ∙ ap (λ (c : Context (List ℕ)). Sent (send_refusal m (shown_state s.endpoint_state.state) c)) context
  answers_alike (SendMany ms o) =
      ap (λ (u : SocketState). SentMany (refusals 0 ms o u r.endpoint_state.context)) shown_same
      ∙ (ap (λ (c : Context (List ℕ)). SentMany (refusals 0 ms o (shown_state s.endpoint_state.state) c)) context
      ∙ ap SentMany (refusals_same n.tag 0 ms o (shown_state s.endpoint_state.state) s.endpoint_state.context))
  answers_alike TakeMessage = ap (λ (ms : List Message). TookMessage (first_of ms)) (ap ready_in state ∙ ready_named n s.endpoint_state.state)
  answers_alike (Reset streams) = ap AskedReset (ap reset_refusal state ∙ reset_refusal_named n s.endpoint_state.state)
  answers_alike (SetPriority stream priority) = refl
  answers_alike (SetMaxMessageSize bytes) = refl
  answers_alike (SetLowThreshold stream bytes) = refl
  answers_alike HandOver = ap (λ (k : ℕ). without_record (handed_by k r)) readiness_same ∙ handing (readiness s.endpoint_state) s r
