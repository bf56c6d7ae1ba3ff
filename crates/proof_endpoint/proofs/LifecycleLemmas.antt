-- A lifecycle ends at most once: each call, and all calls from a new end on.
use Rattle.std.proofs.Common.{◌≡◌, ℕ, suc, ◌+◌, ◌*◌, ◌≤◌, false, Option, Some, None, List, [], ◌∷◌, ◌++◌, length, take, drop, suc-mul, refl, sym, ap, ◌∙◌, take-append-drop, arith}
use Rattle.rand_core.specs.Stream.{Stream}
use Rattle.sctp_serial.specs.Messages.{Message}
use Rattle.sctp_state.specs.declared.api.SocketState.{SocketState}
use Rattle.sctp_state.specs.declared.api.errors.SendError.{SendError}
use Rattle.sctp_state.specs.Options.{Options, SendOptions}
use Rattle.sctp_state.specs.Events.{Event}
use Rattle.spec_endpoint.specs.Association.{EndpointState, Endpoint, fresh, Packing, with_context}
use Rattle.spec_endpoint.specs.Sending.{send_in}
use Rattle.spec_endpoint.specs.Calls.{shown_state, send_refusal, send_refusal_of, refusal_events, lifecycle_end_events, queue_entry, accept, offered, offer, send, offer_all, send_many}
use Rattle.spec_endpoint.specs.Laws.{Call, Send, SendMany, ReceiveNoPacket, called}
use Rattle.proof_endpoint.specs.Lifecycles.{end_total, lifecycle_count, alive_count, handed_in_count, is_restore, EndsWithin, Use, Calls, TakesEvent, after_use, taken_events, emitted_along, handed_by, handed_along, restores, NoneRestores}
use Rattle.proof_endpoint.specs.Acts.{Preserves}
use Rattle.proof_endpoint.proofs.RowActsLemmas.{does_where_open}
use Rattle.proof_endpoint.proofs.CallActsLemmas.{does_send_in, does_sent_unless}
use Rattle.proof_endpoint.proofs.ActsLemmas.{keeps_call}
use Rattle.proof_endpoint.proofs.SpendsLemmas.{Spends, ends_append, ends_ended, ends_refusal, spends_nothing, spends_all, spends_then, spends_within}
use Rattle.proof_endpoint.proofs.QueueSpendsLemmas.{waiting_added}
use Rattle.proof_endpoint.proofs.LivesLemmas.{Lives, lives}

module _ {P : Type 0} (l : ℕ) where
  -- ---- messages that are handed in

  abbrev Hands : (handed : ℕ) → (before after : EndpointState P) → Type 0
  Hands n s t = Spends l s.context.emitted t.context.emitted (alive_count l s + n) (alive_count l t)

  hands_one : (o : Option SendError) (m : Message) (how : SendOptions) (s : EndpointState P)
      → Hands (lifecycle_count l how.lifecycle_id) s (with_context s (offered o m how s.context))
  hands_one None m how s =
      spends_nothing l s.context.emitted (alive_count l s + lifecycle_count l how.lifecycle_id) (alive_count l (with_context s (accept m how s.context)))
      (omega (arith, waiting_added l m.stream (queue_entry s.context.queue.next_number s.context.now m how) s.context.queue))
  hands_one (Some e) m how s =
      let first : List (Event P) = lifecycle_end_events how.lifecycle_id in
      let rest : List (Event P) = refusal_events e in
      spends_all l (first ++ rest) s.context.emitted (alive_count l s + lifecycle_count l how.lifecycle_id) (alive_count l s)
      (omega (arith, ends_append l first rest, ends_ended P l how.lifecycle_id, ends_refusal P l e))

  hands_all : (ms : List Message) (how : SendOptions) (shown : SocketState) (s : EndpointState P)
      → Hands (length ms * lifecycle_count l how.lifecycle_id) s (with_context s (offer_all ms how shown s.context))
  hands_all [] how shown s = spends_nothing l s.context.emitted (alive_count l s + 0 * lifecycle_count l how.lifecycle_id) (alive_count l s) (omega arith)
  hands_all (m ∷ ms) how shown s =
      let n : ℕ = lifecycle_count l how.lifecycle_id in
      let t : EndpointState P = with_context s (offer m how shown s.context) in
      spends_then l
      (spends_within l (alive_count l s + suc (length ms) * n) (alive_count l t + length ms * n) (hands_one (send_refusal m shown s.context) m how s) (omega (arith, suc-mul (length ms) n)))
      (hands_all ms how shown t)

  -- ---- each call

  -- messages are handed in, and then acts follow
  handed : (n : ℕ) (s t u : EndpointState P) → Hands n s t → Spends l t.context.emitted u.context.emitted (alive_count l t) (alive_count l u) → EndsWithin l n s u
  handed n s t u g h =
      let k : Hands n s u = spends_then l g h in
      record { events = k.events; behind = k.behind; counted = omega (arith, k.counted) }

  -- of a call that hands in none
  acts : Preserves ReceiveNoPacket (Lives {P = P} l)
  acts = lives l ReceiveNoPacket refl refl

  pub ends_within : (call : Call) (s : Endpoint P) → is_restore call ≡ false → EndsWithin l (handed_in_count l call) s.endpoint_state (called call s).endpoint_state
  ends_within (Send m o) s h =
      let e : EndpointState P = s.endpoint_state in
      let t : EndpointState P = with_context e (offer m o (shown_state e.state) e.context) in
      handed (lifecycle_count l o.lifecycle_id) e t (send m o e) (hands_one (send_refusal_of m e) m o e) (does_sent_unless acts s.draws (send_refusal_of m e) t)
  ends_within (SendMany ms o) s h =
      let e : EndpointState P = s.endpoint_state in
      let t : EndpointState P = with_context e (offer_all ms o (shown_state e.state) e.context) in
      handed (length ms * lifecycle_count l o.lifecycle_id) e t (send_many ms o e) (hands_all ms o (shown_state e.state) e)
      (does_where_open acts s.draws send_in t (does_send_in acts s.draws))
  ends_within call s h =
      let e : EndpointState P = s.endpoint_state in
      handed 0 e e (called call s).endpoint_state (spends_nothing l e.context.emitted (alive_count l e + 0) (alive_count l e) (omega arith)) (keeps_call call (lives l call refl h) s)

  -- ---- along calls

  -- what is emitted and not taken yet
  abbrev emitted_by : Endpoint P → ℕ
  emitted_by s = end_total l s.endpoint_state.context.emitted.events

  taken_first : (s : Endpoint P) → end_total l (take 1 s.endpoint_state.context.emitted.events) + emitted_by (after_use TakesEvent s) ≡ emitted_by s
  taken_first s =
      let es : List (Event P) = s.endpoint_state.context.emitted.events in
      sym (ends_append l (take 1 es) (drop 1 es)) ∙ ap (λ (fs : List (Event P)). end_total l fs) (take-append-drop 1 es)

  one_use : (u : Use) (s : Endpoint P) → restores u ≡ false → end_total l (taken_events u s) + (emitted_by (after_use u s) + alive_count l (after_use u s).endpoint_state) ≤ emitted_by s + (alive_count l s.endpoint_state + handed_by l u)
  one_use (Calls call) s h =
      let w : EndsWithin l (handed_in_count l call) s.endpoint_state (called call s).endpoint_state = ends_within call s h in
      omega (arith, w.counted, ap (λ (es : List (Event P)). end_total l es) w.behind, ends_append l s.endpoint_state.context.emitted.events w.events)
  one_use TakesEvent s h = omega (arith, taken_first s)

  along : (us : List Use) (s : Endpoint P) → NoneRestores us → end_total l (emitted_along us s) ≤ emitted_by s + (alive_count l s.endpoint_state + handed_along l us)
  along [] s h = omega arith
  along (u ∷ us) s h =
      omega (arith, ends_append l (taken_events u s) (emitted_along us (after_use u s)), one_use u s h.0, along us (after_use u s) h.1)

  pub ends_handed : (o : Options) (pack : Packing P) (draws : Stream) (us : List Use) → NoneRestores us
      → end_total l (emitted_along us (fresh o pack draws)) ≤ handed_along l us
  ends_handed o pack draws us h = omega (arith, along us (fresh o pack draws) h)

  pub ends_once : (o : Options) (pack : Packing P) (draws : Stream) (us : List Use) → NoneRestores us → handed_along l us ≤ 1
      → end_total l (emitted_along us (fresh o pack draws)) ≤ 1
  ends_once o pack draws us h few = omega (arith, ends_handed o pack draws us h, few)
