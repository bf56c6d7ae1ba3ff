-- What the calls that send and the settings emit.
use Rattle.std.proofs.Common.{ℕ, ◌&&◌, Bool, true, false, Option, Some, None, List, [], ◌∷◌, ◌++◌, refl}
use Rattle.sctp_serial.specs.Messages.{Message}
use Rattle.sctp_state.specs.declared.api.SocketState.{SocketState}
use Rattle.sctp_state.specs.declared.api.errors.SendError.{SendError}
use Rattle.sctp_state.specs.Options.{SendOptions}
use Rattle.sctp_state.specs.Events.{Event}
use Rattle.spec_endpoint.specs.Association.{State, Closed, CookieWait, Open, Context, EndpointState, with_context}
use Rattle.spec_endpoint.specs.Sending.{is_before_cookie_ack, send_unless, send_in}
use Rattle.spec_endpoint.specs.Calls.{shown_state, send_refusal, send_refusal_of, refusal_events, lifecycle_end_events, refuse, accept, offered, offer, sent_unless, send, offer_all, send_many, set_low_threshold, set_priority, set_max_message_size, take_message, message_taken_in}
use Rattle.spec_endpoint.specs.Laws.{ends}
use Rattle.proof_endpoint.proofs.StepsLemmas.{most_bytes, Goes, Steps}
use Rattle.proof_endpoint.proofs.EmitsLemmas.{quiet_both, emits_all, emits_threshold, quiet_end, quiet_refusal}
use Rattle.proof_endpoint.proofs.GoesLemmas.{goes_by, goes_silent, goes_same, goes_then}
use Rattle.proof_endpoint.proofs.SendingStepsLemmas.{goes_send_buffered}
use Rattle.proof_endpoint.proofs.RowStepsLemmas.{OpenSteps, steps_context, steps_same, steps_where_open}

module _ {P : Type 0} where
  goes_refused : (e : SendError) (l : Option ℕ) (c : Context P) → Goes 0 c (refuse e l c)
  goes_refused e l c =
      let es : List (Event P) = lifecycle_end_events l ++ refusal_events e in
      goes_by 0 c (refuse e l c) refl refl (emits_all c.pack (most_bytes c) es c.emitted (quiet_both (lifecycle_end_events l) (refusal_events e) (quiet_end P l) (quiet_refusal P e)))

  goes_offered : (o : Option SendError) (m : Message) (how : SendOptions) (c : Context P) → Goes 0 c (offered o m how c)
  goes_offered None m how c = goes_silent c (accept m how c) refl refl refl
  goes_offered (Some e) m how c = goes_refused e how.lifecycle_id c

  goes_offer : (m : Message) (how : SendOptions) (shown : SocketState) (c : Context P) → Goes 0 c (offer m how shown c)
  goes_offer m how shown c = goes_offered (send_refusal m shown c) m how c

  goes_offer_all : (ms : List Message) (how : SendOptions) (shown : SocketState) (c : Context P) → Goes 0 c (offer_all ms how shown c)
  goes_offer_all [] how shown c = goes_same c
  goes_offer_all (m ∷ ms) how shown c =
      let d : Context P = offer m how shown c in
      goes_then 0 c d (offer_all ms how shown d) (goes_offer m how shown c) (goes_offer_all ms how shown d)

  pub steps_send_in : OpenSteps (send_in {P = P})
  steps_send_in phase t c = go (is_before_cookie_ack phase && c.options.avoid_stalls)
    where
      go : (waits : Bool) → Goes 0 c (send_unless waits (is_before_cookie_ack phase) t c).context
      go true = goes_same c
      go false = goes_send_buffered c (is_before_cookie_ack phase) t

  -- behind a change of the context
  pub steps_then : (s : EndpointState P) (d : Context P) (t : EndpointState P) → Goes 0 s.context d → Steps (with_context s d) t → Steps s t
  steps_then s d t g h = goes_then (ends s.state t.state) s.context d t.context g h

  steps_sent_unless : (o : Option SendError) (s : EndpointState P) → Steps s (sent_unless o s)
  steps_sent_unless None s = steps_where_open send_in s steps_send_in
  steps_sent_unless (Some e) s = steps_same s

  pub steps_send : (m : Message) (how : SendOptions) (s : EndpointState P) → Steps s (send m how s)
  steps_send m how s =
      let d : Context P = offer m how (shown_state s.state) s.context in
      steps_then s d (send m how s) (goes_offer m how (shown_state s.state) s.context) (steps_sent_unless (send_refusal_of m s) (with_context s d))

  pub steps_send_many : (ms : List Message) (how : SendOptions) (s : EndpointState P) → Steps s (send_many ms how s)
  steps_send_many ms how s =
      let d : Context P = offer_all ms how (shown_state s.state) s.context in
      steps_then s d (send_many ms how s) (goes_offer_all ms how (shown_state s.state) s.context) (steps_where_open send_in (with_context s d) steps_send_in)

  -- ---- settings

  pub steps_threshold : (id bytes : ℕ) (s : EndpointState P) → Steps s (with_context s (set_low_threshold id bytes s.context))
  steps_threshold id bytes s =
      let c : Context P = s.context in
      steps_context s (set_low_threshold id bytes c)
      (goes_by 0 c (set_low_threshold id bytes c) refl refl (emits_threshold c.pack (most_bytes c) id bytes c.queue c.emitted))

  pub steps_priority : (id priority : ℕ) (s : EndpointState P) → Steps s (with_context s (set_priority id priority s.context))
  steps_priority id priority s = steps_context s (set_priority id priority s.context) (goes_silent s.context (set_priority id priority s.context) refl refl refl)

  pub steps_max_message_size : (n : ℕ) (s : EndpointState P) → Steps s (with_context s (set_max_message_size n s.context))
  steps_max_message_size n s = steps_context s (set_max_message_size n s.context) (goes_silent s.context (set_max_message_size n s.context) refl refl refl)

  steps_taken : (st : State) (c : Context P) → Goes (ends st (message_taken_in c.options st)) c c
  steps_taken Closed c = goes_same c
  steps_taken (CookieWait tag first t1) c = goes_same c
  steps_taken (Open phase t) c = goes_same c

  pub steps_take_message : (s : EndpointState P) → Steps s (take_message s)
  steps_take_message s = steps_taken s.state s.context
