-- The calls of the user under other names.
use Rattle.std.proofs.Common.{◌≡◌, ℕ, ◌==◌, ◌&&◌, bit_or, Bool, true, false, Option, Some, None, option_map, List, [], ◌∷◌, refl, ap, ◌∙◌}
use Rattle.sctp_serial.specs.Messages.{Message}
use Rattle.sctp_state.specs.declared.api.SocketState.{SocketState}
use Rattle.sctp_state.specs.declared.api.errors.ResetStreamsError.{ResetStreamsError}
use Rattle.sctp_state.specs.declared.api.errors.SendError.{SendError}
use Rattle.sctp_state.specs.Options.{SendOptions, Options}
use Rattle.spec_endpoint.specs.Association.{Tcb, Phase, CookieEchoed, Established, ShutdownPending, ShutdownSent, ShutdownReceived, ShutdownAckSent, State, Closed, CookieWait, Open, Context, EndpointState, with_context, where_open, Packing}
use Rattle.spec_endpoint.specs.Sending.{AfterSending, is_before_cookie_ack, open_with, send_unless, send_in}
use Rattle.spec_endpoint.specs.Calls.{shown_phase, shown_state, send_refusal, offered, offer, sent_unless, send, offer_all, send_many, take_message, message_taken_in, told_if, opens_window, without_first_message}
use Rattle.spec_endpoint.specs.ResetRequests.{Request}
use Rattle.spec_endpoint.specs.StreamReset.{reset_refusal, prepare_reset_stream, prepare_all, streams_reset_unless, reset_streams}
use Rattle.spec_endpoint.specs.Handover.{is_strict, request_bit, receiving, readiness_open, readiness_in, readiness, left_in, left_if, hand_over}
use Rattle.sctp_tx_queue.specs.Readiness as queued
use Rattle.sctp_tx.specs.Handover as sender
use Rattle.proof_draws.specs.NamedChunks.{Names, AreNames}
use Rattle.proof_draws.specs.Names.{named_request, named_phase, named_tcb, named_state, named_endpoint_state, plain}
use Rattle.proof_draws.proofs.WritingLemmas.{Knows}
use Rattle.proof_draws.proofs.TagLemmas.{alone_named}
use Rattle.proof_draws.proofs.FillingLemmas.{named_sent, send_buffered_named}
use Rattle.proof_draws.proofs.ClosingLemmas.{OpenIsNamed, where_named}

module _ (n : Names) where
  shown_phase_named : (phase : Phase) → shown_phase (named_phase n phase) ≡ shown_phase phase
  shown_phase_named (CookieEchoed t1 cookie) = refl
  shown_phase_named Established = refl
  shown_phase_named ShutdownPending = refl
  shown_phase_named (ShutdownSent t2) = refl
  shown_phase_named ShutdownReceived = refl
  shown_phase_named (ShutdownAckSent t2) = refl

  -- what `state` answers
  pub shown_named : (s : State) → shown_state (named_state n s) ≡ shown_state s
  shown_named Closed = refl
  shown_named (CookieWait tag first t1) = refl
  shown_named (Open phase t) = shown_phase_named phase

  told_named : (b : Bool) (t : Tcb) → told_if b (named_tcb n t) ≡ named_tcb n (told_if b t)
  told_named true t = refl
  told_named false t = refl

  taken_named : (o : Options) (s : State) → message_taken_in o (named_state n s) ≡ named_state n (message_taken_in o s)
  taken_named o Closed = refl
  taken_named o (CookieWait tag first t1) = refl
  taken_named o (Open phase t) =
      let u : Tcb = without_first_message t in
      ap (λ (v : Tcb). Open (named_phase n phase) v) (told_named (opens_window o t.reassembly u.reassembly) u)

  -- why streams can't be reset
  pub reset_refusal_named : (s : State) → reset_refusal (named_state n s) ≡ reset_refusal s
  reset_refusal_named Closed = refl
  reset_refusal_named (CookieWait tag first t1) = refl
  reset_refusal_named (Open phase t) = refl

  -- ---- what stands in the way of a handover

  pending_named : (o : Option Request) → request_bit (option_map (named_request n) o) ≡ request_bit o
  pending_named None = refl
  pending_named (Some r) = refl

-- with this part of the requests
abbrev readiness_with : {P : Type 0} → Tcb → Context P → (requests : ℕ) → ℕ
readiness_with t c requests =
    bit_or (queued.readiness (is_strict c.options) c.queue) (bit_or (bit_or (receiving t) (sender.readiness (is_strict c.options) t.sender)) requests)

module _ {P : Type 0} (n : Names) (pack : Packing P) where
  readiness_open_named : (phase : Phase) (t : Tcb) (c : Context P) → readiness_open (named_phase n phase) (named_tcb n t) (plain n pack c) ≡ readiness_open phase t c
  readiness_open_named (CookieEchoed t1 cookie) t c = refl
  readiness_open_named Established t c = ap (λ (k : ℕ). readiness_with t c k) (pending_named n t.requests.current)
  readiness_open_named ShutdownPending t c = refl
  readiness_open_named (ShutdownSent t2) t c = refl
  readiness_open_named ShutdownReceived t c = refl
  readiness_open_named (ShutdownAckSent t2) t c = refl

  pub readiness_named : (s : State) (c : Context P) → readiness_in (named_state n s) (plain n pack c) ≡ readiness_in s c
  readiness_named Closed c = refl
  readiness_named (CookieWait tag first t1) c = refl
  readiness_named (Open phase t) c = readiness_open_named phase t c

  left_in_named : (s : State) (c : Context P) → left_in (named_state n s) (plain n pack c) ≡ named_endpoint_state n pack (left_in s c)
  left_in_named Closed c = refl
  left_in_named (CookieWait tag first t1) c = refl
  left_in_named (Open phase t) c = refl

  left_named : (b : Bool) (s : EndpointState P) → left_if b (named_endpoint_state n pack s) ≡ named_endpoint_state n pack (left_if b s)
  left_named true s = left_in_named s.state s.context
  left_named false s = refl

  pub hand_over_named : (s : EndpointState P) → hand_over (named_endpoint_state n pack s) ≡ named_endpoint_state n pack (hand_over s)
  hand_over_named s =
      ap (λ (k : ℕ). left_if (k == 0) (named_endpoint_state n pack s)) (readiness_named s.state s.context) ∙ left_named (readiness s == 0) s

module _ {P : Type 0} (n : Names) (pack : Packing P) where
  prepare_all_named : (ids : List ℕ) (c : Context P) → prepare_all ids (plain n pack c) ≡ plain n pack (prepare_all ids c)
  prepare_all_named [] c = refl
  prepare_all_named (id ∷ ids) c = prepare_all_named ids (prepare_reset_stream id c)

  offered_named : (o : Option SendError) (m : Message) (how : SendOptions) (c : Context P) → offered o m how (plain n pack c) ≡ plain n pack (offered o m how c)
  offered_named None m how c = refl
  offered_named (Some e) m how c = refl

  offer_named : (m : Message) (how : SendOptions) (shown : SocketState) (c : Context P) → offer m how shown (plain n pack c) ≡ plain n pack (offer m how shown c)
  offer_named m how shown c = offered_named (send_refusal m shown c) m how c

  offer_all_named : (ms : List Message) (how : SendOptions) (shown : SocketState) (c : Context P) → offer_all ms how shown (plain n pack c) ≡ plain n pack (offer_all ms how shown c)
  offer_all_named [] how shown c = refl
  offer_all_named (m ∷ ms) how shown c =
      ap (λ (d : Context P). offer_all ms how shown d) (offer_named m how shown c) ∙ offer_all_named ms how shown (offer m how shown c)

module _ {P : Type 0} where
  prepare_all_stays : (ids : List ℕ) (c : Context P) → (prepare_all ids c).pack ≡ c.pack
  prepare_all_stays [] c = refl
  prepare_all_stays (id ∷ ids) c = prepare_all_stays ids (prepare_reset_stream id c)

  offered_stays : (o : Option SendError) (m : Message) (how : SendOptions) (c : Context P) → (offered o m how c).pack ≡ c.pack
  offered_stays None m how c = refl
  offered_stays (Some e) m how c = refl

  offer_all_stays : (ms : List Message) (how : SendOptions) (shown : SocketState) (c : Context P) → (offer_all ms how shown c).pack ≡ c.pack
  offer_all_stays [] how shown c = refl
  offer_all_stays (m ∷ ms) how shown c = offer_all_stays ms how shown (offer m how shown c) ∙ offered_stays (send_refusal m shown c) m how c

module _ {P : Type 0} (n : Names) (are : AreNames n) (pack : Packing P) where
  send_unless_named : (waits is_alone : Bool) (t : Tcb) (c : Context P) → Knows n pack c → send_unless waits is_alone (named_tcb n t) (plain n pack c) ≡ named_sent n pack (send_unless waits is_alone t c)
  send_unless_named true is_alone t c k = refl
  send_unless_named false is_alone t c k = send_buffered_named n are pack is_alone t c k

  send_in_named : OpenIsNamed n pack send_in
  send_in_named phase t c k =
      let alone : Bool = is_before_cookie_ack phase in
      ap (λ (b : Bool). open_with (named_phase n phase) (send_unless (b && c.options.avoid_stalls) b (named_tcb n t) (plain n pack c))) (alone_named n phase)
      ∙ ap (λ (x : AfterSending P). open_with (named_phase n phase) x) (send_unless_named (alone && c.options.avoid_stalls) alone t c k)

  sent_unless_named : (o : Option SendError) (s : EndpointState P) → Knows n pack s.context → sent_unless o (named_endpoint_state n pack s) ≡ named_endpoint_state n pack (sent_unless o s)
  sent_unless_named None s k = where_named n are pack send_in s send_in_named k
  sent_unless_named (Some e) s k = refl

  pub send_named : (m : Message) (how : SendOptions) (s : EndpointState P) → Knows n pack s.context → send m how (named_endpoint_state n pack s) ≡ named_endpoint_state n pack (send m how s)
  send_named m how s k =
      let shown : SocketState = shown_state s.state in
      let r : EndpointState P = named_endpoint_state n pack s in
      ap (λ (x : SocketState). sent_unless (send_refusal m x s.context) (with_context r (offer m how x (plain n pack s.context)))) (shown_named n s.state)
      ∙ (ap (λ (d : Context P). sent_unless (send_refusal m shown s.context) (with_context r d)) (offer_named n pack m how shown s.context)
      ∙ sent_unless_named (send_refusal m shown s.context) (with_context s (offer m how shown s.context)) (offered_stays (send_refusal m shown s.context) m how s.context ∙ k))

  pub send_many_named : (ms : List Message) (how : SendOptions) (s : EndpointState P) → Knows n pack s.context → send_many ms how (named_endpoint_state n pack s) ≡ named_endpoint_state n pack (send_many ms how s)
  send_many_named ms how s k =
      let shown : SocketState = shown_state s.state in
      let r : EndpointState P = named_endpoint_state n pack s in
      ap (λ (x : SocketState). where_open send_in (with_context r (offer_all ms how x (plain n pack s.context)))) (shown_named n s.state)
      ∙ (ap (λ (d : Context P). where_open send_in (with_context r d)) (offer_all_named n pack ms how shown s.context)
      ∙ where_named n are pack send_in (with_context s (offer_all ms how shown s.context)) send_in_named (offer_all_stays ms how shown s.context ∙ k))

  pub take_named : (s : EndpointState P) → take_message (named_endpoint_state n pack s) ≡ named_endpoint_state n pack (take_message s)
  take_named s = ap (λ (st : State). record (named_endpoint_state n pack s) { state = st }) (taken_named n s.context.options s.state)

  streams_reset_unless_named : (o : Option ResetStreamsError) (ids : List ℕ) (s : EndpointState P) → Knows n pack s.context → streams_reset_unless o ids (named_endpoint_state n pack s) ≡ named_endpoint_state n pack (streams_reset_unless o ids s)
  streams_reset_unless_named None ids s k =
      ap (λ (d : Context P). where_open send_in (with_context (named_endpoint_state n pack s) d)) (prepare_all_named n pack ids s.context)
      ∙ where_named n are pack send_in (with_context s (prepare_all ids s.context)) send_in_named (prepare_all_stays ids s.context ∙ k)
  streams_reset_unless_named (Some e) ids s k = refl

  pub reset_streams_named : (ids : List ℕ) (s : EndpointState P) → Knows n pack s.context → reset_streams ids (named_endpoint_state n pack s) ≡ named_endpoint_state n pack (reset_streams ids s)
  reset_streams_named ids s k =
      ap (λ (o : Option ResetStreamsError). streams_reset_unless o ids (named_endpoint_state n pack s)) (reset_refusal_named n s.state) ∙ streams_reset_unless_named (reset_refusal s.state) ids s k
