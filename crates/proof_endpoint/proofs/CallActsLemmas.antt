-- The walk over the rows: the calls that send, the settings, resets of streams, and handover.
use Rattle.std.proofs.Common.{◌≡◌, ℕ, ◌==◌, ◌&&◌, ◌||◌, Bool, true, false, inl, inr, Option, Some, None, List, [], ◌∷◌, ◌++◌, All, codes, refl, sym, ap, ◌∙◌, append_assoc}
use Rattle.std.specs.List.{list_all}
use Rattle.std.proofs.lemmas.Bool.{both_ways, or_right, eq-eqb}
use Rattle.std.proofs.lemmas.List.Elements.{All-nil, All-push, All-weaker}
use Rattle.std.proofs.lemmas.List.Folds.{list_all-append}
use Rattle.rand_core.specs.Stream.{Stream}
use Rattle.sctp_serial.specs.Messages.{Message}
use Rattle.sctp_serial.specs.declared.api.StreamId.{StreamId}
use Rattle.sctp_serial.specs.declared.types.tsn.Tsn.{Tsn}
use Rattle.sctp_wire.specs.Parameter.{ParameterTree, outgoing_reset_request, incoming_reset_request, reset_response}
use Rattle.sctp_packet.specs.Chunk.{re_config_chunk}
use Rattle.sctp_state.specs.declared.api.ErrorKind.TheVariants.{ProtocolViolation}
use Rattle.sctp_state.specs.declared.api.errors.SendError.{SendError}
use Rattle.sctp_state.specs.declared.api.handover.HandoverSocketState.{HandoverSocketState}
use Rattle.sctp_state.specs.declared.api.handover.HandoverSocketState.TheVariants as handed
use Rattle.sctp_state.specs.Events.{OnConnected}
use Rattle.sctp_state.specs.Handover.{HandoverState}
use Rattle.sctp_state.specs.Options.{SendOptions}
use Rattle.sctp_state.specs.RetransmissionTimeout.{rto}
use Rattle.sctp_state.specs.Validity.{is_valid_state}
use Rattle.spec_endpoint.specs.Association.{Tcb, Phase, Established, State, Closed, CookieWait, Open, Context, EndpointState, with_context}
use Rattle.spec_endpoint.specs.Packets.{PacketDraft, add, new_packet, emit_event_in}
use Rattle.spec_endpoint.specs.ResetRequests.{Request, Requests, performed, nothing_to_do, bad_number, in_progress, is_final, next_number, is_last_request, is_next_request, is_known_request, set_last_request, end_or_defer, response_if, handle_response_in, handle_response}
use Rattle.spec_endpoint.specs.Sending.{AfterSending, is_before_cookie_ack, open_with, send_unless, send_in}
use Rattle.spec_endpoint.specs.Calls.{shown_state, send_refusal, send_refusal_of, offered, offer, sent_unless, send, offer_all, send_many, set_low_threshold, set_priority, set_max_message_size, take_message, message_taken_in, opens_window, told_if, without_first_message}
use Rattle.spec_endpoint.specs.StreamReset.{Handling, handling, is_ahead, resets_unless, resets, outgoing_by, on_outgoing, incoming_if, is_outgoing, on_parameter, HandledParameters, handle_next, handle_all, send_responses, finish_reconfig_if, on_reconfig, unless_supported, reset_refusal, prepare_reset_stream, prepare_all, streams_reset_unless, reset_streams}
use Rattle.spec_endpoint.specs.Handover.{readiness, left_in, left_if, hand_over, tcb_from, context_restored, take_up, invalid_unless, restore_refusal_in, restored_as, restored_unless, restore, woken_if}
use Rattle.spec_endpoint.specs.Laws.{Call, SendMany, ResetStreams, TakeMessage, SetLowThreshold, SetPriority, SetMaxMessageSize, HandOver, Restore, Send}
use Rattle.spec_endpoint.specs.Heartbeats.{restart_interval}
use Rattle.sctp_tx.specs.RetransmissionQueue.{Sender, wake}
use Rattle.proof_endpoint.specs.Acts.{EndWithPacket, at, idle, BringsChunk, IsOffered, alone, among, IsReset, IsAsked, is_response, all_along, HasRequest, for_outgoing, for_incoming, AsksNoIncoming, IsDue, IsAnswer, Answers, accepts, refuses, takes_message, sets_low_threshold, sets_priority, sets_max_message_size, prepares, defers, performs, processes, takes_response, adds_responses, leaves, takes_up, Preserves, forces_ack, times_items, beats}
use Rattle.proof_endpoint.proofs.BundledLemmas.{first_more}
use Rattle.proof_endpoint.proofs.PacketActsLemmas.{does_out, does_begin_new, does_emit_error, does_send_buffered}
use Rattle.proof_endpoint.proofs.RowActsLemmas.{placed, OpenActs, does_where_open}

-- the next one of a list stands behind one more
next_among : {A : Type 0} (before : List A) (x : A) (xs all : List A) → all ≡ before ++ x ∷ xs → all ≡ (before ++ x ∷ []) ++ xs
next_among before x xs all e = e ∙ sym (append_assoc before (x ∷ []) xs)

module _ {P : Type 0} {call : Call} {R : EndWithPacket P → EndWithPacket P → Type 0} (k : Preserves call R) (w : Stream) where
  -- ---- messages

  does_offered : (o : Option SendError) (m : Message) (how : SendOptions) (s : State) (c : Context P) → IsOffered call m how
      → send_refusal m (shown_state s) c ≡ o → R (idle s c w) (idle s (offered o m how c) w)
  does_offered None m how s c is fine = k.calls (accepts m how (idle s c w) is fine)
  does_offered (Some e) m how s c is fine = k.calls (refuses m how e (idle s c w) is fine)

  pub does_offer : (m : Message) (how : SendOptions) (s : State) (c : Context P) → IsOffered call m how → R (idle s c w) (idle s (offer m how (shown_state s) c) w)
  does_offer m how s c is = does_offered (send_refusal m (shown_state s) c) m how s c is refl

  pub does_offer_all : (all before ms : List Message) (how : SendOptions) (s : State) (c : Context P) → call ≡ SendMany all how → all ≡ before ++ ms
      → R (idle s c w) (idle s (offer_all ms how (shown_state s) c) w)
  does_offer_all all before [] how s c is e = k.same (idle s c w)
  does_offer_all all before (m ∷ ms) how s c is e =
      k.through (does_offer m how s c (among all is (record { before = before; behind = ms; split = e })))
      (does_offer_all all (before ++ m ∷ []) ms how s (offer m how (shown_state s) c) is (next_among before m ms all e))

  pub does_send_in : OpenActs R w send_in
  does_send_in phase t c = go (is_before_cookie_ack phase && c.options.avoid_stalls)
    where
      go : (waits : Bool) → R (idle (Open phase t) c w) (placed (open_with phase (send_unless waits (is_before_cookie_ack phase) t c)) w)
      go true = k.same (idle (Open phase t) c w)
      go false = does_send_buffered k phase w (is_before_cookie_ack phase) t c

  pub does_sent_unless : (o : Option SendError) (s : EndpointState P) → R (placed s w) (placed (sent_unless o s) w)
  does_sent_unless None s = does_where_open k w send_in s does_send_in
  does_sent_unless (Some e) s = k.same (placed s w)

  pub does_send : (m : Message) (how : SendOptions) (s : EndpointState P) → call ≡ Send m how → R (placed s w) (placed (send m how s) w)
  does_send m how s is =
      let d : Context P = offer m how (shown_state s.state) s.context in
      k.through (does_offer m how s.state s.context (alone is)) (does_sent_unless (send_refusal_of m s) (with_context s d))

  pub does_send_many : (ms : List Message) (how : SendOptions) (s : EndpointState P) → call ≡ SendMany ms how → R (placed s w) (placed (send_many ms how s) w)
  does_send_many ms how s is =
      let d : Context P = offer_all ms how (shown_state s.state) s.context in
      k.through (does_offer_all ms [] ms how s.state s.context is refl) (does_where_open k w send_in (with_context s d) does_send_in)

  -- ---- settings, and messages that are handed out

  pub does_low_threshold : (id bytes : ℕ) (s : EndpointState P) → call ≡ SetLowThreshold id bytes
      → R (placed s w) (placed (with_context s (set_low_threshold id bytes s.context)) w)
  does_low_threshold id bytes s is = k.calls (sets_low_threshold id bytes (placed s w) is)

  pub does_priority : (id priority : ℕ) (s : EndpointState P) → call ≡ SetPriority id priority
      → R (placed s w) (placed (with_context s (set_priority id priority s.context)) w)
  does_priority id priority s is = k.calls (sets_priority id priority (placed s w) is)

  pub does_max_message_size : (bytes : ℕ) (s : EndpointState P) → call ≡ SetMaxMessageSize bytes
      → R (placed s w) (placed (with_context s (set_max_message_size bytes s.context)) w)
  does_max_message_size bytes s is = k.calls (sets_max_message_size bytes (placed s w) is)

  does_told : (b : Bool) (phase : Phase) (t : Tcb) (c : Context P) → R (idle (Open phase t) c w) (idle (Open phase (told_if b t)) c w)
  does_told true phase t c = k.sending (forces_ack phase t (idle (Open phase t) c w))
  does_told false phase t c = k.same (idle (Open phase t) c w)

  does_taken_in : (s : State) (c : Context P) → call ≡ TakeMessage → R (idle s c w) (idle (message_taken_in c.options s) c w)
  does_taken_in Closed c is = k.same (idle Closed c w)
  does_taken_in (CookieWait tag first t1) c is = k.same (idle (CookieWait tag first t1) c w)
  does_taken_in (Open phase t) c is =
      let u : Tcb = without_first_message t in
      k.through (k.calls (takes_message phase t (idle (Open phase t) c w) is)) (does_told (opens_window c.options t.reassembly u.reassembly) phase u c)

  pub does_take_message : (s : EndpointState P) → call ≡ TakeMessage → R (placed s w) (placed (take_message s) w)
  does_take_message s is = does_taken_in s.state s.context is

  -- ---- requests of the peer

  module _ (phase : Phase) where
    abbrev Handles : (x y : Handling P) → Type 0
    Handles x y = R (idle (Open phase x.tcb) x.context w) (idle (Open phase y.tcb) y.context w)

    does_resets_unless : (b : Bool) (number response : ℕ) (last_tsn : Tsn) (streams : List StreamId) (x : Handling P)
        → IsAsked call (outgoing_reset_request number response last_tsn streams) → IsDue number x.tcb.requests → is_ahead last_tsn.0 x.tcb ≡ b
        → Handles x (resets_unless b number last_tsn.0 streams x)
    does_resets_unless true number response last_tsn streams x h due ahead =
        k.resets (defers number response last_tsn streams phase x.tcb (idle (Open phase x.tcb) x.context w) h due ahead)
    does_resets_unless false number response last_tsn streams x h due ahead =
        k.resets (performs number response last_tsn streams phase x.tcb (idle (Open phase x.tcb) x.context w) h due ahead)

    does_resets : (number response : ℕ) (last_tsn : Tsn) (streams : List StreamId) (x : Handling P)
        → IsAsked call (outgoing_reset_request number response last_tsn streams) → IsDue number x.tcb.requests
        → Handles x (resets number last_tsn.0 streams x)
    does_resets number response last_tsn streams x h due = does_resets_unless (is_ahead last_tsn.0 x.tcb) number response last_tsn streams x h due refl

    does_outgoing_by : (a b d : Bool) (number response : ℕ) (last_tsn : Tsn) (streams : List StreamId) (x : Handling P)
        → IsAsked call (outgoing_reset_request number response last_tsn streams)
        → is_last_request number x.tcb.requests ≡ a → is_next_request number x.tcb.requests ≡ b → is_final x.tcb.requests.result ≡ d
        → Handles x (outgoing_by a b d number last_tsn.0 streams x)
    does_outgoing_by true b true number response last_tsn streams x h last next final = k.same (idle (Open phase x.tcb) x.context w)
    does_outgoing_by true b false number response last_tsn streams x h last next final =
        does_resets number response last_tsn streams x h
        (record { known = ap (λ (a : Bool). a || is_next_request number x.tcb.requests) last; undone = λ e. final })
    does_outgoing_by false true d number response last_tsn streams x h last next final =
        does_resets number response last_tsn streams x h
        (record { known = or_right (is_last_request number x.tcb.requests) (is_next_request number x.tcb.requests) next; undone = λ e. absurd (both_ways (is_last_request number x.tcb.requests) last e) })
    does_outgoing_by false false d number response last_tsn streams x h last next final = k.same (idle (Open phase x.tcb) x.context w)

    does_outgoing : (number response : ℕ) (last_tsn : Tsn) (streams : List StreamId) (x : Handling P)
        → IsAsked call (outgoing_reset_request number response last_tsn streams) → Handles x (on_outgoing number last_tsn.0 streams x)
    does_outgoing number response last_tsn streams x h =
        does_outgoing_by (is_last_request number x.tcb.requests) (is_next_request number x.tcb.requests) (is_final x.tcb.requests.result) number response last_tsn streams x h
        refl refl refl

    does_incoming_if : (b : Bool) (number : ℕ) (streams : List StreamId) (x : Handling P) → IsAsked call (incoming_reset_request number streams)
        → is_known_request number x.tcb.requests ≡ b → Handles x (incoming_if b number x)
    does_incoming_if true number streams x h known = k.resets (processes number streams phase x.tcb (idle (Open phase x.tcb) x.context w) h known)
    does_incoming_if false number streams x h known = k.same (idle (Open phase x.tcb) x.context w)

    does_parameter : (p : ParameterTree) (x : Handling P) → IsAsked call p → Handles x (on_parameter p x)
    does_parameter (outgoing_reset_request number response last_tsn streams) x h = does_outgoing number response last_tsn streams x h
    does_parameter (incoming_reset_request number streams) x h = does_incoming_if (is_known_request number x.tcb.requests) number streams x h refl
    does_parameter (reset_response number result sender receiver) x h =
        k.resets (takes_response (rto x.tcb.rtt) number result sender receiver phase x.tcb (idle (Open phase x.tcb) x.context w) h)
    does_parameter p x h = k.same (idle (Open phase x.tcb) x.context w)

    does_handle_next : (b : Bool) (rest : Handling P → HandledParameters P) (p : ParameterTree) (x : Handling P) → IsAsked call p
        → ((y : Handling P) → Handles y (rest y).handling) → Handles x (handle_next b rest p x).handling
    does_handle_next true rest p x h f = k.same (idle (Open phase x.tcb) x.context w)
    does_handle_next false rest p x h f = k.through (does_parameter p x h) (f (on_parameter p x))

    does_handle_all : (tag : ℕ) (all before ps : List ParameterTree) (b : Bool) (x : Handling P) → BringsChunk call tag (re_config_chunk all)
        → all ≡ before ++ ps → Handles x (handle_all ps b x).handling
    does_handle_all tag all before [] b x h e = k.same (idle (Open phase x.tcb) x.context w)
    does_handle_all tag all before (p ∷ ps) b x h e =
        does_handle_next (is_outgoing p && b) (handle_all ps (is_outgoing p || b)) p x
        (record { tag = tag; parameters = all; received = h; among = record { before = before; behind = ps; split = e } })
        (λ y. does_handle_all tag all (before ++ p ∷ []) ps (is_outgoing p || b) y h (next_among before p ps all e))

-- ---- what is answered

-- as these requests stand
record AreResponses (call : Call) (r : Requests) (rs : List ParameterTree) : Type 0 where
  are : list_all is_response rs ≡ true
  answer : All (Answers call r) rs

-- where no request is for incoming streams, there is none before an outgoing one
record AreSoFar (call : Call) (has_outgoing : Bool) (r : Requests) (rs : List ParameterTree) : Type 0 where
  all : AreResponses call r rs
  none : AsksNoIncoming call → has_outgoing ≡ false → rs ≡ []

-- the requests go on
went_on : (call : Call) (r s : Requests) (rs : List ParameterTree) → (AsksNoIncoming call → rs ≡ []) → All (Answers call r) rs → All (Answers call s) rs
went_on call r s [] none h = All-nil (Answers call s)
went_on call r s (p ∷ ps) none h = All-weaker (Answers call r) (Answers call s) one (p ∷ ps) h
  where
    one : (q : ParameterTree) → Answers call r q → Answers call s q
    one (reset_response number result sender receiver) a = (a.0, λ asks. absurd (some (none asks)))
      where
        some : (p ∷ ps) ≡ [] → ⊥
        some e = cc
    one q a = absurd a

-- or their last one and its result stay
stayed : (call : Call) (r s : Requests) (rs : List ParameterTree) → s.last ≡ r.last → s.result ≡ r.result → All (Answers call r) rs → All (Answers call s) rs
stayed call r s rs last result h = All-weaker (Answers call r) (Answers call s) one rs h
  where
    one : (q : ParameterTree) → Answers call r q → Answers call s q
    one (reset_response number outcome sender receiver) a = (
      a.0,
      λ asks. elim (a.1 asks) [
        | inl e ↦ inl (ap (λ (n : ℕ). number == n) last ∙ e.0, e.1 ∙ sym result)
        | inr e ↦ inr (ap (λ (n : ℕ). (number == n) || (number == next_number n)) last ∙ e.0, e.1)
      ],
    )
    one q a = absurd a

pub answers_leave : (o : Option Request) (now rto number result : ℕ) (r : Requests)
    → ((handle_response_in o now rto number result r).last ≡ r.last) × ((handle_response_in o now rto number result r).result ≡ r.result)
answers_leave None now rto number result r = (refl, refl)
answers_leave (Some q) now rto number result r = its (q.number == number)
  where
    done : (b : Bool) → ((end_or_defer b now rto q r).last ≡ r.last) × ((end_or_defer b now rto q r).result ≡ r.result)
    done true = (refl, refl)
    done false = (refl, refl)

    its : (a : Bool) → ((response_if a now rto result q r).last ≡ r.last) × ((response_if a now rto result q r).result ≡ r.result)
    its true = done (is_final result)
    its false = (refl, refl)

one_more : (call : Call) (r : Requests) (rs : List ParameterTree) (number result : ℕ) → HasRequest call number → (AsksNoIncoming call → IsAnswer number result r)
    → AreResponses call r rs → AreResponses call r (rs ++ reset_response number result None None ∷ [])
one_more call r rs number result asked so h = record {
  are = list_all-append is_response rs (reset_response number result None None ∷ []) ∙ ap (λ (b : Bool). b && true) h.are;
  answer = All-push (Answers call r) rs (reset_response number result None None) h.answer (asked, so);
}

module _ {P : Type 0} (call : Call) where
  abbrev Responds : Handling P → Type 0
  Responds x = AreResponses call x.tcb.requests x.responses

  abbrev RespondsSo : Bool → Handling P → Type 0
  RespondsSo b x = AreSoFar call b x.tcb.requests x.responses

  -- a request is processed, where none was answered
  responses_processed : (number result : ℕ) (x : Handling P) → HasRequest call number → (AsksNoIncoming call → x.responses ≡ []) → Responds x
      → AreResponses call (set_last_request number result x.tcb.requests) (x.responses ++ reset_response number result None None ∷ [])
  responses_processed number result x a none e =
      one_more call (set_last_request number result x.tcb.requests) x.responses number result a (λ asks. inl (eq-eqb number number refl, refl))
      (record { are = e.are; answer = went_on call x.tcb.requests (set_last_request number result x.tcb.requests) x.responses none e.answer })

  responses_resets_unless : (b : Bool) (number last_tsn : ℕ) (streams : List StreamId) (x : Handling P) → HasRequest call number → (AsksNoIncoming call → x.responses ≡ [])
      → Responds x → Responds (resets_unless b number last_tsn streams x)
  responses_resets_unless true number last_tsn streams x a none e = responses_processed number in_progress x a none e
  responses_resets_unless false number last_tsn streams x a none e = responses_processed number performed x a none e

  responses_outgoing_by : (a b d : Bool) (number last_tsn : ℕ) (streams : List StreamId) (x : Handling P) → HasRequest call number → (AsksNoIncoming call → x.responses ≡ [])
      → is_last_request number x.tcb.requests ≡ a → is_next_request number x.tcb.requests ≡ b → Responds x → Responds (outgoing_by a b d number last_tsn streams x)
  responses_outgoing_by true b true number last_tsn streams x h none last next e =
      one_more call x.tcb.requests x.responses number x.tcb.requests.result h (λ asks. inl (last, refl)) e
  responses_outgoing_by true b false number last_tsn streams x h none last next e = responses_resets_unless (is_ahead last_tsn x.tcb) number last_tsn streams x h none e
  responses_outgoing_by false true d number last_tsn streams x h none last next e = responses_resets_unless (is_ahead last_tsn x.tcb) number last_tsn streams x h none e
  responses_outgoing_by false false d number last_tsn streams x h none last next e =
      one_more call x.tcb.requests x.responses number bad_number h
      (λ asks. inr (ap (λ (a : Bool). a || is_next_request number x.tcb.requests) last ∙ next, refl)) e

  responses_incoming_if : (b : Bool) (number : ℕ) (x : Handling P) → HasRequest call number → (AsksNoIncoming call → ⊥) → Responds x → Responds (incoming_if b number x)
  responses_incoming_if true number x h asks e = responses_processed number nothing_to_do x h (λ none. absurd (asks none)) e
  responses_incoming_if false number x h asks e = one_more call x.tcb.requests x.responses number bad_number h (λ none. absurd (asks none)) e

  -- the first outgoing request, and whatever else
  responses_parameter : (b : Bool) (p : ParameterTree) (x : Handling P) → IsAsked call p → (is_outgoing p && b) ≡ false → RespondsSo b x
      → RespondsSo (is_outgoing p || b) (on_parameter p x)
  responses_parameter b (outgoing_reset_request number response last_tsn streams) x h first e = record {
    all = responses_outgoing_by (is_last_request number x.tcb.requests) (is_next_request number x.tcb.requests) (is_final x.tcb.requests.result) number last_tsn.0 streams x
        (for_outgoing response last_tsn streams h) (λ asks. e.none asks first) refl refl e.all;
    none = λ asks is. cc;
  }
  responses_parameter b (incoming_reset_request number streams) x h first e = record {
    all = responses_incoming_if (is_known_request number x.tcb.requests) number x (for_incoming streams h) (λ asks. asks number streams h) e.all;
    none = λ asks. absurd (asks number streams h);
  }
  responses_parameter b (reset_response number result sender receiver) x h first e =
      let same = answers_leave x.tcb.requests.current x.context.now (rto x.tcb.rtt) number result x.tcb.requests in
      record {
        all = record {
          are = e.all.are;
          answer = stayed call x.tcb.requests (handle_response x.context.now (rto x.tcb.rtt) number result x.tcb.requests) x.responses same.0 same.1 e.all.answer;
        };
        none = e.none;
      }
  responses_parameter b p x h first e = e

  responses_next : (c b : Bool) (rest : Handling P → HandledParameters P) (p : ParameterTree) (x : Handling P) → IsAsked call p → (is_outgoing p && b) ≡ c
      → ((y : Handling P) → RespondsSo (is_outgoing p || b) y → Responds (rest y).handling) → RespondsSo b x → Responds (handle_next c rest p x).handling
  responses_next true b rest p x h is f e = e.all
  responses_next false b rest p x h is f e = f (on_parameter p x) (responses_parameter b p x h is e)

  responses_all : (tag : ℕ) (all before ps : List ParameterTree) (b : Bool) (x : Handling P) → BringsChunk call tag (re_config_chunk all) → all ≡ before ++ ps
      → RespondsSo b x → Responds (handle_all ps b x).handling
  responses_all tag all before [] b x h is e = e.all
  responses_all tag all before (p ∷ ps) b x h is e =
      responses_next (is_outgoing p && b) b (handle_all ps (is_outgoing p || b)) p x
      (record { tag = tag; parameters = all; received = h; among = record { before = before; behind = ps; split = is } }) refl
      (λ y. responses_all tag all (before ++ p ∷ []) ps (is_outgoing p || b) y h (next_among before p ps all is)) e

module _ {P : Type 0} {call : Call} {R : EndWithPacket P → EndWithPacket P → Type 0} (k : Preserves call R) (w : Stream) where
  does_send_responses : (rs : List ParameterTree) (phase : Phase) (t : Tcb) (c : Context P) → AreResponses call t.requests rs
      → R (idle (Open phase t) c w) (idle (Open phase t) (send_responses rs t c) w)
  does_send_responses [] phase t c e = k.same (idle (Open phase t) c w)
  does_send_responses (r ∷ rs) phase t c e =
      let p : PacketDraft = new_packet c.options t in
      k.through (does_begin_new k phase t c w)
      (k.through (k.resets (adds_responses (r ∷ rs) phase t (at (Open phase t) c w p) e.are e.answer))
      (does_out k (Open phase t) c w (add (re_config_chunk (r ∷ rs)) p) (all_along (first_more (re_config_chunk (r ∷ rs)) p refl refl))))

  does_finished_if : (b : Bool) (phase : Phase) (x : Handling P) → AreResponses call x.tcb.requests x.responses
      → R (idle (Open phase x.tcb) x.context w) (placed (finish_reconfig_if b phase x) w)
  does_finished_if true phase x e =
      k.through (does_send_responses x.responses phase x.tcb x.context e)
      (does_send_buffered k phase w (is_before_cookie_ack phase) x.tcb (send_responses x.responses x.tcb x.context))
  does_finished_if false phase x e =
      does_emit_error k ProtocolViolation (codes "RE-CONFIG chunk must not have multiple Outgoing SSN Reset Request parameters") (Open phase x.tcb) x.context w

  pub does_reconfig : (tag : ℕ) (ps : List ParameterTree) → BringsChunk call tag (re_config_chunk ps) → OpenActs R w (on_reconfig ps)
  does_reconfig tag [] h phase t c = does_emit_error k ProtocolViolation (codes "RE-CONFIG chunk must have at least one parameter") (Open phase t) c w
  does_reconfig tag (p ∷ ps) h phase t c =
      let d : HandledParameters P = handle_all (p ∷ ps) false (handling t c) in
      k.through (does_handle_all k w phase tag (p ∷ ps) [] (p ∷ ps) false (handling t c) h refl)
      (does_finished_if d.is_whole phase d.handling
      (responses_all call tag (p ∷ ps) [] (p ∷ ps) false (handling t c) h refl
      (record { all = record { are = refl; answer = All-nil (Answers call t.requests) }; none = λ asks is. refl })))

  -- ---- the call that resets streams

  does_prepare_all : (all before ids : List ℕ) (phase : Phase) (t : Tcb) (c : Context P) → call ≡ ResetStreams all → all ≡ before ++ ids
      → t.capabilities.reconfig ≡ true → R (idle (Open phase t) c w) (idle (Open phase t) (prepare_all ids c) w)
  does_prepare_all all before [] phase t c is e can = k.same (idle (Open phase t) c w)
  does_prepare_all all before (id ∷ ids) phase t c is e can =
      let asked : IsReset call id = record { streams = all; asked = is; among = record { before = before; behind = ids; split = e } } in
      k.through (k.resets (prepares id phase t (idle (Open phase t) c w) asked can))
      (does_prepare_all all (before ++ id ∷ []) ids phase t (prepare_reset_stream id c) is (next_among before id ids all e) can)

  does_reset_open : (b : Bool) (ids : List ℕ) (phase : Phase) (t : Tcb) (c : Context P) → call ≡ ResetStreams ids → t.capabilities.reconfig ≡ b
      → R (idle (Open phase t) c w) (placed (streams_reset_unless (unless_supported b) ids (record { state = Open phase t; context = c })) w)
  does_reset_open true ids phase t c is can =
      k.through (does_prepare_all ids [] ids phase t c is refl can) (does_send_in k w phase t (prepare_all ids c))
  does_reset_open false ids phase t c is can = k.same (idle (Open phase t) c w)

  does_reset_in : (s : State) (ids : List ℕ) (c : Context P) → call ≡ ResetStreams ids
      → R (idle s c w) (placed (streams_reset_unless (reset_refusal s) ids (record { state = s; context = c })) w)
  does_reset_in Closed ids c is = k.same (idle Closed c w)
  does_reset_in (CookieWait tag first t1) ids c is = k.same (idle (CookieWait tag first t1) c w)
  does_reset_in (Open phase t) ids c is = does_reset_open t.capabilities.reconfig ids phase t c is refl

  pub does_reset_streams : (ids : List ℕ) (s : EndpointState P) → call ≡ ResetStreams ids → R (placed s w) (placed (reset_streams ids s) w)
  does_reset_streams ids s is = does_reset_in s.state ids s.context is

  -- ---- handover

  does_left_in : (s : State) (c : Context P) → call ≡ HandOver → R (idle s c w) (placed (left_in s c) w)
  does_left_in Closed c is = k.same (idle Closed c w)
  does_left_in (CookieWait tag first t1) c is = k.same (idle (CookieWait tag first t1) c w)
  does_left_in (Open phase t) c is = k.handover (leaves phase t (idle (Open phase t) c w) is)

  does_left_if : (b : Bool) (s : EndpointState P) → call ≡ HandOver → R (placed s w) (placed (left_if b s) w)
  does_left_if true s is = does_left_in s.state s.context is
  does_left_if false s is = k.same (placed s w)

  pub does_hand_over : (s : EndpointState P) → call ≡ HandOver → R (placed s w) (placed (hand_over s) w)
  does_hand_over s is = does_left_if (readiness s == 0) s is

  -- the timers start behind the event that says that the association goes on
  does_woken : (b : Bool) (t : Tcb) (c : Context P)
      → R (idle (Open Established t) (emit_event_in OnConnected c) w) (idle (Open Established (woken_if b t c).tcb) (emit_event_in OnConnected (woken_if b t c).context) w)
  does_woken true t c =
      let s : Sender = wake c.now t.sender in
      k.through (k.time (times_items s.t3 Established t (idle (Open Established t) (emit_event_in OnConnected c) w)))
      (k.time (beats (restart_interval c.now c.heartbeats) (idle (Open Established (record t { sender = s })) (emit_event_in OnConnected c) w)))
  does_woken false t c = k.same (idle (Open Established t) (emit_event_in OnConnected c) w)

  does_take_up : (h : HandoverState) (c : Context P) → call ≡ Restore h → is_valid_state h ≡ true → R (idle Closed c w) (placed (take_up h c) w)
  does_take_up h c is valid =
      let x : AfterSending P = woken_if c.options.avoid_stalls (tcb_from c.now c.options h) (context_restored h c) in
      k.through (k.handover (takes_up h (idle Closed c w) is valid))
      (k.through (does_woken c.options.avoid_stalls (tcb_from c.now c.options h) (context_restored h c))
      (does_send_buffered k Established w false x.tcb (emit_event_in OnConnected x.context)))

  does_taken_as : (how : HandoverSocketState) (h : HandoverState) (c : Context P) → call ≡ Restore h → is_valid_state h ≡ true
      → R (idle Closed c w) (placed (restored_as how h (record { state = Closed; context = c })) w)
  does_taken_as handed.Closed h c is valid = k.same (idle Closed c w)
  does_taken_as handed.Connected h c is valid = does_take_up h c is valid

  does_restored_if : (b : Bool) (h : HandoverState) (c : Context P) → call ≡ Restore h → is_valid_state h ≡ b
      → R (idle Closed c w) (placed (restored_unless (invalid_unless b) h (record { state = Closed; context = c })) w)
  does_restored_if true h c is valid = does_taken_as h.socket_state h c is valid
  does_restored_if false h c is valid = k.same (idle Closed c w)

  does_restore_in : (s : State) (h : HandoverState) (c : Context P) → call ≡ Restore h
      → R (idle s c w) (placed (restored_unless (restore_refusal_in s h) h (record { state = s; context = c })) w)
  does_restore_in Closed h c is = does_restored_if (is_valid_state h) h c is refl
  does_restore_in (CookieWait tag first t1) h c is = k.same (idle (CookieWait tag first t1) c w)
  does_restore_in (Open phase t) h c is = k.same (idle (Open phase t) c w)

  pub does_restore : (h : HandoverState) (s : EndpointState P) → call ≡ Restore h → R (placed s w) (placed (restore h s) w)
  does_restore h s is = does_restore_in s.state h s.context is
