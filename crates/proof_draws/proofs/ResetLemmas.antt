-- RE-CONFIG under other names: requests and answers are told apart as before.
use Rattle.std.proofs.Common.{◌≡◌, ℕ, ◌+◌, ◌-◌, ◌%◌, ◌<◌, ◌&&◌, ◌||◌, ◌==◌, nat_lt, if◌then◌else◌, Bool, true, false, Option, Some, None, is_some, option_map, unwrap_or, List, [], ◌∷◌, map, inl, inr, refl, sym, ap, ◌∙◌, arith}
use Rattle.std.specs.List.{list_all}
use Rattle.std.proofs.lemmas.Bool.{cases_eq, eq-eqb, ne_eqb, ltb-true, and_parts}
use Rattle.std.proofs.lemmas.List.{map-append}
use Rattle.std.proofs.lemmas.Nat.{mod_below}
use Rattle.std.proofs.Math.Nat.{mod-eq_of_lt, add-mod_right}
use Rattle.sctp_serial.specs.declared.api.StreamId.{StreamId}
use Rattle.sctp_serial.specs.SerialNumber.{serial_difference}
use Rattle.sctp_serial.specs.Unwrapped.{u32_space}
use Rattle.sctp_wire.specs.Parameter.{ParameterTree, outgoing_reset_request, incoming_reset_request, reset_response}
use Rattle.sctp_packet.specs.Chunk.{re_config_chunk}
use Rattle.sctp_state.specs.Events.{OnIncomingStreamReset, numbers_of}
use Rattle.sctp_state.specs.RetransmissionTimeout.{rto}
use Rattle.sctp_rx.specs.ReassemblyQueue.{Reassembly, Deferred, Waiting, Added, Forwarded, apply, apply_each, waiting_in, defer, reset}
use Rattle.sctp_rx.specs.ReassemblyQueue as reassembly
use Rattle.sctp_rx.specs.ReassemblyStreams as streams_of
use Rattle.spec_endpoint.specs.Association.{Tcb, Phase, Context, EndpointState, Packing}
use Rattle.spec_endpoint.specs.Packets.{emit_event_in}
use Rattle.spec_endpoint.specs.ResetRequests.{Request, Requests, nothing_to_do, performed, bad_number, in_progress, is_final, Outcome, Unsettled, Done, Denied, outcome_if, outcome, end_or_defer, response_if, handle_response_in, handle_response, is_last_request, is_next_request, is_known_request, next_number}
use Rattle.spec_endpoint.specs.Sending.{AfterSending, is_before_cookie_ack, open_with, send_buffered}
use Rattle.spec_endpoint.specs.StreamReset as resets_rows
use Rattle.spec_endpoint.specs.StreamReset.{Handling, handling, respond, process, is_ahead, resets_unless, resets, outgoing_by, on_outgoing, incoming_if, on_outcome, on_response, is_outgoing, on_parameter, HandledParameters, handle_next, handle_all, send_responses, finish_reconfig_if, finish_reconfig, on_reconfig}
use Rattle.proof_draws.specs.NamedChunks.{Names, AreNames, flip, move_by, named_parameter}
use Rattle.proof_draws.specs.Names.{named_phase, named_reassembly, named_request, named_requests, named_tcb, named_endpoint_state, plain}
use Rattle.proof_draws.specs.Laws.{NumberFits, NumbersFit, number_fits}
use Rattle.proof_draws.proofs.MovedLemmas.{sum_moved, difference_moved}
use Rattle.proof_draws.proofs.WritingLemmas.{Knows, named_emit_chunk, emit_stays}
use Rattle.proof_draws.proofs.ReadingLemmas.{received_number, queue_number, first_named}
use Rattle.proof_draws.proofs.TagLemmas.{alone_named}
use Rattle.proof_draws.proofs.FillingLemmas.{send_with_stays, send_buffered_named, with_requests}
use Rattle.proof_draws.proofs.NumberLemmas.{parameter_fits}

-- ---- numbers that are moved are told apart as before

moved_back : (by number : ℕ) → number < u32_space → serial_difference u32_space (move_by by number) (move_by by 0) ≡ number
moved_back by number small =
    let whole : number + u32_space - 0 ≡ number + u32_space = omega arith in
    difference_moved u32_space number 0 by (omega arith) ∙ (ap (λ (k : ℕ). k % u32_space) whole ∙ (add-mod_right number u32_space ∙ mod-eq_of_lt small))

same_moved : (by a b : ℕ) → a < u32_space → b < u32_space → (move_by by a == move_by by b) ≡ (a == b)
same_moved by a b small less =
    elim (cases_eq a b) [
      | inl e ↦ eq-eqb (move_by by a) (move_by by b) (ap (λ (k : ℕ). move_by by k) e) ∙ sym (eq-eqb a b e)
      | inr d ↦
          ne_eqb (move_by by a) (move_by by b)
          (λ e. d (sym (moved_back by a small) ∙ (ap (λ (k : ℕ). serial_difference u32_space k (move_by by 0)) e ∙ moved_back by b less))) ∙ sym (ne_eqb a b d)
    ]

next_moved : (by number : ℕ) → next_number (move_by by number) ≡ move_by by (next_number number)
next_moved by number = sum_moved u32_space number 1 by

-- a reset that waits, unless one does already
abbrev deferred_at : Option Deferred → (first number : ℕ) → List StreamId → Reassembly → Reassembly
deferred_at o first number ids r = record r {
  first = if is_some o then r.first else Some first;
  deferred = if is_some o then o else Some (record { last = number; streams = ids; waiting = [] });
}

module _ (n : Names) where
  last_named : (number : ℕ) (r : Requests) → number < u32_space → NumbersFit r → is_last_request (move_by n.peer number) (named_requests n r) ≡ is_last_request number r
  last_named number r small h = same_moved n.peer number r.last small h.last

  next_named : (number : ℕ) (r : Requests) → number < u32_space → is_next_request (move_by n.peer number) (named_requests n r) ≡ is_next_request number r
  next_named number r small =
      ap (λ (k : ℕ). move_by n.peer number == k) (next_moved n.peer r.last) ∙ same_moved n.peer number (next_number r.last) small (mod_below (r.last + 1) u32_space (omega arith))

  known_named : (number : ℕ) (r : Requests) → number < u32_space → NumbersFit r → is_known_request (move_by n.peer number) (named_requests n r) ≡ is_known_request number r
  known_named number r small h =
      ap (λ (b : Bool). b || is_next_request (move_by n.peer number) (named_requests n r)) (last_named number r small h) ∙ ap (λ (b : Bool). is_last_request number r || b) (next_named number r small)

  -- ---- reassembly

  apply_named : (w : Waiting) (r : Reassembly) → apply w (named_reassembly n r) ≡ named_reassembly n (apply w r)
  apply_named (Added k f) r = refl
  apply_named (Forwarded k es) r = refl

  each_named : (ws : List Waiting) (r : Reassembly) → apply_each ws (named_reassembly n r) ≡ named_reassembly n (apply_each ws r)
  each_named [] r = refl
  each_named (w ∷ ws) r = ap (λ (q : Reassembly). apply_each ws q) (apply_named w r) ∙ each_named ws (apply w r)

  reset_named : (ids : List StreamId) (r : Reassembly) → reset ids (named_reassembly n r) ≡ named_reassembly n (reset ids r)
  reset_named ids r = each_named (waiting_in r.deferred) (record r { streams = streams_of.reset ids r.streams; deferred = None })

  deferred_by : (o : Option Deferred) (first number : ℕ) (ids : List StreamId) (r : Reassembly)
      → deferred_at o (move_by n.peer first) number ids (named_reassembly n r) ≡ named_reassembly n (deferred_at o first number ids r)
  deferred_by None first number ids r = refl
  deferred_by (Some d) first number ids r = refl

  defer_named : (tsn : ℕ) (ids : List StreamId) (r : Reassembly) → defer (move_by n.peer tsn) ids (named_reassembly n r) ≡ named_reassembly n (defer tsn ids r)
  defer_named tsn ids r =
      let q : Reassembly = named_reassembly n r in
      ap (λ (k : ℕ). deferred_at r.deferred (unwrap_or (option_map (move_by n.peer) r.first) (move_by n.peer tsn)) k ids q) (queue_number n r tsn)
      ∙ (ap (λ (k : ℕ). deferred_at r.deferred k (reassembly.number_of r tsn) ids q) (first_named n r.first tsn)
      ∙ deferred_by r.deferred (unwrap_or r.first tsn) (reassembly.number_of r tsn) ids r)

  -- ---- an answer to the own request

  outcome_named : (o : Option Request) (number result : ℕ) → number < u32_space → NumberFits o → outcome (move_by n.own number) result (option_map (named_request n) o) ≡ outcome number result o
  outcome_named None number result small h = refl
  outcome_named (Some r) number result small h = ap (λ (b : Bool). outcome_if b result r.streams) (same_moved n.own r.number number h small)

  answered_by_named : (b : Bool) (now rto : ℕ) (r : Request) (x : Requests)
      → end_or_defer b now rto (named_request n r) (named_requests n x) ≡ named_requests n (end_or_defer b now rto r x)
  answered_by_named true now rto r x = refl
  answered_by_named false now rto r x = refl

  answered_if_named : (b : Bool) (now rto result : ℕ) (r : Request) (x : Requests)
      → response_if b now rto result (named_request n r) (named_requests n x) ≡ named_requests n (response_if b now rto result r x)
  answered_if_named true now rto result r x = answered_by_named (is_final result) now rto r x
  answered_if_named false now rto result r x = refl

  answered_in_named : (o : Option Request) (now rto number result : ℕ) (x : Requests) → number < u32_space → NumberFits o
      → handle_response_in (option_map (named_request n) o) now rto (move_by n.own number) result (named_requests n x) ≡ named_requests n (handle_response_in o now rto number result x)
  answered_in_named None now rto number result x small h = refl
  answered_in_named (Some r) now rto number result x small h =
      ap (λ (b : Bool). response_if b now rto result (named_request n r) (named_requests n x)) (same_moved n.own r.number number h small)
      ∙ answered_if_named (r.number == number) now rto result r x

-- ---- RE-CONFIG

abbrev named_handling : {P : Type 0} → Names → Packing P → Handling P → Handling P
named_handling n pack x = record { tcb = named_tcb n x.tcb; context = plain n pack x.context; responses = map (named_parameter n) x.responses }

abbrev named_handled : {P : Type 0} → Names → Packing P → HandledParameters P → HandledParameters P
named_handled n pack h = record { handling = named_handling n pack h.handling; is_whole = h.is_whole }

abbrev with_responses : {P : Type 0} → Tcb → Context P → List ParameterTree → Handling P
with_responses t c rs = record { tcb = t; context = c; responses = rs }

abbrev with_reassembly : Tcb → Reassembly → Tcb
with_reassembly t r = record t { reassembly = r }

abbrev said : {P : Type 0} → List StreamId → Context P → Context P
said streams c = emit_event_in (OnIncomingStreamReset (numbers_of streams)) c

module _ {P : Type 0} where
  outcome_stays : (o : Outcome) (c : Context P) → (on_outcome o c).pack ≡ c.pack
  outcome_stays Unsettled c = refl
  outcome_stays (Done streams) c = refl
  outcome_stays (Denied streams) c = refl

  resets_stay : (b : Bool) (number last_tsn : ℕ) (streams : List StreamId) (x : Handling P) → (resets_unless b number last_tsn streams x).context.pack ≡ x.context.pack
  resets_stay true number last_tsn streams x = refl
  resets_stay false number last_tsn streams x = refl

  outgoing_stays : (a b d : Bool) (number last_tsn : ℕ) (streams : List StreamId) (x : Handling P) → (outgoing_by a b d number last_tsn streams x).context.pack ≡ x.context.pack
  outgoing_stays true b true number last_tsn streams x = refl
  outgoing_stays true b false number last_tsn streams x = resets_stay (is_ahead last_tsn x.tcb) number last_tsn streams x
  outgoing_stays false true d number last_tsn streams x = resets_stay (is_ahead last_tsn x.tcb) number last_tsn streams x
  outgoing_stays false false d number last_tsn streams x = refl

  incoming_stays : (b : Bool) (number : ℕ) (x : Handling P) → (incoming_if b number x).context.pack ≡ x.context.pack
  incoming_stays true number x = refl
  incoming_stays false number x = refl

  parameter_stays : (p : ParameterTree) (x : Handling P) → (on_parameter p x).context.pack ≡ x.context.pack
  parameter_stays (outgoing_reset_request number response last_tsn streams) x =
      outgoing_stays (is_last_request number x.tcb.requests) (is_next_request number x.tcb.requests) (is_final x.tcb.requests.result) number last_tsn.0 streams x
  parameter_stays (incoming_reset_request number streams) x = incoming_stays (is_known_request number x.tcb.requests) number x
  parameter_stays (reset_response number result sender receiver) x = outcome_stays (outcome number result x.tcb.requests.current) x.context
  parameter_stays p x = refl

  next_stays : (b : Bool) (rest : Handling P → HandledParameters P) (p : ParameterTree) (x : Handling P) → ((y : Handling P) → (rest y).handling.context.pack ≡ y.context.pack)
      → (handle_next b rest p x).handling.context.pack ≡ x.context.pack
  next_stays true rest p x h = refl
  next_stays false rest p x h = h (on_parameter p x) ∙ parameter_stays p x

  all_stays : (ps : List ParameterTree) (b : Bool) (x : Handling P) → (handle_all ps b x).handling.context.pack ≡ x.context.pack
  all_stays [] b x = refl
  all_stays (p ∷ ps) b x = next_stays (is_outgoing p && b) (handle_all ps (is_outgoing p || b)) p x (all_stays ps (is_outgoing p || b))

  responses_stay : (rs : List ParameterTree) (t : Tcb) (c : Context P) → (send_responses rs t c).pack ≡ c.pack
  responses_stay [] t c = refl
  responses_stay (r ∷ rs) t c = emit_stays _ c

  finished_stays : (b : Bool) (phase : Phase) (x : Handling P) → (finish_reconfig_if b phase x).context.pack ≡ x.context.pack
  finished_stays true phase x =
      let d : Context P = send_responses x.responses x.tcb x.context in
      send_with_stays (is_before_cookie_ack phase) _ x.tcb d ∙ responses_stay x.responses x.tcb x.context
  finished_stays false phase x = refl

  pub reconfig_stays : (ps : List ParameterTree) (phase : Phase) (t : Tcb) (c : Context P) → (on_reconfig ps phase t c).context.pack ≡ c.pack
  reconfig_stays [] phase t c = refl
  reconfig_stays (p ∷ ps) phase t c =
      let h : HandledParameters P = handle_all (p ∷ ps) false (handling t c) in
      finished_stays h.is_whole phase h.handling ∙ all_stays (p ∷ ps) false (handling t c)

module _ {P : Type 0} (n : Names) (are : AreNames n) (pack : Packing P) where
  -- ---- requests of the peer

  respond_named : (number result : ℕ) (x : Handling P) → respond (move_by n.peer number) result (named_handling n pack x) ≡ named_handling n pack (respond number result x)
  respond_named number result x =
      ap (λ (rs : List ParameterTree). with_responses (named_tcb n x.tcb) (plain n pack x.context) rs)
      (sym (map-append (named_parameter n) x.responses (reset_response number result None None ∷ [])))

  process_named : (number result : ℕ) (x : Handling P) → process (move_by n.peer number) result (named_handling n pack x) ≡ named_handling n pack (process number result x)
  process_named number result x = respond_named number result (record x { tcb = with_requests x.tcb (record x.tcb.requests { last = number; result = result }) })

  resets_unless_named : (b : Bool) (number last_tsn : ℕ) (streams : List StreamId) (x : Handling P)
      → resets_unless b (move_by n.peer number) (move_by n.peer last_tsn) streams (named_handling n pack x) ≡ named_handling n pack (resets_unless b number last_tsn streams x)
  resets_unless_named true number last_tsn streams x =
      let y : Handling P = named_handling n pack x in
      ap (λ (r : Reassembly). process (move_by n.peer number) in_progress (record y { tcb = with_reassembly y.tcb r })) (defer_named n last_tsn streams x.tcb.reassembly)
      ∙ process_named number in_progress (record x { tcb = with_reassembly x.tcb (defer last_tsn streams x.tcb.reassembly) })
  resets_unless_named false number last_tsn streams x =
      let y : Handling P = named_handling n pack x in
      ap (λ (r : Reassembly). process (move_by n.peer number) performed (record y { tcb = with_reassembly y.tcb r; context = plain n pack (said streams x.context) })) (reset_named n streams x.tcb.reassembly)
      ∙ process_named number performed (record x { tcb = with_reassembly x.tcb (reset streams x.tcb.reassembly); context = said streams x.context })

  resets_named : (number last_tsn : ℕ) (streams : List StreamId) (x : Handling P)
      → resets (move_by n.peer number) (move_by n.peer last_tsn) streams (named_handling n pack x) ≡ named_handling n pack (resets number last_tsn streams x)
  resets_named number last_tsn streams x =
      ap (λ (k : ℕ). resets_unless (nat_lt x.tcb.tracker.tracker.seen.front k) (move_by n.peer number) (move_by n.peer last_tsn) streams (named_handling n pack x)) (received_number n x.tcb.tracker last_tsn)
      ∙ resets_unless_named (is_ahead last_tsn x.tcb) number last_tsn streams x

  outgoing_by_named : (a b d : Bool) (number last_tsn : ℕ) (streams : List StreamId) (x : Handling P)
      → outgoing_by a b d (move_by n.peer number) (move_by n.peer last_tsn) streams (named_handling n pack x) ≡ named_handling n pack (outgoing_by a b d number last_tsn streams x)
  outgoing_by_named true b true number last_tsn streams x = respond_named number x.tcb.requests.result x
  outgoing_by_named true b false number last_tsn streams x = resets_named number last_tsn streams x
  outgoing_by_named false true d number last_tsn streams x = resets_named number last_tsn streams x
  outgoing_by_named false false d number last_tsn streams x = respond_named number bad_number x

  outgoing_named : (number last_tsn : ℕ) (streams : List StreamId) (x : Handling P) → number < u32_space → NumbersFit x.tcb.requests
      → on_outgoing (move_by n.peer number) (move_by n.peer last_tsn) streams (named_handling n pack x) ≡ named_handling n pack (on_outgoing number last_tsn streams x)
  outgoing_named number last_tsn streams x small h =
      let r : Requests = x.tcb.requests in
      let d : Bool = is_final r.result in
      let y : Handling P = named_handling n pack x in
      ap (λ (a : Bool). outgoing_by a (is_next_request (move_by n.peer number) (named_requests n r)) d (move_by n.peer number) (move_by n.peer last_tsn) streams y) (last_named n number r small h)
      ∙ (ap (λ (b : Bool). outgoing_by (is_last_request number r) b d (move_by n.peer number) (move_by n.peer last_tsn) streams y) (next_named n number r small)
      ∙ outgoing_by_named (is_last_request number r) (is_next_request number r) d number last_tsn streams x)

  incoming_if_named : (b : Bool) (number : ℕ) (x : Handling P) → incoming_if b (move_by n.peer number) (named_handling n pack x) ≡ named_handling n pack (incoming_if b number x)
  incoming_if_named true number x = process_named number nothing_to_do x
  incoming_if_named false number x = respond_named number bad_number x

  -- ---- an answer to the own one

  on_outcome_named : (o : Outcome) (c : Context P) → on_outcome o (plain n pack c) ≡ plain n pack (on_outcome o c)
  on_outcome_named Unsettled c = refl
  on_outcome_named (Done streams) c = refl
  on_outcome_named (Denied streams) c = refl

  response_named : (number result : ℕ) (x : Handling P) → number < u32_space → NumbersFit x.tcb.requests
      → resets_rows.with_sent (on_response (move_by n.own number) result (named_tcb n x.tcb) (plain n pack x.context)) (named_handling n pack x)
      ≡ named_handling n pack (resets_rows.with_sent (on_response number result x.tcb x.context) x)
  response_named number result x small h =
      let r : Requests = x.tcb.requests in
      let after_it : Requests → Outcome → Handling P = λ q o. with_responses (with_requests (named_tcb n x.tcb) q) (on_outcome o (plain n pack x.context)) (map (named_parameter n) x.responses) in
      ap (λ (q : Requests). after_it q (outcome (move_by n.own number) result (option_map (named_request n) r.current))) (answered_in_named n r.current x.context.now (rto x.tcb.rtt) number result r small h.current)
      ∙ (ap (λ (o : Outcome). after_it (named_requests n (handle_response x.context.now (rto x.tcb.rtt) number result r)) o) (outcome_named n r.current number result small h.current)
      ∙ ap (λ (c : Context P). with_responses (with_requests (named_tcb n x.tcb) (named_requests n (handle_response x.context.now (rto x.tcb.rtt) number result r))) c (map (named_parameter n) x.responses))
      (on_outcome_named (outcome number result r.current) x.context))

  -- ---- parameters, one after the other

  parameter_named : (p : ParameterTree) (x : Handling P) → number_fits p ≡ true → NumbersFit x.tcb.requests
      → on_parameter (named_parameter (flip n) p) (named_handling n pack x) ≡ named_handling n pack (on_parameter p x)
  parameter_named (outgoing_reset_request number response last_tsn streams) x k h = outgoing_named number last_tsn.0 streams x (ltb-true number u32_space k) h
  parameter_named (incoming_reset_request number streams) x k h =
      ap (λ (b : Bool). incoming_if b (move_by n.peer number) (named_handling n pack x)) (known_named n number x.tcb.requests (ltb-true number u32_space k) h)
      ∙ incoming_if_named (is_known_request number x.tcb.requests) number x
  parameter_named (reset_response number result sender receiver) x k h = response_named number result x (ltb-true number u32_space k) h
  parameter_named p x k h = refl

  outgoing_is : (p : ParameterTree) → is_outgoing (named_parameter (flip n) p) ≡ is_outgoing p
  outgoing_is (outgoing_reset_request number response last_tsn streams) = refl
  outgoing_is p = refl

  handle_next_named : (b : Bool) (rest named : Handling P → HandledParameters P) (p : ParameterTree) (x : Handling P) → number_fits p ≡ true → NumbersFit x.tcb.requests
      → (named (named_handling n pack (on_parameter p x)) ≡ named_handled n pack (rest (on_parameter p x)))
      → handle_next b named (named_parameter (flip n) p) (named_handling n pack x) ≡ named_handled n pack (handle_next b rest p x)
  handle_next_named true rest named p x k h f = refl
  handle_next_named false rest named p x k h f = ap (λ (y : Handling P). named y) (parameter_named p x k h) ∙ f

  handle_all_named : (ps : List ParameterTree) (b : Bool) (x : Handling P) → list_all number_fits ps ≡ true → NumbersFit x.tcb.requests
      → handle_all (map (named_parameter (flip n)) ps) b (named_handling n pack x) ≡ named_handled n pack (handle_all ps b x)
  handle_all_named [] b x k h = refl
  handle_all_named (p ∷ ps) b x k h =
      let both = and_parts (number_fits p) (list_all number_fits ps) k in
      let qs : List ParameterTree = map (named_parameter (flip n)) ps in
      ap (λ (d : Bool). handle_next (d && b) (handle_all qs (d || b)) (named_parameter (flip n) p) (named_handling n pack x)) (outgoing_is p)
      ∙ handle_next_named (is_outgoing p && b) (handle_all ps (is_outgoing p || b)) (handle_all qs (is_outgoing p || b)) p x both.0 h
      (handle_all_named ps (is_outgoing p || b) (on_parameter p x) both.1 (parameter_fits p x both.0 h))

  -- ---- the row

  responses_named : (rs : List ParameterTree) (t : Tcb) (c : Context P) → Knows n pack c
      → send_responses (map (named_parameter n) rs) (named_tcb n t) (plain n pack c) ≡ plain n pack (send_responses rs t c)
  responses_named [] t c k = refl
  responses_named (r ∷ rs) t c k = named_emit_chunk n are pack (re_config_chunk (r ∷ rs)) t c k

  finished_named : (b : Bool) (phase : Phase) (x : Handling P) → Knows n pack x.context
      → finish_reconfig_if b (named_phase n phase) (named_handling n pack x) ≡ named_endpoint_state n pack (finish_reconfig_if b phase x)
  finished_named true phase x k =
      let d : Context P = send_responses x.responses x.tcb x.context in
      let go : Bool → Context P → EndpointState P = λ b c. open_with (named_phase n phase) (send_buffered b (named_tcb n x.tcb) c) in
      ap (λ (b : Bool). go b (send_responses (map (named_parameter n) x.responses) (named_tcb n x.tcb) (plain n pack x.context))) (alone_named n phase)
      ∙ (ap (λ (c : Context P). go (is_before_cookie_ack phase) c) (responses_named x.responses x.tcb x.context k)
      ∙ ap (λ (s : AfterSending P). open_with (named_phase n phase) s) (send_buffered_named n are pack (is_before_cookie_ack phase) x.tcb d (responses_stay x.responses x.tcb x.context ∙ k)))
  finished_named false phase x k = refl

  pub reconfig_named : (ps : List ParameterTree) (phase : Phase) (t : Tcb) (c : Context P) → list_all number_fits ps ≡ true → NumbersFit t.requests → Knows n pack c
      → on_reconfig (map (named_parameter (flip n)) ps) (named_phase n phase) (named_tcb n t) (plain n pack c) ≡ named_endpoint_state n pack (on_reconfig ps phase t c)
  reconfig_named [] phase t c all h k = refl
  reconfig_named (p ∷ ps) phase t c all h k =
      let x : HandledParameters P = handle_all (p ∷ ps) false (handling t c) in
      ap (λ (y : HandledParameters P). finish_reconfig (named_phase n phase) y) (handle_all_named (p ∷ ps) false (handling t c) all h)
      ∙ finished_named x.is_whole phase x.handling (all_stays (p ∷ ps) false (handling t c) ∙ k)
