-- INIT, INIT ACK and COOKIE ECHO under other names, where what is drawn for them are the names of what is drawn.
use Rattle.std.proofs.Common.{◌≡◌, ℕ, ◌+◌, ◌%◌, ◌^◌, Bool, true, false, Option, Some, None, option_map, Result, Ok, Err, List, [], ◌∷◌, map, codes, refl, sym, ap, ◌∙◌, ◌&&◌, ◌==◌, not}
use Rattle.rand_core.specs.Stream.{Stream, next_u32, next_u64}
use Rattle.sctp_serial.specs.Unwrapped.{u32_space, wire}
use Rattle.sctp_wire.specs.Parameter.{ParameterTree, heartbeat_info, state_cookie, outgoing_reset_request, incoming_reset_request, ssn_tsn_reset_request, reset_response, add_outgoing_streams_request, add_incoming_streams_request, supported_extensions, forward_tsn_supported, zero_checksum_acceptable, unknown_parameter}
use Rattle.sctp_wire.specs.Cause.{missing_mandatory_parameter, cookie_received_while_shutting_down}
use Rattle.sctp_packet.specs.Chunk.{ChunkTree, InitTree, abort_chunk, error_chunk, shutdown_ack_chunk}
use Rattle.sctp_state.specs.declared.api.ErrorKind.TheVariants.{ProtocolViolation, WrongSequence}
use Rattle.sctp_capabilities.specs.declared.state_cookie.StateCookieError.{StateCookieError}
use Rattle.sctp_capabilities.specs.StateCookie.{Cookie, read_cookie}
use Rattle.sctp_state.specs.Events.{OnAborted}
use Rattle.sctp_tx_outstanding.specs.OutstandingData.{next_number}
use Rattle.spec_endpoint.specs.Association.{Tcb, Phase, CookieEchoed, Established, ShutdownPending, ShutdownSent, ShutdownReceived, ShutdownAckSent, State, Closed, CookieWait, Open, Context, EndpointState, with_context, Packing}
use Rattle.spec_endpoint.specs.Packets.{PacketDraft, add, packet_to, new_packet, round_down_to_4, emit_error, emit}
use Rattle.spec_endpoint.specs.Sending.{AfterSending, open_with, is_before_cookie_ack}
use Rattle.spec_endpoint.specs.Shutdown.{close_with}
use Rattle.spec_endpoint.specs.Opening.{tsn_from, tag_from, answer, next_first, on_init_open, on_init_in, on_init, cookie_in, without_cookie, echo, identity_of_init_ack, echo_or_abort, on_init_ack_in, on_init_ack, enter_connected, CookieResolution, EstablishNew, RestartDetected, SimultaneousInit, MaintainExisting, Discard, InvalidTag, resolve_cookie, cookie_ack, anew, maintain_existing, maintain_existing_in, too_late, restarts, restarts_in, restart, on_resolution, on_read_cookie, on_cookie_echo, new_unless, new_if, restarted, as_restart, resolve_by_tags, spent_chunk, refuse_spent, on_cookie_unless, is_spent_at}
use Rattle.proof_draws.specs.NamedChunks.{Names, AreNames, flip, move_by, named_parameter, named_init}
use Rattle.proof_draws.specs.Names.{named_tcb, named_phase, named_state, named_endpoint_state, named_cookie, plain, with_random}
use Rattle.proof_draws.specs.Laws.{TiesTell}
use Rattle.proof_draws.specs.NamedCalls.{DrawsTie, KnowsAnswer, AnswersNew, AnswersAgain, InitIsNamedOpen, InitIsNamed, EchoIsNamed, InitAckIsNamed, read_under, is_new, CookieIsNamed}
use Rattle.proof_draws.proofs.MovedLemmas.{sum_moved, moved_wire}
use Rattle.proof_draws.proofs.WritingLemmas.{Knows, named_add, named_emit}
use Rattle.proof_draws.proofs.TagLemmas.{judged_named, is_spent_named}
use Rattle.proof_draws.proofs.AnswerLemmas.{answer_named, cookie_ack_named, anew_named, echo_named}
use Rattle.proof_draws.proofs.ClosingLemmas.{acked_named}
use Rattle.proof_endpoint.proofs.RowMapsLemmas.{endpoint_state_in}

-- the answer was emitted
abbrev answered : {P : Type 0} → InitTree → (tag first tie : ℕ) → EndpointState P → EndpointState P
answered i tag first tie s = with_context s (answer i tag first tie s.context)

-- the first parameter with a cookie
cookie_in_named : (n : Names) (ps : List ParameterTree) → cookie_in (map (named_parameter n) ps) ≡ option_map n.cookie (cookie_in ps)
cookie_in_named n [] = refl
cookie_in_named n (heartbeat_info info ∷ ps) = cookie_in_named n ps
cookie_in_named n (state_cookie cookie ∷ ps) = refl
cookie_in_named n (outgoing_reset_request number response tsn streams ∷ ps) = cookie_in_named n ps
cookie_in_named n (incoming_reset_request number streams ∷ ps) = cookie_in_named n ps
cookie_in_named n (ssn_tsn_reset_request typ value ∷ ps) = cookie_in_named n ps
cookie_in_named n (reset_response number result sender receiver ∷ ps) = cookie_in_named n ps
cookie_in_named n (add_outgoing_streams_request typ value ∷ ps) = cookie_in_named n ps
cookie_in_named n (add_incoming_streams_request typ value ∷ ps) = cookie_in_named n ps
cookie_in_named n (supported_extensions types ∷ ps) = cookie_in_named n ps
cookie_in_named n (forward_tsn_supported ∷ ps) = cookie_in_named n ps
cookie_in_named n (zero_checksum_acceptable method ∷ ps) = cookie_in_named n ps
cookie_in_named n (unknown_parameter typ value ∷ ps) = cookie_in_named n ps

-- the first TSN of an association that would take this one's place
pub next_first_named : (n : Names) (t : Tcb) → next_first (named_tcb n t) ≡ move_by n.own (next_first t)
next_first_named n t =
    let last : ℕ = next_number t.sender.outstanding.items in
    ap (λ (k : ℕ). (k + 1000000) % 2 ^ 32) (moved_wire n.own t.sender.outstanding.first last)
    ∙ sum_moved u32_space (wire u32_space t.sender.outstanding.first last) 1000000 n.own

module _ {P : Type 0} (n : Names) (are : AreNames n) (pack : Packing P) where
  -- ---- INIT

  answered_named : (i : InitTree) (tag first tie named_tie : ℕ) (s : EndpointState P) → KnowsAnswer n i tag first tie named_tie → Knows n pack s.context
      → answered (named_init (flip n) i) (n.tag tag) (move_by n.own first) named_tie (named_endpoint_state n pack s) ≡ named_endpoint_state n pack (answered i tag first tie s)
  answered_named i tag first tie named_tie s a knows =
      ap (λ (x : ℕ). answered (named_init (flip n) i) (n.tag tag) (move_by n.own first) x (named_endpoint_state n pack s)) (sym a.cookie_tie)
      ∙ ap (λ (d : Context P). with_context (named_endpoint_state n pack s) d) (answer_named n are pack i tag first tie s.context a.makes knows)

  answered_new : (i : InitTree) (s : EndpointState P) (w v : Stream) → AnswersNew n i w v → Knows n pack s.context
      → answered (named_init (flip n) i) (tag_from (next_u32 (next_u32 v).1).0) (tsn_from (next_u32 v).0) 0 (named_endpoint_state n pack s)
      ≡ named_endpoint_state n pack (answered i (tag_from (next_u32 (next_u32 w).1).0) (tsn_from (next_u32 w).0) 0 s)
  answered_new i s w v a knows =
      let j : InitTree = named_init (flip n) i in
      let tag : ℕ = tag_from (next_u32 (next_u32 w).1).0 in
      ap (λ (x : ℕ). answered j x (tsn_from (next_u32 v).0) 0 (named_endpoint_state n pack s)) a.draws.tag
      ∙ (ap (λ (x : ℕ). answered j (n.tag tag) x 0 (named_endpoint_state n pack s)) a.draws.first
      ∙ answered_named i tag (tsn_from (next_u32 w).0) 0 0 s a.knows knows)

  answered_again : (i : InitTree) (t : Tcb) (s : EndpointState P) (w v : Stream) → AnswersAgain n i t w v → Knows n pack s.context
      → answered (named_init (flip n) i) (tag_from (next_u32 v).0) (next_first (named_tcb n t)) (n.tie t.identity.tie) (named_endpoint_state n pack s)
      ≡ named_endpoint_state n pack (answered i (tag_from (next_u32 w).0) (next_first t) t.identity.tie s)
  answered_again i t s w v a knows =
      let j : InitTree = named_init (flip n) i in
      let tag : ℕ = tag_from (next_u32 w).0 in
      ap (λ (x : ℕ). answered j x (next_first (named_tcb n t)) (n.tie t.identity.tie) (named_endpoint_state n pack s)) a.draws.tag
      ∙ (ap (λ (x : ℕ). answered j (n.tag tag) x (n.tie t.identity.tie) (named_endpoint_state n pack s)) (next_first_named n t)
      ∙ answered_named i tag (next_first t) t.identity.tie (n.tie t.identity.tie) s a.knows knows)

  init_open_named : (phase : Phase) (i : InitTree) (t : Tcb) (s : EndpointState P) (w v : Stream) → InitIsNamedOpen n i phase t w v → Knows n pack s.context
      → (on_init_open (named_phase n phase) (named_init (flip n) i) (named_tcb n t) (with_random v (named_endpoint_state n pack s))).endpoint_state
      ≡ named_endpoint_state n pack (on_init_open phase i t (with_random w s)).endpoint_state
  init_open_named (CookieEchoed t1 cookie) i t s w v a knows = answered_named i t.identity.my_tag t.identity.my_first 0 0 s a knows
  init_open_named Established i t s w v a knows = answered_again i t s w v a knows
  init_open_named ShutdownPending i t s w v a knows = answered_again i t s w v a knows
  init_open_named (ShutdownSent t2) i t s w v a knows = answered_again i t s w v a knows
  init_open_named ShutdownReceived i t s w v a knows = answered_again i t s w v a knows
  init_open_named (ShutdownAckSent t2) i t s w v a knows = ap (λ (d : Context P). with_context (named_endpoint_state n pack s) d) (acked_named n are pack t s.context knows)

  init_in_named : (st : State) (i : InitTree) (s : EndpointState P) (w v : Stream) → InitIsNamed n i st w v → Knows n pack s.context
      → (on_init_in (named_state n st) (named_init (flip n) i) (with_random v (named_endpoint_state n pack s))).endpoint_state
      ≡ named_endpoint_state n pack (on_init_in st i (with_random w s)).endpoint_state
  init_in_named Closed i s w v a knows = answered_new i s w v a knows
  init_in_named (CookieWait tag first t1) i s w v a knows = answered_named i tag first 0 0 s a knows
  init_in_named (Open phase t) i s w v a knows = init_open_named phase i t s w v a knows

  pub init_named : (i : InitTree) (s : EndpointState P) (w v : Stream) → InitIsNamed n i s.state w v → Knows n pack s.context
      → (on_init (named_init (flip n) i) (with_random v (named_endpoint_state n pack s))).endpoint_state ≡ named_endpoint_state n pack (on_init i (with_random w s)).endpoint_state
  init_named i s w v a knows = init_in_named s.state i s w v a knows

  -- ---- INIT ACK

  without_cookie_named : (tag : ℕ) (c : Context P) → Knows n pack c → without_cookie (n.tag tag) (plain n pack c) ≡ named_endpoint_state n pack (without_cookie tag c)
  without_cookie_named tag c knows =
      let chunk : ChunkTree = abort_chunk false (missing_mandatory_parameter (7 ∷ []) ∷ []) in
      let p : PacketDraft = packet_to tag (round_down_to_4 c.options.mtu) in
      let out : Context P → EndpointState P = λ d. close_with (OnAborted ProtocolViolation (codes "InitAck chunk doesn't contain a cookie")) d in
      ap (λ (q : PacketDraft). out (emit q (plain n pack c))) (named_add n are chunk p) ∙ ap out (named_emit n are pack (add chunk p) c knows)

  echoed_named : (i : InitTree) (o : Option (List ℕ)) (tag first : ℕ) (s : EndpointState P) (w v : Stream) → EchoIsNamed n o w v → Knows n pack s.context
      → (echo_or_abort (named_init (flip n) i) (option_map n.cookie o) (n.tag tag) (move_by n.own first) (with_random v (named_endpoint_state n pack s))).endpoint_state
      ≡ named_endpoint_state n pack (echo_or_abort i o tag first (with_random w s)).endpoint_state
  echoed_named i None tag first s w v a knows = without_cookie_named i.initiate_tag s.context knows
  echoed_named i (Some cookie) tag first s w v a knows =
      let j : InitTree = named_init (flip n) i in
      ap (λ (tie : ℕ). echo j (n.cookie cookie) (identity_of_init_ack j (n.tag tag) (move_by n.own first) tie) (plain n pack s.context)) a.draws.tie
      ∙ echo_named n are pack i cookie (identity_of_init_ack i tag first (next_u64 w).0) s.context a.maker knows

  init_ack_in_named : (st : State) (i : InitTree) (c : Context P) (w v : Stream) → InitAckIsNamed n i st w v → Knows n pack c
      → (on_init_ack_in (named_state n st) (named_init (flip n) i) (with_random v (endpoint_state_in (named_state n st) (plain n pack c)))).endpoint_state
      ≡ named_endpoint_state n pack (on_init_ack_in st i (with_random w (endpoint_state_in st c))).endpoint_state
  init_ack_in_named Closed i c w v a knows = refl
  init_ack_in_named (CookieWait tag first t1) i c w v a knows =
      let s : EndpointState P = endpoint_state_in (CookieWait tag first t1) c in
      ap (λ (o : Option (List ℕ)). (echo_or_abort (named_init (flip n) i) o (n.tag tag) (move_by n.own first) (with_random v (named_endpoint_state n pack s))).endpoint_state) (cookie_in_named (flip n) i.parameters)
      ∙ echoed_named i (cookie_in i.parameters) tag first s w v a knows
  init_ack_in_named (Open phase t) i c w v a knows = refl

  pub init_ack_named : (i : InitTree) (s : EndpointState P) (w v : Stream) → InitAckIsNamed n i s.state w v → Knows n pack s.context
      → (on_init_ack (named_init (flip n) i) (with_random v (named_endpoint_state n pack s))).endpoint_state ≡ named_endpoint_state n pack (on_init_ack i (with_random w s)).endpoint_state
  init_ack_named i s w v a knows = init_ack_in_named s.state i s.context w v a knows

  -- ---- COOKIE ECHO

  anew_drawn : (resets : Bool) (k : Cookie) (c : Context P) (w v : Stream) → DrawsTie n w v → Knows n pack c
      → anew resets (named_cookie n k) (next_u64 v).0 (plain n pack c) ≡ named_endpoint_state n pack (anew resets k (next_u64 w).0 c)
  anew_drawn resets k c w v d knows =
      ap (λ (tie : ℕ). anew resets (named_cookie n k) tie (plain n pack c)) d.tie ∙ anew_named n are pack resets k (next_u64 w).0 c knows

  acked_as : (phase : Phase) (tag : ℕ) (t : Tcb) (c : Context P) → Knows n pack c
      → open_with (named_phase n phase) (cookie_ack (n.tag tag) (named_tcb n t) (plain n pack c)) ≡ named_endpoint_state n pack (open_with phase (cookie_ack tag t c))
  acked_as phase tag t c knows = ap (λ (x : AfterSending P). open_with (named_phase n phase) x) (cookie_ack_named n are pack tag t c knows)

  kept_named : (k : Cookie) (phase : Phase) (t : Tcb) (c : Context P) → Knows n pack c
      → maintain_existing (named_cookie n k) (named_phase n phase) (named_tcb n t) (plain n pack c) ≡ named_endpoint_state n pack (maintain_existing k phase t c)
  kept_named k (CookieEchoed t1 cookie) t c knows = acked_as Established k.peer_tag t (enter_connected c) knows
  kept_named k Established t c knows = acked_as Established k.peer_tag t c knows
  kept_named k ShutdownPending t c knows = acked_as ShutdownPending k.peer_tag t c knows
  kept_named k (ShutdownSent t2) t c knows = acked_as (ShutdownSent t2) k.peer_tag t c knows
  kept_named k ShutdownReceived t c knows = acked_as ShutdownReceived k.peer_tag t c knows
  kept_named k (ShutdownAckSent t2) t c knows = acked_as (ShutdownAckSent t2) k.peer_tag t c knows

  keep_from : (k : Cookie) (st : State) (c : Context P) → Knows n pack c
      → maintain_existing_in (named_cookie n k) (endpoint_state_in (named_state n st) (plain n pack c)) ≡ named_endpoint_state n pack (maintain_existing_in k (endpoint_state_in st c))
  keep_from k Closed c knows = refl
  keep_from k (CookieWait tag first t1) c knows = refl
  keep_from k (Open phase t) c knows = kept_named k phase t c knows

  too_late_named : (t : Tcb) (c : Context P) → Knows n pack c → too_late (named_tcb n t) (plain n pack c) ≡ plain n pack (too_late t c)
  too_late_named t c knows =
      let chunk : ChunkTree = error_chunk (cookie_received_while_shutting_down ∷ []) in
      let p : PacketDraft = new_packet c.options t in
      let q : PacketDraft = add shutdown_ack_chunk p in
      let out : Context P → Context P = λ d. emit_error WrongSequence (codes "Received COOKIE-ECHO while shutting down") d in
      ap (λ (x : PacketDraft). out (emit (add chunk x) (plain n pack c))) (named_add n are shutdown_ack_chunk p)
      ∙ (ap (λ (x : PacketDraft). out (emit x (plain n pack c))) (named_add n are chunk q)
      ∙ ap out (named_emit n are pack (add chunk q) c knows))

  restarts_named : (k : Cookie) (s : EndpointState P) (w v : Stream) → DrawsTie n w v → Knows n pack s.context
      → (restarts (named_cookie n k) (with_random v (named_endpoint_state n pack s))).endpoint_state ≡ named_endpoint_state n pack (restarts k (with_random w s)).endpoint_state
  restarts_named k s w v d knows = anew_drawn true k (restarted s.context) w v d knows

  restarts_in_named : (phase : Phase) (t : Tcb) (k : Cookie) (s : EndpointState P) (w v : Stream) → DrawsTie n w v → Knows n pack s.context
      → (restarts_in (named_phase n phase) (named_tcb n t) (named_cookie n k) (with_random v (named_endpoint_state n pack s))).endpoint_state
      ≡ named_endpoint_state n pack (restarts_in phase t k (with_random w s)).endpoint_state
  restarts_in_named (CookieEchoed t1 cookie) t k s w v d knows = restarts_named k s w v d knows
  restarts_in_named Established t k s w v d knows = restarts_named k s w v d knows
  restarts_in_named ShutdownPending t k s w v d knows = restarts_named k s w v d knows
  restarts_in_named (ShutdownSent t2) t k s w v d knows = restarts_named k s w v d knows
  restarts_in_named ShutdownReceived t k s w v d knows = restarts_named k s w v d knows
  restarts_in_named (ShutdownAckSent t2) t k s w v d knows = ap (λ (c : Context P). with_context (named_endpoint_state n pack s) c) (too_late_named t s.context knows)

  restart_from : (st : State) (k : Cookie) (c : Context P) (w v : Stream) → DrawsTie n w v → Knows n pack c
      → (restart (named_cookie n k) (with_random v (endpoint_state_in (named_state n st) (plain n pack c)))).endpoint_state
      ≡ named_endpoint_state n pack (restart k (with_random w (endpoint_state_in st c))).endpoint_state
  restart_from Closed k c w v d knows = refl
  restart_from (CookieWait tag first t1) k c w v d knows = refl
  restart_from (Open phase t) k c w v d knows = restarts_in_named phase t k (endpoint_state_in (Open phase t) c) w v d knows

  verdict_named : (x : CookieResolution) (k : Cookie) (s : EndpointState P) (w v : Stream) → (is_new x ≡ true → DrawsTie n w v) → Knows n pack s.context
      → (on_resolution x (named_cookie n k) (with_random v (named_endpoint_state n pack s))).endpoint_state ≡ named_endpoint_state n pack (on_resolution x k (with_random w s)).endpoint_state
  verdict_named EstablishNew k s w v d knows = anew_drawn s.context.options.avoid_stalls k s.context w v (d refl) knows
  verdict_named RestartDetected k s w v d knows = restart_from s.state k s.context w v (d refl) knows
  verdict_named SimultaneousInit k s w v d knows = anew_drawn true k s.context w v (d refl) knows
  verdict_named MaintainExisting k s w v d knows = keep_from k s.state s.context knows
  verdict_named Discard k s w v d knows = refl
  verdict_named InvalidTag k s w v d knows = refl

  -- an avoided stall makes no control block more
  still_new : (avoids_stalls : Bool) (tag : ℕ) (k : Cookie) (st : State) → is_new (resolve_cookie avoids_stalls tag k st) ≡ true → is_new (resolve_cookie false tag k st) ≡ true
  still_new avoids_stalls tag k Closed new = new
  still_new avoids_stalls tag k (CookieWait my first t1) new = unless (avoids_stalls && not (k.my_tag == my)) (tag == k.my_tag) new
    where
      unless : (late own : Bool) → is_new (new_unless late own) ≡ true → is_new (new_if own) ≡ true
      unless true own h = absurd (cc)
      unless false own h = h
  still_new avoids_stalls tag k (Open phase t) new = by_tags_new (avoids_stalls && not (is_before_cookie_ack phase)) (resolve_by_tags tag t.identity k) new
    where
      by_tags_new : (is_late : Bool) (v : CookieResolution) → is_new (as_restart is_late v) ≡ true → is_new v ≡ true
      by_tags_new false v h = h
      by_tags_new true EstablishNew h = h
      by_tags_new true RestartDetected h = h
      by_tags_new true SimultaneousInit h = refl
      by_tags_new true MaintainExisting h = h
      by_tags_new true Discard h = h
      by_tags_new true InvalidTag h = h

  spent_named : (k : Cookie) (c : Context P) → Knows n pack c → refuse_spent (named_cookie n k) (plain n pack c) ≡ plain n pack (refuse_spent k c)
  spent_named k c knows =
      let p : PacketDraft = packet_to k.peer_tag c.options.mtu in
      ap (λ (q : PacketDraft). emit q (plain n pack c)) (named_add n are spent_chunk p) ∙ named_emit n are pack (add spent_chunk p) c knows

  cookie_unless_named : (b : Bool) (tag : ℕ) (k : Cookie) (s : EndpointState P) (w v : Stream)
      → ((phase : Phase) (t : Tcb) → s.state ≡ Open phase t → TiesTell n tag t.identity k)
      → (is_new (resolve_cookie false tag k s.state) ≡ true → DrawsTie n w v) → Knows n pack s.context
      → (on_cookie_unless b (n.tag tag) (named_cookie n k) (with_random v (named_endpoint_state n pack s))).endpoint_state ≡ named_endpoint_state n pack (on_cookie_unless b tag k (with_random w s)).endpoint_state
  cookie_unless_named true tag k s w v ties draws knows = ap (λ (c : Context P). endpoint_state_in (named_state n s.state) c) (spent_named k s.context knows)
  cookie_unless_named false tag k s w v ties draws knows =
      ap (λ (x : CookieResolution). (on_resolution x (named_cookie n k) (with_random v (named_endpoint_state n pack s))).endpoint_state) (judged_named n are s.context.options.avoid_stalls tag k s.state ties)
      ∙ verdict_named (resolve_cookie s.context.options.avoid_stalls tag k s.state) k s w v (λ new. draws (still_new s.context.options.avoid_stalls tag k s.state new)) knows

  read_named : (tag : ℕ) (r : Result Cookie StateCookieError) (s : EndpointState P) (w v : Stream)
      → ((k : Cookie) → r ≡ Ok k → (phase : Phase) (t : Tcb) → s.state ≡ Open phase t → TiesTell n tag t.identity k)
      → ((k : Cookie) → r ≡ Ok k → is_new (resolve_cookie false tag k s.state) ≡ true → DrawsTie n w v) → Knows n pack s.context
      → (on_read_cookie (n.tag tag) (read_under n r) (with_random v (named_endpoint_state n pack s))).endpoint_state ≡ named_endpoint_state n pack (on_read_cookie tag r (with_random w s)).endpoint_state
  read_named tag (Ok k) s w v ties draws knows =
      ap (λ (b : Bool). (on_cookie_unless b (n.tag tag) (named_cookie n k) (with_random v (named_endpoint_state n pack s))).endpoint_state)
      (is_spent_named n are s.context.options.avoid_stalls s.context.last_tag k s.state)
      ∙ cookie_unless_named (is_spent_at k s) tag k s w v (ties k refl) (draws k refl) knows
  read_named tag (Err fault) s w v ties draws knows = refl

  pub cookie_echo_named : (tag : ℕ) (cookie : List ℕ) (s : EndpointState P) (w v : Stream) → CookieIsNamed n tag cookie s.state w v → Knows n pack s.context
      → (on_cookie_echo (n.tag tag) (n.cookie cookie) (with_random v (named_endpoint_state n pack s))).endpoint_state ≡ named_endpoint_state n pack (on_cookie_echo tag cookie (with_random w s)).endpoint_state
  cookie_echo_named tag cookie s w v is knows =
      ap (λ (r : Result Cookie StateCookieError). (on_read_cookie (n.tag tag) r (with_random v (named_endpoint_state n pack s))).endpoint_state) is.reads
      ∙ read_named tag (read_cookie cookie) s w v is.ties is.draws knows
