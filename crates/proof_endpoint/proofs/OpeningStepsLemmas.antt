-- What the rows of the handshake emit.
use Rattle.std.proofs.Common.{◌≡◌, ℕ, not, Bool, true, false, Option, Some, None, Result, Ok, Err, List, [], ◌∷◌, codes, refl, sym, subst, arith}
use Rattle.sctp_wire.specs.Cause.{missing_mandatory_parameter, cookie_received_while_shutting_down}
use Rattle.sctp_packet.specs.Chunk.{ChunkTree, InitTree, init_chunk, init_ack_chunk, abort_chunk, error_chunk, cookie_ack_chunk, shutdown_ack_chunk}
use Rattle.sctp_state.specs.declared.api.ErrorKind.TheVariants.{ParseFailed, ProtocolViolation, WrongSequence}
use Rattle.sctp_capabilities.specs.declared.state_cookie.StateCookieError.{StateCookieError}
use Rattle.sctp_capabilities.specs.Capabilities.{announced_parameters, negotiate, zero_checksum_enabled}
use Rattle.sctp_capabilities.specs.StateCookie.{Cookie, read_cookie, refusal_text}
use Rattle.sctp_state.specs.Events.{OnConnected, OnConnectionRestarted, OnAborted}
use Rattle.spec_endpoint.specs.Association.{Identity, Tcb, tcb, Phase, CookieEchoed, Established, ShutdownPending, ShutdownSent, ShutdownReceived, ShutdownAckSent, State, Closed, CookieWait, Open, Context, EndpointState, Endpoint}
use Rattle.spec_endpoint.specs.Packets.{PacketDraft, add, packet_to, new_packet, round_down_to_4, emit_error, emit}
use Rattle.spec_endpoint.specs.Shutdown.{send_shutdown_ack, emptied_if}
use Rattle.spec_endpoint.specs.Opening.{tsn_from, tag_from, word, drew_word, long_word, init_of, send_init, connect_in, connect, agreed_by, init_ack_of, answer, answers, answers_new, next_first, answers_again, on_init_open, on_init_in, on_init, cookie_in, maker, without_cookie, queue_anew, echo, identity_of_init_ack, echo_or_abort, on_init_ack_in, on_init_ack, enter_connected, establish, on_cookie_ack, CookieResolution, EstablishNew, RestartDetected, SimultaneousInit, MaintainExisting, Discard, InvalidTag, resolve_cookie, cookie_ack, queue_for, tcb_by, anew, establishes, maintain_existing, maintain_existing_in, too_late, restarts, restarts_in, restart, emit_parse_error, on_resolution, on_read_cookie, on_cookie_echo, restarted, is_spent_at, spent_chunk, on_cookie_unless, refuse_spent}
use Rattle.spec_endpoint.specs.Laws.{ends}
use Rattle.proof_endpoint.proofs.StepsLemmas.{most_bytes, Goes, Steps, EndSteps}
use Rattle.proof_endpoint.proofs.GoesLemmas.{IsSmall, small_empty, small_add, small_new, small_whole, rounded_down_le, goes_silent, goes_same, goes_then, goes_said, goes_emit_error, goes_emit, goes_by}
use Rattle.proof_endpoint.proofs.SendingStepsLemmas.{goes_send_with, goes_send_buffered, goes_send_cookie}
use Rattle.proof_endpoint.proofs.RowStepsLemmas.{StepsFrom, OpenSteps, steps_context, steps_same, steps_opened, goes_closed, goes_send_shutdown_ack}
use Rattle.proof_endpoint.proofs.EmptiedLemmas.{emits_emptied}

-- an end in a state
abbrev pub end_in : {P : Type 0} → State → Endpoint P → Endpoint P
end_in st s = record s { endpoint_state = record s.endpoint_state { state = st } }

module _ {P : Type 0} where
  -- ---- INIT

  pub goes_send_init : (tag first : ℕ) (c : Context P) → Goes 0 c (send_init tag first c)
  goes_send_init tag first c =
      let p : PacketDraft = packet_to 0 c.options.mtu in
      let chunk : ChunkTree = init_chunk (init_of c.options tag first (announced_parameters c.options c.options.zero_checksum_method)) in
      goes_emit (add chunk p) c (small_add (most_bytes c) p chunk (small_whole c p refl refl))

  steps_connect_in : (st : State) (s : Endpoint P) → EndSteps (end_in st s) (connect_in st (end_in st s))
  steps_connect_in Closed s = goes_send_init (tag_from (word (drew_word s))) (tsn_from (word s)) s.endpoint_state.context
  steps_connect_in (CookieWait tag first t1) s = goes_same s.endpoint_state.context
  steps_connect_in (Open phase t) s = goes_same s.endpoint_state.context

  pub steps_connect : (s : Endpoint P) → EndSteps s (connect s)
  steps_connect s = steps_connect_in s.endpoint_state.state s

  goes_answer : (i : InitTree) (tag first tie : ℕ) (c : Context P) → Goes 0 c (answer i tag first tie c)
  goes_answer i tag first tie c =
      let p : PacketDraft = record (packet_to i.initiate_tag c.options.mtu) { is_summed = not (zero_checksum_enabled (agreed_by c.options i)) } in
      let chunk : ChunkTree = init_ack_chunk (init_ack_of c.options i tag first tie) in
      goes_emit (add chunk p) c (small_add (most_bytes c) p chunk (small_whole c p refl refl))

  -- words are drawn before
  steps_answers : (i : InitTree) (tag first tie : ℕ) (s : Endpoint P) → EndSteps s (answers i tag first tie s)
  steps_answers i tag first tie s = steps_context s.endpoint_state (answer i tag first tie s.endpoint_state.context) (goes_answer i tag first tie s.endpoint_state.context)

  steps_answers_new : (i : InitTree) (s : Endpoint P) → EndSteps s (answers_new i s)
  steps_answers_new i s = steps_answers i (tag_from (word (drew_word s))) (tsn_from (word s)) 0 (drew_word (drew_word s))

  steps_answers_again : (i : InitTree) (t : Tcb) (s : Endpoint P) → EndSteps s (answers_again i t s)
  steps_answers_again i t s = steps_answers i (tag_from (word s)) (next_first t) t.identity.tie (drew_word s)

  steps_init_open : (phase : Phase) (i : InitTree) (t : Tcb) (s : Endpoint P) → EndSteps s (on_init_open phase i t s)
  steps_init_open (CookieEchoed t1 cookie) i t s = steps_answers i t.identity.my_tag t.identity.my_first 0 s
  steps_init_open Established i t s = steps_answers_again i t s
  steps_init_open ShutdownPending i t s = steps_answers_again i t s
  steps_init_open (ShutdownSent t2) i t s = steps_answers_again i t s
  steps_init_open ShutdownReceived i t s = steps_answers_again i t s
  steps_init_open (ShutdownAckSent t2) i t s = steps_context s.endpoint_state (send_shutdown_ack t s.endpoint_state.context) (goes_send_shutdown_ack t s.endpoint_state.context)

  steps_init_in : (st : State) (i : InitTree) (s : Endpoint P) → EndSteps s (on_init_in st i s)
  steps_init_in Closed i s = steps_answers_new i s
  steps_init_in (CookieWait tag first t1) i s = steps_answers i tag first 0 s
  steps_init_in (Open phase t) i s = steps_init_open phase i t s

  pub steps_init : (i : InitTree) (s : Endpoint P) → EndSteps s (on_init i s)
  steps_init i s = steps_init_in s.endpoint_state.state i s

  -- ---- INIT ACK

  goes_without_cookie : (tag : ℕ) (c : Context P) → Goes 1 c (without_cookie tag c).context
  goes_without_cookie tag c =
      let p : PacketDraft = packet_to tag (round_down_to_4 c.options.mtu) in
      let chunk : ChunkTree = abort_chunk false (missing_mandatory_parameter (7 ∷ []) ∷ []) in
      let d : Context P = emit (add chunk p) c in
      let small : IsSmall (most_bytes c) p = small_empty (most_bytes c) p (omega arith) (rounded_down_le c.options.mtu) refl in
      goes_then 1 c d (without_cookie tag c).context (goes_emit (add chunk p) c (small_add (most_bytes c) p chunk small))
      (goes_closed (OnAborted ProtocolViolation (codes "InitAck chunk doesn't contain a cookie")) d tt refl)

  goes_echo : (i : InitTree) (cookie : List ℕ) (me : Identity) (c : Context P) → Goes 0 c (echo i cookie me c).context
  goes_echo i cookie me c =
      let d : Context P = record c { peer = maker cookie; last_tag = me.my_tag; queue = queue_anew (agreed_by c.options i).message_interleaving c.queue } in
      goes_then 0 c d (echo i cookie me c).context (goes_silent c d refl refl refl)
      (goes_send_cookie d cookie (tcb c.options me i.a_rwnd (agreed_by c.options i)))

  -- while it waits
  steps_echoed : (i : InitTree) (o : Option (List ℕ)) (tag first : ℕ) (s : Endpoint P) → ends s.endpoint_state.state Closed ≡ 1 → EndSteps s (echo_or_abort i o tag first s)
  steps_echoed i None tag first s is =
      subst (λ (n : ℕ). Goes n s.endpoint_state.context (without_cookie i.initiate_tag s.endpoint_state.context).context) (sym is)
      (goes_without_cookie i.initiate_tag s.endpoint_state.context)
  steps_echoed i (Some cookie) tag first s is =
      let me : Identity = identity_of_init_ack i tag first (long_word s) in
      let t : EndpointState P = echo i cookie me s.endpoint_state.context in
      steps_opened s.endpoint_state.state s.endpoint_state.context _ _ t.context (goes_echo i cookie me s.endpoint_state.context)

  steps_init_ack_in : (st : State) (i : InitTree) (s : Endpoint P) → EndSteps (end_in st s) (on_init_ack_in st i (end_in st s))
  steps_init_ack_in Closed i s = goes_same s.endpoint_state.context
  steps_init_ack_in (CookieWait tag first t1) i s = steps_echoed i (cookie_in i.parameters) tag first (end_in (CookieWait tag first t1) s) refl
  steps_init_ack_in (Open phase t) i s = goes_same s.endpoint_state.context

  pub steps_init_ack : (i : InitTree) (s : Endpoint P) → EndSteps s (on_init_ack i s)
  steps_init_ack i s = steps_init_ack_in s.endpoint_state.state i s

  -- ---- COOKIE ACK

  goes_connected : (c : Context P) → Goes 0 c (enter_connected c)
  goes_connected c = goes_said 0 c (enter_connected c) OnConnected refl refl refl tt refl

  goes_established : (t : Tcb) (c : Context P) → Goes 0 c (establish t c).context
  goes_established t c =
      let d : Context P = enter_connected c in
      goes_then 0 c d (establish t c).context (goes_connected c) (goes_send_buffered d false t)

  pub steps_cookie_ack : OpenSteps (on_cookie_ack {P = P})
  steps_cookie_ack (CookieEchoed t1 cookie) t c = goes_established t c
  steps_cookie_ack Established t c = goes_same c
  steps_cookie_ack ShutdownPending t c = goes_same c
  steps_cookie_ack (ShutdownSent t2) t c = goes_same c
  steps_cookie_ack ShutdownReceived t c = goes_same c
  steps_cookie_ack (ShutdownAckSent t2) t c = goes_same c

  -- ---- COOKIE ECHO

  goes_cookie_ack : (peer_tag : ℕ) (t : Tcb) (c : Context P) → Goes 0 c (cookie_ack peer_tag t c).context
  goes_cookie_ack peer_tag t c =
      let p : PacketDraft = record (packet_to peer_tag c.options.mtu) { is_summed = not (zero_checksum_enabled t.capabilities) } in
      goes_send_with c false (add cookie_ack_chunk p) t (small_add (most_bytes c) p cookie_ack_chunk (small_whole c p refl refl))

  goes_anew : (resets : Bool) (k : Cookie) (tie : ℕ) (c : Context P) → Goes 0 c (anew resets k tie c).context
  goes_anew resets k tie c =
      let d : Context P = record c { queue = queue_for resets (negotiate c.options k.peer_capabilities).message_interleaving c.queue; last_tag = k.my_tag } in
      let e : Context P = enter_connected d in
      goes_then 0 c d (anew resets k tie c).context (goes_silent c d refl refl refl)
      (goes_then 0 d e (anew resets k tie c).context (goes_connected d) (goes_cookie_ack k.peer_tag (tcb_by c.options k tie) e))

  steps_establishes : (resets : Bool) (k : Cookie) (c : Context P) (s : Endpoint P) → Goes 0 s.endpoint_state.context c → EndSteps s (establishes resets k c s)
  steps_establishes resets k c s g =
      let t : EndpointState P = anew resets k (long_word s) c in
      steps_opened s.endpoint_state.state s.endpoint_state.context _ _ t.context (goes_then 0 s.endpoint_state.context c t.context g (goes_anew resets k (long_word s) c))

  steps_kept : (k : Cookie) → OpenSteps (maintain_existing {P = P} k)
  steps_kept k (CookieEchoed t1 cookie) t c =
      let d : Context P = enter_connected c in
      goes_then 0 c d (cookie_ack k.peer_tag t d).context (goes_connected c) (goes_cookie_ack k.peer_tag t d)
  steps_kept k Established t c = goes_cookie_ack k.peer_tag t c
  steps_kept k ShutdownPending t c = goes_cookie_ack k.peer_tag t c
  steps_kept k (ShutdownSent t2) t c = goes_cookie_ack k.peer_tag t c
  steps_kept k ShutdownReceived t c = goes_cookie_ack k.peer_tag t c
  steps_kept k (ShutdownAckSent t2) t c = goes_cookie_ack k.peer_tag t c

  steps_keep_from : (k : Cookie) (st : State) (c : Context P) → StepsFrom st c (maintain_existing_in k (record { state = st; context = c }))
  steps_keep_from k Closed c = goes_same c
  steps_keep_from k (CookieWait tag first t1) c = goes_same c
  steps_keep_from k (Open phase t) c = steps_kept k phase t c

  steps_keep : (k : Cookie) (s : EndpointState P) → Steps s (maintain_existing_in k s)
  steps_keep k s = steps_keep_from k s.state s.context

  goes_too_late : (t : Tcb) (c : Context P) → Goes 0 c (too_late t c)
  goes_too_late t c =
      let p : PacketDraft = new_packet c.options t in
      let q : PacketDraft = add shutdown_ack_chunk p in
      let chunk : ChunkTree = error_chunk (cookie_received_while_shutting_down ∷ []) in
      let d : Context P = emit (add chunk q) c in
      goes_then 0 c d (too_late t c) (goes_emit (add chunk q) c (small_add (most_bytes c) q chunk (small_add (most_bytes c) p shutdown_ack_chunk (small_new t c))))
      (goes_emit_error WrongSequence (codes "Received COOKIE-ECHO while shutting down") d)

  steps_restarts : (k : Cookie) (s : Endpoint P) → EndSteps s (restarts k s)
  steps_restarts k s =
      let c : Context P = s.endpoint_state.context in
      let d : Context P = emptied_if c.options.avoid_stalls c in
      steps_establishes true k (restarted c) s (goes_then 0 c d (restarted c)
      (goes_by 0 c d refl refl (emits_emptied c.pack (most_bytes c) c.options.avoid_stalls c.queue c.emitted))
      (goes_said 0 d (restarted c) OnConnectionRestarted refl refl refl tt refl))

  steps_restarts_in : (phase : Phase) (t : Tcb) (k : Cookie) (s : Endpoint P) → EndSteps s (restarts_in phase t k s)
  steps_restarts_in (CookieEchoed t1 cookie) t k s = steps_restarts k s
  steps_restarts_in Established t k s = steps_restarts k s
  steps_restarts_in ShutdownPending t k s = steps_restarts k s
  steps_restarts_in (ShutdownSent t2) t k s = steps_restarts k s
  steps_restarts_in ShutdownReceived t k s = steps_restarts k s
  steps_restarts_in (ShutdownAckSent t2) t k s = steps_context s.endpoint_state (too_late t s.endpoint_state.context) (goes_too_late t s.endpoint_state.context)

  steps_restart_in : (st : State) (k : Cookie) (s : Endpoint P) → EndSteps (end_in st s) (restart k (end_in st s))
  steps_restart_in Closed k s = goes_same s.endpoint_state.context
  steps_restart_in (CookieWait tag first t1) k s = goes_same s.endpoint_state.context
  steps_restart_in (Open phase t) k s = steps_restarts_in phase t k (end_in (Open phase t) s)

  steps_restart : (k : Cookie) (s : Endpoint P) → EndSteps s (restart k s)
  steps_restart k s = steps_restart_in s.endpoint_state.state k s

  pub steps_emit_parse_error : (text : List ℕ) (s : Endpoint P) → EndSteps s (emit_parse_error text s)
  steps_emit_parse_error text s = steps_context s.endpoint_state (emit_error ParseFailed text s.endpoint_state.context) (goes_emit_error ParseFailed text s.endpoint_state.context)

  steps_verdict : (v : CookieResolution) (k : Cookie) (s : Endpoint P) → EndSteps s (on_resolution v k s)
  steps_verdict EstablishNew k s = steps_establishes s.endpoint_state.context.options.avoid_stalls k s.endpoint_state.context s (goes_same s.endpoint_state.context)
  steps_verdict RestartDetected k s = steps_restart k s
  steps_verdict SimultaneousInit k s = steps_establishes true k s.endpoint_state.context s (goes_same s.endpoint_state.context)
  steps_verdict MaintainExisting k s = steps_keep k s.endpoint_state
  steps_verdict Discard k s = steps_same s.endpoint_state
  steps_verdict InvalidTag k s = steps_emit_parse_error (codes "Received CookieEcho with invalid verification tag") s

  steps_cookie_unless : (b : Bool) (tag : ℕ) (k : Cookie) (s : Endpoint P) → EndSteps s (on_cookie_unless b tag k s)
  steps_cookie_unless true tag k s =
      let c : Context P = s.endpoint_state.context in
      let p : PacketDraft = packet_to k.peer_tag c.options.mtu in
      steps_context s.endpoint_state (refuse_spent k c) (goes_emit (add spent_chunk p) c (small_add (most_bytes c) p spent_chunk (small_whole c p refl refl)))
  steps_cookie_unless false tag k s = steps_verdict (resolve_cookie s.endpoint_state.context.options.avoid_stalls tag k s.endpoint_state.state) k s

  steps_read_cookie : (tag : ℕ) (r : Result Cookie StateCookieError) (s : Endpoint P) → EndSteps s (on_read_cookie tag r s)
  steps_read_cookie tag (Ok k) s = steps_cookie_unless (is_spent_at k s.endpoint_state) tag k s
  steps_read_cookie tag (Err fault) s = steps_emit_parse_error (refusal_text fault) s

  pub steps_cookie_echo : (tag : ℕ) (cookie : List ℕ) (s : Endpoint P) → EndSteps s (on_cookie_echo tag cookie s)
  steps_cookie_echo tag cookie s = steps_read_cookie tag (read_cookie cookie) s
