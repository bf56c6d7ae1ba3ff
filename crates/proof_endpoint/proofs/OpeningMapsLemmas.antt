-- The rows of the handshake.
use Rattle.std.proofs.Common.{◌≡◌, ℕ, not, Bool, true, false, Option, Some, None, Result, Ok, Err, List, [], ◌∷◌, codes, refl, ap, ◌∙◌}
use Rattle.sctp_wire.specs.Cause.{missing_mandatory_parameter, cookie_received_while_shutting_down}
use Rattle.sctp_packet.specs.Chunk.{InitTree, init_chunk, init_ack_chunk, abort_chunk, error_chunk, cookie_ack_chunk, shutdown_ack_chunk}
use Rattle.sctp_state.specs.declared.api.ErrorKind.TheVariants.{ParseFailed, ProtocolViolation, WrongSequence}
use Rattle.sctp_capabilities.specs.declared.state_cookie.StateCookieError.{StateCookieError}
use Rattle.sctp_capabilities.specs.Capabilities.{announced_parameters, negotiate, zero_checksum_enabled}
use Rattle.sctp_capabilities.specs.StateCookie.{Cookie, read_cookie, refusal_text}
use Rattle.sctp_state.specs.Events.{OnConnected, OnConnectionRestarted, OnAborted}
use Rattle.spec_endpoint.specs.Association.{Identity, Tcb, tcb, Phase, CookieEchoed, Established, ShutdownPending, ShutdownSent, ShutdownReceived, ShutdownAckSent, State, Closed, CookieWait, Open, Context, EndpointState, Endpoint, with_context}
use Rattle.spec_endpoint.specs.Heartbeats.{restart_interval}
use Rattle.spec_endpoint.specs.Packets.{PacketDraft, add, packet_to, new_packet, round_down_to_4, emit_event_in, emit_error, emit}
use Rattle.spec_endpoint.specs.Sending.{AfterSending, open_with, send_buffered, send_cookie}
use Rattle.spec_endpoint.specs.Shutdown.{cleared_if, send_shutdown_ack, emptied_if}
use Rattle.spec_endpoint.specs.Opening.{tsn_from, tag_from, word, drew_word, long_word, drew_long_word, with_endpoint_state, init_of, send_init, t1_init, waiting, connect_in, connect, agreed_by, init_ack_of, answer, answers, answers_new, next_first, answers_again, on_init_open, on_init_in, on_init, cookie_in, maker, without_cookie, queue_anew, t1_cookie, echo, identity_of_init_ack, echo_or_abort, on_init_ack_in, on_init_ack, enter_connected, establish, on_cookie_ack, CookieResolution, EstablishNew, RestartDetected, SimultaneousInit, MaintainExisting, Discard, InvalidTag, resolve_cookie, cookie_ack, queue_for, tcb_by, anew, establishes, maintain_existing, maintain_existing_in, too_late, restarts, restarts_in, restart, emit_parse_error, on_resolution, on_read_cookie, on_cookie_echo, restarted, is_spent_at, spent_chunk, on_cookie_unless, refuse_spent}
use Rattle.proof_endpoint.specs.Mapped.{Mapping, map_context, map_endpoint_state, map_end}
use Rattle.proof_endpoint.proofs.SendingMapsLemmas.{map_sent, maps_say, maps_emit_error, maps_emit, maps_send_with, maps_send_buffered, maps_send_cookie}
use Rattle.proof_endpoint.proofs.RowMapsLemmas.{endpoint_state_in, beating_as, OpenMaps, maps_in_state, maps_closed_by, maps_send_shutdown_ack, maps_emptied_in}

-- an end in a state
abbrev end_in : {P : Type 0} → State → Endpoint P → Endpoint P
end_in st s = record s { endpoint_state = endpoint_state_in st s.endpoint_state.context }

module _ {P Q : Type 0} (f : Mapping P Q) where
  -- this endpoint state, and the end's random stream
  pub maps_stands : (s : Endpoint P) (x : EndpointState P) (y : EndpointState Q) → y ≡ map_endpoint_state f x → with_endpoint_state y (map_end f s) ≡ map_end f (with_endpoint_state x s)
  maps_stands s x y h = ap (λ (z : EndpointState Q). with_endpoint_state z (map_end f s)) h

  -- the state stays
  pub maps_stands_in : (s : Endpoint P) (c : Context P) (d : Context Q) → d ≡ map_context f c
      → with_endpoint_state (with_context (map_endpoint_state f s.endpoint_state) d) (map_end f s) ≡ map_end f (with_endpoint_state (with_context s.endpoint_state c) s)
  maps_stands_in s c d h = ap (λ (e : Context Q). with_endpoint_state (with_context (map_endpoint_state f s.endpoint_state) e) (map_end f s)) h

  maps_open_with : (phase : Phase) (x : AfterSending P) (y : AfterSending Q) → y ≡ map_sent f x → open_with phase y ≡ map_endpoint_state f (open_with phase x)
  maps_open_with phase x y h = ap (λ (z : AfterSending Q). open_with phase z) h

  -- ---- INIT

  pub maps_send_init : (tag first : ℕ) (c : Context P) → send_init tag first (map_context f c) ≡ map_context f (send_init tag first c)
  maps_send_init tag first c =
      maps_emit f (add (init_chunk (init_of c.options tag first (announced_parameters c.options c.options.zero_checksum_method))) (packet_to 0 c.options.mtu)) c

  maps_waiting : (tag first : ℕ) (c : Context P) → waiting tag first (map_context f c) ≡ map_endpoint_state f (waiting tag first c)
  maps_waiting tag first c = maps_in_state f (CookieWait tag first (t1_init c)) (send_init tag first c) (send_init tag first (map_context f c)) (maps_send_init tag first c)

  maps_connect_in : (st : State) (s : Endpoint P) → connect_in st (map_end f s) ≡ map_end f (connect_in st s)
  maps_connect_in Closed s =
      let tag : ℕ = tag_from (word (drew_word s)) in
      let first : ℕ = tsn_from (word s) in
      maps_stands (drew_word (drew_word s)) (waiting tag first s.endpoint_state.context) (waiting tag first (map_context f s.endpoint_state.context))
      (maps_waiting tag first s.endpoint_state.context)
  maps_connect_in (CookieWait tag first t1) s = refl
  maps_connect_in (Open phase t) s = refl

  pub maps_connect : (s : Endpoint P) → connect (map_end f s) ≡ map_end f (connect s)
  maps_connect s = maps_connect_in s.endpoint_state.state s

  maps_answer : (i : InitTree) (tag first tie : ℕ) (c : Context P) → answer i tag first tie (map_context f c) ≡ map_context f (answer i tag first tie c)
  maps_answer i tag first tie c =
      let p : PacketDraft = record (packet_to i.initiate_tag c.options.mtu) { is_summed = not (zero_checksum_enabled (agreed_by c.options i)) } in
      maps_emit f (add (init_ack_chunk (init_ack_of c.options i tag first tie)) p) c

  maps_answers : (i : InitTree) (tag first tie : ℕ) (s : Endpoint P) → answers i tag first tie (map_end f s) ≡ map_end f (answers i tag first tie s)
  maps_answers i tag first tie s =
      maps_stands_in s (answer i tag first tie s.endpoint_state.context) (answer i tag first tie (map_context f s.endpoint_state.context))
      (maps_answer i tag first tie s.endpoint_state.context)

  maps_answers_new : (i : InitTree) (s : Endpoint P) → answers_new i (map_end f s) ≡ map_end f (answers_new i s)
  maps_answers_new i s = maps_answers i (tag_from (word (drew_word s))) (tsn_from (word s)) 0 (drew_word (drew_word s))

  maps_answers_again : (i : InitTree) (t : Tcb) (s : Endpoint P) → answers_again i t (map_end f s) ≡ map_end f (answers_again i t s)
  maps_answers_again i t s = maps_answers i (tag_from (word s)) (next_first t) t.identity.tie (drew_word s)

  maps_init_open : (phase : Phase) (i : InitTree) (t : Tcb) (s : Endpoint P) → on_init_open phase i t (map_end f s) ≡ map_end f (on_init_open phase i t s)
  maps_init_open (CookieEchoed t1 cookie) i t s = maps_answers i t.identity.my_tag t.identity.my_first 0 s
  maps_init_open Established i t s = maps_answers_again i t s
  maps_init_open ShutdownPending i t s = maps_answers_again i t s
  maps_init_open (ShutdownSent t2) i t s = maps_answers_again i t s
  maps_init_open ShutdownReceived i t s = maps_answers_again i t s
  maps_init_open (ShutdownAckSent t2) i t s =
      maps_stands_in s (send_shutdown_ack t s.endpoint_state.context) (send_shutdown_ack t (map_context f s.endpoint_state.context)) (maps_send_shutdown_ack f t s.endpoint_state.context)

  maps_init_in : (st : State) (i : InitTree) (s : Endpoint P) → on_init_in st i (map_end f s) ≡ map_end f (on_init_in st i s)
  maps_init_in Closed i s = maps_answers_new i s
  maps_init_in (CookieWait tag first t1) i s = maps_answers i tag first 0 s
  maps_init_in (Open phase t) i s = maps_init_open phase i t s

  pub maps_init : (i : InitTree) (s : Endpoint P) → on_init i (map_end f s) ≡ map_end f (on_init i s)
  maps_init i s = maps_init_in s.endpoint_state.state i s

  -- ---- INIT ACK

  maps_without_cookie : (tag : ℕ) (c : Context P) → without_cookie tag (map_context f c) ≡ map_endpoint_state f (without_cookie tag c)
  maps_without_cookie tag c =
      let p : PacketDraft = add (abort_chunk false (missing_mandatory_parameter (7 ∷ []) ∷ [])) (packet_to tag (round_down_to_4 c.options.mtu)) in
      maps_closed_by f (OnAborted ProtocolViolation (codes "InitAck chunk doesn't contain a cookie")) (emit p c) (emit p (map_context f c)) (maps_emit f p c)

  maps_echo : (i : InitTree) (cookie : List ℕ) (me : Identity) (c : Context P) → echo i cookie me (map_context f c) ≡ map_endpoint_state f (echo i cookie me c)
  maps_echo i cookie me c =
      let d : Context P = record c { peer = maker cookie; last_tag = me.my_tag; queue = queue_anew (agreed_by c.options i).message_interleaving c.queue } in
      maps_open_with (CookieEchoed (t1_cookie c) cookie) (send_cookie cookie (tcb c.options me i.a_rwnd (agreed_by c.options i)) d) _
      (maps_send_cookie f cookie (tcb c.options me i.a_rwnd (agreed_by c.options i)) d)

  maps_echoed : (i : InitTree) (o : Option (List ℕ)) (tag first : ℕ) (s : Endpoint P) → echo_or_abort i o tag first (map_end f s) ≡ map_end f (echo_or_abort i o tag first s)
  maps_echoed i None tag first s =
      maps_stands s (without_cookie i.initiate_tag s.endpoint_state.context) (without_cookie i.initiate_tag (map_context f s.endpoint_state.context))
      (maps_without_cookie i.initiate_tag s.endpoint_state.context)
  maps_echoed i (Some cookie) tag first s =
      let me : Identity = identity_of_init_ack i tag first (long_word s) in
      maps_stands (drew_long_word s) (echo i cookie me s.endpoint_state.context) (echo i cookie me (map_context f s.endpoint_state.context)) (maps_echo i cookie me s.endpoint_state.context)

  maps_init_ack_in : (st : State) (i : InitTree) (s : Endpoint P) → on_init_ack_in st i (map_end f s) ≡ map_end f (on_init_ack_in st i s)
  maps_init_ack_in Closed i s = refl
  maps_init_ack_in (CookieWait tag first t1) i s = maps_echoed i (cookie_in i.parameters) tag first s
  maps_init_ack_in (Open phase t) i s = refl

  pub maps_init_ack : (i : InitTree) (s : Endpoint P) → on_init_ack i (map_end f s) ≡ map_end f (on_init_ack i s)
  maps_init_ack i s = maps_init_ack_in s.endpoint_state.state i s

  -- ---- COOKIE ACK

  maps_connected : (c : Context P) → enter_connected (map_context f c) ≡ map_context f (enter_connected c)
  maps_connected c =
      ap (λ (d : Context Q). record (beating_as d (restart_interval c.now c.heartbeats)) { errors = cleared_if c.options.avoid_stalls c.errors }) (maps_say f OnConnected c)

  maps_established : (t : Tcb) (c : Context P) → establish t (map_context f c) ≡ map_endpoint_state f (establish t c)
  maps_established t c =
      ap (λ (d : Context Q). open_with Established (send_buffered false t d)) (maps_connected c)
      ∙ maps_open_with Established (send_buffered false t (enter_connected c)) _ (maps_send_buffered f false t (enter_connected c))

  pub maps_cookie_ack : OpenMaps f on_cookie_ack on_cookie_ack
  maps_cookie_ack (CookieEchoed t1 cookie) t c = maps_established t c
  maps_cookie_ack Established t c = refl
  maps_cookie_ack ShutdownPending t c = refl
  maps_cookie_ack (ShutdownSent t2) t c = refl
  maps_cookie_ack ShutdownReceived t c = refl
  maps_cookie_ack (ShutdownAckSent t2) t c = refl

  -- ---- COOKIE ECHO

  maps_acked : (peer_tag : ℕ) (t : Tcb) (c : Context P) → cookie_ack peer_tag t (map_context f c) ≡ map_sent f (cookie_ack peer_tag t c)
  maps_acked peer_tag t c =
      let p : PacketDraft = record (packet_to peer_tag c.options.mtu) { is_summed = not (zero_checksum_enabled t.capabilities) } in
      maps_send_with f false (add cookie_ack_chunk p) t c

  maps_acked_in : (phase : Phase) (peer_tag : ℕ) (t : Tcb) (c : Context P)
      → open_with phase (cookie_ack peer_tag t (map_context f c)) ≡ map_endpoint_state f (open_with phase (cookie_ack peer_tag t c))
  maps_acked_in phase peer_tag t c = maps_open_with phase (cookie_ack peer_tag t c) (cookie_ack peer_tag t (map_context f c)) (maps_acked peer_tag t c)

  -- behind what says that it is connected
  maps_acked_connected : (peer_tag : ℕ) (t : Tcb) (c : Context P)
      → open_with Established (cookie_ack peer_tag t (enter_connected (map_context f c))) ≡ map_endpoint_state f (open_with Established (cookie_ack peer_tag t (enter_connected c)))
  maps_acked_connected peer_tag t c =
      ap (λ (d : Context Q). open_with Established (cookie_ack peer_tag t d)) (maps_connected c) ∙ maps_acked_in Established peer_tag t (enter_connected c)

  maps_anew : (resets : Bool) (k : Cookie) (tie : ℕ) (c : Context P) → anew resets k tie (map_context f c) ≡ map_endpoint_state f (anew resets k tie c)
  maps_anew resets k tie c =
      let d : Context P = record c { queue = queue_for resets (negotiate c.options k.peer_capabilities).message_interleaving c.queue; last_tag = k.my_tag } in
      maps_acked_connected k.peer_tag (tcb_by c.options k tie) d

  maps_establishes : (resets : Bool) (k : Cookie) (c : Context P) (s : Endpoint P)
      → establishes resets k (map_context f c) (map_end f s) ≡ map_end f (establishes resets k c s)
  maps_establishes resets k c s =
      maps_stands (drew_long_word s) (anew resets k (long_word s) c) (anew resets k (long_word s) (map_context f c)) (maps_anew resets k (long_word s) c)

  maps_kept : (k : Cookie) → OpenMaps f (maintain_existing k) (maintain_existing k)
  maps_kept k (CookieEchoed t1 cookie) t c = maps_acked_connected k.peer_tag t c
  maps_kept k Established t c = maps_acked_in Established k.peer_tag t c
  maps_kept k ShutdownPending t c = maps_acked_in ShutdownPending k.peer_tag t c
  maps_kept k (ShutdownSent t2) t c = maps_acked_in (ShutdownSent t2) k.peer_tag t c
  maps_kept k ShutdownReceived t c = maps_acked_in ShutdownReceived k.peer_tag t c
  maps_kept k (ShutdownAckSent t2) t c = maps_acked_in (ShutdownAckSent t2) k.peer_tag t c

  maps_keep_from : (k : Cookie) (st : State) (c : Context P) → maintain_existing_in k (endpoint_state_in st (map_context f c)) ≡ map_endpoint_state f (maintain_existing_in k (endpoint_state_in st c))
  maps_keep_from k Closed c = refl
  maps_keep_from k (CookieWait tag first t1) c = refl
  maps_keep_from k (Open phase t) c = maps_kept k phase t c

  maps_keep : (k : Cookie) (s : EndpointState P) → maintain_existing_in k (map_endpoint_state f s) ≡ map_endpoint_state f (maintain_existing_in k s)
  maps_keep k s = maps_keep_from k s.state s.context

  maps_too_late : (t : Tcb) (c : Context P) → too_late t (map_context f c) ≡ map_context f (too_late t c)
  maps_too_late t c =
      let p : PacketDraft = add (error_chunk (cookie_received_while_shutting_down ∷ [])) (add shutdown_ack_chunk (new_packet c.options t)) in
      let text : List ℕ = codes "Received COOKIE-ECHO while shutting down" in
      ap (λ (d : Context Q). emit_error WrongSequence text d) (maps_emit f p c) ∙ maps_emit_error f WrongSequence text (emit p c)

  maps_restarts : (k : Cookie) (s : Endpoint P) → restarts k (map_end f s) ≡ map_end f (restarts k s)
  maps_restarts k s =
      let c : Context P = s.endpoint_state.context in
      let d : Context P = emptied_if c.options.avoid_stalls c in
      ap (λ (x : Context Q). establishes true k (emit_event_in OnConnectionRestarted x) (map_end f s)) (maps_emptied_in f c.options.avoid_stalls c)
      ∙ (ap (λ (x : Context Q). establishes true k x (map_end f s)) (maps_say f OnConnectionRestarted d)
      ∙ maps_establishes true k (restarted c) s)

  maps_restarts_in : (phase : Phase) (t : Tcb) (k : Cookie) (s : Endpoint P) → restarts_in phase t k (map_end f s) ≡ map_end f (restarts_in phase t k s)
  maps_restarts_in (CookieEchoed t1 cookie) t k s = maps_restarts k s
  maps_restarts_in Established t k s = maps_restarts k s
  maps_restarts_in ShutdownPending t k s = maps_restarts k s
  maps_restarts_in (ShutdownSent t2) t k s = maps_restarts k s
  maps_restarts_in ShutdownReceived t k s = maps_restarts k s
  maps_restarts_in (ShutdownAckSent t2) t k s =
      maps_stands_in s (too_late t s.endpoint_state.context) (too_late t (map_context f s.endpoint_state.context)) (maps_too_late t s.endpoint_state.context)

  maps_restart_from : (st : State) (k : Cookie) (s : Endpoint P) → restart k (map_end f (end_in st s)) ≡ map_end f (restart k (end_in st s))
  maps_restart_from Closed k s = refl
  maps_restart_from (CookieWait tag first t1) k s = refl
  maps_restart_from (Open phase t) k s = maps_restarts_in phase t k (end_in (Open phase t) s)

  maps_restart : (k : Cookie) (s : Endpoint P) → restart k (map_end f s) ≡ map_end f (restart k s)
  maps_restart k s = maps_restart_from s.endpoint_state.state k s

  pub maps_emit_parse_error : (text : List ℕ) (s : Endpoint P) → emit_parse_error text (map_end f s) ≡ map_end f (emit_parse_error text s)
  maps_emit_parse_error text s =
      maps_stands_in s (emit_error ParseFailed text s.endpoint_state.context) (emit_error ParseFailed text (map_context f s.endpoint_state.context))
      (maps_emit_error f ParseFailed text s.endpoint_state.context)

  maps_verdict : (v : CookieResolution) (k : Cookie) (s : Endpoint P) → on_resolution v k (map_end f s) ≡ map_end f (on_resolution v k s)
  maps_verdict EstablishNew k s = maps_establishes s.endpoint_state.context.options.avoid_stalls k s.endpoint_state.context s
  maps_verdict RestartDetected k s = maps_restart k s
  maps_verdict SimultaneousInit k s = maps_establishes true k s.endpoint_state.context s
  maps_verdict MaintainExisting k s = maps_stands s (maintain_existing_in k s.endpoint_state) (maintain_existing_in k (map_endpoint_state f s.endpoint_state)) (maps_keep k s.endpoint_state)
  maps_verdict Discard k s = refl
  maps_verdict InvalidTag k s = maps_emit_parse_error (codes "Received CookieEcho with invalid verification tag") s

  maps_cookie_unless : (b : Bool) (tag : ℕ) (k : Cookie) (s : Endpoint P) → on_cookie_unless b tag k (map_end f s) ≡ map_end f (on_cookie_unless b tag k s)
  maps_cookie_unless true tag k s =
      let c : Context P = s.endpoint_state.context in
      maps_stands_in s (refuse_spent k c) (refuse_spent k (map_context f c)) (maps_emit f (add spent_chunk (packet_to k.peer_tag c.options.mtu)) c)
  maps_cookie_unless false tag k s = maps_verdict (resolve_cookie s.endpoint_state.context.options.avoid_stalls tag k s.endpoint_state.state) k s

  maps_read_cookie : (tag : ℕ) (r : Result Cookie StateCookieError) (s : Endpoint P) → on_read_cookie tag r (map_end f s) ≡ map_end f (on_read_cookie tag r s)
  maps_read_cookie tag (Ok k) s = maps_cookie_unless (is_spent_at k s.endpoint_state) tag k s
  maps_read_cookie tag (Err fault) s = maps_emit_parse_error (refusal_text fault) s

  pub maps_cookie_echo : (tag : ℕ) (cookie : List ℕ) (s : Endpoint P) → on_cookie_echo tag cookie (map_end f s) ≡ map_end f (on_cookie_echo tag cookie s)
  maps_cookie_echo tag cookie s = maps_read_cookie tag (read_cookie cookie) s
