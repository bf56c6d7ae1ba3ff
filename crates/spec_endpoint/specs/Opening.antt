-- How an association is opened (RFC 9260 section 5). These rows alone draw words.
use Rattle.std.specs.Prelude.{ℕ, ◌+◌, ◌-◌, ◌%◌, ◌^◌, ◌==◌, ◌&&◌, ◌||◌, not, nat_eq, nat_lt, min, Bool, true, false, Option, Some, None, Result, Ok, Err, List, [], ◌∷◌, ◌++◌, length, codes}
use Rattle.std.specs.List.{starts_with}
use Rattle.rand_core.specs.Stream.{next_u32, next_u64}
use Rattle.sctp_wire.specs.Parameter.{ParameterTree, state_cookie}
use Rattle.sctp_wire.specs.Cause.{missing_mandatory_parameter, user_initiated_abort, cookie_received_while_shutting_down}
use Rattle.sctp_packet.specs.Chunk.{ChunkTree, InitTree, init_chunk, init_ack_chunk, abort_chunk, error_chunk, cookie_ack_chunk, shutdown_ack_chunk}
use Rattle.sctp_state.specs.declared.api.SctpImplementation.{SctpImplementation}
use Rattle.sctp_state.specs.declared.api.SctpImplementation.TheVariants as implementations
use Rattle.sctp_state.specs.declared.api.ErrorKind.TheVariants.{ParseFailed, ProtocolViolation, WrongSequence}
use Rattle.sctp_capabilities.specs.declared.state_cookie.StateCookieError.{StateCookieError}
use Rattle.sctp_state.specs.declared.timer.BackoffAlgorithm.TheVariants.{Exponential}
use Rattle.sctp_state.specs.Options.{Options}
use Rattle.sctp_state.specs.Timer.{Timer, timer, start}
use Rattle.sctp_state.specs.Events.{OnConnected, OnConnectionRestarted, OnAborted}
use Rattle.sctp_capabilities.specs.Capabilities.{Capabilities, announced_parameters, announced_by, negotiate, zero_checksum_enabled}
use Rattle.sctp_capabilities.specs.StateCookie.{Cookie, magic, cookie_bytes, read_cookie, refusal_text}
use Rattle.sctp_tx_queue.specs.SendQueue.{Queue}
use Rattle.sctp_tx_queue.specs.Restarted.{reset}
use Rattle.sctp_tx_queue.specs.Settings.{set_mode}
use Rattle.sctp_tx_outstanding.specs.OutstandingData.{next_number}
use Rattle.sctp_tx_outstanding.specs.OutstandingData as items
use Rattle.spec_endpoint.specs.Association.{Identity, Tcb, tcb, Phase, CookieEchoed, Established, ShutdownPending, ShutdownSent, ShutdownReceived, ShutdownAckSent, State, Closed, CookieWait, Open, Context, EndpointState, Endpoint, open_as, with_context}
use Rattle.spec_endpoint.specs.Heartbeats.{restart_interval}
use Rattle.spec_endpoint.specs.Packets.{add, packet_to, new_packet, round_down_to_4, emit_event_in, emit_error, emit}
use Rattle.spec_endpoint.specs.Sending.{is_before_cookie_ack, AfterSending, open_with, send_with, send_buffered, send_cookie}
use Rattle.spec_endpoint.specs.Shutdown.{cleared_if, emptied_if, close_with, send_shutdown_ack}

-- ---- draws: a TSN but the last, a tag but 0 and the last

abbrev pub tsn_from : ℕ → ℕ
tsn_from word = word % (2 ^ 32 - 1)

abbrev pub tag_from : ℕ → ℕ
tag_from word = 1 + word % (2 ^ 32 - 2)

-- the next word, and the end that has drawn it
abbrev pub word : {P : Type 0} → Endpoint P → ℕ
word s = (next_u32 s.draws).0

abbrev pub drew_word : {P : Type 0} → Endpoint P → Endpoint P
drew_word s = record s { draws = (next_u32 s.draws).1 }

abbrev pub long_word : {P : Type 0} → Endpoint P → ℕ
long_word s = (next_u64 s.draws).0

abbrev pub drew_long_word : {P : Type 0} → Endpoint P → Endpoint P
drew_long_word s = record s { draws = (next_u64 s.draws).1 }

-- with this endpoint state
abbrev pub with_endpoint_state : {P : Type 0} → EndpointState P → Endpoint P → Endpoint P
with_endpoint_state s e = record e { endpoint_state = s }

-- ---- INIT

abbrev pub init_of : Options → (tag first : ℕ) → List ParameterTree → InitTree
init_of o tag first parameters = record {
  initiate_tag = tag;
  a_rwnd = o.max_receiver_window_buffer_size;
  nbr_outbound_streams = o.announced_maximum_outgoing_streams;
  nbr_inbound_streams = o.announced_maximum_incoming_streams;
  initial_tsn = first;
  parameters = parameters;
}

-- an INIT goes out under tag 0
abbrev pub send_init : {P : Type 0} → (tag first : ℕ) → Context P → Context P
send_init tag first c =
    emit (add (init_chunk (init_of c.options tag first (announced_parameters c.options c.options.zero_checksum_method))) (packet_to 0 c.options.mtu)) c

abbrev pub t1_init : {P : Type 0} → Context P → Timer
t1_init c = start c.now (timer c.options.t1_init_timeout Exponential c.options.max_init_retransmits None)

abbrev pub waiting : {P : Type 0} → (tag first : ℕ) → Context P → EndpointState P
waiting tag first c = record { state = CookieWait tag first (t1_init c); context = send_init tag first c }

-- `connect` on a closed end: the first TSN is drawn, then the tag
abbrev pub start_connecting : {P : Type 0} → Endpoint P → Endpoint P
start_connecting s = with_endpoint_state (waiting (tag_from (word (drew_word s))) (tsn_from (word s)) s.endpoint_state.context) (drew_word (drew_word s))

abbrev pub connect_in : {P : Type 0} → State → Endpoint P → Endpoint P
connect_in Closed s = start_connecting s
connect_in (CookieWait tag first t1) s = s
connect_in (Open phase t) s = s

abbrev pub connect : {P : Type 0} → Endpoint P → Endpoint P
connect s = connect_in s.endpoint_state.state s

-- ---- an INIT is answered: all that the end has to keep of it goes along in the cookie

abbrev pub cookie_for : InitTree → (tag first tie : ℕ) → Cookie
cookie_for i tag first tie = record {
  peer_tag = i.initiate_tag;
  my_tag = tag;
  peer_initial_tsn = i.initial_tsn;
  my_initial_tsn = first;
  a_rwnd = i.a_rwnd;
  tie_tag = tie;
  peer_capabilities = announced_by i.nbr_outbound_streams i.nbr_inbound_streams i.parameters;
}

abbrev pub agreed_by : Options → InitTree → Capabilities
agreed_by o i = negotiate o (announced_by i.nbr_outbound_streams i.nbr_inbound_streams i.parameters)

abbrev pub init_ack_of : Options → InitTree → (tag first tie : ℕ) → InitTree
init_ack_of o i tag first tie = init_of o tag first (announced_parameters o (agreed_by o i).zero_checksum_method
    ++ state_cookie (cookie_bytes (cookie_for i tag first tie)) ∷ [])

abbrev pub answer : {P : Type 0} → InitTree → (tag first tie : ℕ) → Context P → Context P
answer i tag first tie c =
    emit (add (init_ack_chunk (init_ack_of c.options i tag first tie))
    (record (packet_to i.initiate_tag c.options.mtu) { is_summed = not (zero_checksum_enabled (agreed_by c.options i)) })) c

abbrev pub answers : {P : Type 0} → InitTree → (tag first tie : ℕ) → Endpoint P → Endpoint P
answers i tag first tie s = with_endpoint_state (with_context s.endpoint_state (answer i tag first tie s.endpoint_state.context)) s

-- with a tag and a first TSN that are not kept
abbrev pub answers_new : {P : Type 0} → InitTree → Endpoint P → Endpoint P
answers_new i s = answers i (tag_from (word (drew_word s))) (tsn_from (word s)) 0 (drew_word (drew_word s))

-- the first TSN of an association that would take this one's place
abbrev pub next_first : Tcb → ℕ
next_first t = (items.wire_tsn t.sender.outstanding (next_number t.sender.outstanding.items) + 1000000) % 2 ^ 32

-- a peer that may have restarted: with a new tag
abbrev pub answers_again : {P : Type 0} → InitTree → Tcb → Endpoint P → Endpoint P
answers_again i t s = answers i (tag_from (word s)) (next_first t) t.identity.tie (drew_word s)

abbrev pub on_init_open : {P : Type 0} → Phase → InitTree → Tcb → Endpoint P → Endpoint P
on_init_open (CookieEchoed t1 cookie) i t s = answers i t.identity.my_tag t.identity.my_first 0 s
on_init_open Established i t s = answers_again i t s
on_init_open ShutdownPending i t s = answers_again i t s
on_init_open (ShutdownSent t2) i t s = answers_again i t s
on_init_open ShutdownReceived i t s = answers_again i t s
on_init_open (ShutdownAckSent t2) i t s = with_endpoint_state (with_context s.endpoint_state (send_shutdown_ack t s.endpoint_state.context)) s

abbrev pub on_init_in : {P : Type 0} → State → InitTree → Endpoint P → Endpoint P
on_init_in Closed i s = answers_new i s
on_init_in (CookieWait tag first t1) i s = answers i tag first 0 s
on_init_in (Open phase t) i s = on_init_open phase i t s

abbrev pub on_init : {P : Type 0} → InitTree → Endpoint P → Endpoint P
on_init i s = on_init_in s.endpoint_state.state i s

-- ---- INIT ACK

abbrev pub cookie_in : List ParameterTree → Option (List ℕ)
cookie_in [] = None
cookie_in (state_cookie cookie ∷ parameters) = Some cookie
cookie_in (parameter ∷ parameters) = cookie_in parameters

-- who made a cookie
abbrev pub maker_by : (is_long is_cc is_rs is_usr : Bool) → SctpImplementation
maker_by false is_cc is_rs is_usr = implementations.Unknown
maker_by true true is_rs is_usr = implementations.DcsctpCc
maker_by true false true is_usr = implementations.DcsctpRs
maker_by true false false true = implementations.UsrSctp
maker_by true false false false = implementations.Unknown

abbrev pub maker : List ℕ → SctpImplementation
maker cookie = maker_by (nat_lt 8 (length cookie)) (starts_with nat_eq cookie (codes "dcSCTP00")) (starts_with nat_eq cookie magic)
    (starts_with nat_eq cookie (codes "KAME-BSD"))

-- none came: the mandatory parameter of type 7
abbrev pub without_cookie : {P : Type 0} → (tag : ℕ) → Context P → EndpointState P
without_cookie tag c =
    close_with (OnAborted ProtocolViolation (codes "InitAck chunk doesn't contain a cookie"))
    (emit (add (abort_chunk false (missing_mandatory_parameter (7 ∷ []) ∷ [])) (packet_to tag (round_down_to_4 c.options.mtu))) c)

abbrev pub queue_anew : (is_interleaved : Bool) → Queue → Queue
queue_anew is_interleaved q = set_mode is_interleaved (reset q)

abbrev pub t1_cookie : {P : Type 0} → Context P → Timer
t1_cookie c = start c.now (timer c.options.t1_cookie_timeout Exponential c.options.max_init_retransmits None)

-- the peer is named, and its cookie echoed
abbrev pub echo : {P : Type 0} → InitTree → List ℕ → Identity → Context P → EndpointState P
echo i cookie me c =
    open_with (CookieEchoed (t1_cookie c) cookie) (send_cookie cookie (tcb c.options me i.a_rwnd (agreed_by c.options i))
    (record c { peer = maker cookie; last_tag = me.my_tag; queue = queue_anew (agreed_by c.options i).message_interleaving c.queue }))

abbrev pub identity_of_init_ack : InitTree → (tag first tie : ℕ) → Identity
identity_of_init_ack i tag first tie = record { my_tag = tag; my_first = first; peer_tag = i.initiate_tag; peer_first = i.initial_tsn; tie = tie }

abbrev pub echo_or_abort : {P : Type 0} → InitTree → Option (List ℕ) → (tag first : ℕ) → Endpoint P → Endpoint P
echo_or_abort i None tag first s = with_endpoint_state (without_cookie i.initiate_tag s.endpoint_state.context) s
echo_or_abort i (Some cookie) tag first s = with_endpoint_state (echo i cookie (identity_of_init_ack i tag first (long_word s)) s.endpoint_state.context) (drew_long_word s)

abbrev pub on_init_ack_in : {P : Type 0} → State → InitTree → Endpoint P → Endpoint P
on_init_ack_in Closed i s = s
on_init_ack_in (CookieWait tag first t1) i s = echo_or_abort i (cookie_in i.parameters) tag first s
on_init_ack_in (Open phase t) i s = s

abbrev pub on_init_ack : {P : Type 0} → InitTree → Endpoint P → Endpoint P
on_init_ack i s = on_init_ack_in s.endpoint_state.state i s

-- ---- COOKIE ACK

-- an event says so, and heartbeats begin; with stalls avoided errors count from 0, as they may be another association's
abbrev pub enter_connected : {P : Type 0} → Context P → Context P
enter_connected c = record (emit_event_in OnConnected c) { heartbeats = restart_interval c.now c.heartbeats; errors = cleared_if c.options.avoid_stalls c.errors }

abbrev pub establish : {P : Type 0} → Tcb → Context P → EndpointState P
establish t c = open_with Established (send_buffered false t (enter_connected c))

abbrev pub on_cookie_ack : {P : Type 0} → Phase → Tcb → Context P → EndpointState P
on_cookie_ack (CookieEchoed t1 cookie) t c = establish t c
on_cookie_ack Established t c = open_as Established t c
on_cookie_ack ShutdownPending t c = open_as ShutdownPending t c
on_cookie_ack (ShutdownSent t2) t c = open_as (ShutdownSent t2) t c
on_cookie_ack ShutdownReceived t c = open_as ShutdownReceived t c
on_cookie_ack (ShutdownAckSent t2) t c = open_as (ShutdownAckSent t2) t c

-- ---- COOKIE ECHO

-- what becomes of an echoed cookie (RFC 9260 section 5.2.4)
pub data CookieResolution : Type 0 where
  EstablishNew : CookieResolution
  RestartDetected : CookieResolution  -- establish anew, and say so
  SimultaneousInit : CookieResolution  -- establish anew
  MaintainExisting : CookieResolution
  Discard : CookieResolution
  InvalidTag : CookieResolution

-- By four comparisons: the packet's tag isn't the own one, the cookie's peer tag isn't the peer's, the ties are equal, the cookie has no tie.
abbrev pub by_tags : (other_tag other_peer same_tie no_tie : Bool) → CookieResolution
by_tags true true true no_tie = RestartDetected
by_tags true true false no_tie = InvalidTag
by_tags false true same_tie no_tie = SimultaneousInit
by_tags true false same_tie true = Discard
by_tags true false same_tie false = InvalidTag
by_tags false false same_tie no_tie = MaintainExisting

abbrev pub new_if : (is_own : Bool) → CookieResolution
new_if true = EstablishNew
new_if false = InvalidTag

abbrev pub resolve_by_tags : (tag : ℕ) → Identity → Cookie → CookieResolution
resolve_by_tags tag i k = by_tags (not (tag == i.my_tag)) (not (k.peer_tag == i.peer_tag)) (k.tie_tag == i.tie) (k.tie_tag == 0)

-- with stalls avoided INITs that crossed are a restart of the peer where the own COOKIE ECHO was taken before: what waits was meant for that
-- association
abbrev pub as_restart : (is_late : Bool) → CookieResolution → CookieResolution
as_restart false v = v
as_restart true EstablishNew = EstablishNew
as_restart true RestartDetected = RestartDetected
as_restart true SimultaneousInit = RestartDetected
as_restart true MaintainExisting = MaintainExisting
as_restart true Discard = Discard
as_restart true InvalidTag = InvalidTag

-- an end that connects: with stalls avoided the cookie of another connect is silently discarded, as one of an earlier association
abbrev pub new_unless : (is_late is_own : Bool) → CookieResolution
new_unless true is_own = Discard
new_unless false is_own = new_if is_own

abbrev pub resolve_cookie : (avoids_stalls : Bool) → (tag : ℕ) → Cookie → State → CookieResolution
resolve_cookie avoids_stalls tag k Closed = new_if (tag == k.my_tag)
resolve_cookie avoids_stalls tag k (CookieWait my_tag first t1) = new_unless (avoids_stalls && not (k.my_tag == my_tag)) (tag == k.my_tag)
resolve_cookie avoids_stalls tag k (Open phase t) = as_restart (avoids_stalls && not (is_before_cookie_ack phase)) (resolve_by_tags tag t.identity k)

-- with data behind it
abbrev pub cookie_ack : {P : Type 0} → (peer_tag : ℕ) → Tcb → Context P → AfterSending P
cookie_ack peer_tag t c =
    send_with false (add cookie_ack_chunk
    (record (packet_to peer_tag c.options.mtu) { is_summed = not (zero_checksum_enabled t.capabilities) })) t c

abbrev pub identity_of : Cookie → (tie : ℕ) → Identity
identity_of k tie = record {
  my_tag = k.my_tag;
  my_first = k.my_initial_tsn;
  peer_tag = k.peer_tag;
  peer_first = k.peer_initial_tsn;
  tie = tie;
}

abbrev pub queue_if : (resets : Bool) → Queue → Queue
queue_if true q = reset q
queue_if false q = q

abbrev pub other_mode : Bool → Bool → Bool
other_mode true b = not b
other_mode false b = b

-- the queue is reset where that is asked for, or where the mode is another one
abbrev pub queue_for : (resets is_interleaved : Bool) → Queue → Queue
queue_for resets is_interleaved q = set_mode is_interleaved (queue_if (resets || other_mode is_interleaved q.scheduler.is_interleaved) q)

-- the peer's window counts at most as much as may be queued
abbrev pub tcb_by : Options → Cookie → (tie : ℕ) → Tcb
tcb_by o k tie = tcb o (identity_of k tie) (min k.a_rwnd o.max_send_buffer_size) (negotiate o k.peer_capabilities)

abbrev pub anew : {P : Type 0} → (resets : Bool) → Cookie → (tie : ℕ) → Context P → EndpointState P
anew resets k tie c =
    open_with Established (cookie_ack k.peer_tag (tcb_by c.options k tie)
    (enter_connected (record c { queue = queue_for resets (negotiate c.options k.peer_capabilities).message_interleaving c.queue; last_tag = k.my_tag })))

abbrev pub establishes : {P : Type 0} → (resets : Bool) → Cookie → Context P → Endpoint P → Endpoint P
establishes resets k c s = with_endpoint_state (anew resets k (long_word s) c) (drew_long_word s)

abbrev pub maintain_existing : {P : Type 0} → Cookie → Phase → Tcb → Context P → EndpointState P
maintain_existing k (CookieEchoed t1 cookie) t c = open_with Established (cookie_ack k.peer_tag t (enter_connected c))
maintain_existing k Established t c = open_with Established (cookie_ack k.peer_tag t c)
maintain_existing k ShutdownPending t c = open_with ShutdownPending (cookie_ack k.peer_tag t c)
maintain_existing k (ShutdownSent t2) t c = open_with (ShutdownSent t2) (cookie_ack k.peer_tag t c)
maintain_existing k ShutdownReceived t c = open_with ShutdownReceived (cookie_ack k.peer_tag t c)
maintain_existing k (ShutdownAckSent t2) t c = open_with (ShutdownAckSent t2) (cookie_ack k.peer_tag t c)

abbrev pub maintain_existing_in : {P : Type 0} → Cookie → EndpointState P → EndpointState P
maintain_existing_in k s = elim s.state [ Closed ↦ s | CookieWait tag first t1 ↦ s | Open phase t ↦ maintain_existing k phase t s.context ]

-- a restart comes too late
abbrev pub too_late : {P : Type 0} → Tcb → Context P → Context P
too_late t c =
    emit_error WrongSequence (codes "Received COOKIE-ECHO while shutting down")
    (emit (add (error_chunk (cookie_received_while_shutting_down ∷ [])) (add shutdown_ack_chunk (new_packet c.options t))) c)

-- with stalls avoided, what waits was meant for the association before this one, and is given up
abbrev pub restarted : {P : Type 0} → Context P → Context P
restarted c = emit_event_in OnConnectionRestarted (emptied_if c.options.avoid_stalls c)

abbrev pub restarts : {P : Type 0} → Cookie → Endpoint P → Endpoint P
restarts k s = establishes true k (restarted s.endpoint_state.context) s

abbrev pub restarts_in : {P : Type 0} → Phase → Tcb → Cookie → Endpoint P → Endpoint P
restarts_in (CookieEchoed t1 cookie) t k s = restarts k s
restarts_in Established t k s = restarts k s
restarts_in ShutdownPending t k s = restarts k s
restarts_in (ShutdownSent t2) t k s = restarts k s
restarts_in ShutdownReceived t k s = restarts k s
restarts_in (ShutdownAckSent t2) t k s = with_endpoint_state (with_context s.endpoint_state (too_late t s.endpoint_state.context)) s

abbrev pub restart : {P : Type 0} → Cookie → Endpoint P → Endpoint P
restart k s = elim s.endpoint_state.state [ Closed ↦ s | CookieWait tag first t1 ↦ s | Open phase t ↦ restarts_in phase t k s ]

abbrev pub emit_parse_error : {P : Type 0} → List ℕ → Endpoint P → Endpoint P
emit_parse_error text s = with_endpoint_state (with_context s.endpoint_state (emit_error ParseFailed text s.endpoint_state.context)) s

abbrev pub on_resolution : {P : Type 0} → CookieResolution → Cookie → Endpoint P → Endpoint P
on_resolution EstablishNew k s = establishes s.endpoint_state.context.options.avoid_stalls k s.endpoint_state.context s
on_resolution RestartDetected k s = restart k s
on_resolution SimultaneousInit k s = establishes true k s.endpoint_state.context s
on_resolution MaintainExisting k s = with_endpoint_state (maintain_existing_in k s.endpoint_state) s
on_resolution Discard k s = s
on_resolution InvalidTag k s = emit_parse_error (codes "Received CookieEcho with invalid verification tag") s

-- With stalls avoided a closed end refuses a cookie of its last association: it opens none twice, and has it end at the peer (RFC 9260 section 8.4).
abbrev pub is_spent : (avoids_stalls : Bool) → (last_tag : ℕ) → Cookie → State → Bool
is_spent avoids_stalls last_tag k Closed = avoids_stalls && (k.my_tag == last_tag)
is_spent avoids_stalls last_tag k (CookieWait tag first t1) = false
is_spent avoids_stalls last_tag k (Open phase t) = false

abbrev pub spent_chunk : ChunkTree
spent_chunk = abort_chunk false (user_initiated_abort (codes "The association is over") ∷ [])

abbrev pub refuse_spent : {P : Type 0} → Cookie → Context P → Context P
refuse_spent k c = emit (add spent_chunk (packet_to k.peer_tag c.options.mtu)) c

abbrev pub on_cookie_unless : {P : Type 0} → (is_spent : Bool) → (tag : ℕ) → Cookie → Endpoint P → Endpoint P
on_cookie_unless true tag k s = with_endpoint_state (with_context s.endpoint_state (refuse_spent k s.endpoint_state.context)) s
on_cookie_unless false tag k s = on_resolution (resolve_cookie s.endpoint_state.context.options.avoid_stalls tag k s.endpoint_state.state) k s

abbrev pub is_spent_at : {P : Type 0} → Cookie → EndpointState P → Bool
is_spent_at k s = is_spent s.context.options.avoid_stalls s.context.last_tag k s.state

abbrev pub on_read_cookie : {P : Type 0} → (tag : ℕ) → Result Cookie StateCookieError → Endpoint P → Endpoint P
on_read_cookie tag (Ok k) s = on_cookie_unless (is_spent_at k s.endpoint_state) tag k s
on_read_cookie tag (Err fault) s = emit_parse_error (refusal_text fault) s

-- a restart comes too late once the own SHUTDOWN ACK went out (RFC 9260 section 5.2.4 A)
abbrev pub may_restart : State → Bool
may_restart Closed = true
may_restart (CookieWait tag first t1) = true
may_restart (Open (CookieEchoed t1 cookie) t) = true
may_restart (Open Established t) = true
may_restart (Open ShutdownPending t) = true
may_restart (Open (ShutdownSent t2) t) = true
may_restart (Open ShutdownReceived t) = true
may_restart (Open (ShutdownAckSent t2) t) = false

-- with stalls avoided nothing behind a cookie that isn't taken is looked at (RFC 9260 section 5.1.5)
abbrev pub is_taken : CookieResolution → State → Bool
is_taken EstablishNew s = true
is_taken RestartDetected s = may_restart s
is_taken SimultaneousInit s = true
is_taken MaintainExisting s = true
is_taken Discard s = false
is_taken InvalidTag s = false

abbrev pub is_taken_in : (last_tag tag : ℕ) → Result Cookie StateCookieError → State → Bool
is_taken_in last_tag tag (Ok k) s = not (is_spent true last_tag k s) && is_taken (resolve_cookie true tag k s) s
is_taken_in last_tag tag (Err fault) s = false

abbrev pub goes_on_behind : (avoids_stalls : Bool) → (last_tag tag : ℕ) → List ℕ → State → Bool
goes_on_behind true last_tag tag cookie s = is_taken_in last_tag tag (read_cookie cookie) s
goes_on_behind false last_tag tag cookie s = true

-- COOKIE ECHO, in a packet under this tag
abbrev pub on_cookie_echo : {P : Type 0} → (tag : ℕ) → List ℕ → Endpoint P → Endpoint P
on_cookie_echo tag cookie s = on_read_cookie tag (read_cookie cookie) s
