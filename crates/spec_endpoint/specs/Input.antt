-- How an end takes a packet: whether it is for this association, then chunk by chunk, then what is due.
use Rattle.std.specs.Prelude.{ℕ, zero, suc, ◌-◌, ◌/◌, ◌%◌, ◌==◌, ◌||◌, not, Bool, true, false, Option, Some, None, List, [], ◌∷◌, ◌++◌, codes, take}
use Rattle.sctp_wire.specs.Item.{item_bytes}
use Rattle.hex.specs.Hex.{encode_lower}
use Rattle.std.specs.Int.{w32, to_be_bytes}
use Rattle.sctp_wire.specs.Parameter.{ParameterTree}
use Rattle.sctp_wire.specs.Cause.{unrecognized_chunk}
use Rattle.sctp_packet.specs.Chunk.{ChunkTree, data_chunk, init_chunk, init_ack_chunk, sack_chunk, heartbeat_request_chunk, heartbeat_ack_chunk, abort_chunk, shutdown_chunk, shutdown_ack_chunk, error_chunk, cookie_echo_chunk, cookie_ack_chunk, shutdown_complete_chunk, idata_chunk, re_config_chunk, forward_tsn_chunk, i_forward_tsn_chunk, unknown_chunk}
use Rattle.sctp_packet.specs.Packet.{PacketTree}
use Rattle.sctp_packet.specs.Written.{chunk_item}
use Rattle.sctp_packet.specs.ChunkText.{chunk_text}
use Rattle.sctp_state.specs.declared.api.ErrorKind.TheVariants.{ParseFailed}
use Rattle.sctp_state.specs.Numbers.{more}
use Rattle.sctp_state.specs.RetransmissionTimeout.{rto}
use Rattle.sctp_state.specs.Timer.{start, set_duration}
use Rattle.sctp_capabilities.specs.Capabilities.{Capabilities}
use Rattle.sctp_rx.specs.DataTracker.{packet_end, is_ack_due}
use Rattle.spec_endpoint.specs.Association.{Tcb, Phase, CookieEchoed, Established, ShutdownPending, ShutdownSent, ShutdownReceived, ShutdownAckSent, State, Closed, CookieWait, Open, Context, EndpointState, Endpoint, open_as, with_context, in_context, where_open}
use Rattle.spec_endpoint.specs.Heartbeats.{on_heartbeat_ack}
use Rattle.spec_endpoint.specs.Packets.{add, round_down_to_4, emit_error, emit_chunk}
use Rattle.spec_endpoint.specs.Sending.{take_due_ack, without_duplicates, selective_ack, is_before_cookie_ack, open_with, send_with, answer_packet}
use Rattle.spec_endpoint.specs.Shutdown.{open_phase_step, maybe_send_shutdown_or_ack, send_shutdown, on_shutdown, on_shutdown_ack, on_shutdown_complete, abort_for_violation, aborted, on_error}
use Rattle.spec_endpoint.specs.Data.{on_data, on_forward}
use Rattle.spec_endpoint.specs.Sack.{on_sack}
use Rattle.spec_endpoint.specs.StreamReset.{on_reconfig}
use Rattle.spec_endpoint.specs.Opening.{with_endpoint_state, emit_parse_error, goes_on_behind, on_init, on_init_ack, on_cookie_ack, on_cookie_echo}

-- ---- which packets are taken (RFC 9260 section 8.5)

abbrev pub my_tag : State → ℕ
my_tag Closed = 0
my_tag (CookieWait tag first t1) = tag
my_tag (Open phase t) = t.identity.my_tag

-- the own tag, or the peer's where the chunk says that it is reflected
abbrev pub has_tag_in : State → (is_reflected : Bool) → (tag : ℕ) → Bool
has_tag_in s false tag = tag == my_tag s
has_tag_in Closed true tag = false
has_tag_in (CookieWait my_tag first t1) true tag = false
has_tag_in (Open phase t) true tag = tag == t.identity.peer_tag

-- what the first ABORT says of its tag
abbrev pub abort_flag : List ChunkTree → Option Bool
abort_flag [] = None
abort_flag (abort_chunk reflected causes ∷ chunks) = Some reflected
abort_flag (chunk ∷ chunks) = abort_flag chunks

abbrev pub complete_flag : List ChunkTree → Option Bool
complete_flag [] = None
complete_flag (shutdown_complete_chunk reflected ∷ chunks) = Some reflected
complete_flag (chunk ∷ chunks) = complete_flag chunks

abbrev pub has_shutdown_ack : List ChunkTree → Bool
has_shutdown_ack [] = false
has_shutdown_ack (shutdown_ack_chunk ∷ chunks) = true
has_shutdown_ack (chunk ∷ chunks) = has_shutdown_ack chunks

abbrev pub begins_with_cookie : List ChunkTree → Bool
begins_with_cookie (cookie_echo_chunk cookie ∷ chunks) = true
begins_with_cookie chunks = false

abbrev pub is_single_init : List ChunkTree → Bool
is_single_init (init_chunk i ∷ []) = true
is_single_init chunks = false

-- before the association stands, a SHUTDOWN ACK is let through under any tag
abbrev pub is_early : State → Bool
is_early Closed = true
is_early (CookieWait tag first t1) = true
is_early (Open phase t) = is_before_cookie_ack phase

-- eight hex digits
abbrev pub eight_digits : ℕ → List ℕ
eight_digits n = encode_lower (to_be_bytes w32 n)

abbrev pub wrong_tag_text : (tag own : ℕ) → List ℕ
wrong_tag_text tag own = codes "Packet has invalid verification tag: " ++ (eight_digits tag ++ (codes ", expected " ++ eight_digits own))

abbrev pub unless : Bool → List ℕ → Option (List ℕ)
unless true text = None
unless false text = Some text

abbrev pub plain_refusal : (is_cookie is_zero is_init is_own : Bool) → (tag own : ℕ) → Option (List ℕ)
plain_refusal true is_zero is_init is_own tag own = None
plain_refusal false true is_init is_own tag own =
    unless is_init (codes "Only a single INIT chunk can be present in packets sent on verification_tag = 0")
plain_refusal false false is_init is_own tag own = unless is_own (wrong_tag_text tag own)

-- Whether there are more SACKs and COOKIE ECHOs than so many. A rule of ours: nobody puts more than one of each into a packet, since RFC 9260
-- has at most one SACK made for each packet that came (section 6.2), and a COOKIE ECHO come first (section 5.1). Each may cost as much as
-- is in flight, or have a window's worth go out.
abbrev pub has_more_counted : ℕ → List ChunkTree → Bool
has_more_counted n [] = false
has_more_counted zero (sack_chunk k ∷ chunks) = true
has_more_counted zero (cookie_echo_chunk c ∷ chunks) = true
has_more_counted (suc n) (sack_chunk k ∷ chunks) = has_more_counted n chunks
has_more_counted (suc n) (cookie_echo_chunk c ∷ chunks) = has_more_counted n chunks
has_more_counted n (chunk ∷ chunks) = has_more_counted n chunks

abbrev pub unless_many : (is_many : Bool) → Option (List ℕ) → Option (List ℕ)
unless_many true refusal = Some (codes "More than 4 SACK and COOKIE ECHO chunks present in packet")
unless_many false refusal = refusal

-- the first rule of RFC 9260 that applies
abbrev pub packet_refusal_by : (abort complete : Option Bool) → (is_shutdown_ack : Bool) → (tag : ℕ) → List ChunkTree → State → Option (List ℕ)
packet_refusal_by (Some reflected) complete is_shutdown_ack tag chunks s = unless (has_tag_in s reflected tag) (codes "ABORT chunk verification tag was wrong")
packet_refusal_by None (Some reflected) is_shutdown_ack tag chunks s = unless (has_tag_in s reflected tag) (codes "SHUTDOWN_COMPLETE chunk verification tag was wrong")
packet_refusal_by None None true tag chunks s = unless (is_early s || (tag == my_tag s)) (codes "SHUTDOWN_ACK chunk verification tag was wrong")
packet_refusal_by None None false tag chunks s =
    plain_refusal (begins_with_cookie chunks) (tag == 0) (is_single_init chunks) (tag == my_tag s) tag (my_tag s)

-- why a packet is refused
abbrev pub packet_refusal : (tag : ℕ) → List ChunkTree → State → Option (List ℕ)
packet_refusal tag chunks s =
    unless_many (has_more_counted 4 chunks) (packet_refusal_by (abort_flag chunks) (complete_flag chunks) (has_shutdown_ack chunks) tag chunks s)

-- ---- chunks that what was negotiated forbids

abbrev pub interleaving_text : List ℕ
interleaving_text = codes "DATA/FORWARD-TSN chunk received when message interleaving is negotiated"

abbrev pub no_interleaving_text : List ℕ
no_interleaving_text = codes "I-DATA/I-FORWARD-TSN chunk received when message interleaving is not negotiated"

abbrev pub no_partial_text : List ℕ
no_partial_text = codes "FORWARD-TSN/I-FORWARD-TSN chunk received when partial reliability is not negotiated"

-- a forward point
abbrev pub forward_misused : (is_of_mode : Bool) → List ℕ → (is_partial : Bool) → Option (List ℕ)
forward_misused false text is_partial = Some text
forward_misused true text is_partial = unless is_partial no_partial_text

abbrev pub misuse : Capabilities → ChunkTree → Option (List ℕ)
misuse k (data_chunk tsn immediate f) = unless (not k.message_interleaving) interleaving_text
misuse k (idata_chunk tsn immediate f) = unless k.message_interleaving no_interleaving_text
misuse k (forward_tsn_chunk tsn skipped) = forward_misused (not k.message_interleaving) interleaving_text k.partial_reliability
misuse k (i_forward_tsn_chunk tsn skipped) = forward_misused k.message_interleaving no_interleaving_text k.partial_reliability
misuse k (init_chunk i) = None
misuse k (init_ack_chunk i) = None
misuse k (sack_chunk s) = None
misuse k (heartbeat_request_chunk parameters) = None
misuse k (heartbeat_ack_chunk parameters) = None
misuse k (abort_chunk reflected causes) = None
misuse k (shutdown_chunk tsn) = None
misuse k shutdown_ack_chunk = None
misuse k (error_chunk causes) = None
misuse k (cookie_echo_chunk cookie) = None
misuse k cookie_ack_chunk = None
misuse k (shutdown_complete_chunk reflected) = None
misuse k (re_config_chunk parameters) = None
misuse k (unknown_chunk typ flags value) = None

-- ---- unknown chunks (RFC 9260 section 3.2): two bits of the type say whether to report it, and whether to go on

abbrev pub is_reported : (typ : ℕ) → Bool
is_reported typ = typ / 64 % 2 == 1

abbrev pub is_passed_over : (typ : ℕ) → Bool
is_passed_over typ = typ / 128 == 1

-- the chunk, as much of it as a packet holds
abbrev pub unrecognized_chunk_error : (mtu typ flags : ℕ) → List ℕ → ChunkTree
unrecognized_chunk_error mtu typ flags value = error_chunk (unrecognized_chunk (take (round_down_to_4 mtu - 20) (item_bytes (chunk_item (unknown_chunk typ flags value)))) ∷ [])

abbrev pub report_unrecognized_in : {P : Type 0} → State → (typ flags : ℕ) → List ℕ → Context P → Context P
report_unrecognized_in Closed typ flags value c = c
report_unrecognized_in (CookieWait tag first t1) typ flags value c = c
report_unrecognized_in (Open phase t) typ flags value c = emit_chunk (unrecognized_chunk_error c.options.mtu typ flags value) t c

abbrev pub emit_unknown_chunk_error : {P : Type 0} → (typ flags : ℕ) → List ℕ → Context P → Context P
emit_unknown_chunk_error typ flags value c = emit_error ParseFailed (codes "Received " ++ (chunk_text (unknown_chunk typ flags value) ++ codes ", ")) c

abbrev pub on_unknown_if : {P : Type 0} → (is_reported : Bool) → (typ flags : ℕ) → List ℕ → EndpointState P → EndpointState P
on_unknown_if true typ flags value s = with_context s (report_unrecognized_in s.state typ flags value (emit_unknown_chunk_error typ flags value s.context))
on_unknown_if false typ flags value s = s

abbrev pub on_unknown : {P : Type 0} → (typ flags : ℕ) → List ℕ → EndpointState P → EndpointState P
on_unknown typ flags value s = on_unknown_if (is_reported typ) typ flags value s

-- ---- HEARTBEAT is answered with its own parameters, where they fit (RFC 9260 section 8.3)

abbrev pub on_heartbeat : {P : Type 0} → List ParameterTree → Phase → Tcb → Context P → EndpointState P
on_heartbeat parameters phase t c = open_as phase t (emit_chunk (heartbeat_ack_chunk parameters) t c)

-- ---- one chunk

-- the end after a chunk, and whether the next one is looked at
pub record AfterChunk (P : Type 0) : Type 0 where
  pub end : Endpoint P
  pub allows_next : Bool

abbrev pub in_endpoint_state : {P : Type 0} → (EndpointState P → EndpointState P) → Endpoint P → Endpoint P
in_endpoint_state row s = with_endpoint_state (row s.endpoint_state) s

-- a chunk of a packet under this tag
abbrev pub on_chunk : {P : Type 0} → (tag : ℕ) → ChunkTree → Endpoint P → Endpoint P
on_chunk tag (data_chunk tsn immediate f) s = in_endpoint_state (on_data tsn immediate f) s
on_chunk tag (idata_chunk tsn immediate f) s = in_endpoint_state (on_data tsn immediate f) s
on_chunk tag (init_chunk i) s = on_init i s
on_chunk tag (init_ack_chunk i) s = on_init_ack i s
on_chunk tag (sack_chunk k) s = in_endpoint_state (on_sack k) s
on_chunk tag (abort_chunk reflected causes) s = in_endpoint_state (aborted causes) s
on_chunk tag (error_chunk causes) s = in_endpoint_state (where_open (on_error causes)) s
on_chunk tag (cookie_echo_chunk cookie) s = on_cookie_echo tag cookie s
on_chunk tag cookie_ack_chunk s = in_endpoint_state (where_open on_cookie_ack) s
on_chunk tag (forward_tsn_chunk tsn skipped) s = in_endpoint_state (on_forward tsn skipped) s
on_chunk tag (i_forward_tsn_chunk tsn skipped) s = in_endpoint_state (on_forward tsn skipped) s
on_chunk tag (unknown_chunk typ flags value) s = in_endpoint_state (on_unknown typ flags value) s
on_chunk tag (heartbeat_request_chunk parameters) s = in_endpoint_state (where_open (on_heartbeat parameters)) s
on_chunk tag (heartbeat_ack_chunk parameters) s = in_endpoint_state (in_context (on_heartbeat_ack parameters)) s
on_chunk tag (shutdown_chunk tsn) s = in_endpoint_state (where_open on_shutdown) s
on_chunk tag shutdown_ack_chunk s = in_endpoint_state (on_shutdown_ack tag) s
on_chunk tag (shutdown_complete_chunk reflected) s = in_endpoint_state (where_open on_shutdown_complete) s
on_chunk tag (re_config_chunk parameters) s = in_endpoint_state (where_open (on_reconfig parameters)) s

-- an unknown chunk without the bit for it ends the packet; with stalls avoided a COOKIE ECHO that isn't taken as well
abbrev pub allows_next : (avoids_stalls : Bool) → (last_tag tag : ℕ) → State → ChunkTree → Bool
allows_next avoids_stalls last_tag tag s (unknown_chunk typ flags value) = is_passed_over typ
allows_next avoids_stalls last_tag tag s (cookie_echo_chunk cookie) = goes_on_behind avoids_stalls last_tag tag cookie s
allows_next avoids_stalls last_tag tag s chunk = true

abbrev pub violation : State → ChunkTree → Option (List ℕ)
violation Closed chunk = None
violation (CookieWait tag first t1) chunk = None
violation (Open phase t) chunk = misuse t.capabilities chunk

abbrev pub abort_for_violation_in : {P : Type 0} → List ℕ → EndpointState P → EndpointState P
abort_for_violation_in reason s = where_open (λ phase t c. abort_for_violation reason t c) s

abbrev pub received_unless : {P : Type 0} → (violation : Option (List ℕ)) → (tag : ℕ) → ChunkTree → Endpoint P → AfterChunk P
received_unless (Some reason) tag chunk s = record { end = in_endpoint_state (abort_for_violation_in reason) s; allows_next = false }
received_unless None tag chunk s = record {
  end = on_chunk tag chunk s;
  allows_next = allows_next s.endpoint_state.context.options.avoid_stalls s.endpoint_state.context.last_tag tag s.endpoint_state.state chunk;
}

-- one that what was negotiated forbids ends the association
abbrev pub receive : {P : Type 0} → (tag : ℕ) → ChunkTree → Endpoint P → AfterChunk P
receive tag chunk s = received_unless (violation s.endpoint_state.state chunk) tag chunk s

abbrev pub receive_rest : {P : Type 0} → (Endpoint P → Endpoint P) → AfterChunk P → Endpoint P
receive_rest rest h = elim h.allows_next [ true ↦ rest h.end | false ↦ h.end ]

-- one after the other
abbrev pub receive_all : {P : Type 0} → (tag : ℕ) → List ChunkTree → Endpoint P → Endpoint P
receive_all tag [] s = s
receive_all tag (chunk ∷ chunks) s = receive_rest (receive_all tag chunks) (receive tag chunk s)

-- ---- a packet

abbrev pub has_data_chunk : List ChunkTree → Bool
has_data_chunk [] = false
has_data_chunk (data_chunk tsn immediate f ∷ chunks) = true
has_data_chunk (chunk ∷ chunks) = has_data_chunk chunks

-- DATA after the own SHUTDOWN: it goes out again, and its timer starts anew (RFC 9260 section 9.2)
abbrev pub repeats : {P : Type 0} → Phase → Tcb → Context P → EndpointState P
repeats (CookieEchoed t1 cookie) t c = open_as (CookieEchoed t1 cookie) t c
repeats Established t c = open_as Established t c
repeats ShutdownPending t c = open_as ShutdownPending t c
repeats (ShutdownSent t2) t c = open_as (ShutdownSent (start c.now (set_duration (rto t.rtt) t2))) t (send_shutdown t c)
repeats ShutdownReceived t c = open_as ShutdownReceived t c
repeats (ShutdownAckSent t2) t c = open_as (ShutdownAckSent t2) t c

abbrev pub repeats_if : {P : Type 0} → (has_data : Bool) → EndpointState P → EndpointState P
repeats_if true s = where_open repeats s
repeats_if false s = s

-- at the end of a packet an acknowledgement, where one is due, and what else may be sent
abbrev pub ack_now : {P : Type 0} → Phase → Tcb → Context P → EndpointState P
ack_now phase t c = open_with phase (send_with (is_before_cookie_ack phase) (add (selective_ack t) (answer_packet phase c.options t)) (without_duplicates t) c)

abbrev pub ack_if_due : {P : Type 0} → (is_due : Bool) → Phase → Tcb → Context P → EndpointState P
ack_if_due true phase t c = ack_now phase t c
ack_if_due false phase t c = open_as phase t c

abbrev pub at_end : (now : ℕ) → Tcb → Tcb
at_end now t = record t { tracker = record t.tracker { tracker = packet_end now t.tracker.tracker } }

abbrev pub packet_ended_at : {P : Type 0} → Phase → Tcb → Context P → EndpointState P
packet_ended_at phase t c = ack_if_due (is_ack_due false t.tracker.tracker.ack) phase (take_due_ack false t) c

abbrev pub packet_acked : {P : Type 0} → Phase → Tcb → Context P → EndpointState P
packet_acked phase t c = packet_ended_at phase (at_end c.now t) c

-- with stalls avoided a shutdown that waited goes on behind all that was sent: what waited may have expired
abbrev pub shut_waiting : {P : Type 0} → Phase → Tcb → Context P → EndpointState P
shut_waiting phase t c = open_phase_step t (maybe_send_shutdown_or_ack phase t c)

abbrev pub shut_if : {P : Type 0} → (avoids_stalls : Bool) → EndpointState P → EndpointState P
shut_if true s = where_open shut_waiting s
shut_if false s = s

abbrev pub on_packet_end : {P : Type 0} → Phase → Tcb → Context P → EndpointState P
on_packet_end phase t c = shut_if c.options.avoid_stalls (packet_acked phase t c)

abbrev pub on_accepted_packet : {P : Type 0} → (tag : ℕ) → List ChunkTree → Endpoint P → Endpoint P
on_accepted_packet tag chunks s =
    in_endpoint_state (where_open on_packet_end) (receive_all tag chunks (in_endpoint_state (repeats_if (has_data_chunk chunks)) s))

abbrev pub count_packet : {P : Type 0} → Context P → Context P
count_packet c = record c { counts = record c.counts { rx_packets = more c.counts.rx_packets } }

abbrev pub count_packet_at : {P : Type 0} → Endpoint P → Endpoint P
count_packet_at s = in_endpoint_state (λ t. with_context t (count_packet t.context)) s

abbrev pub packet_unless : {P : Type 0} → (refusal : Option (List ℕ)) → (tag : ℕ) → List ChunkTree → Endpoint P → Endpoint P
packet_unless None tag chunks s = on_accepted_packet tag chunks s
packet_unless (Some text) tag chunks s = emit_parse_error text s

-- a packet that could be read
abbrev pub on_packet : {P : Type 0} → PacketTree → Endpoint P → Endpoint P
on_packet p s =
    packet_unless (packet_refusal p.header.verification_tag p.chunks s.endpoint_state.state) p.header.verification_tag p.chunks (count_packet_at s)

-- bytes that are no packet
abbrev pub on_no_packet : {P : Type 0} → Endpoint P → Endpoint P
on_no_packet s = emit_parse_error (codes "Failed to parse SCTP packet") (count_packet_at s)
