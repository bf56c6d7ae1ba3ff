-- What goes into packets: in the first of a burst an acknowledgement, a forward point and a request to reset streams where
-- they are due, and in each as much data as the windows let go (RFC 9260 section 6.1).
use Rattle.std.specs.Prelude.{ℕ, zero, suc, ◌-◌, ◌*◌, ◌/◌, ◌^◌, ◌&&◌, ◌||◌, not, nat_lt, nat_le, ◌==◌, min, max, Bool, true, false, Option, Some, None, is_some, List, [], ◌∷◌, length, map}
use Rattle.sctp_serial.specs.Time.{later}
use Rattle.sctp_packet.specs.Chunk.{ChunkTree, FragmentTree, fragment_chunk, sack_chunk, cookie_echo_chunk}
use Rattle.sctp_state.specs.Numbers.{ms}
use Rattle.sctp_state.specs.Options.{Options}
use Rattle.sctp_state.specs.Timer.{Timer, backed_off_with}
use Rattle.sctp_state.specs.RetransmissionTimeout.{rto, srtt}
use Rattle.sctp_tx_outstanding.specs.OutstandingData.{fast_items, begin_reset, next_number}
use Rattle.sctp_tx_outstanding.specs.OutstandingData as items
use Rattle.sctp_tx_outstanding.specs.Forward.{is_forward_due}
use Rattle.sctp_tx_outstanding.specs.Losses.{expire_outstanding}
use Rattle.sctp_rx.specs.DataTracker.{is_ack_due, take_ack}
use Rattle.sctp_rx.specs.DataTracker as tracker
use Rattle.sctp_rx.specs.ReassemblyQueue.{Reassembly, watermark, queued_bytes}
use Rattle.sctp_rx.specs.Sack.{sack, clear_duplicates}
use Rattle.sctp_tx_queue.specs.SendQueue.{Queue}
use Rattle.sctp_tx_queue.specs.Resets.{streams_to_request, request_resets}
use Rattle.sctp_tx.specs.RetransmissionQueue.{Sender}
use Rattle.sctp_tx.specs.Resent.{may_send_new, resent_fast, send_fast}
use Rattle.sctp_tx.specs.ForwardPoints.{abandon_expired, forward_chunk}
use Rattle.sctp_tx.specs.Sending as fragments
use Rattle.sctp_tx.specs.Sending.{send}
use Rattle.spec_endpoint.specs.Association.{Tcb, Phase, CookieEchoed, Established, ShutdownPending, ShutdownSent, ShutdownReceived, ShutdownAckSent, Context, EndpointState, open_as}
use Rattle.spec_endpoint.specs.ResetRequests.{Request, request_chunk, start_request}
use Rattle.spec_endpoint.specs.Heartbeats.{restart_interval_if}
use Rattle.spec_endpoint.specs.Packets.{PacketDraft, clear_chunks, room, fits, add, add_all, has_chunks, round_down_to_4, packet_to, new_packet, emit}

-- a packet being filled, and what filling it changes
pub record Filling (P : Type 0) : Type 0 where
  pub packet : PacketDraft
  pub tcb : Tcb
  pub context : Context P

-- ---- acknowledgements (RFC 9260 section 6.2)

abbrev pub queue_has_data : Queue → Bool
queue_has_data q = not (length q.scheduler.times == 0)

-- how many bytes more may come
abbrev pub window : Reassembly → ℕ
window r = watermark r - queued_bytes r

abbrev pub selective_ack : Tcb → ChunkTree
selective_ack t = sack_chunk (sack (window t.reassembly) t.tracker)

-- an acknowledgement that is due counts as sent; a delayed one is due where data may go along
abbrev pub take_due_ack : (also_if_delayed : Bool) → Tcb → Tcb
take_due_ack also_if_delayed t = record t { tracker = record t.tracker { tracker = take_ack also_if_delayed t.tracker.tracker } }

abbrev pub without_duplicates : Tcb → Tcb
without_duplicates t = record t { tracker = record t.tracker { tracker = clear_duplicates t.tracker.tracker } }

abbrev pub ack_if : {P : Type 0} → Bool → Filling P → Filling P
ack_if true x = record x { packet = add (selective_ack x.tcb) x.packet; tcb = without_duplicates x.tcb }
ack_if false x = x

abbrev pub has_data_to_send : {P : Type 0} → Filling P → Bool
has_data_to_send x = queue_has_data x.context.queue || may_send_new x.tcb.sender

abbrev pub with_ack : {P : Type 0} → Filling P → Filling P
with_ack x = ack_if (is_ack_due (has_data_to_send x) x.tcb.tracker.tracker.ack) (record x { tcb = take_due_ack (has_data_to_send x) x.tcb })

-- one is to go out at once
abbrev pub force_ack : Tcb → Tcb
force_ack t = record t { tracker = record t.tracker { tracker = tracker.force_ack t.tracker.tracker } }

-- ---- forward points (RFC 3758 section 3.5)

-- with stalls avoided this moment is waited for: it lies ahead, and backs off as t3-rtx does
abbrev pub forward_pause : (avoids_stalls : Bool) → (t3 : Timer) → (span : ℕ) → ℕ
forward_pause true t3 span = backed_off_with t3 (max (1 * ms) span) (200 * ms)
forward_pause false t3 span = span

-- not sooner again than after a round trip, of which at most 200 ms count
abbrev pub forward_later : {P : Type 0} → Tcb → Context P → Context P
forward_later t c = record c { forward_from = later c.now (forward_pause c.options.avoid_stalls t.sender.t3 (min (200 * ms) (srtt t.rtt))) }

abbrev pub forward_added_if : {P : Type 0} → (fits : Bool) → Filling P → Filling P
forward_added_if true x = record x { packet = add (forward_chunk x.tcb.sender) x.packet; context = forward_later x.tcb x.context }
forward_added_if false x = x

abbrev pub forward_if : {P : Type 0} → (is_due : Bool) → Filling P → Filling P
forward_if true x = forward_added_if (fits x.packet (forward_chunk x.tcb.sender)) x
forward_if false x = x

-- a test for a forward point first gives up what has expired
abbrev pub with_expired_abandoned : {P : Type 0} → Filling P → Filling P
with_expired_abandoned x = record x {
  tcb = record x.tcb { sender = abandon_expired x.context.now x.tcb.sender x.context.emitted };
  context = record x.context { emitted = (expire_outstanding x.context.now x.tcb.sender.outstanding.items x.context.emitted).emitted };
}

abbrev pub forward_where_due : {P : Type 0} → Filling P → Filling P
forward_where_due x = forward_if (is_forward_due x.tcb.sender.outstanding.items) x

abbrev pub forward_if_time : {P : Type 0} → (is_time : Bool) → Filling P → Filling P
forward_if_time true x = forward_where_due (with_expired_abandoned x)
forward_if_time false x = x

abbrev pub with_forward : {P : Type 0} → Filling P → Filling P
with_forward x = forward_if_time (nat_le x.context.forward_from x.context.now) x

-- ---- requests to reset streams (RFC 6525 section 5.1.2)

-- how many streams a request has room for: it takes 20 bytes and 2 a stream, in whole words of 4
abbrev pub most_streams : PacketDraft → ℕ
most_streams p = (room p / 4 * 4 - 20) / 2

-- the current request goes along
abbrev pub add_request : Option Request → PacketDraft → PacketDraft
add_request None p = p
add_request (Some r) p = add (request_chunk r) p

abbrev pub last_assigned : Sender → ℕ
last_assigned s = items.wire_tsn s.outstanding (next_number s.outstanding.items - 1)

-- a reset begins: no forward point crosses the next TSN
abbrev pub add_reset_breakpoint : Sender → Sender
add_reset_breakpoint s = record s { outstanding = record s.outstanding { items = begin_reset s.outstanding.items } }

abbrev pub request_started : (now : ℕ) → List ℕ → Tcb → Tcb
request_started now streams t = record t {
  sender = add_reset_breakpoint t.sender;
  requests = start_request now (rto t.rtt) (last_assigned (add_reset_breakpoint t.sender)) streams t.requests;
}

abbrev pub carrying : {P : Type 0} → Tcb → Filling P → Filling P
carrying t x = record x { packet = add_request t.requests.current x.packet; tcb = t }

abbrev pub request_of : {P : Type 0} → List ℕ → Filling P → Filling P
request_of [] x = x
request_of (id ∷ ids) x = carrying (request_started x.context.now (id ∷ ids) x.tcb) x

-- so many of the streams that are ready are in the request, the others stay ready for another one
abbrev pub request_at_most : {P : Type 0} → (most : ℕ) → Filling P → Filling P
request_at_most most x =
    request_of (streams_to_request most x.context.queue) (record x { context = record x.context { queue = request_resets most x.context.queue } })

-- one request at a time
abbrev pub request_unless : {P : Type 0} → (has_current : Bool) → Filling P → Filling P
request_unless true x = x
request_unless false x = request_at_most (most_streams x.packet) x

abbrev pub with_request : {P : Type 0} → Filling P → Filling P
with_request x = request_unless (is_some x.tcb.requests.current) x

-- ---- data

abbrev pub data_chunks : Tcb → (is_immediate : Bool) → List (ℕ × FragmentTree) → List ChunkTree
data_chunks t is_immediate chunks = map (fragment_chunk t.capabilities.message_interleaving is_immediate) chunks

-- with a small window the peer is asked to acknowledge at once (RFC 7053); with stalls avoided always where a burst has one packet, which the
-- next one waits for
abbrev pub small_window_if : (has_one_packet : Bool) → Options → ℕ
small_window_if true o = 2 ^ 64 - 1
small_window_if false o = o.immediate_sack_under_cwnd_mtus * o.mtu

abbrev pub small_window : Options → ℕ
small_window o = small_window_if (o.avoid_stalls && nat_lt o.max_burst 2) o

-- and with stalls avoided where the packet fills the peer's window
abbrev pub fills_window : Options → Sender → Bool
fills_window o s = o.avoid_stalls && nat_lt s.windows.rwnd (2 * o.mtu)

-- the windows are those before the packet
abbrev pub asks_at_once : Options → Sender → Bool
asks_at_once o s = nat_lt s.windows.cwnd (small_window o) || fills_window o s

-- data asks the peer as well: the next heartbeat is an interval away
abbrev pub with_fragments : {P : Type 0} → fragments.Filling P → Filling P → Filling P
with_fragments f x = record {
  packet = add_all (data_chunks x.tcb (asks_at_once x.context.options x.tcb.sender) f.chunks) x.packet;
  tcb = record x.tcb { sender = f.sender };
  context = record x.context {
    queue = f.queue;
    emitted = f.emitted;
    heartbeats = restart_interval_if (not (length f.chunks == 0)) x.context.now x.context.heartbeats;
  };
}

abbrev pub with_data : {P : Type 0} → Filling P → Filling P
with_data x = with_fragments (send x.context.now (room x.packet) x.tcb.sender x.context.queue x.context.emitted) x

abbrev pub filled_as : {P : Type 0} → (is_first : Bool) → Filling P → Filling P
filled_as true x = with_data (with_request (with_forward (with_ack x)))
filled_as false x = with_data x

-- ---- bursts

-- the packet goes out, and the next one is begun
abbrev pub emit_packet : {P : Type 0} → Filling P → Filling P
emit_packet x = record x { packet = clear_chunks x.packet; context = emit x.packet x.context }

pub record BurstStep (P : Type 0) : Type 0 where
  pub filling : Filling P
  pub is_more : Bool

abbrev pub burst_step_if : {P : Type 0} → (has_chunks is_alone : Bool) → Filling P → BurstStep P
burst_step_if true is_alone x = record { filling = emit_packet x; is_more = not is_alone }
burst_step_if false is_alone x = record { filling = x; is_more = false }

abbrev pub next_packet : {P : Type 0} → (is_first is_alone : Bool) → Filling P → BurstStep P
next_packet is_first is_alone x = let y = filled_as is_first x in burst_step_if (has_chunks y.packet) is_alone y

abbrev pub continue_burst : {P : Type 0} → (Filling P → Filling P) → BurstStep P → Filling P
continue_burst rest t = elim t.is_more [ true ↦ rest t.filling | false ↦ t.filling ]

-- the packets of a burst, the first of which may hold chunks already. Before the COOKIE ACK there is one (RFC 9260
-- section 5.1)
abbrev pub burst : {P : Type 0} → (most : ℕ) → (is_first is_alone : Bool) → Filling P → Filling P
burst zero is_first is_alone x = x
burst (suc most) is_first is_alone x = continue_burst (burst most false is_alone) (next_packet is_first is_alone x)

abbrev pub is_before_cookie_ack : Phase → Bool
is_before_cookie_ack (CookieEchoed t1 cookie) = true
is_before_cookie_ack Established = false
is_before_cookie_ack ShutdownPending = false
is_before_cookie_ack (ShutdownSent t2) = false
is_before_cookie_ack ShutdownReceived = false
is_before_cookie_ack (ShutdownAckSent t2) = false

abbrev pub burst_with : {P : Type 0} → (is_alone : Bool) → PacketDraft → Tcb → Context P → Filling P
burst_with is_alone p t c = burst c.options.max_burst true is_alone (record { packet = p; tcb = t; context = c })

-- what a sending leaves
pub record AfterSending (P : Type 0) : Type 0 where
  pub tcb : Tcb
  pub context : Context P

abbrev pub after_sending : {P : Type 0} → Tcb → Context P → AfterSending P
after_sending t c = record { tcb = t; context = c }

abbrev pub sent_by : {P : Type 0} → Filling P → AfterSending P
sent_by x = after_sending x.tcb x.context

abbrev pub open_with : {P : Type 0} → Phase → AfterSending P → EndpointState P
open_with phase x = open_as phase x.tcb x.context

-- what may be sent goes out, behind the chunks of this packet
abbrev pub send_with : {P : Type 0} → (is_alone : Bool) → PacketDraft → Tcb → Context P → AfterSending P
send_with is_alone p t c = sent_by (burst_with is_alone p t c)

abbrev pub send_buffered : {P : Type 0} → (is_alone : Bool) → Tcb → Context P → AfterSending P
send_buffered is_alone t c = send_with is_alone (new_packet c.options t) t c

abbrev pub send_unless : {P : Type 0} → (waits is_alone : Bool) → Tcb → Context P → AfterSending P
send_unless true is_alone t c = after_sending t c
send_unless false is_alone t c = send_buffered is_alone t c

-- What a call has sent in a phase. With stalls avoided no packet goes without the cookie before the COOKIE ACK (RFC 9260 section 5.1 C): what waits
-- goes with the next COOKIE ECHO, or behind the COOKIE ACK.
abbrev pub send_in : {P : Type 0} → Phase → Tcb → Context P → EndpointState P
send_in phase t c = open_with phase (send_unless (is_before_cookie_ack phase && c.options.avoid_stalls) (is_before_cookie_ack phase) t c)

-- ---- the cookie, with data where both fit

abbrev pub cookie_if : {P : Type 0} → (fits : Bool) → List ℕ → Tcb → Context P → AfterSending P
cookie_if true cookie t c = send_with true (add (cookie_echo_chunk cookie) (packet_to t.identity.peer_tag c.options.mtu)) t c
cookie_if false cookie t c = after_sending t c

abbrev pub send_cookie : {P : Type 0} → List ℕ → Tcb → Context P → AfterSending P
send_cookie cookie t c = cookie_if (fits (packet_to t.identity.peer_tag c.options.mtu) (cookie_echo_chunk cookie)) cookie t c

-- A packet in which something is answered. With stalls avoided the COOKIE ECHO goes again in front, before the COOKIE ACK: what came shows that the
-- peer has taken it, so that its COOKIE ACK is lost or late (RFC 9260 section 5.1 C).
abbrev pub cookie_packet_if : (avoids_stalls : Bool) → List ℕ → Options → Tcb → PacketDraft
cookie_packet_if true cookie o t = add (cookie_echo_chunk cookie) (packet_to t.identity.peer_tag o.mtu)
cookie_packet_if false cookie o t = new_packet o t

abbrev pub answer_packet : Phase → Options → Tcb → PacketDraft
answer_packet (CookieEchoed t1 cookie) o t = cookie_packet_if o.avoid_stalls cookie o t
answer_packet Established o t = new_packet o t
answer_packet ShutdownPending o t = new_packet o t
answer_packet (ShutdownSent t2) o t = new_packet o t
answer_packet ShutdownReceived o t = new_packet o t
answer_packet (ShutdownAckSent t2) o t = new_packet o t

-- ---- the packet that a third missing report sends at once, whatever the window says (RFC 9260 section 7.2.4)

abbrev pub fast_most : Options → ℕ
fast_most o = round_down_to_4 o.mtu - 12

abbrev pub fast_packet : Options → Tcb → PacketDraft
fast_packet o t = add_all (data_chunks t false (resent_fast (fast_most o) t.sender).chunks) (new_packet o t)

abbrev pub fast_if : {P : Type 0} → (has_fast : Bool) → Tcb → Context P → AfterSending P
fast_if true t c = after_sending (record t { sender = send_fast c.now (fast_most c.options) t.sender }) (emit (fast_packet c.options t) c)
fast_if false t c = after_sending t c

abbrev pub send_lost : {P : Type 0} → Tcb → Context P → AfterSending P
send_lost t c = fast_if (nat_lt 0 (fast_items t.sender.outstanding.items)) t c
