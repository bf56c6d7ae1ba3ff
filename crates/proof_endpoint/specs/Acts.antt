-- What rows do to an end, taken apart: each call on an end is one of these acts after another. A relation on ends that leads
-- from each state to itself, goes on from step to step and holds of each act holds of each call.
use Rattle.std.specs.Prelude.{◌≡◌, ℕ, ◌<◌, ◌≤◌, ◌^◌, max, ◌==◌, ◌&&◌, ◌⊎◌, not, nat_lt, Bool, true, false, Option, Some, None, Ok, List, [], ◌∷◌, ◌++◌, length, All}
use Rattle.std.specs.List.{list_all}
use Rattle.rand_core.specs.Stream.{Stream}
use Rattle.sctp_serial.specs.Messages.{Message}
use Rattle.sctp_serial.specs.declared.api.StreamId.{StreamId}
use Rattle.sctp_serial.specs.declared.types.tsn.Tsn.{Tsn}
use Rattle.sctp_wire.specs.Parameter.{ParameterTree, outgoing_reset_request, incoming_reset_request, reset_response}
use Rattle.sctp_chunk.specs.declared.forward_tsn.SkippedStream.{SkippedStream}
use Rattle.sctp_packet.specs.Chunk.{ChunkTree, FragmentTree, InitTree, SackTree, data_chunk, init_chunk, init_ack_chunk, sack_chunk, heartbeat_request_chunk, heartbeat_ack_chunk, abort_chunk, shutdown_chunk, shutdown_ack_chunk, error_chunk, cookie_echo_chunk, cookie_ack_chunk, shutdown_complete_chunk, idata_chunk, re_config_chunk, forward_tsn_chunk, i_forward_tsn_chunk}
use Rattle.sctp_packet.specs.Packet.{PacketTree}
use Rattle.sctp_state.specs.declared.api.ErrorKind.{ErrorKind}
use Rattle.sctp_state.specs.declared.api.errors.SendError.{SendError}
use Rattle.sctp_capabilities.specs.Capabilities.{zero_checksum_enabled, announced_parameters, negotiate}
use Rattle.sctp_capabilities.specs.StateCookie.{Cookie, read_cookie}
use Rattle.sctp_state.specs.TxErrorCounter.{ErrorCounter, one_error}
use Rattle.sctp_state.specs.Events.{Event, OnConnected, OnClosed, OnIncomingStreamReset, numbers_of}
use Rattle.sctp_state.specs.Handover.{HandoverState}
use Rattle.sctp_state.specs.Options.{SendOptions}
use Rattle.sctp_state.specs.RetransmissionTimeout.{Rtt}
use Rattle.sctp_state.specs.Timer.{Timer, is_due}
use Rattle.sctp_state.specs.Validity.{is_valid_state}
use Rattle.sctp_rx.specs.DataTracker.{is_valid, ack_timeout}
use Rattle.sctp_rx.specs.DataTracker as tracker
use Rattle.sctp_rx.specs.ReassemblyQueue.{defer, reset}
use Rattle.sctp_tx_queue.specs.Resets.{streams_to_request, request_resets}
use Rattle.sctp_tx_outstanding.specs.OutstandingData.{number_of, fast_items}
use Rattle.sctp_tx_outstanding.specs.Forward.{is_forward_due}
use Rattle.sctp_tx_outstanding.specs.Losses.{Step, nack_all, expire_outstanding}
use Rattle.sctp_tx_outstanding.specs.Sack as sack
use Rattle.sctp_tx.specs.RetransmissionQueue.{sender_if, emitted_if, timed_out_sender}
use Rattle.sctp_tx.specs.Resent.{resent_fast, send_fast}
use Rattle.sctp_tx.specs.ForwardPoints.{abandon_expired, forward_chunk}
use Rattle.sctp_tx.specs.Sending as fragments
use Rattle.sctp_tx.specs.Sending.{send}
use Rattle.spec_endpoint.specs.Association.{Tcb, tcb, Phase, CookieEchoed, Established, ShutdownPending, State, Closed, CookieWait, Open, Heartbeats, Context, Endpoint}
use Rattle.spec_endpoint.specs.Packets.{PacketDraft, clear_chunks, room, add, add_all, has_chunks, packet_to, emit_event_in, emit_error, emit_if}
use Rattle.spec_endpoint.specs.ResetRequests.{Request, Requests, request_chunk, in_progress, performed, nothing_to_do, bad_number, is_final, is_last_request, is_known_request, clear_deferral, set_last_request, outcome, handle_response}
use Rattle.spec_endpoint.specs.Sending.{selective_ack, take_due_ack, force_ack, without_duplicates, request_started, data_chunks, asks_at_once, is_before_cookie_ack, fast_most}
use Rattle.spec_endpoint.specs.Heartbeats.{restart_interval_if}
use Rattle.spec_endpoint.specs.Shutdown.{over}
use Rattle.spec_endpoint.specs.Opening.{tsn_from, tag_from, word, drew_word, long_word, drew_long_word, init_of, t1_init, init_ack_of, next_first, agreed_by, cookie_in, maker, queue_anew, t1_cookie, identity_of_init_ack, enter_connected, RestartDetected, SimultaneousInit, MaintainExisting, resolve_by_tags, as_restart, queue_for, tcb_by, restarted}
use Rattle.spec_endpoint.specs.Data.{accepts_tsn, take_fragment, handle_forward_tsn}
use Rattle.spec_endpoint.specs.Sack.{clean_blocks, timed_by}
use Rattle.spec_endpoint.specs.Calls.{shown_state, send_refusal, refuse, accept, set_low_threshold, set_priority, set_max_message_size}
use Rattle.spec_endpoint.specs.Calls as calls
use Rattle.spec_endpoint.specs.StreamReset.{is_ahead, on_outcome, prepare_reset_stream}
use Rattle.spec_endpoint.specs.Handover.{tcb_from, context_restored}
use Rattle.spec_endpoint.specs.Input.{misuse, at_end, count_packet}
use Rattle.spec_endpoint.specs.Laws.{Call, Connect, Shutdown, Send, SendMany, ResetStreams, TakeMessage, SetLowThreshold, SetPriority, SetMaxMessageSize, Advance, HandOver, Restore, ReceivePacket as Given, ReceiveNoPacket, ending, endings, is_closed}
use Rattle.proof_endpoint.specs.Sound.{FitsState}
use Rattle.proof_endpoint.specs.Fair.{IsFair, FitsReceived}

-- ---- an end at work: with the packet that it puts together

pub record EndWithPacket (P : Type 0) : Type 0 where
  pub state : State
  pub context : Context P
  pub draws : Stream
  pub packet : PacketDraft

abbrev pub at : {P : Type 0} → State → Context P → Stream → PacketDraft → EndWithPacket P
at s c w p = record { state = s; context = c; draws = w; packet = p }

-- no packet is begun
abbrev pub no_packet : PacketDraft
no_packet = packet_to 0 0

abbrev pub idle : {P : Type 0} → State → Context P → Stream → EndWithPacket P
idle s c w = at s c w no_packet

abbrev pub calm : {P : Type 0} → Endpoint P → EndWithPacket P
calm e = idle e.endpoint_state.state e.endpoint_state.context e.draws

-- the end without the packet
abbrev pub end_of : {P : Type 0} → EndWithPacket P → Endpoint P
end_of m = record { endpoint_state = record { state = m.state; context = m.context }; draws = m.draws }

-- in another state, with another context, with this packet
abbrev pub in_state : {P : Type 0} → State → EndWithPacket P → EndWithPacket P
in_state s m = record m { state = s }

abbrev pub in_open : {P : Type 0} → Phase → Tcb → EndWithPacket P → EndWithPacket P
in_open phase t m = record m { state = Open phase t }

abbrev pub with_context : {P : Type 0} → Context P → EndWithPacket P → EndWithPacket P
with_context c m = record m { context = c }

abbrev pub with_packet : {P : Type 0} → PacketDraft → EndWithPacket P → EndWithPacket P
with_packet p m = record m { packet = p }

-- a chunk is put into the packet, where it fits
abbrev pub with_chunk : {P : Type 0} → ChunkTree → EndWithPacket P → EndWithPacket P
with_chunk chunk m = record m { packet = add chunk m.packet }

-- ---- what the call brought

-- one of the list, where it stands
pub record IsAmong {A : Type 0} (x : A) (xs : List A) : Type 0 where
  pub before : List A
  pub behind : List A
  pub split : xs ≡ before ++ x ∷ behind

-- the call is a packet under this tag, and this is one of its chunks
pub record BringsChunk (call : Call) (tag : ℕ) (chunk : ChunkTree) : Type 0 where
  pub packet : PacketTree
  pub given : call ≡ Given packet
  pub under : packet.header.verification_tag ≡ tag
  pub among : IsAmong chunk packet.chunks

-- the call sends this message so
pub data IsOffered (call : Call) (m : Message) (o : SendOptions) : Type 0 where
  alone : call ≡ Send m o → IsOffered call m o
  among : (ms : List Message) → call ≡ SendMany ms o → IsAmong m ms → IsOffered call m o

-- the call resets this stream
pub record IsReset (call : Call) (stream : ℕ) : Type 0 where
  pub streams : List ℕ
  pub asked : call ≡ ResetStreams streams
  pub among : IsAmong stream streams

-- What is used of the chunks that the call brought fits its field. Of a call without one that was read nothing is said.
pub record Fitting (call : Call) : Type 0 where
  pub some : call ≡ ReceiveNoPacket → ⊥
  pub chunks : (tag : ℕ) (chunk : ChunkTree) → BringsChunk call tag chunk → (tag < 2 ^ 32) × FitsReceived chunk

-- ---- packets

-- chunks that say nothing of what an association carries, nor of how it is opened
abbrev pub is_plain : ChunkTree → Bool
is_plain (abort_chunk reflected causes) = true
is_plain (error_chunk causes) = true
is_plain (shutdown_chunk tsn) = true
is_plain shutdown_ack_chunk = true
is_plain (shutdown_complete_chunk reflected) = true
is_plain (heartbeat_request_chunk parameters) = true
is_plain (heartbeat_ack_chunk parameters) = true
is_plain chunk = false

-- chunks that go along behind others: an INIT and an INIT ACK are alone, and a COOKIE ECHO comes first (RFC 9260 sections 3.3.2, 3.3.3, 3.3.11)
abbrev pub goes_along : ChunkTree → Bool
goes_along (init_chunk i) = false
goes_along (init_ack_chunk i) = false
goes_along (cookie_echo_chunk cookie) = false
goes_along chunk = true

-- others may go along behind it
abbrev pub goes_first : ChunkTree → Bool
goes_first (init_chunk i) = false
goes_first (init_ack_chunk i) = false
goes_first chunk = true

-- more may be put behind these
abbrev pub takes_more : List ChunkTree → Bool
takes_more [] = true
takes_more (c ∷ cs) = goes_first c && list_all goes_along cs

pub data IsBundled (cs : List ChunkTree) : Type 0 where
  an_init_alone : (i : InitTree) → cs ≡ init_chunk i ∷ [] → IsBundled cs
  an_init_ack_alone : (i : InitTree) → cs ≡ init_ack_chunk i ∷ [] → IsBundled cs
  all_along : takes_more cs ≡ true → IsBundled cs

-- A packet has a checksum; or it has one as was agreed with the peer, by the association that is held or by the INIT that is answered; or it is
-- the packet before it, into which nothing was put.
pub data IsSummedSo {P : Type 0} (call : Call) (m : EndWithPacket P) (p : PacketDraft) : Type 0 where
  always : p.is_summed ≡ true → IsSummedSo call m p
  as_held : (phase : Phase) (t : Tcb) → m.state ≡ Open phase t → p.is_summed ≡ not (zero_checksum_enabled t.capabilities) → IsSummedSo call m p
  as_asked : (tag : ℕ) (i : InitTree) → BringsChunk call tag (init_chunk i) → p.is_summed ≡ not (zero_checksum_enabled (agreed_by m.context.options i))
      → IsSummedSo call m p
  as_before : p.is_summed ≡ m.packet.is_summed → IsSummedSo call m p

-- A packet is no longer than the mtu or the one before it, and its tag fits where what the call brought and what is held does.
pub record IsAddressed {P : Type 0} (call : Call) (m : EndWithPacket P) (p : PacketDraft) : Type 0 where
  pub limit : p.limit ≤ max m.context.options.mtu m.packet.limit
  pub tag : Fitting call → FitsState m.state → m.packet.tag < 2 ^ 32 → p.tag < 2 ^ 32

pub data PacketAct (P : Type 0) (call : Call) : Type 0 where
  -- another packet is begun; one that didn't go out is dropped
  begins : (p : PacketDraft) (m : EndWithPacket P) → p.chunks ≡ [] → IsSummedSo call m p → IsAddressed call m p → PacketAct P call
  adds_plain : (chunk : ChunkTree) (m : EndWithPacket P) → is_plain chunk ≡ true → list_all is_plain m.packet.chunks ≡ true → (Fitting call → IsFair chunk)
      → PacketAct P call
  emits : (m : EndWithPacket P) → has_chunks m.packet ≡ true → IsBundled m.packet.chunks → PacketAct P call
  emits_error : (kind : ErrorKind) (text : List ℕ) (m : EndWithPacket P) → PacketAct P call
  counts : (m : EndWithPacket P) → PacketAct P call

abbrev pub before_packets : {P : Type 0} {call : Call} → PacketAct P call → EndWithPacket P
before_packets (begins p m new summed to) = m
before_packets (adds_plain chunk m plain others fair) = m
before_packets (emits m some bundled) = m
before_packets (emits_error kind text m) = m
before_packets (counts m) = m

abbrev pub after_packets : {P : Type 0} {call : Call} → PacketAct P call → EndWithPacket P
after_packets (begins p m new summed to) = with_packet p m
after_packets (adds_plain chunk m plain others fair) = with_chunk chunk m
after_packets (emits m some bundled) = record m { context = emit_if true m.packet m.context; packet = clear_chunks m.packet }
after_packets (emits_error kind text m) = with_context (emit_error kind text m.context) m
after_packets (counts m) = with_context (count_packet m.context) m

-- ---- opening

-- words are drawn
abbrev pub drew_two : {P : Type 0} → EndWithPacket P → EndWithPacket P
drew_two m = record m { draws = (drew_word (drew_word (end_of m))).draws }

abbrev pub drew_one : {P : Type 0} → EndWithPacket P → EndWithPacket P
drew_one m = record m { draws = (drew_word (end_of m)).draws }

abbrev pub drew_long : {P : Type 0} → EndWithPacket P → EndWithPacket P
drew_long m = record m { draws = (drew_long_word (end_of m)).draws }

-- the first TSN is drawn, then the tag
abbrev pub drawn_first : {P : Type 0} → EndWithPacket P → ℕ
drawn_first m = tsn_from (word (end_of m))

abbrev pub drawn_tag : {P : Type 0} → EndWithPacket P → ℕ
drawn_tag m = tag_from (word (drew_word (end_of m)))

-- or the tag alone
abbrev pub drawn_tag_alone : {P : Type 0} → EndWithPacket P → ℕ
drawn_tag_alone m = tag_from (word (end_of m))

-- an INIT, an INIT ACK with these numbers
abbrev pub with_init : {P : Type 0} → (tag first : ℕ) → EndWithPacket P → EndWithPacket P
with_init tag first m =
    with_chunk (init_chunk (init_of m.context.options tag first (announced_parameters m.context.options m.context.options.zero_checksum_method))) m

abbrev pub with_init_ack : {P : Type 0} → InitTree → (tag first tie : ℕ) → EndWithPacket P → EndWithPacket P
with_init_ack i tag first tie m = with_chunk (init_ack_chunk (init_ack_of m.context.options i tag first tie)) m

-- a cookie is kept, and a control block made by the INIT ACK that brought it
abbrev pub echo_step : {P : Type 0} → InitTree → (cookie : List ℕ) → (tag first : ℕ) → EndWithPacket P → EndWithPacket P
echo_step i cookie tag first m = record (drew_long m) {
  state = Open (CookieEchoed (t1_cookie m.context) cookie)
      (tcb m.context.options (identity_of_init_ack i tag first (long_word (end_of m))) i.a_rwnd (agreed_by m.context.options i));
  context = record m.context { peer = maker cookie; last_tag = tag; queue = queue_anew (agreed_by m.context.options i).message_interleaving m.context.queue };
}

-- a control block is made by a cookie that came back
abbrev pub opened_by : {P : Type 0} → (resets : Bool) → Cookie → EndWithPacket P → EndWithPacket P
opened_by resets k m = record (drew_long m) {
  state = Open Established (tcb_by m.context.options k (long_word (end_of m)));
  context = enter_connected (record m.context {
    queue = queue_for resets (negotiate m.context.options k.peer_capabilities).message_interleaving m.context.queue;
    last_tag = k.my_tag;
  });
}

abbrev pub is_opened : State → Bool
is_opened Closed = false
is_opened (CookieWait tag first t1) = false
is_opened (Open phase t) = true

-- a COOKIE ECHO under this tag, with a cookie that can be read
pub record IsEchoed (call : Call) (tag : ℕ) (k : Cookie) : Type 0 where
  pub cookie : List ℕ
  pub received : BringsChunk call tag (cookie_echo_chunk cookie)
  pub reads : read_cookie cookie ≡ Ok k

pub data OpeningAct (P : Type 0) (call : Call) : Type 0 where
  connects : (m : EndWithPacket P) → call ≡ Connect → OpeningAct P call
  adds_init : (tag first : ℕ) (t1 : Timer) (m : EndWithPacket P) → m.packet ≡ packet_to 0 m.context.options.mtu → OpeningAct P call
  -- an INIT is answered: with a draw that isn't kept, with the own draw, or as one that may take this association's place
  answers_new : (tag : ℕ) (i : InitTree) (m : EndWithPacket P) → BringsChunk call tag (init_chunk i) → m.packet.tag ≡ i.initiate_tag → OpeningAct P call
  answers_waiting : (tag : ℕ) (i : InitTree) (my_tag first : ℕ) (t1 : Timer) (m : EndWithPacket P) → BringsChunk call tag (init_chunk i)
      → m.packet.tag ≡ i.initiate_tag → OpeningAct P call
  answers_echoed : (tag : ℕ) (i : InitTree) (t1 : Timer) (cookie : List ℕ) (t : Tcb) (m : EndWithPacket P) → BringsChunk call tag (init_chunk i)
      → m.packet.tag ≡ i.initiate_tag → OpeningAct P call
  answers_again : (tag : ℕ) (i : InitTree) (phase : Phase) (t : Tcb) (m : EndWithPacket P) → BringsChunk call tag (init_chunk i) → is_before_cookie_ack phase ≡ false
      → m.packet.tag ≡ i.initiate_tag → OpeningAct P call
  -- an INIT ACK is taken, and its cookie sent
  echoes : (tag : ℕ) (i : InitTree) (cookie : List ℕ) (my_tag first : ℕ) (t1 : Timer) (m : EndWithPacket P) → BringsChunk call tag (init_ack_chunk i)
      → cookie_in i.parameters ≡ Some cookie → OpeningAct P call
  adds_cookie : (t1 : Timer) (cookie : List ℕ) (t : Tcb) (m : EndWithPacket P) → m.packet ≡ packet_to t.identity.peer_tag m.context.options.mtu → OpeningAct P call
  -- it was taken by the peer
  establishes : (tag : ℕ) (t1 : Timer) (cookie : List ℕ) (t : Tcb) (m : EndWithPacket P) → BringsChunk call tag cookie_ack_chunk → OpeningAct P call
  -- a cookie came back: under the tag that it has, to an end without a control block; or to one with it
  opens : (tag : ℕ) (k : Cookie) (m : EndWithPacket P) → IsEchoed call tag k → is_opened m.state ≡ false → (tag == k.my_tag) ≡ true → OpeningAct P call
  restarts : (tag : ℕ) (k : Cookie) (phase : Phase) (t : Tcb) (m : EndWithPacket P) → IsEchoed call tag k → as_restart true (resolve_by_tags tag t.identity k) ≡ RestartDetected → OpeningAct P call
  opens_again : (tag : ℕ) (k : Cookie) (phase : Phase) (t : Tcb) (m : EndWithPacket P) → IsEchoed call tag k → resolve_by_tags tag t.identity k ≡ SimultaneousInit
      → OpeningAct P call
  maintains : (tag : ℕ) (k : Cookie) (t1 : Timer) (cookie : List ℕ) (t : Tcb) (m : EndWithPacket P) → IsEchoed call tag k
      → resolve_by_tags tag t.identity k ≡ MaintainExisting → OpeningAct P call
  adds_cookie_ack : (tag : ℕ) (back : Cookie) (phase : Phase) (t : Tcb) (m : EndWithPacket P) → IsEchoed call tag back → is_before_cookie_ack phase ≡ false
      → OpeningAct P call

abbrev pub before_opening : {P : Type 0} {call : Call} → OpeningAct P call → EndWithPacket P
before_opening (connects m is) = in_state Closed m
before_opening (adds_init tag first t1 m to) = in_state (CookieWait tag first t1) m
before_opening (answers_new tag i m received to) = in_state Closed m
before_opening (answers_waiting tag i my_tag first t1 m received to) = in_state (CookieWait my_tag first t1) m
before_opening (answers_echoed tag i t1 cookie t m received to) = in_open (CookieEchoed t1 cookie) t m
before_opening (answers_again tag i phase t m received late to) = in_open phase t m
before_opening (echoes tag i cookie my_tag first t1 m received brought) = in_state (CookieWait my_tag first t1) m
before_opening (adds_cookie t1 cookie t m to) = in_open (CookieEchoed t1 cookie) t m
before_opening (establishes tag t1 cookie t m received) = in_open (CookieEchoed t1 cookie) t m
before_opening (opens tag k m echoed none own) = m
before_opening (restarts tag k phase t m echoed resolution) = in_open phase t m
before_opening (opens_again tag k phase t m echoed resolution) = in_open phase t m
before_opening (maintains tag k t1 cookie t m echoed resolution) = in_open (CookieEchoed t1 cookie) t m
before_opening (adds_cookie_ack tag back phase t m echoed late) = in_open phase t m

abbrev pub after_opening : {P : Type 0} {call : Call} → OpeningAct P call → EndWithPacket P
after_opening (connects m is) = in_state (CookieWait (drawn_tag m) (drawn_first m) (t1_init m.context)) (drew_two m)
after_opening (adds_init tag first t1 m to) = with_init tag first (in_state (CookieWait tag first t1) m)
after_opening (answers_new tag i m received to) = with_init_ack i (drawn_tag m) (drawn_first m) 0 (in_state Closed (drew_two m))
after_opening (answers_waiting tag i my_tag first t1 m received to) = with_init_ack i my_tag first 0 (in_state (CookieWait my_tag first t1) m)
after_opening (answers_echoed tag i t1 cookie t m received to) = with_init_ack i t.identity.my_tag t.identity.my_first 0 (in_open (CookieEchoed t1 cookie) t m)
after_opening (answers_again tag i phase t m received late to) = with_init_ack i (drawn_tag_alone m) (next_first t) t.identity.tie (in_open phase t (drew_one m))
after_opening (echoes tag i cookie my_tag first t1 m received brought) = echo_step i cookie my_tag first m
after_opening (adds_cookie t1 cookie t m to) = with_chunk (cookie_echo_chunk cookie) (in_open (CookieEchoed t1 cookie) t m)
after_opening (establishes tag t1 cookie t m received) = in_open Established t (with_context (enter_connected m.context) m)
after_opening (opens tag k m echoed none own) = opened_by m.context.options.avoid_stalls k m
after_opening (restarts tag k phase t m echoed resolution) = opened_by true k (with_context (restarted m.context) m)
after_opening (opens_again tag k phase t m echoed resolution) = opened_by true k m
after_opening (maintains tag k t1 cookie t m echoed resolution) = in_open Established t (with_context (enter_connected m.context) m)
after_opening (adds_cookie_ack tag back phase t m echoed late) = with_chunk cookie_ack_chunk (in_open phase t m)

-- ---- closing

abbrev pub may_shut : Phase → Bool
may_shut (CookieEchoed t1 cookie) = true
may_shut Established = true
may_shut phase = false

pub data ClosingAct (P : Type 0) (call : Call) : Type 0 where
  -- an association, or the attempt at one, is over
  closes : (e : Event P) (m : EndWithPacket P) → is_closed m.state ≡ false → ending e ≡ 1 → ClosingAct P call
  shuts : (phase : Phase) (t : Tcb) (m : EndWithPacket P) → call ≡ Shutdown → may_shut phase ≡ true → ClosingAct P call
  -- a shutdown goes on, or its timer does
  shuts_on : (phase next : Phase) (t : Tcb) (m : EndWithPacket P) → is_before_cookie_ack phase ≡ false → is_before_cookie_ack next ≡ false → ClosingAct P call

abbrev pub before_closing : {P : Type 0} {call : Call} → ClosingAct P call → EndWithPacket P
before_closing (closes e m there is) = m
before_closing (shuts phase t m is early) = in_open phase t m
before_closing (shuts_on phase next t m late later) = in_open phase t m

abbrev pub after_closing : {P : Type 0} {call : Call} → ClosingAct P call → EndWithPacket P
after_closing (closes e m there is) = in_state Closed (with_context (over e m.context) m)
after_closing (shuts phase t m is early) = in_open ShutdownPending t m
after_closing (shuts_on phase next t m late later) = in_open next t m

-- ---- data and forward points

pub data DataAct (P : Type 0) (call : Call) : Type 0 where
  takes_data : (tag tsn : ℕ) (is_immediate : Bool) (f : FragmentTree) (phase : Phase) (t : Tcb) (m : EndWithPacket P)
      → BringsChunk call tag (data_chunk tsn is_immediate f) → misuse t.capabilities (data_chunk tsn is_immediate f) ≡ None → (length f.payload == 0) ≡ false
      → accepts_tsn m.context.options tsn t ≡ true → DataAct P call
  takes_idata : (tag tsn : ℕ) (is_immediate : Bool) (f : FragmentTree) (phase : Phase) (t : Tcb) (m : EndWithPacket P)
      → BringsChunk call tag (idata_chunk tsn is_immediate f) → misuse t.capabilities (idata_chunk tsn is_immediate f) ≡ None → (length f.payload == 0) ≡ false
      → accepts_tsn m.context.options tsn t ≡ true → DataAct P call
  takes_forward : (tag tsn : ℕ) (skipped : List SkippedStream) (phase : Phase) (t : Tcb) (m : EndWithPacket P) → BringsChunk call tag (forward_tsn_chunk tsn skipped)
      → misuse t.capabilities (forward_tsn_chunk tsn skipped) ≡ None → is_valid t.tracker.tracker (tracker.number_of t.tracker tsn) ≡ true → DataAct P call
  takes_iforward : (tag tsn : ℕ) (skipped : List SkippedStream) (phase : Phase) (t : Tcb) (m : EndWithPacket P) → BringsChunk call tag (i_forward_tsn_chunk tsn skipped)
      → misuse t.capabilities (i_forward_tsn_chunk tsn skipped) ≡ None → is_valid t.tracker.tracker (tracker.number_of t.tracker tsn) ≡ true → DataAct P call

abbrev pub before_data : {P : Type 0} {call : Call} → DataAct P call → EndWithPacket P
before_data (takes_data tag tsn is_immediate f phase t m received right some takes) = in_open phase t m
before_data (takes_idata tag tsn is_immediate f phase t m received right some takes) = in_open phase t m
before_data (takes_forward tag tsn skipped phase t m received right valid) = in_open phase t m
before_data (takes_iforward tag tsn skipped phase t m received right valid) = in_open phase t m

abbrev pub after_data : {P : Type 0} {call : Call} → DataAct P call → EndWithPacket P
after_data (takes_data tag tsn is_immediate f phase t m received right some takes) = in_open phase (take_fragment tsn is_immediate f t) m
after_data (takes_idata tag tsn is_immediate f phase t m received right some takes) = in_open phase (take_fragment tsn is_immediate f t) m
after_data (takes_forward tag tsn skipped phase t m received right valid) = in_open phase (handle_forward_tsn tsn skipped t) m
after_data (takes_iforward tag tsn skipped phase t m received right valid) = in_open phase (handle_forward_tsn tsn skipped t) m

-- ---- acknowledging

-- the number that a SACK names, of those that this end counts
abbrev pub point_of : SackTree → Tcb → ℕ
point_of k t = number_of t.sender.outstanding k.cumulative_tsn_ack

pub data SackAct (P : Type 0) (call : Call) : Type 0 where
  takes_sack : (tag : ℕ) (k : SackTree) (phase : Phase) (t : Tcb) (m : EndWithPacket P) → BringsChunk call tag (sack_chunk k)
      → sack.is_valid (point_of k t) (clean_blocks k.gap_ack_blocks) t.sender.outstanding.items ≡ true → SackAct P call
  samples : (r : Rtt) (phase : Phase) (t : Tcb) (m : EndWithPacket P) → SackAct P call
  counts_errors : (e : ErrorCounter) (m : EndWithPacket P) → SackAct P call

abbrev pub before_sack : {P : Type 0} {call : Call} → SackAct P call → EndWithPacket P
before_sack (takes_sack tag k phase t m received valid) = in_open phase t m
before_sack (samples r phase t m) = in_open phase t m
before_sack (counts_errors e m) = m

abbrev pub after_sack : {P : Type 0} {call : Call} → SackAct P call → EndWithPacket P
after_sack (takes_sack tag k phase t m received valid) =
    in_open phase
    (record t { sender = sender_if true m.context.now (point_of k t) k.a_rwnd (clean_blocks k.gap_ack_blocks) t.sender m.context.emitted })
    (with_context (record m.context { emitted = emitted_if true (point_of k t) (clean_blocks k.gap_ack_blocks) t.sender m.context.emitted }) m)
after_sack (samples r phase t m) = in_open phase (timed_by r t) m
after_sack (counts_errors e m) = with_context (record m.context { errors = e }) m

-- ---- sending

pub data SendingAct (P : Type 0) (call : Call) : Type 0 where
  -- the tracker is asked whether an acknowledgement is due, or one is made due; and one is made
  asks : (also_if_delayed : Bool) (phase : Phase) (t : Tcb) (m : EndWithPacket P) → SendingAct P call
  forces_ack : (phase : Phase) (t : Tcb) (m : EndWithPacket P) → SendingAct P call
  adds_ack : (phase : Phase) (t : Tcb) (m : EndWithPacket P) → SendingAct P call
  -- what has expired is given up, and a forward point made
  expires : (phase : Phase) (t : Tcb) (m : EndWithPacket P) → SendingAct P call
  adds_forward : (phase : Phase) (t : Tcb) (m : EndWithPacket P) → is_forward_due t.sender.outstanding.items ≡ true → SendingAct P call
  forwards_later : (n : ℕ) (m : EndWithPacket P) → SendingAct P call
  -- streams that are ready are put into a request, or none is
  asks_no_reset : (most : ℕ) (m : EndWithPacket P) → streams_to_request most m.context.queue ≡ [] → SendingAct P call
  asks_reset : (most stream : ℕ) (streams : List ℕ) (phase : Phase) (t : Tcb) (m : EndWithPacket P) → streams_to_request most m.context.queue ≡ stream ∷ streams
      → t.requests.current ≡ None → SendingAct P call
  adds_request : (r : Request) (phase : Phase) (t : Tcb) (m : EndWithPacket P) → t.requests.current ≡ Some r → SendingAct P call
  -- fragments go out, new ones and again; or those whose loss was reported
  sends : (phase : Phase) (t : Tcb) (m : EndWithPacket P) → SendingAct P call
  sends_fast : (phase : Phase) (t : Tcb) (m : EndWithPacket P) → nat_lt 0 (fast_items t.sender.outstanding.items) ≡ true → SendingAct P call

abbrev pub before_sending : {P : Type 0} {call : Call} → SendingAct P call → EndWithPacket P
before_sending (asks also_if_delayed phase t m) = in_open phase t m
before_sending (forces_ack phase t m) = in_open phase t m
before_sending (adds_ack phase t m) = in_open phase t m
before_sending (expires phase t m) = in_open phase t m
before_sending (adds_forward phase t m due) = in_open phase t m
before_sending (forwards_later n m) = m
before_sending (asks_no_reset most m none) = m
before_sending (asks_reset most stream streams phase t m some free) = in_open phase t m
before_sending (adds_request r phase t m is) = in_open phase t m
before_sending (sends phase t m) = in_open phase t m
before_sending (sends_fast phase t m some) = in_open phase t m

-- what goes out of the queue and the items
abbrev pub fragments_of : {P : Type 0} → Tcb → EndWithPacket P → fragments.Filling P
fragments_of t m = send m.context.now (room m.packet) t.sender m.context.queue m.context.emitted

abbrev pub with_fragments : {P : Type 0} → fragments.Filling P → Phase → Tcb → EndWithPacket P → EndWithPacket P
with_fragments f phase t m = record m {
  state = Open phase (record t { sender = f.sender });
  context = record m.context {
    queue = f.queue;
    emitted = f.emitted;
    heartbeats = restart_interval_if (not (length f.chunks == 0)) m.context.now m.context.heartbeats;
  };
  packet = add_all (data_chunks t (asks_at_once m.context.options t.sender) f.chunks) m.packet;
}

abbrev pub after_sending : {P : Type 0} {call : Call} → SendingAct P call → EndWithPacket P
after_sending (asks also_if_delayed phase t m) = in_open phase (take_due_ack also_if_delayed t) m
after_sending (forces_ack phase t m) = in_open phase (force_ack t) m
after_sending (adds_ack phase t m) = with_chunk (selective_ack t) (in_open phase (without_duplicates t) m)
after_sending (expires phase t m) =
    in_open phase (record t { sender = abandon_expired m.context.now t.sender m.context.emitted })
    (with_context (record m.context { emitted = (expire_outstanding m.context.now t.sender.outstanding.items m.context.emitted).emitted }) m)
after_sending (adds_forward phase t m due) = with_chunk (forward_chunk t.sender) (in_open phase t m)
after_sending (forwards_later n m) = with_context (record m.context { forward_from = n }) m
after_sending (asks_no_reset most m none) = with_context (record m.context { queue = request_resets most m.context.queue }) m
after_sending (asks_reset most stream streams phase t m some free) =
    in_open phase (request_started m.context.now (stream ∷ streams) t)
    (with_context (record m.context { queue = request_resets most m.context.queue }) m)
after_sending (adds_request r phase t m is) = with_chunk (request_chunk r) (in_open phase t m)
after_sending (sends phase t m) = with_fragments (fragments_of t m) phase t m
after_sending (sends_fast phase t m some) =
    in_open phase (record t { sender = send_fast m.context.now (fast_most m.context.options) t.sender })
    (with_packet (add_all (data_chunks t false (resent_fast (fast_most m.context.options) t.sender).chunks) m.packet) m)

-- ---- time

pub data TimeAct (P : Type 0) (call : Call) : Type 0 where
  advances : (now : ℕ) (m : EndWithPacket P) → call ≡ Advance now → nat_lt now m.context.now ≡ false → TimeAct P call
  delay_ends : (phase : Phase) (t : Tcb) (m : EndWithPacket P) → TimeAct P call
  -- T3-rtx
  times_out : (phase : Phase) (t : Tcb) (m : EndWithPacket P) → is_due m.context.now t.sender.t3 ≡ true → TimeAct P call
  beats : (h : Heartbeats) (m : EndWithPacket P) → TimeAct P call
  times_init : (tag first : ℕ) (old new : Timer) (m : EndWithPacket P) → TimeAct P call
  times_cookie : (old new : Timer) (cookie : List ℕ) (t : Tcb) (m : EndWithPacket P) → TimeAct P call
  times_items : (timer : Timer) (phase : Phase) (t : Tcb) (m : EndWithPacket P) → TimeAct P call
  times_request : (timer : Timer) (phase : Phase) (t : Tcb) (m : EndWithPacket P) → TimeAct P call
  wakes_request : (phase : Phase) (t : Tcb) (m : EndWithPacket P) → TimeAct P call

abbrev pub before_time : {P : Type 0} {call : Call} → TimeAct P call → EndWithPacket P
before_time (advances now m is on) = m
before_time (delay_ends phase t m) = in_open phase t m
before_time (times_out phase t m due) = in_open phase t m
before_time (beats h m) = m
before_time (times_init tag first old new m) = in_state (CookieWait tag first old) m
before_time (times_cookie old new cookie t m) = in_open (CookieEchoed old cookie) t m
before_time (times_items timer phase t m) = in_open phase t m
before_time (times_request timer phase t m) = in_open phase t m
before_time (wakes_request phase t m) = in_open phase t m

-- what a timeout leaves of the items, and emits
abbrev pub timeout_of : {P : Type 0} → Tcb → EndWithPacket P → Step P
timeout_of t m = nack_all t.sender.outstanding.items m.context.emitted

abbrev pub after_time : {P : Type 0} {call : Call} → TimeAct P call → EndWithPacket P
after_time (advances now m is on) = with_context (record m.context { now = now }) m
after_time (delay_ends phase t m) = in_open phase (record t { tracker = record t.tracker { tracker = ack_timeout m.context.now t.tracker.tracker } }) m
after_time (times_out phase t m due) =
    in_open phase (record t { sender = timed_out_sender m.context.now (timeout_of t m).items t.sender })
    (with_context (record m.context { emitted = (timeout_of t m).emitted; errors = one_error m.context.errors }) m)
after_time (beats h m) = with_context (record m.context { heartbeats = h }) m
after_time (times_init tag first old new m) = in_state (CookieWait tag first new) m
after_time (times_cookie old new cookie t m) = in_open (CookieEchoed new cookie) t m
after_time (times_items timer phase t m) = in_open phase (record t { sender = record t.sender { t3 = timer } }) m
after_time (times_request timer phase t m) = in_open phase (record t { requests = record t.requests { timer = timer } }) m
after_time (wakes_request phase t m) = in_open phase (record t { requests = clear_deferral t.requests }) m

-- ---- calls

pub data CallAct (P : Type 0) (call : Call) : Type 0 where
  accepts : (message : Message) (o : SendOptions) (m : EndWithPacket P) → IsOffered call message o → send_refusal message (shown_state m.state) m.context ≡ None
      → CallAct P call
  refuses : (message : Message) (o : SendOptions) (e : SendError) (m : EndWithPacket P) → IsOffered call message o
      → send_refusal message (shown_state m.state) m.context ≡ Some e → CallAct P call
  takes_message : (phase : Phase) (t : Tcb) (m : EndWithPacket P) → call ≡ TakeMessage → CallAct P call
  sets_low_threshold : (stream bytes : ℕ) (m : EndWithPacket P) → call ≡ SetLowThreshold stream bytes → CallAct P call
  sets_priority : (stream priority : ℕ) (m : EndWithPacket P) → call ≡ SetPriority stream priority → CallAct P call
  sets_max_message_size : (bytes : ℕ) (m : EndWithPacket P) → call ≡ SetMaxMessageSize bytes → CallAct P call

abbrev pub before_call : {P : Type 0} {call : Call} → CallAct P call → EndWithPacket P
before_call (accepts message o m offered fine) = m
before_call (refuses message o e m offered refused) = m
before_call (takes_message phase t m is) = in_open phase t m
before_call (sets_low_threshold stream bytes m is) = m
before_call (sets_priority stream priority m is) = m
before_call (sets_max_message_size bytes m is) = m

abbrev pub after_call : {P : Type 0} {call : Call} → CallAct P call → EndWithPacket P
after_call (accepts message o m offered fine) = with_context (accept message o m.context) m
after_call (refuses message o e m offered is) = with_context (refuse e o.lifecycle_id m.context) m
after_call (takes_message phase t m is) = in_open phase (calls.without_first_message t) m
after_call (sets_low_threshold stream bytes m is) = with_context (set_low_threshold stream bytes m.context) m
after_call (sets_priority stream priority m is) = with_context (set_priority stream priority m.context) m
after_call (sets_max_message_size bytes m is) = with_context (set_max_message_size bytes m.context) m

-- ---- resets of streams

abbrev pub is_response : ParameterTree → Bool
is_response (reset_response number result sender receiver) = true
is_response parameter = false

-- the call is a RE-CONFIG with this parameter
pub record IsAsked (call : Call) (parameter : ParameterTree) : Type 0 where
  pub tag : ℕ
  pub parameters : List ParameterTree
  pub received : BringsChunk call tag (re_config_chunk parameters)
  pub among : IsAmong parameter parameters

-- the call has a request with this number
pub data HasRequest (call : Call) (number : ℕ) : Type 0 where
  for_outgoing : (response : ℕ) (last_tsn : Tsn) (streams : List StreamId) → IsAsked call (outgoing_reset_request number response last_tsn streams)
      → HasRequest call number
  for_incoming : (streams : List StreamId) → IsAsked call (incoming_reset_request number streams) → HasRequest call number

-- no stream is to be reset by the end itself
abbrev pub AsksNoIncoming : Call → Type 0
AsksNoIncoming call = (number : ℕ) (streams : List StreamId) → IsAsked call (incoming_reset_request number streams) → ⊥

-- the request is the next one, or the last one again, which isn't done
pub record IsDue (number : ℕ) (r : Requests) : Type 0 where
  pub known : is_known_request number r ≡ true
  pub undone : is_last_request number r ≡ true → is_final r.result ≡ false

-- as the end stands: the last request has its result, and one that isn't known a bad number
abbrev pub IsAnswer : (number result : ℕ) → Requests → Type 0
IsAnswer number result r = ((is_last_request number r ≡ true) × (result ≡ r.result)) ⊎ ((is_known_request number r ≡ false) × (result ≡ bad_number))

-- it answers one of the call's requests
abbrev pub Answers : Call → Requests → ParameterTree → Type 0
Answers call r (reset_response number result sender receiver) = HasRequest call number × (AsksNoIncoming call → IsAnswer number result r)
Answers call r parameter = ⊥

pub data ResetAct (P : Type 0) (call : Call) : Type 0 where
  prepares : (stream : ℕ) (phase : Phase) (t : Tcb) (m : EndWithPacket P) → IsReset call stream → t.capabilities.reconfig ≡ true → ResetAct P call
  -- a request of the peer for its outgoing streams waits, or is performed
  defers : (number response : ℕ) (last_tsn : Tsn) (streams : List StreamId) (phase : Phase) (t : Tcb) (m : EndWithPacket P)
      → IsAsked call (outgoing_reset_request number response last_tsn streams) → IsDue number t.requests
      → is_ahead last_tsn.0 t ≡ true → ResetAct P call
  performs : (number response : ℕ) (last_tsn : Tsn) (streams : List StreamId) (phase : Phase) (t : Tcb) (m : EndWithPacket P)
      → IsAsked call (outgoing_reset_request number response last_tsn streams) → IsDue number t.requests
      → is_ahead last_tsn.0 t ≡ false → ResetAct P call
  -- one for its incoming streams
  processes : (number : ℕ) (streams : List StreamId) (phase : Phase) (t : Tcb) (m : EndWithPacket P) → IsAsked call (incoming_reset_request number streams)
      → is_known_request number t.requests ≡ true → ResetAct P call
  -- an answer to the own request
  takes_response : (rto number result : ℕ) (sender receiver : Option Tsn) (phase : Phase) (t : Tcb) (m : EndWithPacket P)
      → IsAsked call (reset_response number result sender receiver) → ResetAct P call
  adds_responses : (responses : List ParameterTree) (phase : Phase) (t : Tcb) (m : EndWithPacket P) → list_all is_response responses ≡ true
      → All (Answers call t.requests) responses → ResetAct P call

abbrev pub before_reset : {P : Type 0} {call : Call} → ResetAct P call → EndWithPacket P
before_reset (prepares stream phase t m asked can) = in_open phase t m
before_reset (defers number response last_tsn streams phase t m asked known ahead) = in_open phase t m
before_reset (performs number response last_tsn streams phase t m asked known there) = in_open phase t m
before_reset (processes number streams phase t m asked known) = in_open phase t m
before_reset (takes_response rto number result sender receiver phase t m asked) = in_open phase t m
before_reset (adds_responses responses phase t m are answers) = in_open phase t m

abbrev pub after_reset : {P : Type 0} {call : Call} → ResetAct P call → EndWithPacket P
after_reset (prepares stream phase t m asked can) = in_open phase t (with_context (prepare_reset_stream stream m.context) m)
after_reset (defers number response last_tsn streams phase t m asked known ahead) =
    in_open phase (record t { reassembly = defer last_tsn.0 streams t.reassembly; requests = set_last_request number in_progress t.requests }) m
after_reset (performs number response last_tsn streams phase t m asked known there) =
    in_open phase (record t { reassembly = reset streams t.reassembly; requests = set_last_request number performed t.requests })
    (with_context (emit_event_in (OnIncomingStreamReset (numbers_of streams)) m.context) m)
after_reset (processes number streams phase t m asked known) = in_open phase (record t { requests = set_last_request number nothing_to_do t.requests }) m
after_reset (takes_response rto number result sender receiver phase t m asked) =
    in_open phase (record t { requests = handle_response m.context.now rto number result t.requests })
    (with_context (on_outcome (outcome number result t.requests.current) m.context) m)
after_reset (adds_responses responses phase t m are answers) = with_chunk (re_config_chunk responses) (in_open phase t m)

-- ---- handover

pub data HandoverAct (P : Type 0) (call : Call) : Type 0 where
  leaves : (phase : Phase) (t : Tcb) (m : EndWithPacket P) → call ≡ HandOver → HandoverAct P call
  takes_up : (h : HandoverState) (m : EndWithPacket P) → call ≡ Restore h → is_valid_state h ≡ true → HandoverAct P call

abbrev pub before_handover : {P : Type 0} {call : Call} → HandoverAct P call → EndWithPacket P
before_handover (leaves phase t m is) = in_open phase t m
before_handover (takes_up h m is valid) = in_state Closed m

abbrev pub after_handover : {P : Type 0} {call : Call} → HandoverAct P call → EndWithPacket P
after_handover (leaves phase t m is) = in_state Closed (with_context (emit_event_in OnClosed m.context) m)
after_handover (takes_up h m is valid) =
    in_open Established (tcb_from m.context.now m.context.options h) (with_context (emit_event_in OnConnected (context_restored h m.context)) m)

-- ---- the end of a packet

pub data InputAct (P : Type 0) (call : Call) : Type 0 where
  ends_packet : (phase : Phase) (t : Tcb) (m : EndWithPacket P) → InputAct P call

abbrev pub before_input : {P : Type 0} {call : Call} → InputAct P call → EndWithPacket P
before_input (ends_packet phase t m) = in_open phase t m

abbrev pub after_input : {P : Type 0} {call : Call} → InputAct P call → EndWithPacket P
after_input (ends_packet phase t m) = in_open phase (at_end m.context.now t) m

-- ---- what each act preserves

-- A relation on ends at work that holds of nothing done, goes on, and holds of each act of this call.
pub record Preserves {P : Type 0} (call : Call) (R : EndWithPacket P → EndWithPacket P → Type 0) : Type 0 where
  pub same : (m : EndWithPacket P) → R m m
  pub through : {a b c : EndWithPacket P} → R a b → R b c → R a c
  pub packets : (act : PacketAct P call) → R (before_packets act) (after_packets act)
  pub opening : (act : OpeningAct P call) → R (before_opening act) (after_opening act)
  pub closing : (act : ClosingAct P call) → R (before_closing act) (after_closing act)
  pub data_acts : (act : DataAct P call) → R (before_data act) (after_data act)
  pub acknowledging : (act : SackAct P call) → R (before_sack act) (after_sack act)
  pub sending : (act : SendingAct P call) → R (before_sending act) (after_sending act)
  pub time : (act : TimeAct P call) → R (before_time act) (after_time act)
  pub calls : (act : CallAct P call) → R (before_call act) (after_call act)
  pub resets : (act : ResetAct P call) → R (before_reset act) (after_reset act)
  pub handover : (act : HandoverAct P call) → R (before_handover act) (after_handover act)
  pub input : (act : InputAct P call) → R (before_input act) (after_input act)

-- ---- up to the first end of an association

-- no association has ended, of what is emitted and not taken yet
abbrev pub HasNoEnd : {P : Type 0} → EndWithPacket P → Type 0
HasNoEnd m = endings m.context.emitted.events ≡ 0

-- The same of a relation that is asked only as long as no association has ended: each act may use that none has after it.
-- An act that ends one is not asked for.
pub record PreservesUntilEnd {P : Type 0} (call : Call) (R : EndWithPacket P → EndWithPacket P → Type 0) : Type 0 where
  pub same : (m : EndWithPacket P) → R m m
  pub through : {a b c : EndWithPacket P} → R a b → R b c → R a c
  pub packets : (act : PacketAct P call) → HasNoEnd (after_packets act) → R (before_packets act) (after_packets act)
  pub opening : (act : OpeningAct P call) → HasNoEnd (after_opening act) → R (before_opening act) (after_opening act)
  pub closing : (act : ClosingAct P call) → HasNoEnd (after_closing act) → R (before_closing act) (after_closing act)
  pub data_acts : (act : DataAct P call) → HasNoEnd (after_data act) → R (before_data act) (after_data act)
  pub acknowledging : (act : SackAct P call) → HasNoEnd (after_sack act) → R (before_sack act) (after_sack act)
  pub sending : (act : SendingAct P call) → HasNoEnd (after_sending act) → R (before_sending act) (after_sending act)
  pub time : (act : TimeAct P call) → HasNoEnd (after_time act) → R (before_time act) (after_time act)
  pub calls : (act : CallAct P call) → HasNoEnd (after_call act) → R (before_call act) (after_call act)
  pub resets : (act : ResetAct P call) → HasNoEnd (after_reset act) → R (before_reset act) (after_reset act)
  pub handover : (act : HandoverAct P call) → HasNoEnd (after_handover act) → R (before_handover act) (after_handover act)
  pub input : (act : InputAct P call) → HasNoEnd (after_input act) → R (before_input act) (after_input act)
