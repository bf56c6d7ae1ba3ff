-- When an end is sound: what it may put into a chunk fits the chunk's fields, and can be read back. And what a call has to
-- hand in for it to stay so.
use Rattle.std.specs.Prelude.{ℕ, ◌<◌, ◌≤◌, ◌^◌, IfSome, List, [], length, All}
use Rattle.sctp_serial.specs.Messages.{Message}
use Rattle.sctp_wire.specs.Item.{ParsesAll}
use Rattle.sctp_wire.specs.Parameter.{ParameterTree, state_cookie}
use Rattle.sctp_packet.specs.Chunk.{ChunkTree, init_ack_chunk}
use Rattle.sctp_packet.specs.Packet.{PacketTree}
use Rattle.sctp_packet.specs.Grammar.{Each, IsChunk, FitsFragment}
use Rattle.sctp_state.specs.declared.api.handover.HandoverOutgoingStream.{HandoverOutgoingStream}
use Rattle.sctp_state.specs.Handover.{StreamMessage, OutstandingData, HandoverState}
use Rattle.sctp_state.specs.Options.{Options}
use Rattle.sctp_rx.specs.Seen.{IsInRuns}
use Rattle.sctp_rx.specs.DataTracker.{Tracker}
use Rattle.sctp_tx_outstanding.specs.Item.{Item}
use Rattle.sctp_tx_outstanding.specs.OutstandingData.{Items}
use Rattle.sctp_tx_outstanding.specs.Handover.{fragment_from}
use Rattle.sctp_tx_queue.specs.SendQueue.{Queued, Stream, Queue}
use Rattle.spec_endpoint.specs.Association.{Identity, Tcb, Phase, CookieEchoed, Established, ShutdownPending, ShutdownSent, ShutdownReceived, ShutdownAckSent, State, Closed, CookieWait, Open, Endpoint}
use Rattle.spec_endpoint.specs.ResetRequests.{Request, Requests}
use Rattle.spec_endpoint.specs.Laws.{Call, Connect, Close, Shutdown, Send, SendMany, ResetStreams, TakeMessage, SetLowThreshold, SetPriority, SetMaxMessageSize, Advance, HandOver, Restore, ReceivePacket, ReceiveNoPacket}

-- ---- an end

-- options, as far as they are written; and a packet has room for a header, and is one of a datagram
pub record OptionsFit (o : Options) : Type 0 where
  pub local_port : o.local_port < 2 ^ 16
  pub remote_port : o.remote_port < 2 ^ 16
  pub incoming_streams : o.announced_maximum_incoming_streams < 2 ^ 16
  pub outgoing_streams : o.announced_maximum_outgoing_streams < 2 ^ 16
  pub receiver_window : o.max_receiver_window_buffer_size < 2 ^ 32
  pub zero_checksum_method : o.zero_checksum_method < 2 ^ 32
  pub mtu_least : 12 ≤ o.mtu
  pub mtu_most : o.mtu ≤ 65535

-- a message that waits
pub record FitsQueued (m : Queued) : Type 0 where
  pub ppid : m.ppid < 2 ^ 32
  pub fsn : m.fsn < 2 ^ 32

pub record FitsStream (e : ℕ × Stream) : Type 0 where
  pub id : e.0 < 2 ^ 16
  pub messages : Each FitsQueued e.1.messages

abbrev pub FitsQueue : Queue → Type 0
FitsQueue q = Each FitsStream q.streams.entries

-- a fragment that is kept
abbrev pub FitsItem : Item → Type 0
FitsItem i = FitsFragment i.fragment

abbrev pub FitsItems : Items → Type 0
FitsItems s = Each FitsItem s.kept

-- what is emitted in a SACK
pub record FitsTracker (t : Tracker) : Type 0 where
  pub front : 0 < t.seen.front
  pub runs : IsInRuns t.seen
  pub duplicates : length t.duplicates ≤ 20

-- what is emitted in a RE-CONFIG
pub record FitsRequest (r : Request) : Type 0 where
  pub number : r.number < 2 ^ 32
  pub last_tsn : r.last_tsn < 2 ^ 32
  pub streams : Each (λ (id : ℕ). id < 2 ^ 16) r.streams

pub record FitsRequests (r : Requests) : Type 0 where
  pub next : r.next < 2 ^ 32
  pub current : IfSome r.current FitsRequest
  pub result : r.result ≤ 6

pub record FitsIdentity (i : Identity) : Type 0 where
  pub my_tag : i.my_tag < 2 ^ 32
  pub my_first : i.my_first < 2 ^ 32
  pub peer_tag : i.peer_tag < 2 ^ 32

pub record FitsTcb (t : Tcb) : Type 0 where
  pub identity : FitsIdentity t.identity
  pub tracker : FitsTracker t.tracker.tracker
  pub window : t.reassembly.max_size < 2 ^ 32
  pub items : FitsItems t.sender.outstanding.items
  pub requests : FitsRequests t.requests

-- a cookie that is echoed is not empty
abbrev pub FitsPhase : Phase → Type 0
FitsPhase (CookieEchoed t1 cookie) = 0 < length cookie
FitsPhase Established = Unit {0}
FitsPhase ShutdownPending = Unit {0}
FitsPhase (ShutdownSent t2) = Unit {0}
FitsPhase ShutdownReceived = Unit {0}
FitsPhase (ShutdownAckSent t2) = Unit {0}

abbrev pub FitsState : State → Type 0
FitsState Closed = Unit {0}
FitsState (CookieWait tag first t1) = (tag < 2 ^ 32) × (first < 2 ^ 32)
FitsState (Open phase t) = FitsPhase phase × FitsTcb t

pub record IsSound {P : Type 0} (s : Endpoint P) : Type 0 where
  pub options : OptionsFit s.endpoint_state.context.options
  pub queue : FitsQueue s.endpoint_state.context.queue
  pub state : FitsState s.endpoint_state.state

-- ---- what is handed in

pub record FitsMessage (m : Message) : Type 0 where
  pub stream : m.stream < 2 ^ 16
  pub ppid : m.ppid < 2 ^ 32

-- the messages of a record
pub record FitsStreamMessage (m : StreamMessage) : Type 0 where
  pub ppid : m.ppid < 2 ^ 32
  pub fsn : m.fsn < 2 ^ 32

pub record FitsRecord (h : HandoverState) : Type 0 where
  pub my_tag : h.my_verification_tag < 2 ^ 32
  pub my_first : h.my_initial_tsn < 2 ^ 32
  pub peer_tag : h.peer_verification_tag < 2 ^ 32
  pub next_request : h.tx.next_reset_req_sn < 2 ^ 32
  pub streams : Each (λ (s : HandoverOutgoingStream). s.id < 2 ^ 16) h.tx.streams
  pub messages : Each FitsStreamMessage h.tx.queued_messages
  pub items : Each (λ (d : OutstandingData). FitsFragment (fragment_from d)) h.tx.outstanding_data

-- chunks as they are read from bytes
pub record AreRead (chunks : List ChunkTree) : Type 0 where
  pub bytes : List ℕ
  pub small : All (λ (b : ℕ). b < 2 ^ 8) bytes
  pub parses : ParsesAll IsChunk bytes chunks []

abbrev pub HasBytes : ParameterTree → Type 0
HasBytes (state_cookie cookie) = 0 < length cookie
HasBytes parameter = Unit {0}

-- The cookie of an INIT ACK is not empty: no end writes such a one, and no COOKIE ECHO can bring it back.
abbrev pub HasSomeCookie : ChunkTree → Type 0
HasSomeCookie (init_ack_chunk init) = Each HasBytes init.parameters
HasSomeCookie chunk = Unit {0}

pub record FitsPacket (p : PacketTree) : Type 0 where
  pub tag : p.header.verification_tag < 2 ^ 32
  pub chunks : AreRead p.chunks
  pub cookies : Each HasSomeCookie p.chunks

abbrev pub ArgumentFits : Call → Type 0
ArgumentFits Connect = Unit {0}
ArgumentFits Close = Unit {0}
ArgumentFits Shutdown = Unit {0}
ArgumentFits (Send m o) = FitsMessage m
ArgumentFits (SendMany ms o) = Each FitsMessage ms
ArgumentFits (ResetStreams streams) = Each (λ (id : ℕ). id < 2 ^ 16) streams
ArgumentFits TakeMessage = Unit {0}
ArgumentFits (SetLowThreshold stream bytes) = stream < 2 ^ 16
ArgumentFits (SetPriority stream priority) = stream < 2 ^ 16
ArgumentFits (SetMaxMessageSize bytes) = bytes < 2 ^ 32
ArgumentFits (Advance now) = Unit {0}
ArgumentFits HandOver = Unit {0}
ArgumentFits (Restore h) = FitsRecord h
ArgumentFits (ReceivePacket p) = FitsPacket p
ArgumentFits ReceiveNoPacket = Unit {0}
