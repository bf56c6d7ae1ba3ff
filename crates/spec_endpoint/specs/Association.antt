-- The value of an end of an association. Packets are of a type P: bytes to the user, lists of chunks to the laws.
use Rattle.std.specs.Prelude.{ℕ, ◌-◌, ◌^◌, Bool, Option, Some, None, unwrap_or, List}
use Rattle.rand_core.specs.Stream.{Stream}
use Rattle.sctp_serial.specs.Unwrapped.{origin}
use Rattle.sctp_packet.specs.Chunk.{ChunkTree}
use Rattle.sctp_packet.specs.Packet.{HeaderTree}
use Rattle.sctp_state.specs.declared.api.SctpImplementation.{SctpImplementation}
use Rattle.sctp_state.specs.declared.api.SctpImplementation.TheVariants as implementations
use Rattle.sctp_state.specs.declared.timer.BackoffAlgorithm.TheVariants.{Fixed, Exponential}
use Rattle.sctp_state.specs.Options.{Options}
use Rattle.sctp_state.specs.Timer.{Timer, timer}
use Rattle.sctp_state.specs.RetransmissionTimeout.{Rtt, unsampled}
use Rattle.sctp_state.specs.TxErrorCounter.{ErrorCounter, no_errors}
use Rattle.sctp_state.specs.Events.{Emitted, nothing_emitted}
use Rattle.sctp_capabilities.specs.Capabilities.{Capabilities}
use Rattle.sctp_rx.specs.DataTracker.{DataTracker, tracker}
use Rattle.sctp_rx.specs.ReassemblyQueue.{Reassembly, reassembly}
use Rattle.sctp_tx_queue.specs.SendQueue.{Queue, queue}
use Rattle.sctp_tx.specs.RetransmissionQueue.{Sender, sender}
use Rattle.spec_endpoint.specs.ResetRequests.{Requests, requests}

-- ---- what was drawn, and what names the peer

pub record Identity : Type 0 where
  pub my_tag : ℕ
  pub my_first : ℕ
  pub peer_tag : ℕ
  pub peer_first : ℕ
  pub tie : ℕ

-- ---- the control block (RFC 9260 section 14)

pub record Tcb : Type 0 where
  pub identity : Identity
  pub capabilities : Capabilities
  pub tracker : DataTracker
  pub reassembly : Reassembly
  pub sender : Sender
  pub rtt : Rtt
  pub requests : Requests

-- how many fragments it may hold: with no limit set, as many as can be counted
abbrev pub most_fragments : Options → ℕ
most_fragments o = unwrap_or o.max_held_fragments (2 ^ 64 - 1)

-- a new one, for a peer with this window
abbrev pub tcb : Options → Identity → (a_rwnd : ℕ) → Capabilities → Tcb
tcb o i a_rwnd k = record {
  identity = i;
  capabilities = k;
  tracker = record { first = i.peer_first; tracker = tracker o origin };
  reassembly = record (reassembly o.max_receiver_window_buffer_size k.message_interleaving) { max_fragments = most_fragments o };
  sender = sender o i.my_first a_rwnd k.partial_reliability k.message_interleaving;
  rtt = unsampled o;
  requests = requests o i.my_first i.peer_first;
}

-- ---- states (RFC 9260 section 4)

-- those with a control block
pub data Phase : Type 0 where
  CookieEchoed : (t1_cookie : Timer) (cookie : List ℕ) → Phase
  Established : Phase
  ShutdownPending : Phase
  ShutdownSent : (t2_shutdown : Timer) → Phase
  ShutdownReceived : Phase
  ShutdownAckSent : (t2_shutdown : Timer) → Phase

pub data State : Type 0 where
  Closed : State
  CookieWait : (my_tag my_first : ℕ) (t1_init : Timer) → State
  Open : Phase → Tcb → State

abbrev pub block_in : State → Option Tcb
block_in Closed = None
block_in (CookieWait tag first t1) = None
block_in (Open phase t) = Some t

-- ---- what an end has in every state

pub record Counts : Type 0 where
  pub rx_packets : ℕ
  pub tx_packets : ℕ
  pub tx_messages : ℕ

-- own heartbeats (RFC 9260 section 8.3)
pub record Heartbeats : Type 0 where
  pub interval : Timer  -- until the next one, where no data is sent
  pub timeout : Timer  -- for its answer
  pub counter : ℕ  -- which goes along

-- an interval of zero starts no timer
abbrev pub heartbeats : Options → Heartbeats
heartbeats o = record {
  interval = timer o.heartbeat_interval Fixed None None;
  timeout = timer o.rto_initial Exponential (Some 0) None;
  counter = 0;
}

-- how packets of chunks go out, and the word that its checksum makes of bytes
pub record Packing (P : Type 0) : Type 0 where
  pub write : HeaderTree → (is_summed : Bool) → List ChunkTree → P
  pub word_of : List ℕ → ℕ

pub record Context (P : Type 0) : Type 0 where
  pub options : Options
  pub now : ℕ
  pub queue : Queue
  pub forward_from : ℕ  -- no forward point is looked for or sent before
  pub errors : ErrorCounter
  pub heartbeats : Heartbeats
  pub counts : Counts
  pub peer : SctpImplementation
  pub last_tag : ℕ  -- the own one of the last association; 0 before the first
  pub emitted : Emitted P  -- and not taken yet
  pub pack : Packing P

-- an end
pub record EndpointState (P : Type 0) : Type 0 where
  pub state : State
  pub context : Context P

-- an end with all that its generator will answer
pub record Endpoint (P : Type 0) : Type 0 where
  pub endpoint_state : EndpointState P
  pub draws : Stream

abbrev pub context : {P : Type 0} → Options → Packing P → Context P
context o pack = record {
  options = o;
  now = 0;
  queue = queue o;
  forward_from = 0;
  errors = no_errors o.max_retransmissions;
  heartbeats = heartbeats o;
  counts = record { rx_packets = 0; tx_packets = 0; tx_messages = 0 };
  peer = implementations.Unknown;
  last_tag = 0;
  emitted = nothing_emitted;
  pack = pack;
}

abbrev pub fresh : {P : Type 0} → Options → Packing P → Stream → Endpoint P
fresh o pack draws = record { endpoint_state = record { state = Closed; context = context o pack }; draws = draws }

-- in this phase
abbrev pub open_as : {P : Type 0} → Phase → Tcb → Context P → EndpointState P
open_as phase t c = record { state = Open phase t; context = c }

-- with the same state
abbrev pub with_context : {P : Type 0} → EndpointState P → Context P → EndpointState P
with_context s c = record s { context = c }

-- a row that the state has no part in
abbrev pub in_context : {P : Type 0} → (Context P → Context P) → EndpointState P → EndpointState P
in_context row s = record s { context = row s.context }

-- the row for states with a control block; in the others nothing happens
abbrev pub where_open : {P : Type 0} → (Phase → Tcb → Context P → EndpointState P) → EndpointState P → EndpointState P
where_open row s = elim s.state [ Closed ↦ s | CookieWait tag first t1 ↦ s | Open phase t ↦ row phase t s.context ]
