-- Ends whose packets are mapped, and the law that each call commutes with it.
use Rattle.std.specs.Prelude.{◌≡◌, ℕ, Bool, List, map}
use Rattle.sctp_packet.specs.Chunk.{ChunkTree}
use Rattle.sctp_packet.specs.Packet.{HeaderTree}
use Rattle.sctp_state.specs.Events.{Event, SendPacket, OnConnected, OnClosed, OnConnectionRestarted, OnAborted, OnError, OnBufferedAmountLow, OnTotalBufferedAmountLow, OnStreamsResetFailed, OnStreamsResetPerformed, OnIncomingStreamReset, OnLifecycleMessageFullySent, OnLifecycleMessageMaybeExpired, OnLifecycleMessageExpired, OnLifecycleMessageDelivered, OnLifecycleEnd, Emitted}
use Rattle.spec_endpoint.specs.Association.{Packing, Context, EndpointState, Endpoint}
use Rattle.spec_endpoint.specs.Laws.{Call, called}
use Rattle.spec_endpoint.specs.Wire.{written_bytes}

-- ---- packets are mapped

-- what becomes of a packet, and the word that the checksum of an end with such packets makes of bytes
pub record Mapping (P Q : Type 0) : Type 0 where
  pub of : P → Q
  pub word_of : List ℕ → ℕ

abbrev pub map_event : {P Q : Type 0} → Mapping P Q → Event P → Event Q
map_event f (SendPacket p) = SendPacket (f.of p)
map_event f OnConnected = OnConnected
map_event f OnClosed = OnClosed
map_event f OnConnectionRestarted = OnConnectionRestarted
map_event f (OnAborted kind text) = OnAborted kind text
map_event f (OnError kind text) = OnError kind text
map_event f (OnBufferedAmountLow id) = OnBufferedAmountLow id
map_event f OnTotalBufferedAmountLow = OnTotalBufferedAmountLow
map_event f (OnStreamsResetFailed ids) = OnStreamsResetFailed ids
map_event f (OnStreamsResetPerformed ids) = OnStreamsResetPerformed ids
map_event f (OnIncomingStreamReset ids) = OnIncomingStreamReset ids
map_event f (OnLifecycleMessageFullySent id) = OnLifecycleMessageFullySent id
map_event f (OnLifecycleMessageMaybeExpired id) = OnLifecycleMessageMaybeExpired id
map_event f (OnLifecycleMessageExpired id) = OnLifecycleMessageExpired id
map_event f (OnLifecycleMessageDelivered id) = OnLifecycleMessageDelivered id
map_event f (OnLifecycleEnd id) = OnLifecycleEnd id

-- records of messages given up have no packets
abbrev pub map_emitted : {P Q : Type 0} → Mapping P Q → Emitted P → Emitted Q
map_emitted f t = record { events = map (map_event f) t.events; given_up = t.given_up }

abbrev pub map_context : {P Q : Type 0} → Mapping P Q → Context P → Context Q
map_context f c = record {
  options = c.options;
  now = c.now;
  queue = c.queue;
  forward_from = c.forward_from;
  errors = c.errors;
  heartbeats = c.heartbeats;
  counts = c.counts;
  peer = c.peer;
  last_tag = c.last_tag;
  emitted = map_emitted f c.emitted;
  pack = record { write = λ header is_summed chunks. f.of (c.pack.write header is_summed chunks); word_of = f.word_of };
}

abbrev pub map_endpoint_state : {P Q : Type 0} → Mapping P Q → EndpointState P → EndpointState Q
map_endpoint_state f s = record { state = s.state; context = map_context f s.context }

abbrev pub map_end : {P Q : Type 0} → Mapping P Q → Endpoint P → Endpoint Q
map_end f s = record { endpoint_state = map_endpoint_state f s.endpoint_state; draws = s.draws }

-- ---- packets as lists of chunks

pub record Carried : Type 0 where
  pub header : HeaderTree
  pub is_summed : Bool
  pub chunks : List ChunkTree

abbrev pub as_carried : Packing Carried
as_carried = record { write = λ header is_summed chunks. record { header = header; is_summed = is_summed; chunks = chunks }; word_of = λ bytes. 0 }

abbrev pub as_written : (word_of : List ℕ → ℕ) → Carried → List ℕ
as_written word_of o = written_bytes word_of o.header o.is_summed o.chunks

-- to the bytes that an end with this checksum's word writes
abbrev pub as_bytes : (word_of : List ℕ → ℕ) → Mapping Carried (List ℕ)
as_bytes word_of = record { of = as_written word_of; word_of = word_of }

-- ---- the law: an end whose packets are bytes does what the end with their chunks does

abbrev pub BytesAreWrittenChunks : Type 0
BytesAreWrittenChunks =
    (word_of : List ℕ → ℕ) (call : Call) (s : Endpoint Carried)
    → called call (map_end (as_bytes word_of) s) ≡ map_end (as_bytes word_of) (called call s)
