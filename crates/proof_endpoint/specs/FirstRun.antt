-- The first run, by the table of steps: two ends with default options connect, a message of 1 to 1,000 bytes crosses, and
-- its sender is at rest. So it goes for all words that are drawn, and whatever packets are.
use Rattle.std.specs.Prelude.{◌≡◌, ℕ, ◌-◌, ◌<◌, ◌≤◌, ◌^◌, true, false, Option, Some, None, List, [], ◌∷◌, ◌++◌, length}
use Rattle.rand_core.specs.Stream.{Stream, next_u32}
use Rattle.sctp_serial.specs.Messages.{Message}
use Rattle.sctp_packet.specs.Chunk.{ChunkTree, FragmentTree, InitTree, init_chunk, init_ack_chunk, data_chunk, sack_chunk, cookie_echo_chunk, cookie_ack_chunk}
use Rattle.sctp_state.specs.Options.{SendOptions, defaults}
use Rattle.sctp_capabilities.specs.Capabilities.{announced_parameters}
use Rattle.sctp_capabilities.specs.StateCookie.{cookie_bytes}
use Rattle.sctp_state.specs.Events.{Event, SendPacket, OnConnected, OnBufferedAmountLow, OnLifecycleMessageDelivered, OnLifecycleEnd}
use Rattle.sctp_tx_queue.specs.Produced.{fully_sent}
use Rattle.spec_endpoint.specs.Association.{Endpoint, fresh, Packing}
use Rattle.spec_endpoint.specs.Packets.{header_to, drained}
use Rattle.spec_endpoint.specs.Opening.{tsn_from, tag_from, init_of, cookie_for, init_ack_of, connect}
use Rattle.spec_endpoint.specs.Calls.{send_refusal_of, send, ready_in}
use Rattle.spec_endpoint.specs.Input.{on_packet, in_endpoint_state}
use Rattle.spec_endpoint.specs.Shown.{Association, association_in, is_at_rest}
use Rattle.spec_endpoint.specs.Receiving.{Receives}
use Rattle.spec_endpoint.specs.Wire.{writing}
use Rattle.proof_endpoint.specs.Mapped.{Carried, as_written}

-- ---- what an end draws as it opens an association

abbrev pub first_of : Stream → ℕ
first_of draws = tsn_from (next_u32 draws).0

abbrev pub tag_of : Stream → ℕ
tag_of draws = tag_from (next_u32 (next_u32 draws).1).0

-- ---- the packets

-- this chunk alone, under this tag
abbrev pub packet : (tag : ℕ) → ChunkTree → Carried
packet tag chunk = record { header = header_to defaults tag; is_summed = true; chunks = chunk ∷ [] }

abbrev pub init_tree : Stream → InitTree
init_tree a = init_of defaults (tag_of a) (first_of a) (announced_parameters defaults 0)

abbrev pub init_packet : Stream → Carried
init_packet a = packet 0 (init_chunk (init_tree a))

abbrev pub init_ack_packet : (a b : Stream) → Carried
init_ack_packet a b = packet (tag_of a) (init_ack_chunk (init_ack_of defaults (init_tree a) (tag_of b) (first_of b) 0))

-- with the cookie of the INIT ACK
abbrev pub cookie_echo_packet : (a b : Stream) → Carried
cookie_echo_packet a b = packet (tag_of b) (cookie_echo_chunk (cookie_bytes (cookie_for (init_tree a) (tag_of b) (first_of b) 0)))

abbrev pub cookie_ack_packet : (a : Stream) → Carried
cookie_ack_packet a = packet (tag_of a) cookie_ack_chunk

-- a whole message, the first of its stream
abbrev pub fragment : Message → SendOptions → FragmentTree
fragment m o = record {
  stream_id = m.stream;
  is_unordered = o.unordered;
  ssn = 0;
  mid = 0;
  fsn = 0;
  ppid = m.ppid;
  payload = m.payload;
  is_beginning = true;
  is_end = true;
}

abbrev pub data_packet : (a b : Stream) → Message → SendOptions → Carried
data_packet a b m o = packet (tag_of b) (data_chunk (first_of a) false (fragment m o))

-- nine tenths of the receiver's 5 MiB, without the message
abbrev pub sack_packet : (a : Stream) → Message → Carried
sack_packet a m = packet (tag_of a) (sack_chunk (record {
  cumulative_tsn_ack = first_of a;
  a_rwnd = 4718592 - length m.payload;
  gap_ack_blocks = [];
  duplicate_tsns = [];
}))

-- ---- the ends

-- an end receives a packet
abbrev pub give : {P : Type 0} → Carried → Endpoint P → Endpoint P
give p s = on_packet (record { header = p.header; checksum = 0; chunks = p.chunks }) s

module _ {P : Type 0} (pack : Packing P) (a b : Stream) where
  abbrev pub asking : Endpoint P
  asking = connect (fresh defaults pack a)

  abbrev pub answering : Endpoint P
  answering = give (init_packet a) (fresh defaults pack b)

  abbrev pub echoing : Endpoint P
  echoing = give (init_ack_packet a b) (drained asking)

  abbrev pub accepting : Endpoint P
  accepting = give (cookie_echo_packet a b) (drained answering)

  abbrev pub opening : Endpoint P
  opening = give (cookie_ack_packet a) (drained echoing)

  abbrev pub sending : Message → SendOptions → Endpoint P
  sending m o = in_endpoint_state (send m o) (drained opening)

  abbrev pub taking : Message → SendOptions → Endpoint P
  taking m o = give (data_packet a b m o) (drained accepting)

  abbrev pub resting : Message → SendOptions → Endpoint P
  resting m o = give (sack_packet a m) (drained (sending m o))

-- ---- what is emitted

abbrev pub packet_event : {P : Type 0} → Packing P → Carried → Event P
packet_event pack p = SendPacket (pack.write p.header p.is_summed p.chunks)

abbrev pub delivered_events : {P : Type 0} → Option ℕ → List (Event P)
delivered_events None = []
delivered_events (Some id) = OnLifecycleMessageDelivered id ∷ OnLifecycleEnd id ∷ []

-- ---- the run

-- 1 to 1,000 bytes, with numbers that fit their fields
pub record IsSmall (m : Message) : Type 0 where
  pub some : 0 < length m.payload
  pub few : length m.payload ≤ 1000
  pub stream : m.stream < 2 ^ 16
  pub ppid : m.ppid < 2 ^ 32

abbrev pub association : (mine peer : Stream) → Association
association mine peer = record {
  my_tag = tag_of mine;
  my_initial_tsn = first_of mine;
  peer_tag = tag_of peer;
  peer_initial_tsn = first_of peer;
}

-- An end has emitted these events, in this order, gave nothing up, holds this association, and has these messages ready.
pub record Shows {P : Type 0} (s : Endpoint P) (events : List (Event P)) (held : Option Association) (ready : List Message) : Type 0 where
  pub emits : s.endpoint_state.context.emitted ≡ record { events = events; given_up = [] }
  pub holds : association_in s.endpoint_state.state ≡ held
  pub has : ready_in s.endpoint_state.state ≡ ready

-- Four packets open the association: each end emits so once, and what the two hold is mirrored.
pub record Opens {P : Type 0} (pack : Packing P) (a b : Stream) : Type 0 where
  pub asked : Shows (asking pack a b) (packet_event pack (init_packet a) ∷ []) None []
  pub answered : Shows (answering pack a b) (packet_event pack (init_ack_packet a b) ∷ []) None []
  pub echoed : Shows (echoing pack a b) (packet_event pack (cookie_echo_packet a b) ∷ []) (Some (association a b)) []
  pub accepted : Shows (accepting pack a b) (OnConnected ∷ packet_event pack (cookie_ack_packet a) ∷ []) (Some (association b a)) []
  pub opened : Shows (opening pack a b) (OnConnected ∷ []) (Some (association a b)) []

-- A message is accepted, crosses in one packet, and is ready: it, and nothing else. One packet acknowledges it.
pub record Crosses {P : Type 0} (pack : Packing P) (a b : Stream) (m : Message) (o : SendOptions) : Type 0 where
  pub accepted : send_refusal_of m (drained (opening pack a b)).endpoint_state ≡ None
  pub sent : Shows (sending pack a b m o) (OnBufferedAmountLow m.stream ∷ (fully_sent o.lifecycle_id ++ packet_event pack (data_packet a b m o) ∷ []))
      (Some (association a b)) []
  pub came : Shows (taking pack a b m o) (packet_event pack (sack_packet a m) ∷ []) (Some (association b a)) (m ∷ [])

-- The acknowledgement leaves the sender at rest.
pub record Rests {P : Type 0} (pack : Packing P) (a b : Stream) (m : Message) (o : SendOptions) : Type 0 where
  pub received : Shows (resting pack a b m o) (delivered_events o.lifecycle_id) (Some (association a b)) []
  pub at_rest : is_at_rest (resting pack a b m o).endpoint_state.state (resting pack a b m o).endpoint_state.context.queue ≡ true

-- An end that receives the bytes of this packet is the one after it, and no other.
abbrev pub Leads : (word_of : List ℕ → ℕ) → Carried → (before after : Endpoint (List ℕ)) → Type 0
Leads word_of p before after = (t : Endpoint (List ℕ)) → Receives word_of (as_written word_of p) before t → t ≡ after

-- In bytes each packet of the run leads from end to end.
pub record LeadsOn (word_of : List ℕ → ℕ) (a b : Stream) (m : Message) (o : SendOptions) : Type 0 where
  pub init : Leads word_of (init_packet a) (fresh defaults (writing word_of) b) (answering (writing word_of) a b)
  pub init_ack : Leads word_of (init_ack_packet a b) (drained (asking (writing word_of) a b)) (echoing (writing word_of) a b)
  pub cookie_echo : Leads word_of (cookie_echo_packet a b) (drained (answering (writing word_of) a b)) (accepting (writing word_of) a b)
  pub cookie_ack : Leads word_of (cookie_ack_packet a) (drained (echoing (writing word_of) a b)) (opening (writing word_of) a b)
  pub message : Leads word_of (data_packet a b m o) (drained (accepting (writing word_of) a b)) (taking (writing word_of) a b m o)
  pub sack : Leads word_of (sack_packet a m) (drained (sending (writing word_of) a b m o)) (resting (writing word_of) a b m o)

-- ---- for all words, messages and options of sending

abbrev pub FirstRunOpens : Type 0
FirstRunOpens = (pack : Packing (List ℕ)) (a b : Stream) → Opens pack a b

abbrev pub FirstRunCrosses : Type 0
FirstRunCrosses = (pack : Packing (List ℕ)) (a b : Stream) (m : Message) (o : SendOptions) → IsSmall m → Crosses pack a b m o

abbrev pub FirstRunRests : Type 0
FirstRunRests = (pack : Packing (List ℕ)) (a b : Stream) (m : Message) (o : SendOptions) → IsSmall m → Rests pack a b m o

abbrev pub FirstRunInBytes : Type 0
FirstRunInBytes = (word_of : List ℕ → ℕ) (a b : Stream) (m : Message) (o : SendOptions) → IsSmall m → LeadsOn word_of a b m o
