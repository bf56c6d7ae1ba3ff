-- Two ends with default options and a list of moves, to compute conversations by. A packet is its header and its chunks.
use Rattle.std.specs.Prelude.{ℕ, ◌+◌, Bool, true, false, Option, Some, None, List, [], ◌∷◌, ◌++◌, length, slice_get}
use Rattle.rand_core.specs.Stream.{Stream}
use Rattle.sctp_wire.specs.Parameter.{ParameterTree, reset_response}
use Rattle.sctp_packet.specs.Chunk.{ChunkTree, re_config_chunk}
use Rattle.sctp_packet.specs.Written.{chunks_bytes}
use Rattle.sctp_packet.specs.Packet.{HeaderTree}
use Rattle.sctp_serial.specs.Messages.{Message}
use Rattle.sctp_state.specs.Options.{SendOptions, defaults}
use Rattle.sctp_state.specs.Handover.{HandoverState}
use Rattle.sctp_state.specs.Events.{Event, SendPacket, GivenUp}
use Rattle.spec_endpoint.specs.Association.{Packing, EndpointState, Endpoint, fresh}
use Rattle.spec_endpoint.specs.Opening.{connect}
use Rattle.spec_endpoint.specs.Shutdown.{close, shutdown}
use Rattle.spec_endpoint.specs.Calls.{send, take_message, ready_at}
use Rattle.spec_endpoint.specs.StreamReset.{reset_streams}
use Rattle.spec_endpoint.specs.Timers.{advance}
use Rattle.spec_endpoint.specs.Handover.{hand_over, restore}
use Rattle.spec_endpoint.specs.Input.{on_packet, in_endpoint_state}
use Rattle.spec_endpoint.specs.Packets.{packets_in, drained}

pub record SentPacket : Type 0 where
  pub header : HeaderTree
  pub chunks : List ChunkTree

abbrev pub as_sent : Packing SentPacket
as_sent = record { write = λ header is_summed chunks. record { header = header; chunks = chunks }; word_of = λ bytes. 0 }

-- what is seen of a conversation: packets by their sizes
pub data Line : Type 0 where
  PacketLine : (bytes : ℕ) → Line
  Says : Event SentPacket → Line
  GaveUp : GivenUp → Line

pub record Pair : Type 0 where
  pub a : Endpoint SentPacket
  pub b : Endpoint SentPacket
  pub from_a : List SentPacket
  pub from_b : List SentPacket
  pub log : List Line

pub data Move : Type 0 where
  Connect : (at_a : Bool) → Move
  Give : (place : ℕ) → (to_a : Bool) → Move
  Send : (at_a : Bool) → Message → SendOptions → Move
  TakeReady : (at_a : Bool) → Move
  Time : (now : ℕ) → Move
  Close : (at_a : Bool) → Move
  Shutdown : (at_a : Bool) → Move
  HandOver : (at_a : Bool) → Move
  TakeUp : (at_a : Bool) → HandoverState → Move
  Reset : (at_a : Bool) → (stream : ℕ) → Move

-- the words from this one on
abbrev pub counting_from : ℕ → Stream
counting_from n = record { u32_after = λ calls. n + length calls; u64_after = λ calls. n + length calls; bytes_after = λ calls k. [] }

abbrev pub new_end : (word : ℕ) → Endpoint SentPacket
new_end word = fresh defaults as_sent (counting_from word)

abbrev pub at_first : Pair
at_first = record { a = new_end 456; b = new_end 1000; from_a = []; from_b = []; log = [] }

-- ---- what is emitted is taken

abbrev pub line_of : Event SentPacket → Line
line_of (SendPacket p) = PacketLine (12 + length (chunks_bytes p.chunks))
line_of e = Says e

abbrev pub lines_of : List (Event SentPacket) → List Line
lines_of [] = []
lines_of (e ∷ es) = line_of e ∷ lines_of es

abbrev pub given_up_lines : List GivenUp → List Line
given_up_lines [] = []
given_up_lines (g ∷ gs) = GaveUp g ∷ given_up_lines gs

abbrev pub log_news : Endpoint SentPacket → List Line → List Line
log_news s log = log ++ (lines_of s.endpoint_state.context.emitted.events ++ given_up_lines s.endpoint_state.context.emitted.given_up)

abbrev pub took_a : Endpoint SentPacket → Pair → Pair
took_a s w = record w { a = drained s; from_a = w.from_a ++ packets_in s.endpoint_state.context.emitted.events; log = log_news s w.log }

abbrev pub took_b : Endpoint SentPacket → Pair → Pair
took_b s w = record w { b = drained s; from_b = w.from_b ++ packets_in s.endpoint_state.context.emitted.events; log = log_news s w.log }

-- ---- moves

abbrev pub give_packet : SentPacket → Endpoint SentPacket → Endpoint SentPacket
give_packet p s = on_packet (record { header = p.header; checksum = 0; chunks = p.chunks }) s

abbrev pub given_a : Option SentPacket → Pair → Pair
given_a None w = w
given_a (Some p) w = took_a (give_packet p w.a) w

abbrev pub given_b : Option SentPacket → Pair → Pair
given_b None w = w
given_b (Some p) w = took_b (give_packet p w.b) w

abbrev pub at_both : (EndpointState SentPacket → EndpointState SentPacket) → Pair → Pair
at_both row w = took_b (in_endpoint_state row w.b) (took_a (in_endpoint_state row w.a) w)

abbrev pub move : Move → Pair → Pair
move (Connect true) w = took_a (connect w.a) w
move (Connect false) w = took_b (connect w.b) w
move (Give k true) w = given_a (slice_get w.from_b k) w
move (Give k false) w = given_b (slice_get w.from_a k) w
move (Send true m o) w = took_a (in_endpoint_state (send m o) w.a) w
move (Send false m o) w = took_b (in_endpoint_state (send m o) w.b) w
move (TakeReady true) w = took_a (in_endpoint_state take_message w.a) w
move (TakeReady false) w = took_b (in_endpoint_state take_message w.b) w
move (Time now) w = at_both (advance now) w
move (Close true) w = took_a (in_endpoint_state close w.a) w
move (Close false) w = took_b (in_endpoint_state close w.b) w
move (Shutdown true) w = took_a (in_endpoint_state shutdown w.a) w
move (Shutdown false) w = took_b (in_endpoint_state shutdown w.b) w
move (HandOver true) w = took_a (in_endpoint_state hand_over w.a) w
move (HandOver false) w = took_b (in_endpoint_state hand_over w.b) w
move (TakeUp true h) w = took_a (in_endpoint_state (restore h) (new_end 456)) w
move (TakeUp false h) w = took_b (in_endpoint_state (restore h) (new_end 1000)) w
move (Reset true stream) w = took_a (in_endpoint_state (reset_streams (stream ∷ [])) w.a) w
move (Reset false stream) w = took_b (in_endpoint_state (reset_streams (stream ∷ [])) w.b) w

abbrev pub moves : List Move → Pair → Pair
moves [] w = w
moves (m ∷ ms) w = moves ms (move m w)

-- ---- what a conversation shows

abbrev pub after_moves : List Move → Pair
after_moves ms = moves ms at_first

-- what the later moves add to the log
abbrev pub then : (before later : List Move) → List Line
then before later = (moves later (record (after_moves before) { log = [] })).log

abbrev pub ready_b : List Move → List Message
ready_b ms = ready_at (after_moves ms).b

-- the results of requests to reset streams that b has sent

abbrev pub results_in : List ParameterTree → List ℕ
results_in [] = []
results_in (reset_response number result sender receiver ∷ ps) = result ∷ results_in ps
results_in (p ∷ ps) = results_in ps

abbrev pub results_of : List ChunkTree → List ℕ
results_of [] = []
results_of (re_config_chunk ps ∷ chunks) = results_in ps ++ results_of chunks
results_of (chunk ∷ chunks) = results_of chunks

abbrev pub results_from : List SentPacket → List ℕ
results_from [] = []
results_from (p ∷ ps) = results_of p.chunks ++ results_from ps

abbrev pub results_b : List Move → List ℕ
results_b ms = results_from (after_moves ms).from_b
