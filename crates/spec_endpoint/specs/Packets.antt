-- Packets that go out, and what is emitted.
use Rattle.std.specs.Prelude.{ℕ, ◌+◌, ◌-◌, ◌*◌, ◌/◌, ◌&&◌, not, nat_le, Bool, true, false, List, [], ◌∷◌, ◌++◌, length}
use Rattle.sctp_wire.specs.Serialize.{is_encodable}
use Rattle.sctp_packet.specs.Chunk.{ChunkTree}
use Rattle.sctp_packet.specs.Written.{chunk_item, chunk_is_whole, chunk_bytes, chunks_bytes}
use Rattle.sctp_packet.specs.Packet.{HeaderTree}
use Rattle.sctp_state.specs.declared.api.ErrorKind.{ErrorKind}
use Rattle.sctp_state.specs.Numbers.{more}
use Rattle.sctp_state.specs.Options.{Options}
use Rattle.sctp_capabilities.specs.Capabilities.{zero_checksum_enabled}
use Rattle.sctp_state.specs.Events.{Event, SendPacket, OnError, emit_event, nothing_emitted}
use Rattle.spec_endpoint.specs.Association.{Tcb, Context, Endpoint}

-- ---- a packet that is put together

pub record PacketDraft : Type 0 where
  pub tag : ℕ
  pub is_summed : Bool
  pub limit : ℕ  -- in bytes
  pub chunks : List ChunkTree

-- with nothing in it
abbrev pub clear_chunks : PacketDraft → PacketDraft
clear_chunks p = record p { chunks = [] }

-- the bytes that are left
abbrev pub room : PacketDraft → ℕ
room p = p.limit - (12 + length (chunks_bytes p.chunks))

-- the chunk can be written, and there is room for it
abbrev pub fits : PacketDraft → ChunkTree → Bool
fits p chunk = is_encodable (chunk_item chunk) (chunk_is_whole chunk) && nat_le (length (chunk_bytes chunk)) (room p)

abbrev pub added_if : (fits : Bool) → ChunkTree → PacketDraft → PacketDraft
added_if true chunk p = record p { chunks = p.chunks ++ chunk ∷ [] }
added_if false chunk p = p

-- a chunk that doesn't fit is left out
abbrev pub add : ChunkTree → PacketDraft → PacketDraft
add chunk p = added_if (fits p chunk) chunk p

abbrev pub add_all : List ChunkTree → PacketDraft → PacketDraft
add_all [] p = p
add_all (chunk ∷ chunks) p = add_all chunks (add chunk p)

abbrev pub is_some_chunk : List ChunkTree → Bool
is_some_chunk [] = false
is_some_chunk (chunk ∷ chunks) = true

abbrev pub has_chunks : PacketDraft → Bool
has_chunks p = is_some_chunk p.chunks

-- a multiple of 4
abbrev pub round_down_to_4 : ℕ → ℕ
round_down_to_4 mtu = mtu / 4 * 4

-- an empty packet under this tag, with a checksum
abbrev pub packet_to : (tag limit : ℕ) → PacketDraft
packet_to tag limit = record { tag = tag; is_summed = true; limit = limit; chunks = [] }

-- an empty packet to the peer
abbrev pub new_packet : Options → Tcb → PacketDraft
new_packet o t = record {
  tag = t.identity.peer_tag;
  is_summed = not (zero_checksum_enabled t.capabilities);
  limit = round_down_to_4 o.mtu;
  chunks = [];
}

-- ---- what is emitted

-- the packets among events
abbrev pub packets_in : {P : Type 0} → List (Event P) → List P
packets_in [] = []
packets_in (SendPacket p ∷ es) = p ∷ packets_in es
packets_in (e ∷ es) = packets_in es

-- all that was emitted is taken
abbrev pub drained : {P : Type 0} → Endpoint P → Endpoint P
drained s = record s { endpoint_state = record s.endpoint_state { context = record s.endpoint_state.context { emitted = nothing_emitted } } }

abbrev pub emit_event_in : {P : Type 0} → Event P → Context P → Context P
emit_event_in e c = record c { emitted = emit_event e c.emitted }

abbrev pub emit_error : {P : Type 0} → ErrorKind → List ℕ → Context P → Context P
emit_error kind text c = emit_event_in (OnError kind text) c

abbrev pub header_to : Options → ℕ → HeaderTree
header_to o tag = record { source_port = o.local_port; destination_port = o.remote_port; verification_tag = tag }

abbrev pub emit_if : {P : Type 0} → (has_chunks : Bool) → PacketDraft → Context P → Context P
emit_if true p c = record (emit_event_in (SendPacket (c.pack.write (header_to c.options p.tag) p.is_summed p.chunks)) c) {
  counts = record c.counts { tx_packets = more c.counts.tx_packets };
}
emit_if false p c = c

-- a packet goes out, where something was put into it
abbrev pub emit : {P : Type 0} → PacketDraft → Context P → Context P
emit p c = emit_if (has_chunks p) p c

-- one chunk goes out to the peer
abbrev pub emit_chunk : {P : Type 0} → ChunkTree → Tcb → Context P → Context P
emit_chunk chunk t c = emit (add chunk (new_packet c.options t)) c
