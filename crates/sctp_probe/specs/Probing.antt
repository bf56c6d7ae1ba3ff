-- What `probe` answers.
use Rattle.std.specs.Prelude.{◌≡◌, ℕ, ◌<◌, Bool, true, List, [], ◌∷◌, ◌++◌, length, Option, Some, None, Result, Ok, Err, codes, take, drop}
use Rattle.std.specs.Fmt.{decimal}
use Rattle.hex.specs.Hex.{encode_lower}
use Rattle.sctp_wire.specs.Checksum.{with_zero_field}
use Rattle.sctp_wire.specs.declared.checksum.Policy.{Policy}
use Rattle.sctp_packet.specs.declared.packet.PacketParseError.{PacketParseError}
use Rattle.sctp_packet.specs.declared.packet.PacketParseError.TheVariants as faults
use Rattle.sctp_packet.specs.Faults.{fault_number}
use Rattle.sctp_packet.specs.Chunk.{ChunkTree, FragmentTree, data_chunk, sack_chunk}
use Rattle.sctp_packet.specs.Written.{chunks_bytes}
use Rattle.sctp_packet.specs.Packet.{HeaderTree, PacketTree, IsFault, Accepts, Refuses, unsummed_bytes, packet_bytes}
use Rattle.sctp_probe.specs.Checksum.{byte_sum}
use Rattle.sctp_probe.specs.declared.answer.Probe.{Probe}
use Rattle.sctp_probe.specs.declared.answer.ProbeError.{ProbeError}
use Rattle.sctp_probe.specs.declared.answer.ProbeError.TheVariants as errors

-- no method, and the checksum is verified
abbrev pub default_policy : Policy
default_policy = record { disable_checksum_verification = Bool.false; zero_checksum_alternate_error_detection_method = record { 0 = 0 } }

-- the word of a packet: the sum of its bytes, with the checksum's field as zeros
abbrev pub packet_word : List ℕ → ℕ
packet_word bytes = byte_sum (with_zero_field (take 8 bytes) (drop 12 bytes))

-- ---- messages

-- a message from its beginning to its end, with something in it
pub record IsWhole (f : FragmentTree) : Type 0 where
  pub beginning : f.is_beginning ≡ true
  pub ending : f.is_end ≡ true
  pub some : 0 < length f.payload

-- the chunks are one DATA chunk alone, which holds a whole message
pub record IsMessage (chunks : List ChunkTree) (tsn : ℕ) (f : FragmentTree) : Type 0 where
  pub immediate : Bool
  pub alone : chunks ≡ data_chunk tsn immediate f ∷ []
  pub whole : IsWhole f

-- ---- replies

-- the window that each reply advertises
abbrev pub reply_window : ℕ
reply_window = 4718592

-- a SACK of the TSN, without blocks and duplicates
abbrev pub reply_chunk : ℕ → ChunkTree
reply_chunk tsn = sack_chunk (record { cumulative_tsn_ack = tsn; a_rwnd = reply_window; gap_ack_blocks = []; duplicate_tsns = [] })

-- the packet of these chunks, with the word of its bytes in the checksum's field
abbrev pub summed_packet : HeaderTree → List ChunkTree → List ℕ
summed_packet h chunks = packet_bytes h (byte_sum (unsummed_bytes h (chunks_bytes chunks))) chunks

-- the ports exchanged
abbrev pub reply_header : HeaderTree → HeaderTree
reply_header h = record { source_port = h.destination_port; destination_port = h.source_port; verification_tag = h.verification_tag }

-- the reply to a packet with this header and TSN: the ports exchanged, the same tag, and one SACK
abbrev pub reply_bytes : HeaderTree → ℕ → List ℕ
reply_bytes h tsn = summed_packet (reply_header h) (reply_chunk tsn ∷ [])

-- ---- answers

-- an answer: a message (its stream, protocol and payload) and the reply, a refusal with its number, or neither
pub data Answer : Type 0 where
  replied : ℕ → ℕ → List ℕ → List ℕ → Answer
  refused : ℕ → Answer
  other : Answer

-- how a fault is reported
abbrev pub refusal_of : PacketParseError → ProbeError
refusal_of faults.Memory = errors.Memory
refusal_of fault = errors.Refused (fault_number fault)

pub record Replies (bytes : List ℕ) (stream ppid : ℕ) (payload reply : List ℕ) : Type 0 where
  pub packet : PacketTree
  pub tsn : ℕ
  pub fragment : FragmentTree
  pub accepted : Accepts default_policy (packet_word bytes) bytes packet
  pub message : IsMessage packet.chunks tsn fragment
  pub stream_is : stream ≡ fragment.stream_id
  pub ppid_is : ppid ≡ fragment.ppid
  pub payload_is : payload ≡ fragment.payload
  pub reply_is : reply ≡ reply_bytes packet.header tsn

pub record RepliesNot (bytes : List ℕ) : Type 0 where
  pub packet : PacketTree
  pub accepted : Accepts default_policy (packet_word bytes) bytes packet
  pub no_message : (tsn : ℕ) (f : FragmentTree) → IsMessage packet.chunks tsn f → ⊥

pub record RefusesAs (bytes : List ℕ) (n : ℕ) : Type 0 where
  pub fault : PacketParseError
  pub is_fault : IsFault fault
  pub refused : Refuses default_policy (packet_word bytes) bytes fault
  pub number : n ≡ fault_number fault

-- the answer to the bytes
abbrev pub Probes : List ℕ → Answer → Type 0
Probes bytes (replied stream ppid payload reply) = Replies bytes stream ppid payload reply
Probes bytes (refused n) = RefusesAs bytes n
Probes bytes other = RepliesNot bytes

-- the answer that `probe` gave, unless memory ran out
abbrev pub answer_of : Result Probe ProbeError → Option Answer
answer_of (Ok p) = Some (replied p.message.stream_id.0 p.message.ppid.0 p.message.payload.items p.reply.items)
answer_of (Err (errors.Refused n)) = Some (refused n)
answer_of (Err errors.Other) = Some other
answer_of (Err errors.Memory) = None

-- its text
abbrev pub answer_text : Answer → List ℕ
answer_text (replied stream ppid payload reply) =
    codes "message " ++ (decimal stream ++ (codes " " ++ (decimal ppid ++ (codes " " ++ (encode_lower payload
    ++ ((10 ∷ codes "sack ") ++ (encode_lower reply ++ (10 ∷ []))))))))
answer_text (refused n) = codes "probe refused " ++ (decimal n ++ (10 ∷ []))
answer_text other = codes "probe other" ++ (10 ∷ [])
