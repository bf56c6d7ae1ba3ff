-- Lengths of chunks' values.
use Rattle.std.proofs.Common.{◌≡◌, ℕ, ◌+◌, ◌*◌, Bool, List, ◌++◌, length, map, refl, append_assoc, arith}
use Rattle.std.specs.List.{flat_map}
use Rattle.std.proofs.lemmas.List.{length-append}
use Rattle.sctp_serial.specs.declared.types.tsn.Tsn.{Tsn}
use Rattle.sctp_serial.specs.declared.types.StreamKey.{StreamKey}
use Rattle.sctp_serial.specs.declared.types.StreamKey.TheVariants as keys
use Rattle.sctp_serial.specs.Keys.{stream_of}
use Rattle.sctp_wire.specs.Field.{be16, be32, length_be32}
use Rattle.sctp_wire.specs.Serialize.{inner_items}
use Rattle.sctp_wire.specs.Parameter.{parameter_item}
use Rattle.sctp_wire.proofs.SerializeLemmas.{length_entries}
use Rattle.sctp_chunk.specs.declared.sack.GapAckBlock.{GapAckBlock}
use Rattle.sctp_chunk.specs.declared.forward_tsn.SkippedStream.{SkippedStream}
use Rattle.sctp_chunk.specs.Chunk.{FragmentTree, InitTree, SackTree, data_chunk, idata_chunk, init_chunk, init_ack_chunk, sack_chunk, shutdown_chunk, forward_tsn_chunk, i_forward_tsn_chunk}
use Rattle.sctp_chunk.specs.Written.{chunk_value, data_value, idata_value, init_fields, sack_value, forward_value, skip_bytes, key_stream, block_bytes, length_block_bytes, tsn_bytes}

pub length_data : (tsn : ℕ) (i : Bool) (f : FragmentTree) → length (chunk_value (data_chunk tsn i f)) ≡ 12 + length f.payload
unfolding chunk_value data_value be16 be32
length_data tsn i f = omega arith

pub length_idata : (tsn : ℕ) (i : Bool) (f : FragmentTree) → length (chunk_value (idata_chunk tsn i f)) ≡ 16 + length f.payload
unfolding chunk_value idata_value be16 be32
length_idata tsn i f = omega arith

-- the same of their fields
pub length_data_fields : (tsn stream ssn ppid : ℕ) (payload : List ℕ) → length (be32 tsn ++ (be16 stream ++ (be16 ssn ++ (be32 ppid ++ payload)))) ≡ 12 + length payload
unfolding be16 be32
length_data_fields tsn stream ssn ppid payload = omega arith

pub length_idata_fields : (tsn stream reserved mid number : ℕ) (payload : List ℕ)
    → length (be32 tsn ++ (be16 stream ++ (be16 reserved ++ (be32 mid ++ (be32 number ++ payload))))) ≡ 16 + length payload
unfolding be16 be32
length_idata_fields tsn stream reserved mid number payload = omega arith

pub length_shutdown : (tsn : ℕ) → length (chunk_value (shutdown_chunk tsn)) ≡ 4
unfolding chunk_value be32
length_shutdown tsn = refl

length_blocks : (bs : List GapAckBlock) → length (flat_map block_bytes bs) ≡ length bs * 4
length_blocks bs = length_entries block_bytes 4 length_block_bytes bs

length_tsns : (ts : List Tsn) → length (flat_map tsn_bytes ts) ≡ length ts * 4
length_tsns ts = length_entries tsn_bytes 4 (λ t. length_be32 t.0) ts

pub length_sack : (s : SackTree) → length (chunk_value (sack_chunk s)) ≡ 12 + (length s.gap_ack_blocks * 4 + length s.duplicate_tsns * 4)
unfolding chunk_value sack_value be16 be32
length_sack s = omega (arith, length_blocks s.gap_ack_blocks, length_tsns s.duplicate_tsns, length-append (flat_map block_bytes s.gap_ack_blocks) (flat_map tsn_bytes s.duplicate_tsns))

pub length_init : (t : InitTree) → length (chunk_value (init_chunk t)) ≡ 16 + length (inner_items (map parameter_item t.parameters))
unfolding chunk_value init_fields be16 be32
length_init t = omega arith

pub length_init_ack : (t : InitTree) → length (chunk_value (init_ack_chunk t)) ≡ 16 + length (inner_items (map parameter_item t.parameters))
unfolding chunk_value init_fields be16 be32
length_init_ack t = omega arith

-- what was written behind what was written
pub written_behind : (o w f fs inner : List ℕ) → w ≡ o ++ f → f ≡ fs → w ++ inner ≡ o ++ (fs ++ inner)
written_behind o w f fs inner a b = rw (a, b) (append_assoc o fs inner)

pub length_forward : (tsn : ℕ) (skipped : List SkippedStream) → length (chunk_value (forward_tsn_chunk tsn skipped)) ≡ 4 + length (flat_map skip_bytes skipped)
unfolding chunk_value forward_value be32
length_forward tsn skipped = omega arith

pub length_i_forward : (tsn : ℕ) (skipped : List SkippedStream) → length (chunk_value (i_forward_tsn_chunk tsn skipped)) ≡ 4 + length (flat_map skip_bytes skipped)
unfolding chunk_value forward_value be32
length_i_forward tsn skipped = omega arith

-- the stream of a key
pub key_id : (key : StreamKey) → (stream_of key).0 ≡ key_stream key
key_id (keys.Ordered id) = refl
key_id (keys.Unordered id) = refl
