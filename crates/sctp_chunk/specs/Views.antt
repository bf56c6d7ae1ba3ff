-- What the program's values say, without where they lie in memory.
use Rattle.std.specs.Prelude.{Bool, true, false}
use Rattle.sctp_serial.specs.declared.types.StreamKey.{StreamKey}
use Rattle.sctp_serial.specs.declared.types.StreamKey.TheVariants as keys
use Rattle.sctp_wire.specs.Item.{Item}
use Rattle.sctp_chunk.specs.declared.raw.RawChunk.{RawChunk}
use Rattle.sctp_chunk.specs.declared.data.Data.{Data}
use Rattle.sctp_chunk.specs.declared.data.DataView.{DataView}
use Rattle.sctp_chunk.specs.declared.data.DataChunk.{DataChunk}
use Rattle.sctp_chunk.specs.declared.data.IDataChunk.{IDataChunk}
use Rattle.sctp_chunk.specs.declared.fragment_chunk.FragmentChunk.{FragmentChunk}
use Rattle.sctp_chunk.specs.declared.sack.SackChunk.{SackChunk}
use Rattle.sctp_chunk.specs.declared.forward_tsn.ForwardTsnChunk.{ForwardTsnChunk}
use Rattle.sctp_chunk.specs.declared.forward_tsn.IForwardTsnChunk.{IForwardTsnChunk}
use Rattle.sctp_chunk.specs.Chunk.{ChunkTree, FragmentTree, data_chunk, idata_chunk, fragment_chunk, sack_chunk, forward_tsn_chunk, i_forward_tsn_chunk}
use Rattle.sctp_chunk.specs.Written.{key_stream}

abbrev pub raw_chunk : RawChunk → Item
raw_chunk r = record { first = r.typ; second = r.flags; value = r.value.now }

abbrev pub is_unordered_key : StreamKey → Bool
is_unordered_key (keys.Ordered id) = false
is_unordered_key (keys.Unordered id) = true

abbrev pub fragment_tree : Data → FragmentTree
fragment_tree d = record {
  stream_id = key_stream d.stream_key;
  is_unordered = is_unordered_key d.stream_key;
  ssn = d.ssn.0;
  mid = d.mid.0;
  fsn = d.fsn.0;
  ppid = d.ppid.0;
  payload = d.payload.items;
  is_beginning = d.is_beginning;
  is_end = d.is_end;
}

-- the fragment that lies in the bytes
abbrev pub viewed_fragment : DataView → FragmentTree
viewed_fragment v = record {
  stream_id = key_stream v.stream_key;
  is_unordered = is_unordered_key v.stream_key;
  ssn = v.ssn.0;
  mid = v.mid.0;
  fsn = v.fsn.0;
  ppid = v.ppid.0;
  payload = v.payload.now;
  is_beginning = v.is_beginning;
  is_end = v.is_end;
}

-- the DATA, or the I-DATA, that carries it
abbrev pub viewed_data : DataView → ChunkTree
viewed_data v = data_chunk v.tsn.0 v.immediate_ack (viewed_fragment v)

abbrev pub viewed_idata : DataView → ChunkTree
viewed_idata v = idata_chunk v.tsn.0 v.immediate_ack (viewed_fragment v)

abbrev pub data_chunk_tree : DataChunk → ChunkTree
data_chunk_tree c = data_chunk c.tsn.0 c.immediate_ack (fragment_tree c.data)

abbrev pub idata_chunk_tree : IDataChunk → ChunkTree
idata_chunk_tree c = idata_chunk c.tsn.0 c.immediate_ack (fragment_tree c.data)

abbrev pub fragment_chunk_tree : FragmentChunk → ChunkTree
fragment_chunk_tree c = fragment_chunk c.is_interleaved c.immediate_ack (c.tsn.0, fragment_tree c.fragment.now)

abbrev pub sack_chunk_tree : SackChunk → ChunkTree
sack_chunk_tree c = sack_chunk (record { cumulative_tsn_ack = c.cumulative_tsn_ack.0; a_rwnd = c.a_rwnd; gap_ack_blocks = c.gap_ack_blocks.items; duplicate_tsns = c.duplicate_tsns.items })

abbrev pub forward_tsn_tree : ForwardTsnChunk → ChunkTree
forward_tsn_tree c = forward_tsn_chunk c.new_cumulative_tsn.0 c.skipped_streams.items

abbrev pub i_forward_tsn_tree : IForwardTsnChunk → ChunkTree
i_forward_tsn_tree c = i_forward_tsn_chunk c.new_cumulative_tsn.0 c.skipped_streams.items
