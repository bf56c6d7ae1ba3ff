-- What the program's values say, without where they lie in memory.
use Rattle.std.specs.Prelude.{ℕ, [], map}
use Rattle.sctp_chunk.specs.Chunk.{FragmentTree}
use Rattle.sctp_chunk.specs.Written.{key_stream}
use Rattle.sctp_chunk.specs.Views.{is_unordered_key, fragment_tree}
use Rattle.sctp_chunk.specs.declared.data.Data.{Data}
use Rattle.sctp_serial.specs.declared.types.tsn.Tsn.{Tsn}
use Rattle.sctp_tx_outstanding.specs.declared.outstanding_data.Filling.{Filling}
use Rattle.sctp_tx_outstanding.specs.Resending.{Resent}
use Rattle.sctp_tx_outstanding.specs.declared.kept.LastFragment.{LastFragment}
use Rattle.sctp_tx_outstanding.specs.declared.outstanding_data.Discarded.{Discarded}
use Rattle.sctp_tx_outstanding.specs.declared.passed.ForwardPoint as given
use Rattle.sctp_tx_outstanding.specs.Forward.{ForwardPoint}
use Rattle.sctp_tx_outstanding.specs.OutstandingData.{Discard, Outstanding}
use Rattle.sctp_tx_outstanding.specs.Touched.{entries_in}

abbrev pub discard_of : Discarded → Discard
discard_of d = record { stream = d.stream_id.0; number = d.message_id.0 }

abbrev pub last_tree : LastFragment → FragmentTree
last_tree l = record {
  stream_id = key_stream l.stream_key;
  is_unordered = is_unordered_key l.stream_key;
  ssn = l.ssn.0;
  mid = l.mid.0;
  fsn = l.fsn.0;
  ppid = l.ppid.0;
  payload = [];
  is_beginning = l.is_beginning;
  is_end = l.is_end;
}

abbrev pub point_of : given.ForwardPoint → ForwardPoint
point_of p = record { count = p.count; entries = entries_in p.touched.items }

abbrev pub chunk_of : Tsn × Data → ℕ × FragmentTree
chunk_of c = (c.0.0, fragment_tree c.1)

abbrev pub resent_of : Outstanding → Filling → Resent
resent_of d f = record { outstanding = d; chunks = map chunk_of f.chunks.items; room = f.room; window = f.window }
