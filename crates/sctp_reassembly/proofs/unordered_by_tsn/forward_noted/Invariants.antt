use Rattle.std.proofs.Common.{◌≡◌, ◌≤◌}
use Rattle.sctp_fragments.specs.ReassemblyKey.{pair_rank}
use Rattle.sctp_reassembly.specs.UnorderedByTsn.{AreNoted, drop_below}
use Rattle.sctp_reassembly.specs.ReassemblyStreams.{unordered_bytes, unordered_fragments}
use Rattle.sctp_reassembly.proofs.NoteLemmas.{NotedOrDone}
use Rattle.sctp_reassembly.proofs.unordered_by_tsn.forward_noted.Given as goal

abbrev pub invariant-loop-id : goal.invariant-loop-id
invariant-loop-id l = record {
  same : drop_below (pair_rank l.first.number l.first.index) l.streams ≡ drop_below (pair_rank l.first.number l.first.index) l.fn.streams;
  fewer : unordered_bytes l.streams ≤ unordered_bytes l.fn.streams;
  fewer_fragments : unordered_fragments l.streams ≤ unordered_fragments l.fn.streams;
  noted : AreNoted l.fn.notes.entries l.fn.streams → NotedOrDone (pair_rank l.first.number l.first.index) l.id-iterator l.notes.entries l.streams;
}
