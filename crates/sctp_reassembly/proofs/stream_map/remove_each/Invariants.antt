use Rattle.std.proofs.Common.{◌≡◌, drop}
use Rattle.std.specs.List.Sorted.{IsStrictlySortedBy}
use Rattle.std.specs.Map.{keys_of}
use Rattle.std.specs.Ordering.{nat_cmp}
use Rattle.sctp_reassembly.specs.ReassemblyStreams.{AreCounted}
use Rattle.sctp_reassembly.proofs.ForgetLemmas.{without}
use Rattle.sctp_reassembly.proofs.stream_map.remove_each.Given as goal

abbrev pub invariant-loop-id : goal.invariant-loop-id
invariant-loop-id g l = record {
  streams : without (drop l.id-index l.ids) l.streams.entries ≡ without l.ids l.fn.streams.entries;
  counted : AreCounted g.S.ReassemblyStream.held l.bytes l.fragments l.streams.entries;
  ordered : IsStrictlySortedBy nat_cmp (keys_of l.streams.entries);
}
