use Rattle.std.proofs.Common.{◌≡◌, ◌++◌, List, length}
use Rattle.std.specs.Map.{values_of}
use Rattle.sctp_fragments.specs.Held.{bytes_of}
use Rattle.sctp_fragments.specs.Interval.{held_of, entries_of}
use Rattle.sctp_reassembly.proofs.dropped.sums_of.Given as goal

abbrev pub invariant-loop-interval : goal.invariant-loop-interval
invariant-loop-interval g l = record {
  next : (goal.iterator-loop-interval g).can_next l.interval-iterator;
  finite : (goal.iterator-loop-interval g).is_finite l.interval-iterator;
  sums : (front : List _) × ((values_of l.later.entries ≡ front ++ l.interval-iterator) × ((l.bytes ≡ bytes_of (entries_of (held_of g.K.ReassemblyKey.number g.K.ReassemblyKey.index) front)) × (l.fragments ≡ length (entries_of (held_of g.K.ReassemblyKey.number g.K.ReassemblyKey.index) front))));
}
