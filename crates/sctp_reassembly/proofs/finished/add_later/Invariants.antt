use Rattle.std.specs.Map.{values_of}
use Rattle.std.specs.List.{All}
use Rattle.sctp_reassembly.proofs.FinishedLemmas.{AreSeen}
use Rattle.sctp_reassembly.proofs.finished.add_later.Given as goal

abbrev pub invariant-loop-interval : goal.invariant-loop-interval
invariant-loop-interval g l = record {
  next : (goal.iterator-loop-interval g).can_next l.interval-iterator;
  finite : (goal.iterator-loop-interval g).is_finite l.interval-iterator;
  keys : All g.K.ReassemblyKey.is_key l.keys.keys;
  seen : AreSeen g.K.ReassemblyKey.number g.K.ReassemblyKey.index l.keys (values_of l.later.entries) l.interval-iterator;
}
