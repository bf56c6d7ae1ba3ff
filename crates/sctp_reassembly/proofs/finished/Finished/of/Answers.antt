use Rattle.sctp_fragments.specs.Interval.{held_of, lists_of}
use Rattle.sctp_reassembly.specs.Places.{all_of}
use Rattle.sctp_reassembly.proofs.FinishedLemmas.{none_unknown}
use Rattle.sctp_reassembly.proofs.finished.Finished.of.Goals as goal

pub returns-in-Err : goal.returns-in-Err
returns-in-Err g c = none_unknown g.K.ReassemblyKey.number g.K.ReassemblyKey.index 0 (lists_of (held_of g.K.ReassemblyKey.number g.K.ReassemblyKey.index) (all_of c.args.first.now c.args.later.now.entries))
