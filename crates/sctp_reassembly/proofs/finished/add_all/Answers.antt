use Rattle.std.proofs.Common.{Some, sym, subst}
use Rattle.std.specs.Prelude.{OnOk}
use Rattle.sctp_fragments.specs.Interval.{held_of, run_of, lists_of}
use Rattle.sctp_reassembly.specs.Places.{all_of, runs_at}
use Rattle.sctp_reassembly.specs.Finished.{NoneMissed}
use Rattle.sctp_reassembly.proofs.FinishedLemmas.{none_with}
use Rattle.sctp_reassembly.proofs.finished.add_all.Goals as goal

pub returns-in-Some-clause-none : goal.returns-in-Some-clause-none
returns-in-Some-clause-none g c =
    let f = held_of g.K.ReassemblyKey.number g.K.ReassemblyKey.index in
    subst (λ first. OnOk c.add_complete.result (NoneMissed g.K.ReassemblyKey.number g.K.ReassemblyKey.index 0 (Some c.add_complete.new.keys) (lists_of f (all_of first c.args.later.now.entries)))) (sym c.in-Some.is)
    (none_with g.K.ReassemblyKey.number g.K.ReassemblyKey.index c.add_complete.result 0 c.add_later.new.keys c.add_complete.new.keys (run_of f c.in-Some.interval) (runs_at g.K.ReassemblyKey.number g.K.ReassemblyKey.index c.args.later.now.entries) c.add_complete.ensures.kept c.add_complete.ensures.added c.in_ok-add_later.ensures.none)
