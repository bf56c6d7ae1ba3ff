use Rattle.sctp_fragments.specs.Interval.{held_of, run_of}
use Rattle.sctp_fragments.proofs.PlaceLemmas.{some_run, whole_run}
use Rattle.sctp_fragments.proofs.interval.Interval.is_complete.Goals as goal

pub returns-then-first : goal.returns-then-first
returns-then-first g c =
    let f = held_of g.K.ReassemblyKey.number g.K.ReassemblyKey.index in
    whole_run (run_of f c.args.self.now) (f c.first.result.now) (f c.last.result.now) (some_run f c.args.self.now) c.first.ensures c.last.ensures c.if-first.true
