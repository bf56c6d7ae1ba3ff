use Rattle.std.proofs.Common.{ap, map}
use Rattle.std.proofs.lemmas.Result.{on_err_weaker}
use Rattle.spec_world.specs.Observations.{End, A, B}
use Rattle.spec_world.specs.World.{AdvanceTime}
use Rattle.sctp_network_side.specs.SideView.{end_tree, entry_tree}
use Rattle.sctp_network.specs.WorldView.{WorldValue, world_of}
use Rattle.sctp_network.proofs.InterruptedLemmas.{as_event, time_cut_a, time_cut_b}
use Rattle.sctp_network.proofs.world.World.advance_time.Goals as goal

pub returns-in-A-clause-cut : goal.returns-in-A-clause-cut
returns-in-A-clause-cut g c =
    let v : WorldValue _ _ = record { a = c.self.inside.a; b = c.self.inside.b; log = map entry_tree c.self.inside.log.items; has_failed = c.self.inside.has_failed } in
    on_err_weaker c.advance_time.result (λ cut.
    as_event g.R.Rng.stream g.C.Checksum.word_of v c.args.self.now c.self.view_is (AdvanceTime (end_tree c.args.end) c.args.now) (AdvanceTime A c.args.now)
    (map entry_tree c.advance_time.new.log.items) (ap (λ (x : End). AdvanceTime x c.args.now) (ap end_tree c.in-A.is))
    (time_cut_a (end_tree c.args.end) c.args.now (world_of g.R.Rng.stream g.C.Checksum.word_of v) (map entry_tree c.advance_time.new.log.items) (ap end_tree c.in-A.is) cut))
    c.advance_time.ensures.cut

pub returns-in-B-clause-cut : goal.returns-in-B-clause-cut
returns-in-B-clause-cut g c =
    let v : WorldValue _ _ = record { a = c.self.inside.a; b = c.self.inside.b; log = map entry_tree c.self.inside.log.items; has_failed = c.self.inside.has_failed } in
    on_err_weaker c.advance_time-in-B.result (λ cut.
    as_event g.R.Rng.stream g.C.Checksum.word_of v c.args.self.now c.self.view_is (AdvanceTime (end_tree c.args.end) c.args.now) (AdvanceTime B c.args.now)
    (map entry_tree c.advance_time-in-B.new.log.items) (ap (λ (x : End). AdvanceTime x c.args.now) (ap end_tree c.in-B.is))
    (time_cut_b (end_tree c.args.end) c.args.now (world_of g.R.Rng.stream g.C.Checksum.word_of v) (map entry_tree c.advance_time-in-B.new.log.items) (ap end_tree c.in-B.is) cut))
    c.advance_time-in-B.ensures.cut
