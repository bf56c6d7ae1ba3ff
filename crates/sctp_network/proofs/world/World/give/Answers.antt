use Rattle.std.proofs.Common.{ap, map}
use Rattle.std.proofs.lemmas.Result.{on_err_weaker}
use Rattle.spec_world.specs.Observations.{End, A, B}
use Rattle.spec_world.specs.World.{Give}
use Rattle.sctp_network_side.specs.SideView.{end_tree, entry_tree}
use Rattle.sctp_network.specs.WorldView.{WorldValue, world_of}
use Rattle.sctp_network.proofs.InterruptedLemmas.{as_event, give_cut_a, give_cut_b}
use Rattle.sctp_network.proofs.world.World.give.Goals as goal

pub returns-in-A-clause-cut : goal.returns-in-A-clause-cut
returns-in-A-clause-cut g c =
    let v : WorldValue _ _ = record { a = c.self.inside.a; b = c.self.inside.b; log = map entry_tree c.self.inside.log.items; has_failed = c.self.inside.has_failed } in
    on_err_weaker c.give.result (λ cut.
    as_event g.R.Rng.stream g.C.Checksum.word_of v c.args.self.now c.self.view_is (Give c.args.number (end_tree c.args.end)) (Give c.args.number A)
    (map entry_tree c.give.new.log.items) (ap (λ (x : End). Give c.args.number x) (ap end_tree c.in-A.is))
    (give_cut_a (end_tree c.args.end) c.args.number (world_of g.R.Rng.stream g.C.Checksum.word_of v) (map entry_tree c.give.new.log.items) (ap end_tree c.in-A.is) cut))
    c.give.ensures.cut

pub returns-in-B-clause-cut : goal.returns-in-B-clause-cut
returns-in-B-clause-cut g c =
    let v : WorldValue _ _ = record { a = c.self.inside.a; b = c.self.inside.b; log = map entry_tree c.self.inside.log.items; has_failed = c.self.inside.has_failed } in
    on_err_weaker c.give-in-B.result (λ cut.
    as_event g.R.Rng.stream g.C.Checksum.word_of v c.args.self.now c.self.view_is (Give c.args.number (end_tree c.args.end)) (Give c.args.number B)
    (map entry_tree c.give-in-B.new.log.items) (ap (λ (x : End). Give c.args.number x) (ap end_tree c.in-B.is))
    (give_cut_b (end_tree c.args.end) c.args.number (world_of g.R.Rng.stream g.C.Checksum.word_of v) (map entry_tree c.give-in-B.new.log.items) (ap end_tree c.in-B.is) cut))
    c.give-in-B.ensures.cut
