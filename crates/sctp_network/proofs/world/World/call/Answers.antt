use Rattle.std.proofs.Common.{ap, map}
use Rattle.std.proofs.lemmas.Result.{on_err_weaker}
use Rattle.spec_world.specs.Observations.{End, A, B}
use Rattle.spec_world.specs.World.{CallOf}
use Rattle.sctp_network_side.specs.SideView.{call_tree, end_tree, entry_tree}
use Rattle.sctp_network.specs.WorldView.{WorldValue, world_of}
use Rattle.sctp_network.proofs.InterruptedLemmas.{as_event, call_cut_a, call_cut_b}
use Rattle.sctp_network.proofs.world.World.call.Goals as goal

pub returns-in-A-clause-cut : goal.returns-in-A-clause-cut
returns-in-A-clause-cut g c =
    let v : WorldValue _ _ = record { a = c.self.inside.a; b = c.self.inside.b; log = map entry_tree c.self.inside.log.items; has_failed = c.self.inside.has_failed } in
    on_err_weaker c.call.result (λ cut.
    as_event g.R.Rng.stream g.C.Checksum.word_of v c.args.self.now c.self.view_is (CallOf (end_tree c.args.end) (call_tree c.args.call.now)) (CallOf A (call_tree c.args.call.now))
    (map entry_tree c.call.new.log.items) (ap (λ (x : End). CallOf x (call_tree c.args.call.now)) (ap end_tree c.in-A.is))
    (call_cut_a (end_tree c.args.end) (call_tree c.args.call.now) (world_of g.R.Rng.stream g.C.Checksum.word_of v) (map entry_tree c.call.new.log.items) (ap end_tree c.in-A.is) cut))
    c.call.ensures.cut

pub returns-in-B-clause-cut : goal.returns-in-B-clause-cut
returns-in-B-clause-cut g c =
    let v : WorldValue _ _ = record { a = c.self.inside.a; b = c.self.inside.b; log = map entry_tree c.self.inside.log.items; has_failed = c.self.inside.has_failed } in
    on_err_weaker c.call-in-B.result (λ cut.
    as_event g.R.Rng.stream g.C.Checksum.word_of v c.args.self.now c.self.view_is (CallOf (end_tree c.args.end) (call_tree c.args.call.now)) (CallOf B (call_tree c.args.call.now))
    (map entry_tree c.call-in-B.new.log.items) (ap (λ (x : End). CallOf x (call_tree c.args.call.now)) (ap end_tree c.in-B.is))
    (call_cut_b (end_tree c.args.end) (call_tree c.args.call.now) (world_of g.R.Rng.stream g.C.Checksum.word_of v) (map entry_tree c.call-in-B.new.log.items) (ap end_tree c.in-B.is) cut))
    c.call-in-B.ensures.cut
