use Rattle.std.proofs.Common.{refl, ap, map}
use Rattle.std.proofs.lemmas.Result.{on_ok_weaker, on_err_weaker}
use Rattle.spec_world.specs.Observations.{End, A, B}
use Rattle.spec_world.specs.World.{GiveForeign}
use Rattle.sctp_network_side.specs.SideView.{end_tree, entry_tree}
use Rattle.sctp_network.specs.WorldView.{WorldValue, world_of}
use Rattle.sctp_network.proofs.InterruptedLemmas.{as_event, foreign_cut_a, foreign_cut_b}
use Rattle.sctp_network.proofs.ForeignBytesLemmas.{foreign_bytes_to_a, foreign_bytes_to_b}
use Rattle.sctp_network.proofs.world.World.inject.Goals as goal

pub returns-in-A-clause-ok : goal.returns-in-A-clause-ok
returns-in-A-clause-ok g c =
    on_ok_weaker c.inject.result (λ comes.
    foreign_bytes_to_a g.R.Rng.stream g.C.Checksum.word_of
    (record { a = c.self.inside.a; b = c.self.inside.b; log = map entry_tree c.self.inside.log.items; has_failed = c.self.inside.has_failed }) c.args.self.now
    (record { a = c.inject.new.self; b = c.self.inside.b; log = map entry_tree c.inject.new.log.items; has_failed = c.self.inside.has_failed }) c.self.view_is
    (end_tree c.args.end) c.args.bytes.now (ap end_tree c.in-A.is) comes refl) c.inject.ensures.met

pub returns-in-B-clause-ok : goal.returns-in-B-clause-ok
returns-in-B-clause-ok g c =
    on_ok_weaker c.inject-in-B.result (λ comes.
    foreign_bytes_to_b g.R.Rng.stream g.C.Checksum.word_of
    (record { a = c.self.inside.a; b = c.self.inside.b; log = map entry_tree c.self.inside.log.items; has_failed = c.self.inside.has_failed }) c.args.self.now
    (record { a = c.self.inside.a; b = c.inject-in-B.new.self; log = map entry_tree c.inject-in-B.new.log.items; has_failed = c.self.inside.has_failed }) c.self.view_is
    (end_tree c.args.end) c.args.bytes.now (ap end_tree c.in-B.is) comes refl) c.inject-in-B.ensures.met

pub returns-in-A-clause-cut : goal.returns-in-A-clause-cut
returns-in-A-clause-cut g c =
    let v : WorldValue _ _ = record { a = c.self.inside.a; b = c.self.inside.b; log = map entry_tree c.self.inside.log.items; has_failed = c.self.inside.has_failed } in
    on_err_weaker c.inject.result (λ cut.
    as_event g.R.Rng.stream g.C.Checksum.word_of v c.args.self.now c.self.view_is (GiveForeign (end_tree c.args.end) c.args.bytes.now) (GiveForeign A c.args.bytes.now)
    (map entry_tree c.inject.new.log.items) (ap (λ (x : End). GiveForeign x c.args.bytes.now) (ap end_tree c.in-A.is))
    (foreign_cut_a (end_tree c.args.end) c.args.bytes.now (world_of g.R.Rng.stream g.C.Checksum.word_of v) (map entry_tree c.inject.new.log.items) (ap end_tree c.in-A.is) cut))
    c.inject.ensures.cut

pub returns-in-B-clause-cut : goal.returns-in-B-clause-cut
returns-in-B-clause-cut g c =
    let v : WorldValue _ _ = record { a = c.self.inside.a; b = c.self.inside.b; log = map entry_tree c.self.inside.log.items; has_failed = c.self.inside.has_failed } in
    on_err_weaker c.inject-in-B.result (λ cut.
    as_event g.R.Rng.stream g.C.Checksum.word_of v c.args.self.now c.self.view_is (GiveForeign (end_tree c.args.end) c.args.bytes.now) (GiveForeign B c.args.bytes.now)
    (map entry_tree c.inject-in-B.new.log.items) (ap (λ (x : End). GiveForeign x c.args.bytes.now) (ap end_tree c.in-B.is))
    (foreign_cut_b (end_tree c.args.end) c.args.bytes.now (world_of g.R.Rng.stream g.C.Checksum.word_of v) (map entry_tree c.inject-in-B.new.log.items) (ap end_tree c.in-B.is) cut))
    c.inject-in-B.ensures.cut
