use Rattle.std.proofs.Common.{ℕ, map, ap, subst, ◌∙◌}
use Rattle.std.proofs.lemmas.Result.{on_ok_weaker, on_err_weaker}
use Rattle.spec_world.specs.Observations.{Given}
use Rattle.spec_world.specs.World.{TakesBytes}
use Rattle.sctp_network_side.specs.Interrupted.{StopsWithin, TakesBytesSo}
use Rattle.sctp_network_side.specs.SideView.{SideValue, end_tree, entry_tree, side_in}
use Rattle.sctp_network_side.proofs.side.Side.receive.Goals as goal

pub returns-clause-taken : goal.returns-clause-taken
returns-clause-taken g c =
    on_ok_weaker c.take.result (λ is_ok.
    subst (λ (now : ℕ). TakesBytes (end_tree c.args.end) (Given (end_tree c.args.end) now c.args.packet) c.args.bytes.now
    (side_in g.R.Rng.stream g.C.Checksum.word_of c.args.self.now) (side_in g.R.Rng.stream g.C.Checksum.word_of c.take.new.self)
    (map entry_tree c.args.log.now.items) (map entry_tree c.take.new.log.items))
    (c.clock.ensures ∙ ap (λ (side : SideValue _ _). side.socket.context.clock) c.self.view_is) is_ok) c.take.ensures.taken

pub returns-clause-cut : goal.returns-clause-cut
returns-clause-cut g c =
    on_err_weaker c.take.result (λ cut.
    subst (λ (now : ℕ). StopsWithin (TakesBytesSo (end_tree c.args.end) (Given (end_tree c.args.end) now c.args.packet) c.args.bytes.now
    (side_in g.R.Rng.stream g.C.Checksum.word_of c.args.self.now) (map entry_tree c.args.log.now.items)) (map entry_tree c.args.log.now.items) (map entry_tree c.take.new.log.items))
    (c.clock.ensures ∙ ap (λ (side : SideValue _ _). side.socket.context.clock) c.self.view_is) cut) c.take.ensures.cut
