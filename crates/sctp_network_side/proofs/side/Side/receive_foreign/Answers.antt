use Rattle.std.proofs.Common.{ℕ, Some, List, map, ap, subst, ◌∙◌}
use Rattle.std.proofs.lemmas.Result.{on_ok_weaker, on_err_weaker}
use Rattle.spec_world.specs.Observations.{Entry, Foreign}
use Rattle.spec_world.specs.World.{TakesBytes}
use Rattle.sctp_network_side.specs.Interrupted.{StopsWithin, TakesBytesSo}
use Rattle.sctp_network_side.specs.SideView.{SideValue, end_tree, entry_tree, side_in}
use Rattle.sctp_network_side.proofs.side.Side.receive_foreign.Goals as goal

pub returns-clause-taken : goal.returns-clause-taken
returns-clause-taken g c =
    on_ok_weaker c.take.result (λ is_ok.
    subst (λ (first : Entry). TakesBytes (end_tree c.args.end) first c.args.bytes.now
    (side_in g.R.Rng.stream g.C.Checksum.word_of c.args.self.now) (side_in g.R.Rng.stream g.C.Checksum.word_of c.take.new.self)
    (map entry_tree c.args.log.now.items) (map entry_tree c.take.new.log.items))
    (ap (λ (now : ℕ). Foreign (end_tree c.args.end) now (Some c.in_ok-copy.copy.items))
    (c.clock.ensures ∙ ap (λ (side : SideValue _ _). side.socket.context.clock) c.self.view_is)
    ∙ ap (λ (bytes : List ℕ). Foreign (end_tree c.args.end) c.args.self.now.socket.context.clock (Some bytes)) c.in_ok-copy.ensures.items) is_ok) c.take.ensures.taken

pub returns-clause-cut : goal.returns-clause-cut
returns-clause-cut g c =
    on_err_weaker c.take.result (λ cut.
    subst (λ (first : Entry). StopsWithin (TakesBytesSo (end_tree c.args.end) first c.args.bytes.now
    (side_in g.R.Rng.stream g.C.Checksum.word_of c.args.self.now) (map entry_tree c.args.log.now.items)) (map entry_tree c.args.log.now.items) (map entry_tree c.take.new.log.items))
    (ap (λ (now : ℕ). Foreign (end_tree c.args.end) now (Some c.in_ok-copy.copy.items))
    (c.clock.ensures ∙ ap (λ (side : SideValue _ _). side.socket.context.clock) c.self.view_is)
    ∙ ap (λ (bytes : List ℕ). Foreign (end_tree c.args.end) c.args.self.now.socket.context.clock (Some bytes)) c.in_ok-copy.ensures.items) cut) c.take.ensures.cut
