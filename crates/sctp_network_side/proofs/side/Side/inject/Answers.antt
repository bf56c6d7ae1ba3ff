use Rattle.std.proofs.Common.{map}
use Rattle.std.proofs.lemmas.Result.{on_ok_weaker, on_err_weaker}
use Rattle.sctp_network_side.specs.SideView.{end_tree, entry_tree}
use Rattle.sctp_network_side.proofs.SideLemmas.{came, passed, cut_foreign}
use Rattle.sctp_network_side.proofs.side.Side.inject.Goals as goal

pub returns-then-branch-clause-met : goal.returns-then-branch-clause-met
returns-then-branch-clause-met g c =
    on_ok_weaker c.receive_foreign.result (λ is_ok.
    came g.R.Rng.stream g.C.Checksum.word_of (record { socket = c.self.inside.socket; packets = map (λ bytes. bytes.items) c.self.inside.packets.items }) c.args.self.now c.receive_foreign.new.self
    c.self.view_is (end_tree c.args.end) c.args.bytes.now (map entry_tree c.args.log.now.items) (map entry_tree c.receive_foreign.new.log.items) _ c.in_ok-refuses.ensures.judged c.if-branch.true is_ok) c.receive_foreign.ensures.taken

pub returns-in_ok-skip-clause-met : goal.returns-in_ok-skip-clause-met
returns-in_ok-skip-clause-met g c =
    passed g.R.Rng.stream g.C.Checksum.word_of (record { socket = c.self.inside.socket; packets = map (λ bytes. bytes.items) c.self.inside.packets.items }) c.args.self.now
    c.self.view_is (end_tree c.args.end) c.args.bytes.now (map entry_tree c.args.log.now.items) _ _ c.in_ok-refuses.ensures.judged c.if-branch.false c.in_ok-skip.ensures.log

pub returns-then-branch-clause-cut : goal.returns-then-branch-clause-cut
returns-then-branch-clause-cut g c =
    on_err_weaker c.receive_foreign.result (λ cut.
    cut_foreign g.R.Rng.stream g.C.Checksum.word_of (record { socket = c.self.inside.socket; packets = map (λ bytes. bytes.items) c.self.inside.packets.items }) c.args.self.now
    c.self.view_is (end_tree c.args.end) c.args.bytes.now (map entry_tree c.args.log.now.items) (map entry_tree c.receive_foreign.new.log.items) _ c.in_ok-refuses.ensures.judged c.if-branch.true cut) c.receive_foreign.ensures.cut
