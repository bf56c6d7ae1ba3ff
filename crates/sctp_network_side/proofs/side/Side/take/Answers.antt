use Rattle.std.proofs.Common.{map}
use Rattle.sctp_network_side.specs.SideView.{end_tree, entry_tree}
use Rattle.sctp_network_side.proofs.CutLemmas.{when_err}
use Rattle.sctp_network_side.proofs.SideLemmas.{emitted_as, cut_as}
use Rattle.sctp_network_side.proofs.side.Side.take.Goals as goal

pub returns-clause-taken : goal.returns-clause-taken
returns-clause-taken g c =
    emitted_as g.R.Rng.stream g.C.Checksum.word_of (record { socket = c.self.inside.socket; packets = map (λ bytes. bytes.items) c.self.inside.packets.items }) c.args.self.now c.settle.new.self
    c.self.view_is (end_tree c.args.end) (entry_tree c.args.first) c.args.bytes.now c.handle_input.new.self (map entry_tree c.args.log.now.items) (map entry_tree c.settle.new.log.items) _ _
    c.in_ok-handle_input.ensures.ok c.before-before.ensures.association c.before-before.ensures.ready c.in_ok-settle.ensures.side c.in_ok-settle.ensures.log

pub returns-in_err-settle-clause-cut : goal.returns-in_err-settle-clause-cut
returns-in_err-settle-clause-cut g c =
    when_err c.from_residual-in_err-settle.result
    (cut_as g.R.Rng.stream g.C.Checksum.word_of (record { socket = c.self.inside.socket; packets = map (λ bytes. bytes.items) c.self.inside.packets.items }) c.args.self.now
    c.self.view_is (end_tree c.args.end) (entry_tree c.args.first) c.args.bytes.now c.handle_input.new.self (map entry_tree c.args.log.now.items) (map entry_tree c.settle.new.log.items) _ _
    c.in_ok-handle_input.ensures.ok c.before-before.ensures.association c.before-before.ensures.ready c.in_err-settle.ensures.cut)
