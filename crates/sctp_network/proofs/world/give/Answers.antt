use Rattle.std.proofs.Common.{map, sym}
use Rattle.sctp_network_side.specs.SideView.{entry_tree}
use Rattle.sctp_network_side.proofs.CutLemmas.{when_err, stops_as}
use Rattle.sctp_network.proofs.world.give.Goals as goal

pub returns-in_err-receive-clause-cut : goal.returns-in_err-receive-clause-cut
returns-in_err-receive-clause-cut g c = when_err c.from_residual.result (stops_as _ _ (map entry_tree c.args.log.now.items) (map entry_tree c.receive.new.log.items) (λ whole t. (c.in-Some.bytes.now, sym c.in-Some.ensures, t)) c.in_err-receive.ensures.cut)
