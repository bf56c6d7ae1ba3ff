use Rattle.std.proofs.Common.{map, refl}
use Rattle.sctp_network_side.specs.SideView.{entry_tree}
use Rattle.sctp_network_side.proofs.CutLemmas.{cut_at_once, when_err}
use Rattle.sctp_network_side.proofs.side.Side.call.Goals as goal

pub returns-in_err-copy-clause-cut : goal.returns-in_err-copy-clause-cut
returns-in_err-copy-clause-cut g c = when_err c.from_residual.result (cut_at_once (map entry_tree c.args.log.now.items) _ (map entry_tree c.args.log.now.items) refl)

pub returns-in-Err-clause-cut : goal.returns-in-Err-clause-cut
returns-in-Err-clause-cut g c = cut_at_once (map entry_tree c.args.log.now.items) _ (map entry_tree c.args.log.now.items) refl
