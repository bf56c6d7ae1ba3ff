use Rattle.std.proofs.Common.{map, refl}
use Rattle.sctp_network_side.specs.SideView.{entry_tree}
use Rattle.sctp_network_side.proofs.CutLemmas.{cut_at_once, when_err}
use Rattle.sctp_network_side.proofs.side.Side.advance_time.Goals as goal

pub returns-in_err-advance_time-clause-cut : goal.returns-in_err-advance_time-clause-cut
returns-in_err-advance_time-clause-cut g c = when_err c.from_residual.result (cut_at_once (map entry_tree c.args.log.now.items) _ (map entry_tree c.args.log.now.items) refl)
