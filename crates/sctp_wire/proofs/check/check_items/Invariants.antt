use Rattle.std.proofs.Common.{List, length}
use Rattle.sctp_item.specs.Item.{ParsesAll}
use Rattle.sctp_wire.proofs.check.check_items.Given as goal

abbrev pub invariant-loop-rest : goal.invariant-loop-rest
invariant-loop-rest g l = (trees : List g.T.CheckItem.Tree) × ParsesAll g.T.CheckItem.stands_for l.fn.bytes trees l.rest

abbrev pub decreases-loop-rest : goal.decreases-loop-rest
decreases-loop-rest g l = length l.rest
