use Rattle.std.proofs.Common.{length}
use Rattle.sctp_item.specs.Item.{ParsesAll}
use Rattle.sctp_wire.proofs.read.items_from_bytes.Given as goal

abbrev pub invariant-loop-rest : goal.invariant-loop-rest
invariant-loop-rest g l = ParsesAll g.T.FromItem.stands_for l.fn.bytes l.values.items l.rest

abbrev pub decreases-loop-rest : goal.decreases-loop-rest
decreases-loop-rest g l = length l.rest
