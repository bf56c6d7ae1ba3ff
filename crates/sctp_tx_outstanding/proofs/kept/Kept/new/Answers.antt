use Rattle.std.proofs.Common.{List, sym, subst}
use Rattle.sctp_tx_outstanding.specs.Item.{Item}
use Rattle.sctp_tx_outstanding.specs.Indexes.{AreIndexes}
use Rattle.sctp_tx_outstanding.proofs.kept.Kept.new.Goals as goal

pub invariant_of-result : goal.invariant_of-result
invariant_of-result c = subst (λ (is : List Item). AreIndexes c.args.is_interleaved is c.new-2.result) (sym c.new.ensures.items) (c.new-2.ensures c.args.is_interleaved)
