use Rattle.std.proofs.Common.{arith}
use Rattle.std.proofs.lemmas.Result.{IfOk-equal}
use Rattle.sctp_wire.proofs.SerializeLemmas.{item_written}
use Rattle.sctp_wire.proofs.serialize.SerializableTlv.push_item.Goals as goal

pub returns-clause-wrote : goal.returns-clause-wrote
returns-clause-wrote g c =
    IfOk-equal c.push_value.result _ _ _ c.push_value.ensures.wrote
    (item_written c.args.output.now.items _ _ _ (g.Self.SerializableTlv.item_of c.args.self.now) c.in_ok-write_item_header.ensures.wrote c.kind.ensures (omega arith))
