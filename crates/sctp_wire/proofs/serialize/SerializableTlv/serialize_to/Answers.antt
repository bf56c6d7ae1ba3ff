use Rattle.std.proofs.Common.{◌≡◌, arith, length}
use Rattle.std.proofs.lemmas.Result.{IfOk-equal}
use Rattle.sctp_item.specs.Item.{padding}
use Rattle.sctp_wire.proofs.SerializeLemmas.{item_padded}
use Rattle.sctp_wire.proofs.serialize.SerializableTlv.serialize_to.Goals as goal

pub returns-clause-wrote : goal.returns-clause-wrote
returns-clause-wrote g c =
    let item = g.Self.SerializableTlv.item_of c.args.self.now in
    let pad : c.padding_len.result ≡ padding (length item.value) = omega arith in
    IfOk-equal c.push_zeros.result _ _ _ c.push_zeros.ensures.wrote
    (item_padded c.args.output.now.items _ item _ c.in_ok-push_item.ensures.wrote pad)
