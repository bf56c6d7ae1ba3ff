use Rattle.std.proofs.Common.{◌≡◌, ◌+◌, ◌-◌, ◌^◌, refl, take, map, min, length, arith}
use Rattle.sctp_item.specs.Item.{padding}
use Rattle.sctp_wire.specs.Serialize.{inner_items}
use Rattle.sctp_wire.proofs.SerializeLemmas.{size_more, taken_more}
use Rattle.sctp_wire.proofs.serialize.parameters_serialized_size.Goals as goal

pub loop-parameter-init : goal.loop-parameter-init
unfolding inner_items
loop-parameter-init g c = refl

pub loop-parameter-preserved : goal.loop-parameter-preserved
loop-parameter-preserved g c =
    let f = g.T.SerializableTlv.item_of in
    let i = c.loop-parameter.parameter-index in
    let more = taken_more f c.args.parameters.now i c.parameter-item.result c.loop-parameter-test.true c.parameter-item.is in
    let padded : c.saturating_add.result ≡ min (c.loop-parameter.size + padding c.loop-parameter.size) (2 ^ 64 - 1) = omega arith in
    let valued : c.saturating_add-in-loop-parameter.result ≡ min (c.saturating_add.result + min (length (f c.parameter-item.result).value) (2 ^ 64 - 1)) (2 ^ 64 - 1) = omega arith in
    rw more (size_more (map f (take i c.args.parameters.now)) (f c.parameter-item.result) c.loop-parameter.size _ _ _
    c.loop-parameter.invariant padded valued c.saturating_add-size.ensures)
