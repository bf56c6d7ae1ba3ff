use Rattle.std.proofs.Common.{◌≡◌, ◌^◌, ◌-◌, min, length, map, take}
use Rattle.sctp_wire.specs.Serialize.{inner_items}
use Rattle.sctp_wire.proofs.serialize.parameters_serialized_size.Given as goal

abbrev pub invariant-loop-parameter : goal.invariant-loop-parameter
invariant-loop-parameter g l = l.size ≡ min (length (inner_items (map g.T.SerializableTlv.item_of (take l.parameter-index l.parameters)))) (2 ^ 64 - 1)
