use Rattle.std.proofs.Common.{◌≡◌, ◌+◌, ◌≤◌, ◌++◌, length, map, take}
use Rattle.std.specs.Prelude.{vec_len, vec_capacity}
use Rattle.sctp_item.specs.Item.{padding}
use Rattle.sctp_wire.specs.Serialize.{inner_items}
use Rattle.sctp_wire.proofs.serialize.parameters_serialize_to.Given as goal

abbrev pub invariant-loop-parameter : goal.invariant-loop-parameter
invariant-loop-parameter g l = record {
  wrote : l.output.items ≡ l.initial.output.items ++ inner_items (map g.T.SerializableTlv.item_of (take l.parameter-index l.parameters));
  len : vec_len l.output ≡ vec_len l.initial.output + length (inner_items (map g.T.SerializableTlv.item_of (take l.parameter-index l.parameters)));
  capacity : vec_capacity l.initial.output ≤ vec_capacity l.output;
  between : l.padding ≡ padding (length (inner_items (map g.T.SerializableTlv.item_of (take l.parameter-index l.parameters))));
}
