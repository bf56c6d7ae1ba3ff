use Rattle.std.proofs.Common.{◌≡◌, ◌++◌, take}
use Rattle.std.specs.List.{flat_map}
use Rattle.sctp_trace.specs.Xml.{attribute_bytes}
use Rattle.sctp_trace.proofs.xml.push_attributes.Given as goal

abbrev pub invariant-loop-attribute : goal.invariant-loop-attribute
invariant-loop-attribute l = l.output.items ≡ l.initial.output.items ++ flat_map attribute_bytes (take l.attribute-index l.attributes)
