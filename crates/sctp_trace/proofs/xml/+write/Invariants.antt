use Rattle.std.proofs.Common.{◌≡◌, ◌++◌, take}
use Rattle.std.specs.List.{flat_map}
use Rattle.sctp_trace.specs.Xml.{xml_bytes}
use Rattle.sctp_trace.proofs.xml.+write.Given as goal

abbrev pub invariant-write_all-loop-element : goal.invariant-write_all-loop-element
invariant-write_all-loop-element l = l.output.items ≡ l.initial.output.items ++ flat_map xml_bytes (take l.element-index l.element-items)
