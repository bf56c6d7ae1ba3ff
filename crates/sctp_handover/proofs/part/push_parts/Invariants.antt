use Rattle.std.proofs.Common.{◌≡◌, ◌++◌, map, take, All}
use Rattle.std.specs.List.{flat_map}
use Rattle.sctp_handover.proofs.part.push_parts.Given as goal

abbrev pub invariant-loop-part : goal.invariant-loop-part
invariant-loop-part g l = record {
  wrote : l.output.items ≡ l.initial.output.items ++ flat_map g.P.Part.bytes_of (map g.P.Part.value_of (take l.part-index l.parts));
  fits : All g.P.Part.Fits (map g.P.Part.value_of (take l.part-index l.parts));
}
