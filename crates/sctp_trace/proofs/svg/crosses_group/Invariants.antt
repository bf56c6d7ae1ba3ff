use Rattle.std.proofs.Common.{take}
use Rattle.std.specs.List.{AllZip}
use Rattle.sctp_trace.specs.Svg.{IsCross}
use Rattle.sctp_trace.proofs.svg.crosses_group.Given as goal

abbrev pub invariant-loop-cross : goal.invariant-loop-cross
invariant-loop-cross l = AllZip IsCross (take l.cross-index l.cross-items) l.children.items
