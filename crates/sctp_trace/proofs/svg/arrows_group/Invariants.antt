use Rattle.std.proofs.Common.{take}
use Rattle.std.specs.List.{AllZip}
use Rattle.sctp_trace.specs.Svg.{IsArrow}
use Rattle.sctp_trace.proofs.svg.arrows_group.Given as goal

abbrev pub invariant-loop-arrow : goal.invariant-loop-arrow
invariant-loop-arrow l = AllZip IsArrow (take l.arrow-index l.arrow-items) l.children.items
