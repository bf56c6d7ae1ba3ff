use Rattle.std.proofs.Common.{◌≡◌, ◌++◌, map, take}
use Rattle.sctp_trace.specs.Svg.{shown, number_shown}
use Rattle.sctp_trace.proofs.svg.push_numbers.Given as goal

abbrev pub invariant-loop-key : goal.invariant-loop-key
invariant-loop-key l = map shown l.attributes.items ≡ map shown l.initial.attributes.items ++ map number_shown (take l.key-index l.numbers)
