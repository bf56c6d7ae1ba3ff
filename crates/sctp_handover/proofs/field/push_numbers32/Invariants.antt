use Rattle.std.proofs.Common.{◌≡◌, ◌++◌, take}
use Rattle.std.specs.List.{flat_map}
use Rattle.sctp_wire.specs.Field.{be32}
use Rattle.sctp_handover.proofs.field.push_numbers32.Given as goal

abbrev pub invariant-loop-number : goal.invariant-loop-number
invariant-loop-number l = l.output.items ≡ l.initial.output.items ++ flat_map be32 (take l.number-index l.numbers)
