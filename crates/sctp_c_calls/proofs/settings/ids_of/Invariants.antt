use Rattle.std.proofs.Common.{◌≡◌, ◌++◌, drop}
use Rattle.sctp_state.specs.Events.{numbers_of}
use Rattle.sctp_c_calls.proofs.settings.ids_of.Given as goal

abbrev pub invariant-loop-number : goal.invariant-loop-number
invariant-loop-number l = numbers_of l.ids.items ++ drop l.number-index l.numbers ≡ l.numbers
