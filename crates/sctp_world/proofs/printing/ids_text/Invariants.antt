use Rattle.std.proofs.Common.{◌≡◌, take, string_bytes}
use Rattle.std.specs.List.{flat_map}
use Rattle.sctp_state.specs.Events.{numbers_of}
use Rattle.sctp_world.specs.Printing.{number_word}
use Rattle.sctp_world.proofs.printing.ids_text.Given as goal

abbrev pub invariant-loop-id : goal.invariant-loop-id
invariant-loop-id l = string_bytes l.text ≡ flat_map number_word (numbers_of (take l.id-index l.ids))
