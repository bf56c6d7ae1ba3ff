use Rattle.std.proofs.Common.{◌≡◌, ◌++◌, drop}
use Rattle.std.specs.List.{flat_map}
use Rattle.sctp_state.specs.Events.{numbers_of}
use Rattle.sctp_c_records.specs.Event.{low_first}
use Rattle.sctp_c_records.proofs.streams.spelled.Given as goal

abbrev pub invariant-loop-id : goal.invariant-loop-id
invariant-loop-id l = l.bytes.items ++ flat_map low_first (numbers_of (drop l.id-index l.ids)) ≡ flat_map low_first (numbers_of l.ids)
