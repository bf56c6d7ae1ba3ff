use Rattle.std.proofs.Common.{◌≡◌, ◌++◌}
use Rattle.sctp_reassembly.specs.ReassemblyHandover.{ordered_records}
use Rattle.sctp_reassembly.proofs.ordered_streams.records.Given as goal

abbrev pub invariant-loop-id : goal.invariant-loop-id
invariant-loop-id g l = l.records.items ++ ordered_records l.is_interleaved l.id-iterator ≡ ordered_records l.is_interleaved l.streams.entries
