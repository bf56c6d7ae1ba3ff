use Rattle.std.proofs.Common.{◌≡◌, ◌++◌}
use Rattle.sctp_reassembly.specs.ReassemblyHandover.{unordered_records}
use Rattle.sctp_reassembly.proofs.unordered_streams.records.Given as goal

abbrev pub invariant-loop-id : goal.invariant-loop-id
invariant-loop-id g l = l.records.items ++ unordered_records l.id-iterator ≡ unordered_records l.streams.entries
