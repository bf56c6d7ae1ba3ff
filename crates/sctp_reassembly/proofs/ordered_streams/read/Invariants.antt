use Rattle.std.proofs.Common.{◌≡◌, take}
use Rattle.sctp_reassembly.specs.ReassemblyHandover.{ordered_entries}
use Rattle.sctp_reassembly.proofs.ordered_streams.read.Given as goal

abbrev pub invariant-loop-record : goal.invariant-loop-record
invariant-loop-record g l = l.streams.entries ≡ ordered_entries (take l.record-index l.records)
