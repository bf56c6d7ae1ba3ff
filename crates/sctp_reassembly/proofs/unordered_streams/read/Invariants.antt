use Rattle.std.proofs.Common.{◌≡◌, take}
use Rattle.sctp_reassembly.specs.ReassemblyHandover.{unordered_entries}
use Rattle.sctp_reassembly.proofs.unordered_streams.read.Given as goal

abbrev pub invariant-loop-record : goal.invariant-loop-record
invariant-loop-record g l = l.streams.entries ≡ unordered_entries (take l.record-index l.records)
