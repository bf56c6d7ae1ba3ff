use Rattle.std.proofs.Common.{◌≡◌, ◌++◌, drop, map}
use Rattle.sctp_fragments.specs.Held.{payload_of}
use Rattle.sctp_fragments.specs.Interval.{held_of}
use Rattle.sctp_fragments.proofs.interval.reading.put_payloads.Given as goal

abbrev pub invariant-loop-index : goal.invariant-loop-index
invariant-loop-index g l = l.payload.items ++ payload_of (drop l.index (map (held_of g.K.ReassemblyKey.number g.K.ReassemblyKey.index) l.entries.items)) ≡ l.fn.payload.items ++ payload_of (map (held_of g.K.ReassemblyKey.number g.K.ReassemblyKey.index) l.entries.items)
