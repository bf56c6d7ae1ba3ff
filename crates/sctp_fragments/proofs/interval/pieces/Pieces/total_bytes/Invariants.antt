use Rattle.std.proofs.Common.{◌≡◌, ◌+◌, drop, map}
use Rattle.sctp_fragments.specs.Runs.{flat}
use Rattle.sctp_fragments.specs.Held.{bytes_of}
use Rattle.sctp_fragments.specs.Interval.{held_of}
use Rattle.sctp_fragments.specs.Entries.{all_in}
use Rattle.sctp_fragments.proofs.interval.pieces.Pieces.total_bytes.Given as goal

abbrev pub invariant-loop-index : goal.invariant-loop-index
invariant-loop-index g l = l.bytes + (bytes_of (map (held_of g.K.ReassemblyKey.number g.K.ReassemblyKey.index) (flat (drop l.index (map (λ d. d.items) l.self.middle.items)))) + bytes_of (map (held_of g.K.ReassemblyKey.number g.K.ReassemblyKey.index) l.self.last.items)) ≡ bytes_of (map (held_of g.K.ReassemblyKey.number g.K.ReassemblyKey.index) (all_in l.self))
