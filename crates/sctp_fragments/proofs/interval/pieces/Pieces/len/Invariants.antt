use Rattle.std.proofs.Common.{◌≡◌, ◌+◌, drop, map, length}
use Rattle.sctp_fragments.specs.Runs.{flat}
use Rattle.sctp_fragments.specs.Entries.{all_in}
use Rattle.sctp_fragments.proofs.interval.pieces.Pieces.len.Given as goal

abbrev pub invariant-loop-index : goal.invariant-loop-index
invariant-loop-index g l = l.count + length (flat (drop l.index (map (λ d. d.items) l.self.middle.items))) ≡ length (all_in l.self)
