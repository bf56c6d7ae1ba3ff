use Rattle.std.proofs.Common.{◌≡◌, ◌-◌, ◌^◌, length, min, take}
use Rattle.std.specs.List.{flat_map}
use Rattle.sctp_chunk.specs.Written.{skip_bytes}
use Rattle.sctp_chunk.proofs.forward_tsn.skips_size.Given as goal

abbrev pub invariant-loop-skip : goal.invariant-loop-skip
invariant-loop-skip l = l.size ≡ min (length (flat_map skip_bytes (take l.skip-index l.skipped))) (2 ^ 64 - 1)
