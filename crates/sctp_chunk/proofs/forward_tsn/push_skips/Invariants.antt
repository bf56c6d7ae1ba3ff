use Rattle.std.proofs.Common.{◌≡◌, ◌+◌, ◌≤◌, ◌++◌, length, take}
use Rattle.std.specs.Prelude.{vec_len, vec_capacity}
use Rattle.std.specs.List.{flat_map}
use Rattle.sctp_chunk.specs.Written.{skip_bytes}
use Rattle.sctp_chunk.proofs.forward_tsn.push_skips.Given as goal

abbrev pub invariant-loop-skip : goal.invariant-loop-skip
invariant-loop-skip l = record {
  wrote : l.output.items ≡ l.initial.output.items ++ flat_map skip_bytes (take l.skip-index l.skipped);
  len : vec_len l.output ≡ vec_len l.initial.output + length (flat_map skip_bytes (take l.skip-index l.skipped));
  capacity : vec_capacity l.initial.output ≤ vec_capacity l.output;
}
