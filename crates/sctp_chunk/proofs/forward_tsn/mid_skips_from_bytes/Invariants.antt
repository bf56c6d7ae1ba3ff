use Rattle.std.proofs.Common.{◌≡◌, ◌++◌, ◌*◌, ◌+◌, ℕ, List, length}
use Rattle.sctp_chunk.specs.Grammar.{Each, FitsSkip, SaysSkips}
use Rattle.sctp_chunk.proofs.forward_tsn.mid_skips_from_bytes.Given as goal

abbrev pub invariant-loop-rest : goal.invariant-loop-rest
invariant-loop-rest l = record {
  joined : (front : List ℕ) × (l.fn.bytes ≡ front ++ l.rest) × SaysSkips front l.skipped.items;
  count : length l.fn.bytes ≡ 8 * length l.skipped.items + length l.rest;
  fits : Each FitsSkip l.skipped.items;
}

abbrev pub decreases-loop-rest : goal.decreases-loop-rest
decreases-loop-rest l = length l.rest
