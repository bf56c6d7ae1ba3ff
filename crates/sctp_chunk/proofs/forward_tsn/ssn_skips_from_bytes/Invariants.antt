use Rattle.std.proofs.Common.{◌≡◌, ◌++◌, length, true}
use Rattle.std.specs.List.{flat_map, list_all}
use Rattle.sctp_chunk.specs.Written.{skip_bytes, is_ssn_skip}
use Rattle.sctp_chunk.specs.Grammar.{Each, FitsSkip}
use Rattle.sctp_chunk.proofs.forward_tsn.ssn_skips_from_bytes.Given as goal

abbrev pub invariant-loop-rest : goal.invariant-loop-rest
invariant-loop-rest l = record {
  joined : l.fn.bytes ≡ flat_map skip_bytes l.skipped.items ++ l.rest;
  kind : list_all is_ssn_skip l.skipped.items ≡ true;
  fits : Each FitsSkip l.skipped.items;
}

abbrev pub decreases-loop-rest : goal.decreases-loop-rest
decreases-loop-rest l = length l.rest
