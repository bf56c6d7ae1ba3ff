use Rattle.std.proofs.Common.{arith, rules}
use Rattle.sctp_tx_outstanding.proofs.SizesLemmas.{large_none}
use Rattle.sctp_tx_outstanding.proofs.runs.Runs.new.Goals as goal

pub returns : goal.returns
returns c = record {
  small = omega arith;
  known = search rules;
  least = λ k. large_none 18446744073709551615 k;
}
