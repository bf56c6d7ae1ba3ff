use Rattle.std.proofs.Common.{rules}
use Rattle.sctp_tx_outstanding.proofs.indexes.Indexes.new.Goals as goal

pub returns : goal.returns
returns c = λ m. record {
  totals = search rules;
  last_blocks = search rules;
  runs = search rules;
  messages = search rules;
  expiries = search rules;
  passed = c.new-5.ensures m;
}
