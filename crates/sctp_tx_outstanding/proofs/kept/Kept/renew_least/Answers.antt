use Rattle.sctp_tx_outstanding.proofs.kept.Kept.renew_least.Goals as goal

pub invariant_of-self : goal.invariant_of-self
invariant_of-self c =
    let old = c.self.invariant in
    record {
      totals = old.totals;
      last_blocks = old.last_blocks;
      runs = c.renew_small.ensures old.runs;
      messages = old.messages;
      expiries = old.expiries;
      passed = old.passed;
    }
