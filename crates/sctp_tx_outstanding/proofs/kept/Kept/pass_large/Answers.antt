use Rattle.std.proofs.Common.{subst}
use Rattle.sctp_tx_outstanding.specs.OutstandingData.{Kept}
use Rattle.sctp_tx_outstanding.specs.Sizes.{NoneFits}
use Rattle.sctp_tx_outstanding.proofs.kept.Kept.pass_large.Goals as goal

pub invariant_of-self : goal.invariant_of-self
invariant_of-self c =
    let old = c.self.invariant in
    record {
      totals = old.totals;
      last_blocks = old.last_blocks;
      runs = c.enter.ensures old.runs;
      messages = old.messages;
      expiries = old.expiries;
      passed = old.passed;
    }

pub returns-clause-none : goal.returns-clause-none
returns-clause-none c =
    subst (λ (k : Kept). NoneFits k.is_interleaved c.args.allowed c.args.place c.pass_large.result k.items) c.self.view_is
    (c.pass_large.ensures.none (c.enter.ensures c.self.invariant.runs))
