use Rattle.std.proofs.Common.{rules}
use Rattle.sctp_tx_outstanding.proofs.RunsLemmas.{listed}
use Rattle.sctp_tx_outstanding.proofs.SizesLemmas.{settled}
use Rattle.sctp_tx_outstanding.proofs.runs.Runs.settle_least.Goals as goal

pub returns : goal.returns
returns c = λ is large h. record {
  small = h.small;
  known = settled c.args.self.now.known.items c.args.self.now.offset c.args.run c.args.least c.in-Some.known.now is
      (listed c.args.self.now.known.items c.args.run c.in-Some.known.now (search rules) c.in-Some.ensures.value) large h.known;
  least = h.least;
}
