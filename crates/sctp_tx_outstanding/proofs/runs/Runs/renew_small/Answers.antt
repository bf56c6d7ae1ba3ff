use Rattle.std.proofs.Common.{◌≡◌, length, sym, rules}
use Rattle.sctp_tx_outstanding.proofs.runs.Runs.renew_small.Goals as goal

pub returns : goal.returns
returns c = λ h.
    let runs = c.loop-run.invariant.runs h in
    let count : c.len.result ≡ length c.args.items.now.items = search rules in
    record {
      small = runs.small;
      known = runs.known;
      least = c.least_of_all-self.ensures c.args.items.now.items (sym count) runs;
    }
