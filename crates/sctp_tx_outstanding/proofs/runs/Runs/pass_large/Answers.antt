use Rattle.std.proofs.Common.{◌<◌, ℕ, ◌≤◌}
use Rattle.sctp_tx_outstanding.specs.Runs.{run_of}
use Rattle.sctp_tx_outstanding.proofs.SizesLemmas.{none_fits_lem}
use Rattle.sctp_tx_outstanding.proofs.runs.Runs.pass_large.Goals as goal

pub returns-then-place-begin-clause-none : goal.returns-then-place-begin-clause-none
returns-then-place-begin-clause-none c = λ h.
    let offset = c.args.self.now.offset in
    let before : (k : ℕ) → k < c.begin_of-begin.result → c.args.place ≤ k → run_of offset k < c.next_small-next.result =
    λ k below above. c.begin_of-begin.ensures.before k below in
    none_fits_lem c.args.is_interleaved c.args.allowed offset c.args.place c.begin_of-begin.result c.run_of-run.result c.next_small-next.result c.args.self.now.known.items c.args.items.now.items c.run_of-run.ensures before c.next_small-next.ensures h.known
