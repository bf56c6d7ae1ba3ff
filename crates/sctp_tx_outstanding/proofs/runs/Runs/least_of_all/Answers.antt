use Rattle.std.proofs.Common.{inl, inr, arith}
use Rattle.std.proofs.lemmas.Bool.{cases_lt}
use Rattle.sctp_tx_outstanding.specs.Runs.{run_of, known_of}
use Rattle.sctp_tx_outstanding.proofs.SizesLemmas.{large_less, large_past, large_at}
use Rattle.sctp_tx_outstanding.proofs.runs.Runs.least_of_all.Goals as goal

pub returns : goal.returns
returns c = λ is count h k.
    let offset = c.args.self.now.offset in
    let runs = c.args.self.now.known.items in
    let least = c.loop-run.least in
    elim (cases_lt k c.args.count) [
      | inl below ↦ large_less least (known_of runs (run_of offset k)).least k is
          (c.loop-run.invariant.least (run_of offset k) (omega (arith, below, c.run_of-last.ensures, c.saturating_sub.ensures, c.loop-run-test.false))) (large_at runs offset is h.known k)
      | inr above ↦ large_past least k is (omega (arith, above, count))
    ]
