use Rattle.std.proofs.Common.{◌≡◌, ap, ◌∙◌, arith}
use Rattle.sctp_tx_outstanding.specs.Runs.{run_of, bit_of, known_of}
use Rattle.sctp_tx_outstanding.proofs.RunsLemmas.{given_up_on}
use Rattle.sctp_tx_outstanding.proofs.runs.Runs.pass_given_up.Goals as goal

pub returns-clause-given_up : goal.returns-clause-given_up
returns-clause-given_up c = λ is h k above below.
    let runs = c.args.self.now.known.items in
    let o = c.args.self.now.offset in
    let known : c.bits-known.result ≡ (known_of runs (run_of o c.args.place)).given_up = c.bits-known.ensures ∙ ap (λ n. (known_of runs n).given_up) c.run_of.ensures in
    let bit : c.bit_of.result ≡ bit_of o c.args.place = c.bit_of.ensures.bit in
    given_up_on runs o is h.known c.args.place k c.bits-known.result c.clear_from-count.result known above (omega (arith, below, c.saturating_add.ensures))
    (omega (arith, c.clear_from-count.ensures.within, bit)) (λ b from less. c.clear_from-count.ensures.clear b (omega (arith, bit, from)) (omega (arith, bit, less))) (omega arith)
