use Rattle.std.proofs.Common.{◌+◌, arith}
use Rattle.sctp_tx_outstanding.proofs.SackLemmas.{uncovered_at}
use Rattle.sctp_tx_outstanding.proofs.stretches.stretch_in_order.Goals as goal

pub returns-then-place-begin-clause-covered : goal.returns-then-place-begin-clause-covered
returns-then-place-begin-clause-covered c = λ p le less.
    let found = c.skip_blocks-block in
    let first = c.args.first in
    let begin = c.saturating_sub-begin.ensures in
    uncovered_at c.args.blocks.now found.result (c.args.place + first) (p + first) (record { start = 0; end = 0 }) found.ensures.cursor (omega arith) (omega (arith, le)) (omega (arith, less, begin))
