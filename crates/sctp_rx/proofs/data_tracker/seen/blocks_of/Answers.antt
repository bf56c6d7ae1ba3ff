use Rattle.std.proofs.Common.{arith}
use Rattle.sctp_rx.proofs.SeenPlacesLemmas.{run_above}
use Rattle.sctp_rx.proofs.data_tracker.seen.blocks_of.Goals as goal

pub overflow_sub-end : goal.overflow_sub-end
overflow_sub-end c =
    let above = run_above c.args.front c.loop-i.i c.args.runs.now (0, 0) c.requires (omega arith) in
    omega (arith, above)

pub overflow_sub-start : goal.overflow_sub-start
overflow_sub-start c =
    let above = run_above c.args.front c.loop-i.i c.args.runs.now (0, 0) c.requires (omega arith) in
    omega (arith, above)

pub overflow_cast-start : goal.overflow_cast-start
overflow_cast-start c =
    let above = run_above c.args.front c.loop-i.i c.args.runs.now (0, 0) c.requires (omega arith) in
    omega (arith, above, c.if-end-le65535.true)
