use Rattle.std.proofs.Common.{arith}
use Rattle.sctp_rx.proofs.SeenRunsLemmas.{le_last_above}
use Rattle.sctp_rx.proofs.data_tracker.seen.Seen.front.Goals as goal

pub returns-clause-bound : goal.returns-clause-bound
returns-clause-bound c = omega (arith, le_last_above _ _ c.self.invariant.runs)
