use Rattle.sctp_tx_outstanding.proofs.RunsLemmas.{none_flies}
use Rattle.sctp_tx_outstanding.proofs.runs.Runs.next_flight.Goals as goal

pub returns-clause-none : goal.returns-clause-none
returns-clause-none c = λ is h k above below. none_flies c.args.self.now.known.items c.args.self.now.offset is h.known k (c.next.ensures.none k above below)
