use Rattle.std.proofs.Common.{ap}
use Rattle.sctp_tx_outstanding.specs.OutstandingData.{Outstanding}
use Rattle.sctp_tx_outstanding.proofs.BreakLemmas.{none_stops}
use Rattle.sctp_tx_outstanding.proofs.outstanding_data.OutstandingData.items_before_break.Goals as goal

pub returns-clause-before : goal.returns-clause-before
returns-clause-before c =
    none_stops c.args.self.now.items c.self.inside.acked c.self.inside.breakpoints.numbers c.next-next.result (ap (λ (d : Outstanding). d.items.acked) c.self.view_is)
    (ap (λ (d : Outstanding). d.items.breaks) c.self.view_is) c.next-next.ensures.before
