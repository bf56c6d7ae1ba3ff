use Rattle.std.proofs.Common.{sym, subst, rules}
use Rattle.sctp_state.specs.Events.{Grown}
use Rattle.sctp_tx_queue.specs.SendQueue.{stream}
use Rattle.sctp_tx_queue.proofs.EmittingLemmas.{grown_waiting}
use Rattle.sctp_tx_queue.proofs.send_queue.emit_and_open.Goals as goal

pub returns-clause-grown : goal.returns-clause-grown
returns-clause-grown c =
    let grown = subst (λ t. Grown c.args.events.now t) (sym c.in_ok-demand.ensures.emitted) (grown_waiting (stream c.args.id.0 c.args.streams.now).messages c.args.events.now) in
    search (rules, grown)
