use Rattle.std.proofs.Common.{rules}
use Rattle.sctp_state.specs.Events.{expired_events}
use Rattle.sctp_tx_queue.proofs.EmittingLemmas.{grown_after}
use Rattle.sctp_tx_queue.proofs.send_queue.emitting.emit_discarded.Goals as goal

pub returns-in_err-emit_production-clause-err : goal.returns-in_err-emit_production-clause-err
returns-in_err-emit_production-clause-err c =
    let grown = grown_after (expired_events c.args.lifecycle_id) c.args.events.now c.emit_expired.new.events c.emit_production.new.events c.in_ok-emit_expired.ensures.ok c.in_err-emit_production.ensures.err in
    search (rules, grown)
