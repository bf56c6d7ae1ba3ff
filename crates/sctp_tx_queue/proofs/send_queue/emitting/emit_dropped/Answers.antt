use Rattle.std.proofs.Common.{rules}
use Rattle.sctp_tx_queue.proofs.EmittingLemmas.{grown_after_record}
use Rattle.sctp_tx_queue.proofs.send_queue.emitting.emit_dropped.Goals as goal

pub returns-in_err-emit_expired-clause-err : goal.returns-in_err-emit_expired-clause-err
returns-in_err-emit_expired-clause-err c =
    let grown = grown_after_record c.args.number.0 c.args.cause c.args.events.now c.add_given_up.new.self c.emit_expired.new.events c.in_ok-add_given_up.ensures.ok c.in_err-emit_expired.ensures.err in
    search (rules, grown)
