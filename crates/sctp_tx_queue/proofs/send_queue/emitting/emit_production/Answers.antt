use Rattle.std.proofs.Common.{rules}
use Rattle.sctp_state.specs.Events.{OnBufferedAmountLow, OnTotalBufferedAmountLow}
use Rattle.sctp_tx_queue.specs.Produced.{when}
use Rattle.sctp_tx_queue.proofs.EmittingLemmas.{grown_after}
use Rattle.sctp_tx_queue.proofs.send_queue.emitting.emit_production.Goals as goal

pub returns-in_err-emit_total_low-clause-err : goal.returns-in_err-emit_total_low-clause-err
returns-in_err-emit_total_low-clause-err c =
    let grown = grown_after (when c.args.lows.is_low (OnBufferedAmountLow c.args.id.0)) c.args.events.now c.emit_low.new.events c.emit_total_low.new.events c.in_ok-emit_low.ensures.ok c.in_err-emit_total_low.ensures.err in
    search (rules, grown)

pub returns-in_err-emit_fully_sent-clause-err : goal.returns-in_err-emit_fully_sent-clause-err
returns-in_err-emit_fully_sent-clause-err c =
    let grown = grown_after (when c.args.lows.is_low (OnBufferedAmountLow c.args.id.0)) c.args.events.now c.emit_low.new.events c.emit_fully_sent.new.events c.in_ok-emit_low.ensures.ok
    (grown_after (when c.args.lows.is_total_low OnTotalBufferedAmountLow) c.emit_low.new.events c.emit_total_low.new.events c.emit_fully_sent.new.events c.in_ok-emit_total_low.ensures.ok c.in_err-emit_fully_sent.ensures.err) in
    search (rules, grown)
