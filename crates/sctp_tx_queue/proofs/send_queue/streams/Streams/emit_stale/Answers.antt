use Rattle.std.proofs.Common.{None, ap, sym, subst, ◌∙◌, arith, rules}
use Rattle.sctp_state.specs.Events.{Grown, emit_events}
use Rattle.sctp_state.proofs.EventLemmas.{grown_through}
use Rattle.sctp_tx_queue.specs.Produced.{production}
use Rattle.sctp_tx_queue.proofs.EmittingLemmas.{grown_expired}
use Rattle.sctp_tx_queue.proofs.StaleLemmas.{stale_emitted}
use Rattle.sctp_tx_queue.proofs.StreamsLemmas.{amount_at_most}
use Rattle.sctp_tx_queue.proofs.send_queue.streams.Streams.emit_stale.Goals as goal

pub lows_by-lows-requires-clause-all : goal.lows_by-lows-requires-clause-all
lows_by-lows-requires-clause-all c = omega (arith, c.in_ok-bytes.ensures.bytes, amount_at_most c.args.id.0 c.args.self.now.entries c.args.stream.now c.requires)

pub returns-in_err-emit_production-clause-err : goal.returns-in_err-emit_production-clause-err
returns-in_err-emit_production-clause-err c =
    let first = subst (λ u. Grown c.args.events.now u) (sym c.in_ok-bytes.ensures.ok) (grown_expired c.args.now c.args.stream.now.messages c.args.events.now) in
    let grown = grown_through c.args.events.now c.emit_stale.new.events c.emit_production.new.events first c.in_err-emit_production.ensures.err in
    search (rules, grown)

pub returns-clause-ok : goal.returns-clause-ok
returns-clause-ok c =
    c.in_ok-emit_production.ensures.ok ∙ ap (λ t. emit_events (production c.args.id.0 c.lows_by-lows.result.is_low c.lows_by-lows.result.is_total_low None) t) c.in_ok-bytes.ensures.ok
    ∙ stale_emitted c.args.now c.args.id.0 c.in_ok-bytes.bytes c.lows_by-lows.result.is_low c.lows_by-lows.result.is_total_low c.args.stream.now c.args.self.now c.args.events.now c.requires c.in_ok-bytes.ensures.bytes c.lows_by-lows.ensures.low c.lows_by-lows.ensures.total
