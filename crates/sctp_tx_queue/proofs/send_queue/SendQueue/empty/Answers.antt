use Rattle.std.proofs.Common.{◌≡◌, ap, sym, ◌∙◌}
use Rattle.sctp_tx_queue.specs.SendQueue.{Queue}
use Rattle.sctp_tx_queue.specs.Restarted.{unbegun}
use Rattle.sctp_tx_queue.specs.Emptied.{each_emptied, streams_to_empty}
use Rattle.sctp_tx_queue.proofs.IdleLemmas.{idle_same}
use Rattle.sctp_tx_queue.proofs.InTurnLemmas.{emitted_in_turn}
use Rattle.sctp_tx_queue.proofs.OthersOutLemmas.{names, emptied_some}
use Rattle.sctp_tx_queue.proofs.send_queue.SendQueue.empty.Goals as goal

pub returns-then-is_idle-clause-queue : goal.returns-then-is_idle-clause-queue
returns-then-is_idle-clause-queue c = (idle_same c.args.self.now c.args.events.now (sym c.is_idle.ensures ∙ c.if-is_idle.true)).queue

pub returns-then-is_idle-clause-emitted : goal.returns-then-is_idle-clause-emitted
returns-then-is_idle-clause-emitted c = (idle_same c.args.self.now c.args.events.now (sym c.is_idle.ensures ∙ c.if-is_idle.true)).emitted

pub returns-clause-queue : goal.returns-clause-queue
returns-clause-queue c =
    let q = c.args.self.now in
    let some : names c.deref.result.now ≡ streams_to_empty q.scheduler q.streams.entries = ap names c.deref.ensures.value ∙ c.in-Ok.ensures.streams in
    let made : c.empty_each.new.self ≡ each_emptied (names c.deref.result.now) q = c.empty_each.ensures ∙ ap (λ (t : Queue). each_emptied (names c.deref.result.now) t) (c.forget_if.ensures ∙ c.emit_ended.ensures.same) in
    ap unbegun c.self-2.view_is ∙ emptied_some q c.empty_each.new.self c.args.events.now (names c.deref.result.now) c.emit_ended.ensures.ordered some made

pub returns-clause-emitted : goal.returns-clause-emitted
returns-clause-emitted c = c.in-Ok.ensures.emitted ∙ emitted_in_turn c.args.self.now c.args.events.now c.emit_ended.ensures.ordered
