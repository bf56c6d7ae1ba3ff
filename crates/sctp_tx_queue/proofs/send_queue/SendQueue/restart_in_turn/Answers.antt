use Rattle.std.proofs.Common.{◌≡◌, sym, ap, ◌∙◌}
use Rattle.sctp_tx_queue.specs.SendQueue.{Queue}
use Rattle.sctp_tx_queue.specs.Restarted.{is_kept}
use Rattle.sctp_tx_queue.proofs.SettledLemmas.{kept_same}
use Rattle.sctp_tx_queue.proofs.send_queue.SendQueue.restart_in_turn.Goals as goal

pub returns-then-restart_idle-clause-settled : goal.returns-then-restart_idle-clause-settled
returns-then-restart_idle-clause-settled c = λ settled. (settled, c.restart_idle.ensures.settled c.if-restart_idle.true)

pub returns-then-is_kept-clause-ok : goal.returns-then-is_kept-clause-ok
returns-then-is_kept-clause-ok c =
    let id = c.args.id.0 in
    let same = c.restart_idle.ensures.same c.if-restart_idle.false in
    same ∙ sym (kept_same id c.args.self.now (ap (λ (x : Queue). is_kept id x) (sym same) ∙ sym c.is_kept.ensures ∙ c.if-is_kept.true))
