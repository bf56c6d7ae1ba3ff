use Rattle.std.proofs.Common.{◌≡◌, true, refl, ap, sym, subst, ◌∙◌}
use Rattle.std.specs.Prelude.{not, option_map}
use Rattle.sctp_stream_scheduler.specs.StreamScheduler.{Scheduler, is_active, set_bytes_remaining}
use Rattle.sctp_tx_queue.specs.SendQueue.{Queue, Streams, stream, put_stream, set_sendable, has_nothing}
use Rattle.sctp_tx_queue.specs.Restarted.{restart, restarted_one, is_begun, is_settled}
use Rattle.sctp_tx_queue.proofs.AddedLemmas.{keeps_one}
use Rattle.sctp_tx_queue.proofs.SettledLemmas.{idle_sendable_in, idle_settled, without_beside}
use Rattle.sctp_tx_queue.proofs.send_queue.SendQueue.restart_idle.Goals as goal

pub invariant_of-self-2 : goal.invariant_of-self-2
invariant_of-self-2 c =
    let id = c.args.id.0 in
    let begun = option_map (λ i. i.0) c.self.inside.begun in
    let queue : Streams → Scheduler → _ → Queue = λ ss sch b. record { streams = ss; scheduler = sch; next_number = c.self.inside.next_message_id.0; begun = b } in
    keeps_one id 0 0 (restart (stream id c.self.inside.streams)) c.self.inside.changed c.add.new.self (queue c.self.inside.streams c.self.inside.scheduler begun)
    (queue c.restart_idle.new.self c.leave.new.self (option_map (λ i. i.0) c.begun_without-self-inside.result)) c.self.invariant c.add.ensures (c.if-not-restart_idle.ensures.done refl) c.leave.ensures.value
    (λ k h. ap (is_begun k) c.begun_without-self-inside.ensures ∙ without_beside k id begun h)

pub returns-clause-done : goal.returns-clause-done
returns-clause-done c = λ yes.
    let id = c.args.id.0 in
    let ss = c.self.inside.streams in
    let sch = c.self.inside.scheduler in
    let none : has_nothing (stream id ss) ≡ true = sym c.if-not-restart_idle.ensures.idle in
    let after : Streams = put_stream id (restart (stream id ss)) ss in
    let queue : Streams → Scheduler → _ → Queue = λ ss sch b. record { streams = ss; scheduler = sch; next_number = c.self.inside.next_message_id.0; begun = b } in
    ap (λ ss. queue ss c.leave.new.self (option_map (λ i. i.0) c.begun_without-self-inside.result)) (c.if-not-restart_idle.ensures.done refl)
    ∙ ap (λ s. queue after s (option_map (λ i. i.0) c.begun_without-self-inside.result)) (c.leave.ensures.value ∙ sym (ap (λ n. set_bytes_remaining id n (stream id after).priority sch) (idle_sendable_in id ss none)))
    ∙ ap (λ b. queue after (set_sendable id (stream id after) sch) b) c.begun_without-self-inside.ensures
    ∙ ap (λ q. restarted_one id q) c.self.view_is

pub returns-clause-settled : goal.returns-clause-settled
returns-clause-settled c = λ yes.
    let id = c.args.id.0 in
    let q = c.args.self.now in
    let done = returns-clause-done c yes in
    let inside : has_nothing (stream id c.self.inside.streams) ≡ true = sym c.restart_idle.ensures.idle ∙ c.if-not-restart_idle.false in
    let none : has_nothing (stream id q.streams) ≡ true = ap (λ (x : Queue). has_nothing (stream id x.streams)) (sym c.self.view_is) ∙ inside in
    subst (λ (x : Queue). is_settled id x ≡ true) (sym done) (idle_settled id q none (ap (λ (x : Queue). not (is_active id x.scheduler)) (sym done) ∙ ap not c.leave.ensures.inactive))
