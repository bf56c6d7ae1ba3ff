use Rattle.std.proofs.Common.{true, ap, sym, ◌∙◌}
use Rattle.std.specs.Prelude.{option_map}
use Rattle.sctp_stream_scheduler.specs.StreamScheduler.{Scheduler}
use Rattle.sctp_tx_queue.specs.SendQueue.{Queue, Stream, Streams, stream}
use Rattle.sctp_tx_queue.specs.Settings.{front_discarded, without_front}
use Rattle.sctp_tx_queue.specs.Restarted.{is_begun}
use Rattle.sctp_tx_queue.proofs.AddedLemmas.{keeps_one}
use Rattle.sctp_tx_queue.proofs.SettledLemmas.{keeps_joined, without_beside, discard_none}
use Rattle.sctp_tx_queue.proofs.send_queue.SendQueue.discard.Goals as goal

pub returns-in_default-clause-queue : goal.returns-in_default-clause-queue
returns-in_default-clause-queue c =
    let none = ap (λ o. option_map (λ d. d.lifecycle_id) o) (sym c.in_default.is) ∙ c.front_discarded.ensures ∙ ap (λ (q : Queue). front_discarded c.args.message_id.0 (stream c.args.id.0 q.streams).messages) c.self.view_is in
    sym (discard_none c.args.id.0 c.args.message_id.0 c.args.self.now c.args.events.now none).queue

pub returns-in_default-clause-emitted : goal.returns-in_default-clause-emitted
returns-in_default-clause-emitted c =
    let none = ap (λ o. option_map (λ d. d.lifecycle_id) o) (sym c.in_default.is) ∙ c.front_discarded.ensures ∙ ap (λ (q : Queue). front_discarded c.args.message_id.0 (stream c.args.id.0 q.streams).messages) c.self.view_is in
    sym (discard_none c.args.id.0 c.args.message_id.0 c.args.self.now c.args.events.now none).events

pub invariant_of-self : goal.invariant_of-self
invariant_of-self c =
    let queue : Scheduler → Queue = λ sch. record { streams = c.self.inside.streams; scheduler = sch; next_number = c.self.inside.next_message_id.0; begun = option_map (λ i. i.0) c.self.inside.begun } in
    keeps_joined true c.args.id.0 c.self.inside.changed c.add.new.self (queue c.self.inside.scheduler) (queue c.leave_line.new.scheduler) (ap queue c.in_err-leave_line.ensures.err) c.self.invariant c.add.ensures

pub invariant_of-self-2 : goal.invariant_of-self-2
invariant_of-self-2 c =
    let id = c.args.id.0 in
    let s : Stream = stream id c.self.inside.streams in
    let queue : Streams → Scheduler → _ → Queue = λ ss sch b. record { streams = ss; scheduler = sch; next_number = c.self.inside.next_message_id.0; begun = b } in
    let begun = option_map (λ i. i.0) c.self.inside.begun in
    keeps_one id c.demand_without-demand.result.bytes c.demand_without-demand.result.priority (without_front c.args.message_id.0 s.messages s) c.self.inside.changed c.add.new.self (queue c.self.inside.streams c.self.inside.scheduler begun)
    (queue c.change.new.self c.leave_line.new.scheduler (option_map (λ i. i.0) c.begun_without-self-inside.result)) c.self.invariant c.add.ensures c.change.ensures c.in_ok-leave_line.ensures.ok
    (λ k h. ap (is_begun k) c.begun_without-self-inside.ensures ∙ without_beside k id begun h)
