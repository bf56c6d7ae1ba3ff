use Rattle.std.proofs.Common.{true, ap}
use Rattle.std.specs.Prelude.{option_map}
use Rattle.sctp_stream_scheduler.specs.StreamScheduler.{Scheduler}
use Rattle.sctp_tx_queue.specs.SendQueue.{Queue, Streams, stream}
use Rattle.sctp_tx_queue.specs.Resets.{after_step}
use Rattle.sctp_tx_queue.proofs.AddedLemmas.{keeps_one}
use Rattle.sctp_tx_queue.proofs.SettledLemmas.{keeps_joined}
use Rattle.sctp_tx_queue.proofs.send_queue.SendQueue.take_step.Goals as goal

pub invariant_of-self : goal.invariant_of-self
invariant_of-self c =
    let queue : Scheduler → Queue = λ sch. record { streams = c.self.inside.streams; scheduler = sch; next_number = c.self.inside.next_message_id.0; begun = option_map (λ i. i.0) c.self.inside.begun } in
    keeps_joined true c.args.id.0 c.self.inside.changed c.add.new.self (queue c.self.inside.scheduler) (queue c.set_bytes_remaining.new.self) (ap queue c.in_err-set_bytes_remaining.ensures.err) c.self.invariant c.add.ensures

pub invariant_of-self-2 : goal.invariant_of-self-2
invariant_of-self-2 c =
    let id = c.args.id.0 in
    let queue : Streams → Scheduler → Queue = λ ss sch. record { streams = ss; scheduler = sch; next_number = c.self.inside.next_message_id.0; begun = option_map (λ i. i.0) c.self.inside.begun } in
    keeps_one id c.demand_stepped-demand.result.bytes c.demand_stepped-demand.result.priority (after_step c.args.step (stream id c.self.inside.streams)) c.self.inside.changed c.add.new.self (queue c.self.inside.streams c.self.inside.scheduler)
    (queue c.change.new.self c.set_bytes_remaining.new.self) c.self.invariant c.add.ensures c.change.ensures c.in_ok-set_bytes_remaining.ensures.ok (λ k h. h)
