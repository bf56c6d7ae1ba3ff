use Rattle.std.proofs.Common.{ap, sym, ◌∙◌}
use Rattle.std.specs.Prelude.{option_map}
use Rattle.sctp_stream_scheduler.specs.StreamScheduler.{Scheduler, set_bytes_remaining}
use Rattle.sctp_tx_queue.specs.declared.send_queue.stream.ResetStep.TheVariants.{Requested}
use Rattle.sctp_tx_queue.specs.SendQueue.{Queue, Streams, stream, put_stream}
use Rattle.sctp_tx_queue.specs.Resets.{after_step, apply_reset_step}
use Rattle.sctp_tx_queue.proofs.AddedLemmas.{keeps_one}
use Rattle.sctp_tx_queue.proofs.StreamsLemmas.{requested_sendable}
use Rattle.sctp_tx_queue.proofs.send_queue.SendQueue.request_one.Goals as goal

pub returns : goal.returns
returns c =
    let id = c.args.id.0 in
    let queue : Streams → Scheduler → Queue = λ ss sch. record { streams = ss; scheduler = sch; next_number = c.self.inside.next_message_id.0; begun = option_map (λ i. i.0) c.self.inside.begun } in
    let after : Streams = put_stream id (after_step Requested (stream id c.self.inside.streams)) c.self.inside.streams in
    ap (λ ss. queue ss c.leave.new.self) c.change.ensures
    ∙ ap (λ sch. queue after sch) (c.leave.ensures.value ∙ sym (ap (λ n. set_bytes_remaining id n (stream id after).priority c.self.inside.scheduler) (requested_sendable id c.self.inside.streams)))
    ∙ ap (λ q. apply_reset_step Requested id q) c.self.view_is

pub invariant_of-self : goal.invariant_of-self
invariant_of-self c =
    let id = c.args.id.0 in
    let queue : Streams → Scheduler → Queue = λ ss sch. record { streams = ss; scheduler = sch; next_number = c.self.inside.next_message_id.0; begun = option_map (λ i. i.0) c.self.inside.begun } in
    keeps_one id 0 0 (after_step Requested (stream id c.self.inside.streams)) c.self.inside.changed c.add.new.self (queue c.self.inside.streams c.self.inside.scheduler) (queue c.change.new.self c.leave.new.self) c.self.invariant c.add.ensures c.change.ensures
    c.leave.ensures.value (λ k h. h)
