use Rattle.std.proofs.Common.{ap, ◌∙◌}
use Rattle.std.specs.Prelude.{option_map}
use Rattle.sctp_stream_scheduler.specs.StreamScheduler.{Scheduler}
use Rattle.sctp_tx_queue.specs.SendQueue.{Queue, Streams, stream, sendable}
use Rattle.sctp_tx_queue.specs.Produced.{begun_by, next_fragment, streams_after}
use Rattle.sctp_tx_queue.specs.Restarted.{is_restarted}
use Rattle.sctp_tx_queue.proofs.AddedLemmas.{keeps_sent}
use Rattle.sctp_tx_queue.proofs.SettledLemmas.{keeps_joined}
use Rattle.sctp_tx_queue.proofs.send_queue.SendQueue.send_front.Goals as goal

pub invariant_of-self : goal.invariant_of-self
invariant_of-self c =
    let id = c.args.turn.id.0 in
    let queue : Streams → Scheduler → Queue = λ ss sch. record { streams = ss; scheduler = sch; next_number = c.self.inside.next_message_id.0; begun = option_map (λ i. i.0) c.self.inside.begun } in
    keeps_joined (is_restarted (stream id c.self.inside.streams)) id c.self.inside.changed c.send_front.new.changed (queue c.self.inside.streams c.self.inside.scheduler) (queue c.send_front.new.self c.send_front.new.scheduler)
    (ap (λ ss. queue ss c.send_front.new.scheduler) c.in_err-made.ensures.err ∙ ap (λ sch. queue c.self.inside.streams sch) c.in_err-made.ensures.kept) c.self.invariant c.send_front.ensures.joins

pub invariant_of-self-2 : goal.invariant_of-self-2
invariant_of-self-2 c =
    let id = c.args.turn.id.0 in
    let size = c.args.turn.size in
    let ss = c.self.inside.streams in
    let mode = c.self.inside.scheduler.is_interleaved in
    let after = stream id (streams_after id size ss) in
    let queue : Streams → Scheduler → _ → Queue = λ ss sch b. record { streams = ss; scheduler = sch; next_number = c.self.inside.next_message_id.0; begun = b } in
    keeps_sent id size (sendable after) after.priority c.is_interleaved-is_interleaved.result (next_fragment id size (stream id ss)) c.self.inside.changed c.send_front.new.changed (queue ss c.self.inside.scheduler (option_map (λ i. i.0) c.self.inside.begun))
    (queue c.send_front.new.self c.send_front.new.scheduler (option_map (λ i. i.0) c.begun_by-self-inside.result)) c.self.invariant c.send_front.ensures.joins c.in_ok-made.ensures.streams c.in_ok-made.ensures.line
    (c.begun_by-self-inside.ensures ∙ ap (λ found. begun_by id c.is_interleaved-is_interleaved.result found) c.in_ok-made.ensures.made)
