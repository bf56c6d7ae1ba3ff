use Rattle.std.proofs.Common.{true, refl, ap, ◌∙◌}
use Rattle.std.specs.Prelude.{option_map}
use Rattle.sctp_tx_queue.specs.SendQueue.{Queue, Stream, Streams, stream, put_stream}
use Rattle.sctp_tx_queue.specs.Settings.{with_priority}
use Rattle.sctp_tx_queue.proofs.AddedLemmas.{keeps_set}
use Rattle.sctp_tx_queue.proofs.SettledLemmas.{keeps_joined}
use Rattle.sctp_tx_queue.proofs.send_queue.SendQueue.set_priority.Goals as goal

pub invariant_of-self : goal.invariant_of-self
invariant_of-self c =
    let queue : Streams → Queue = λ ss. record { streams = ss; scheduler = c.self.inside.scheduler; next_number = c.self.inside.next_message_id.0; begun = option_map (λ i. i.0) c.self.inside.begun } in
    keeps_joined true c.args.id.0 c.self.inside.changed c.add.new.self (queue c.self.inside.streams) (queue c.open.new.self) (ap queue c.in_err-open.ensures.err) c.self.invariant c.add.ensures

pub invariant_of-self-2 : goal.invariant_of-self-2
invariant_of-self-2 c =
    let id = c.args.id.0 in
    let s : Stream = with_priority c.args.priority (stream id c.open.new.self) in
    let queue : Streams → Queue = λ ss. record { streams = ss; scheduler = c.self.inside.scheduler; next_number = c.self.inside.next_message_id.0; begun = option_map (λ i. i.0) c.self.inside.begun } in
    keeps_set id s c.self.inside.changed c.add.new.self (queue c.self.inside.streams) (queue c.change.new.self) c.self.invariant c.add.ensures (c.change.ensures ∙ ap (λ ss. put_stream id s ss) c.in_ok-open.ensures.ok) (λ k d. refl) refl
