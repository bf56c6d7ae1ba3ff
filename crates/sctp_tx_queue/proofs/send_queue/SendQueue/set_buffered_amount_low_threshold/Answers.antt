use Rattle.std.proofs.Common.{◌≡◌, true, refl, ap, ◌∙◌, rules}
use Rattle.std.specs.Prelude.{option_map}
use Rattle.sctp_tx_queue.specs.SendQueue.{Queue, Stream, Streams, stream, with_stream, put_stream}
use Rattle.sctp_tx_queue.specs.Settings.{with_threshold}
use Rattle.sctp_tx_queue.proofs.AddedLemmas.{keeps_set}
use Rattle.sctp_tx_queue.proofs.SettledLemmas.{keeps_joined}
use Rattle.sctp_tx_queue.proofs.send_queue.SendQueue.set_buffered_amount_low_threshold.Goals as goal

pub invariant_of-self : goal.invariant_of-self
invariant_of-self c =
    let q : Queue = record { streams = c.self.inside.streams; scheduler = c.self.inside.scheduler; next_number = c.self.inside.next_message_id.0; begun = option_map (λ i. i.0) c.self.inside.begun } in
    keeps_joined true c.args.id.0 c.self.inside.changed c.add.new.self q q refl c.self.invariant c.add.ensures

pub invariant_of-self-then-is_err-2 : goal.invariant_of-self-then-is_err-2
invariant_of-self-then-is_err-2 c =
    let queue : Streams → Queue = λ ss. record { streams = ss; scheduler = c.self.inside.scheduler; next_number = c.self.inside.next_message_id.0; begun = option_map (λ i. i.0) c.self.inside.begun } in
    let same : c.open.new.self ≡ c.self.inside.streams = search rules in
    keeps_joined true c.args.id.0 c.self.inside.changed c.add.new.self (queue c.self.inside.streams) (queue c.open.new.self) (ap queue same) c.self.invariant c.add.ensures

pub invariant_of-self-2 : goal.invariant_of-self-2
invariant_of-self-2 c =
    let id = c.args.id.0 in
    let s : Stream = with_threshold c.args.bytes (stream id c.open.new.self) in
    let queue : Streams → Queue = λ ss. record { streams = ss; scheduler = c.self.inside.scheduler; next_number = c.self.inside.next_message_id.0; begun = option_map (λ i. i.0) c.self.inside.begun } in
    let opened : c.open.new.self ≡ with_stream id c.self.inside.streams = search rules in
    keeps_set id s c.self.inside.changed c.add.new.self (queue c.self.inside.streams) (queue c.change.new.self) c.self.invariant c.add.ensures (c.change.ensures ∙ ap (λ ss. put_stream id s ss) opened) (λ k d. refl) refl
