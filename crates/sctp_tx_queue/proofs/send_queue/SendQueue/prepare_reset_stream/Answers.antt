use Rattle.std.proofs.Common.{◌≡◌, true, refl, ap, ◌∙◌, rules}
use Rattle.std.specs.Prelude.{option_map, IsSome}
use Rattle.std.specs.Map.{lookup}
use Rattle.std.specs.Ordering.{nat_cmp}
use Rattle.std.specs.BTreeMap.{is_at}
use Rattle.sctp_stream_scheduler.specs.StreamScheduler.{Scheduler, is_active, set_bytes_remaining}
use Rattle.sctp_tx_queue.specs.SendQueue.{Queue, Stream, Streams, stream, with_stream, put_stream, sendable}
use Rattle.sctp_tx_queue.specs.Resets.{prepare_stream, prepare_reset}
use Rattle.sctp_tx_queue.proofs.AddedLemmas.{keeps_set}
use Rattle.sctp_tx_queue.proofs.SettledLemmas.{keeps_joined, set_beside}
use Rattle.sctp_tx_queue.proofs.ResetLemmas.{prepared_is}
use Rattle.sctp_tx_queue.proofs.send_queue.SendQueue.prepare_reset_stream.Goals as goal

pub invariant_of-self : goal.invariant_of-self
invariant_of-self c =
    let queue : Streams → Scheduler → Queue = λ ss sch. record { streams = ss; scheduler = sch; next_number = c.self.inside.next_message_id.0; begun = option_map (λ i. i.0) c.self.inside.begun } in
    let streams : c.emit_and_open.new.streams ≡ c.self.inside.streams = search rules in
    let line : c.emit_and_open.new.scheduler ≡ c.self.inside.scheduler = search rules in
    keeps_joined true c.args.id.0 c.self.inside.changed c.add.new.self (queue c.self.inside.streams c.self.inside.scheduler) (queue c.emit_and_open.new.streams c.emit_and_open.new.scheduler)
    (ap (λ ss. queue ss c.emit_and_open.new.scheduler) streams ∙ ap (λ sch. queue c.self.inside.streams sch) line) c.self.invariant c.add.ensures

pub invariant_of-self-2 : goal.invariant_of-self-2
invariant_of-self-2 c =
    let id = c.args.id.0 in
    let before : Stream = stream id c.self.inside.streams in
    let s : Stream = prepare_stream (stream id c.emit_and_open.new.streams) in
    let queue : Streams → Scheduler → Queue = λ ss sch. record { streams = ss; scheduler = sch; next_number = c.self.inside.next_message_id.0; begun = option_map (λ i. i.0) c.self.inside.begun } in
    let opened : c.emit_and_open.new.streams ≡ with_stream id c.self.inside.streams = search rules in
    let line : c.emit_and_open.new.scheduler ≡ set_bytes_remaining id (sendable (prepare_stream before)) before.priority c.self.inside.scheduler = search rules in
    keeps_set id s c.self.inside.changed c.add.new.self (queue c.self.inside.streams c.self.inside.scheduler) (queue c.change.new.self c.emit_and_open.new.scheduler) c.self.invariant c.add.ensures
    (c.change.ensures ∙ ap (λ ss. put_stream id s ss) opened) (λ k d. ap (is_active k) line ∙ set_beside k id (sendable (prepare_stream before)) before.priority c.self.inside.scheduler d) refl

pub returns-clause-queue : goal.returns-clause-queue
returns-clause-queue c =
    let id = c.args.id.0 in
    let q : Queue = record { streams = c.self.inside.streams; scheduler = c.self.inside.scheduler; next_number = c.self.inside.next_message_id.0; begun = option_map (λ i. i.0) c.self.inside.begun } in
    let before : Stream = stream id q.streams in
    let opened : c.emit_and_open.new.streams ≡ with_stream id c.self.inside.streams = search rules in
    let there : IsSome (lookup (is_at (nat_cmp id)) c.emit_and_open.new.streams.entries) = search rules in
    let same : stream id c.emit_and_open.new.streams ≡ stream id c.self.inside.streams = search rules in
    let line : c.emit_and_open.new.scheduler ≡ set_bytes_remaining id (sendable (prepare_stream before)) before.priority c.self.inside.scheduler = search rules in
    prepared_is id q c.emit_and_open.new.streams c.change.new.self c.emit_and_open.new.scheduler c.args.events.now opened there same line c.change.ensures
    ∙ ap (λ (x : Queue). (prepare_reset id x c.args.events.now).queue) c.self.view_is
