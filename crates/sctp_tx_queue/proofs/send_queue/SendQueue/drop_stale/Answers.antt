use Rattle.std.proofs.Common.{Some, None, ap, sym, subst, ◌∙◌, refl}
use Rattle.std.specs.Prelude.{option_map}
use Rattle.sctp_stream_scheduler.specs.StreamScheduler.{Scheduler}
use Rattle.sctp_tx_queue.specs.SendQueue.{Queue, Streams, stream}
use Rattle.sctp_tx_queue.specs.Produced.{without_stale, streams_without_stale}
use Rattle.sctp_tx_queue.specs.Interrupted.{TurnOver}
use Rattle.sctp_tx_queue.specs.Restarted.{ResetKeeps}
use Rattle.sctp_tx_queue.proofs.AddedLemmas.{keeps_one, keeps_put}
use Rattle.sctp_tx_queue.proofs.StaleLemmas.{none_stale, turn_over}
use Rattle.sctp_tx_queue.proofs.WholeLemmas.{streams_fresh}
use Rattle.sctp_tx_queue.proofs.send_queue.SendQueue.drop_stale.Goals as goal

pub invariant_of-self-in_default : goal.invariant_of-self-in_default
invariant_of-self-in_default c =
    let id = c.args.next.id.0 in
    let ss = c.self.inside.streams in
    let queue : Streams → Queue = λ x. record { streams = x; scheduler = c.self.inside.scheduler; next_number = c.self.inside.next_message_id.0; begun = option_map (λ i. i.0) c.self.inside.begun } in
    let same = streams_fresh c.args.now id ss (none_stale c.args.now (stream id ss).messages (sym c.in_default.is ∙ c.in_ok-is_empty.ensures.left)) ∙ sym c.in_ok-is_empty.ensures.ok in
    subst (λ (x : Streams). ResetKeeps c.self.inside.changed (queue x)) same c.self.invariant

pub invariant_of-self-then-is_empty : goal.invariant_of-self-then-is_empty
invariant_of-self-then-is_empty c =
    let id = c.args.next.id.0 in
    let queue : Streams → Scheduler → _ → Queue = λ ss sch b. record { streams = ss; scheduler = sch; next_number = c.self.inside.next_message_id.0; begun = b } in
    keeps_one id 0 0 (without_stale c.args.now (stream id c.self.inside.streams)) c.self.inside.changed c.add.new.self (queue c.self.inside.streams c.self.inside.scheduler (option_map (λ i. i.0) c.self.inside.begun))
    (queue c.drop_stale.new.self c.leave.new.self None) c.self.invariant c.add.ensures c.in_ok-is_empty.ensures.ok c.leave.ensures.value (λ k b. refl)

pub invariant_of-self-else-is_empty : goal.invariant_of-self-else-is_empty
invariant_of-self-else-is_empty c =
    let id = c.args.next.id.0 in
    let queue : Streams → Queue = λ ss. record { streams = ss; scheduler = c.self.inside.scheduler; next_number = c.self.inside.next_message_id.0; begun = option_map (λ i. i.0) c.self.inside.begun } in
    keeps_put id (without_stale c.args.now (stream id c.self.inside.streams)) c.self.inside.changed c.add.new.self (queue c.self.inside.streams) (queue c.drop_stale.new.self) c.self.invariant c.add.ensures c.in_ok-is_empty.ensures.ok refl refl

pub returns-then-is_empty-clause-over : goal.returns-then-is_empty-clause-over
returns-then-is_empty-clause-over c =
    λ e. let id = c.args.next.id.0 in
    let queue : Streams → Scheduler → _ → Queue = λ ss sch b. record { streams = ss; scheduler = sch; next_number = c.self.inside.next_message_id.0; begun = b } in
    let q : Queue = queue c.self.inside.streams c.self.inside.scheduler (option_map (λ i. i.0) c.self.inside.begun) in
    let r : Queue = queue c.drop_stale.new.self c.leave.new.self None in
    let after = ap (λ ss. queue ss c.leave.new.self None) c.in_ok-is_empty.ensures.ok ∙ ap (λ sch. queue (streams_without_stale c.args.now id c.self.inside.streams) sch None) c.leave.ensures.value in
    subst (λ (x : Queue). TurnOver c.args.now id c.args.next.size x c.args.events.now r c.drop_stale.new.events) c.self.view_is
    (turn_over c.args.now id c.args.next.size q r c.args.events.now c.drop_stale.new.events (ap (λ b. Some b) (sym e) ∙ sym c.in-Some.is ∙ c.in_ok-is_empty.ensures.left) after c.in_ok-is_empty.ensures.emitted)
