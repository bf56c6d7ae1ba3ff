use Rattle.std.proofs.Common.{◌≡◌, ℕ, ◌-◌, ◌==◌, length, refl, ap, sym, ◌∙◌, arith, rules}
use Rattle.std.specs.Prelude.{option_map}
use Rattle.sctp_stream_scheduler.specs.StreamScheduler.{Scheduler, leave, set_bytes_remaining}
use Rattle.sctp_stream_scheduler.proofs.SchedulerLemmas.{withdraws}
use Rattle.sctp_serial.proofs.NumberLemmas.{not_zero}
use Rattle.sctp_tx_queue.specs.SendQueue.{Queue, Queued, Stream, Streams, stream, push, next_number, remaining_bytes}
use Rattle.sctp_tx_queue.specs.Restarted.{is_unbegun}
use Rattle.sctp_tx_queue.proofs.AddedLemmas.{keeps_added, leaves_line, mode_keeps}
use Rattle.sctp_tx_queue.specs.Views.{queued_of}
use Rattle.sctp_tx_queue.proofs.WholeLemmas.{active_keeps}
use Rattle.sctp_tx_queue.proofs.send_queue.SendQueue.add.Goals as goal

pub returns-then-is_active-clause-ok : goal.returns-then-is_active-clause-ok
returns-then-is_active-clause-ok c =
    let id = c.args.message.stream_id.0 in
    let kept = active_keeps id c.demand_with-demand.result.bytes (stream id c.self.inside.streams).priority c.self.inside.scheduler (omega (arith, c.if-demand-eq0.false)) (sym c.is_active.ensures ∙ c.if-is_active.true) in
    let number : ℕ → Queue = λ n. record { streams = c.push-then-is_active.new.self; scheduler = c.self.inside.scheduler; next_number = n; begun = option_map (λ i. i.0) c.self.inside.begun } in
    let m = queued_of c.args.self.now.next_number c.args.now c.args.message c.args.options.now in
    let s : Streams → Stream = λ ss. push m (stream id ss) in
    let queue : Streams → Scheduler → Queue = λ ss sch. record { streams = ss; scheduler = sch; next_number = next_number c.self.inside.next_message_id.0; begun = option_map (λ i. i.0) c.self.inside.begun } in
    let line = ap (λ b. set_bytes_remaining id b c.demand_with-demand.result.priority c.self.inside.scheduler) c.demand_with-demand.ensures.bytes in
    ap number c.add_assign-then-is_active.ensures.after
    ∙ ap (λ ss. queue ss c.self.inside.scheduler) c.in_ok-push-2.ensures.ok
    ∙ search (rules, kept, line)

pub returns-clause-err : goal.returns-clause-err
returns-clause-err c =
    let id = c.args.message.stream_id.0 in
    let queue : Streams → Scheduler → Queue = λ ss sch. record { streams = ss; scheduler = sch; next_number = c.self.inside.next_message_id.0; begun = option_map (λ i. i.0) c.self.inside.begun } in
    ap (λ ss. queue ss c.leave-2.new.self) c.in-Err.ensures.err
    ∙ ap (λ sch. queue c.self.inside.streams sch) (c.leave-2.ensures.value ∙ ap (leave id) c.in_ok-set_bytes_remaining.ensures.ok ∙ withdraws id c.demand_with-demand.result.bytes c.demand_with-demand.result.priority c.self.inside.scheduler (sym c.is_active.ensures ∙ c.if-is_active.false))
    ∙ c.self.view_is

pub invariant_of-self-then-demand-eq0 : goal.invariant_of-self-then-demand-eq0
invariant_of-self-then-demand-eq0 c =
    let id = c.args.message.stream_id.0 in
    let demand = c.demand_with-demand in
    let queue : Streams → Scheduler → ℕ → Queue = λ ss sch n. record { streams = ss; scheduler = sch; next_number = n; begun = option_map (λ i. i.0) c.self.inside.begun } in
    keeps_added c.self.inside.changed id demand.result.priority c.in_ok-message.message (queue c.self.inside.streams c.self.inside.scheduler c.self.inside.next_message_id.0) (queue c.push.new.self c.leave.new.self c.add_assign.new.self.0)
    (ap is_unbegun c.in_ok-message.ensures) (ap (λ (m : Queued). remaining_bytes m == 0) c.in_ok-message.ensures ∙ not_zero (length c.args.message.payload.items - 0) (omega (arith, c.requires.some))) c.in_ok-push.ensures.ok
    (c.leave.ensures.value ∙ leaves_line id _ demand.result.bytes demand.result.priority c.self.inside.scheduler demand.ensures.bytes c.if-demand-eq0.true) refl c.self.invariant

pub invariant_of-self-then-is_active : goal.invariant_of-self-then-is_active
invariant_of-self-then-is_active c =
    let id = c.args.message.stream_id.0 in
    let demand = c.demand_with-demand in
    let kept = active_keeps id demand.result.bytes demand.result.priority c.self.inside.scheduler (omega (arith, c.if-demand-eq0.false)) (sym c.is_active.ensures ∙ c.if-is_active.true) in
    let queue : Streams → Scheduler → ℕ → Queue = λ ss sch n. record { streams = ss; scheduler = sch; next_number = n; begun = option_map (λ i. i.0) c.self.inside.begun } in
    keeps_added c.self.inside.changed id demand.result.priority c.in_ok-message.message (queue c.self.inside.streams c.self.inside.scheduler c.self.inside.next_message_id.0) (queue c.push-then-is_active.new.self c.self.inside.scheduler c.add_assign-then-is_active.new.self.0)
    (ap is_unbegun c.in_ok-message.ensures) (ap (λ (m : Queued). remaining_bytes m == 0) c.in_ok-message.ensures ∙ not_zero (length c.args.message.payload.items - 0) (omega (arith, c.requires.some))) c.in_ok-push-2.ensures.ok
    (sym kept ∙ ap (λ n. set_bytes_remaining id n demand.result.priority c.self.inside.scheduler) demand.ensures.bytes) refl c.self.invariant

pub invariant_of-self-in_default : goal.invariant_of-self-in_default
invariant_of-self-in_default c =
    let id = c.args.message.stream_id.0 in
    let demand = c.demand_with-demand in
    let queue : Streams → Scheduler → ℕ → Queue = λ ss sch n. record { streams = ss; scheduler = sch; next_number = n; begun = option_map (λ i. i.0) c.self.inside.begun } in
    keeps_added c.self.inside.changed id demand.result.priority c.in_ok-message.message (queue c.self.inside.streams c.self.inside.scheduler c.self.inside.next_message_id.0) (queue c.push-2.new.self c.set_bytes_remaining.new.self c.add_assign-in_default.new.self.0)
    (ap is_unbegun c.in_ok-message.ensures) (ap (λ (m : Queued). remaining_bytes m == 0) c.in_ok-message.ensures ∙ not_zero (length c.args.message.payload.items - 0) (omega (arith, c.requires.some))) c.in_default.ensures.ok
    (c.in_ok-set_bytes_remaining.ensures.ok ∙ ap (λ n. set_bytes_remaining id n demand.result.priority c.self.inside.scheduler) demand.ensures.bytes) refl c.self.invariant

pub invariant_of-self-2 : goal.invariant_of-self-2
invariant_of-self-2 c =
    let id = c.args.message.stream_id.0 in
    let queue : Streams → Scheduler → Queue = λ ss sch. record { streams = ss; scheduler = sch; next_number = c.self.inside.next_message_id.0; begun = option_map (λ i. i.0) c.self.inside.begun } in
    let line : c.leave-2.new.self ≡ c.self.inside.scheduler =
    c.leave-2.ensures.value ∙ ap (leave id) c.in_ok-set_bytes_remaining.ensures.ok ∙ withdraws id c.demand_with-demand.result.bytes c.demand_with-demand.result.priority c.self.inside.scheduler (sym c.is_active.ensures ∙ c.if-is_active.false) in
    mode_keeps c.self.inside.changed (queue c.self.inside.streams c.self.inside.scheduler) (queue c.push-2.new.self c.leave-2.new.self) c.in-Err.ensures.err (ap (λ (sch : Scheduler). sch.times) line) refl c.self.invariant
