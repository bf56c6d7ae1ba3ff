use Rattle.std.proofs.Common.{ap, sym, ◌∙◌}
use Rattle.std.specs.Prelude.{option_map}
use Rattle.sctp_state.specs.Events.{emit_events}
use Rattle.sctp_state.specs.ThresholdWatcher.{crosses}
use Rattle.sctp_stream_scheduler.specs.StreamScheduler.{accept, set_bytes_remaining}
use Rattle.sctp_tx_queue.specs.SendQueue.{sendable, watched_amount}
use Rattle.sctp_tx_queue.specs.Produced.{advance, in_line, production, emitted_made}
use Rattle.sctp_tx_queue.specs.Views.{produced_of}
use Rattle.sctp_tx_queue.proofs.send_queue.sending.send_part.Goals as goal

pub returns-in_ok-go_in_line-in-Some-clause-sent : goal.returns-in_ok-go_in_line-in-Some-clause-sent
returns-in_ok-go_in_line-in-Some-clause-sent c =
    let s = c.args.stream.now in
    let id = c.args.counted.turn.id.0 in
    let sch = accept id c.args.scheduler.now in
    let next = c.next_after-next in
    let low = crosses (watched_amount s) (watched_amount (advance c.args.counted.turn.size s)) in
    let made = ap (λ o. option_map produced_of o) (sym c.in-Some.is) ∙ c.in_ok-made.ensures in
    record {
      made = made;
      stream = c.advance.ensures.after;
      scheduler =
          c.in_ok-go_in_line-in-Some.ensures.ok
          ∙ ap (λ b. set_bytes_remaining id b next.result.priority sch) next.ensures.bytes
          ∙ ap (λ p. set_bytes_remaining id (sendable (advance c.args.counted.turn.size s)) p sch) next.ensures.priority
          ∙ ap (λ o. in_line id (sendable (advance c.args.counted.turn.size s)) s.priority o c.args.scheduler.now) made;
      emitted =
          c.in_ok-go_in_line-in-Some.ensures.emitted
          ∙ ap (λ b. emit_events (production id b next.result.lows.is_total_low c.in-Some.made.lifecycle_id) c.args.events.now) next.ensures.low
          ∙ ap (λ b. emit_events (production id low b c.in-Some.made.lifecycle_id) c.args.events.now) next.ensures.total
          ∙ ap (λ o. emitted_made id low c.args.counted.is_total_low o c.args.events.now) made;
      less = c.advance.ensures.less;
    }
