use Rattle.std.proofs.Common.{ap, ◌∙◌}
use Rattle.sctp_stream_scheduler.specs.StreamScheduler.{accept, set_bytes_remaining}
use Rattle.sctp_state.specs.Events.{emit_events}
use Rattle.sctp_state.specs.ThresholdWatcher.{crosses}
use Rattle.sctp_tx_queue.specs.SendQueue.{sendable, watched_amount}
use Rattle.sctp_tx_queue.specs.Produced.{advance, front_numbers, production}
use Rattle.sctp_tx_queue.specs.Whole.{front_lifecycle}
use Rattle.sctp_tx_queue.proofs.WholeLemmas.{whole_line, whole_emitted}
use Rattle.sctp_tx_queue.proofs.send_queue.sending.send_whole.Goals as goal

pub returns-clause-sent : goal.returns-clause-sent
returns-clause-sent c =
    let s = c.args.stream.now in
    let id = c.args.counted.turn.id.0 in
    let size = c.args.counted.turn.size in
    let sch = accept id c.args.scheduler.now in
    let next = c.next_after-next in
    let low = crosses (watched_amount s) (watched_amount (advance size s)) in
    let lifecycle = front_lifecycle s.messages in
    record {
      made = c.take_whole.ensures.made;
      stream = c.take_whole.ensures.after;
      scheduler =
          c.in_ok-go_in_line.ensures.ok
          ∙ ap (λ b. set_bytes_remaining id b next.result.priority sch) next.ensures.bytes
          ∙ ap (λ p. set_bytes_remaining id (sendable (advance size s)) p sch) next.ensures.priority
          ∙ whole_line id (sendable (advance size s)) s.priority size (front_numbers s.messages s) s.messages c.args.scheduler.now c.requires;
      emitted =
          c.in_ok-go_in_line.ensures.emitted
          ∙ ap (λ l. emit_events (production id next.result.lows.is_low next.result.lows.is_total_low l) c.args.events.now) c.front_lifecycle.ensures
          ∙ ap (λ b. emit_events (production id b next.result.lows.is_total_low lifecycle) c.args.events.now) next.ensures.low
          ∙ ap (λ b. emit_events (production id low b lifecycle) c.args.events.now) next.ensures.total
          ∙ whole_emitted id size low c.args.counted.is_total_low (front_numbers s.messages s) s.messages c.args.events.now c.requires;
      less = c.take_whole.ensures.less;
    }
