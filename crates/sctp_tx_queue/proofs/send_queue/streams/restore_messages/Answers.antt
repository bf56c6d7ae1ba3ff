use Rattle.std.proofs.Common.{List, ap, ◌∙◌, arith, take}
use Rattle.std.specs.Prelude.{map}
use Rattle.sctp_state.specs.Handover.{StreamMessage, stream_message_of}
use Rattle.sctp_tx_queue.specs.SendQueue.{Queued, Streams, Entries, total_of, remaining_bytes}
use Rattle.sctp_tx_queue.proofs.RestoreLemmas.{holding, no_bytes, done_more, next_is, message_put, total_put}
use Rattle.sctp_tx_queue.proofs.send_queue.streams.restore_messages.Goals as goal

pub loop-message-init : goal.loop-message-init
loop-message-init c = record {
  done = ap (λ (es : Entries). let r : Streams = record c.args.streams.now { entries = es } in r) c.requires.empty;
  valid = c.requires.valid;
  small = omega (arith, c.requires.small, ap total_of c.requires.empty, no_bytes c.args.streams.now.default_threshold c.args.records.now);
}

pub loop-message-preserved : goal.loop-message-preserved
loop-message-preserved c =
    let first = c.args.streams.now in
    let i = c.loop-message.message-index in
    let m = c.message-item.result in
    let done = map stream_message_of (take i c.args.messages.now) in
    let next = next_is c.args.records.now c.args.messages.now i m c.loop-message-test.true c.message-item.is c.loop-message.invariant.valid in
    let put = message_put c.args.now first c.loop-message.streams c.push.new.self c.args.records.now done (stream_message_of m) c.in_ok-restored.restored c.requires.rises next.there c.loop-message.invariant.done c.in_ok-restored.ensures c.in_ok-push.ensures.ok in
    let total = total_put c.args.now first c.loop-message.streams c.push.new.self c.args.records.now done m.stream_id c.in_ok-restored.restored next.there c.loop-message.invariant.done c.in_ok-push.ensures.ok in
    record {
      done = put ∙ ap (λ (ms : List StreamMessage). holding c.args.now c.args.records.now ms first) (done_more c.args.messages.now i m c.loop-message-test.true c.message-item.is);
      valid = next.behind;
      small = omega (arith, c.loop-message.invariant.small, next.bytes, total, ap (λ (q : Queued). remaining_bytes q) c.in_ok-restored.ensures);
    }
