use Rattle.std.proofs.Common.{ap, sym, subst, ◌∙◌, arith, rules}
use Rattle.std.specs.Map.{lookup, set_value}
use Rattle.std.specs.Ordering.{nat_cmp}
use Rattle.std.specs.BTreeMap.{is_at}
use Rattle.sctp_state.specs.ThresholdWatcher.{crosses, lower}
use Rattle.sctp_tx_queue.specs.SendQueue.{Stream, Streams, Entries, amount_of, total_of, watched_amount, watched_total, stream, sendable}
use Rattle.sctp_tx_queue.specs.Produced.{advance, front_numbers, streams_after, in_line, emitted_made, next_fragment}
use Rattle.sctp_tx_queue.specs.Bounded.{one}
use Rattle.sctp_tx_queue.specs.Restarted.{is_restarted, Joins}
use Rattle.sctp_tx_queue.proofs.AddedLemmas.{blank_restarted, joins_as}
use Rattle.sctp_tx_queue.proofs.BoundLemmas.{few_changed, keeps_moved, keeps_same}
use Rattle.sctp_tx_queue.proofs.ReadyIdsLemmas.{lists_changed, lists_kept}
use Rattle.sctp_tx_queue.proofs.ReadyLemmas.{ready_changed, ready_kept, ready_least, ready_most}
use Rattle.sctp_tx_queue.proofs.StreamLemmas.{crosses_same}
use Rattle.sctp_tx_queue.proofs.StreamsLemmas.{total_written, total_after, amount_at_most, put_nowhere, stream_there, stream_nowhere, written_same}
use Rattle.sctp_tx_queue.proofs.WholeLemmas.{none_made, sent_line}
use Rattle.sctp_tx_queue.proofs.send_queue.streams.Streams.send_front.Goals as goal

pub returns-in_default-clause-streams : goal.returns-in_default-clause-streams
returns-in_default-clause-streams c =
    let view : Entries → Streams = λ es. record { entries = es; total_threshold = c.self.inside.total.low_threshold; default_threshold = c.self.inside.default_threshold; default_priority = c.self.inside.default_priority; avoids_stalls = c.self.inside.avoids_stalls } in
    ap view (ap (λ m. m.entries) c.get_mut.follows.holds-at-none) ∙ c.self.view_is
    ∙ sym (put_nowhere c.args.turn.id.0 _ c.args.self.now (c.in_default.ensures.value ∙ ap (λ ss. lookup (is_at (nat_cmp c.args.turn.id.0)) ss.entries) c.self.view_is))

pub returns-in_default-clause-line : goal.returns-in_default-clause-line
returns-in_default-clause-line c =
    let id = c.args.turn.id.0 in
    let ss = c.args.self.now in
    let none = c.in_default.ensures.value ∙ ap (λ x. lookup (is_at (nat_cmp id)) x.entries) c.self.view_is in
    let after = stream id (streams_after id c.args.turn.size ss) in
    c.leave.ensures.value ∙ ap (λ o. in_line id (sendable after) after.priority o c.args.scheduler.now) (none_made id c.args.turn.size ss none)

pub returns-in_default-clause-emitted : goal.returns-in_default-clause-emitted
returns-in_default-clause-emitted c =
    let id = c.args.turn.id.0 in
    let ss = c.args.self.now in
    let none = c.in_default.ensures.value ∙ ap (λ x. lookup (is_at (nat_cmp id)) x.entries) c.self.view_is in
    let s = stream id ss in
    ap (λ o. emitted_made id (crosses (watched_amount s) (watched_amount (advance c.args.turn.size s))) (crosses (watched_total ss) (watched_total (streams_after id c.args.turn.size ss))) o c.args.events.now) (none_made id c.args.turn.size ss none)

pub returns-in_default-clause-made : goal.returns-in_default-clause-made
returns-in_default-clause-made c =
    none_made c.args.turn.id.0 c.args.turn.size c.args.self.now (c.in_default.ensures.value ∙ ap (λ x. lookup (is_at (nat_cmp c.args.turn.id.0)) x.entries) c.self.view_is)

pub returns-in_default-clause-joins : goal.returns-in_default-clause-joins
returns-in_default-clause-joins c =
    let id = c.args.turn.id.0 in
    let ss = c.args.self.now in
    let none = c.in_default.ensures.value ∙ ap (λ x. lookup (is_at (nat_cmp id)) x.entries) c.self.view_is in
    joins_as id (is_restarted (stream id ss)) c.args.changed.now c.add.new.self (ap is_restarted (stream_nowhere id ss none) ∙ blank_restarted ss) c.add.ensures

pub returns-in_err-made-clause-joins : goal.returns-in_err-made-clause-joins
returns-in_err-made-clause-joins c =
    let id = c.args.turn.id.0 in
    let at = c.in-Some.ensures.value ∙ ap (λ x. lookup (is_at (nat_cmp id)) x.entries) c.self.view_is in
    subst (λ (t : Stream). Joins (is_restarted t) id c.args.changed.now c.add_first.new.self) (sym (stream_there id c.in-Some.stream.now c.args.self.now at)) c.add_first.ensures

pub returns-clause-joins : goal.returns-clause-joins
returns-clause-joins c =
    let id = c.args.turn.id.0 in
    let at = c.in-Some.ensures.value ∙ ap (λ x. lookup (is_at (nat_cmp id)) x.entries) c.self.view_is in
    subst (λ (t : Stream). Joins (is_restarted t) id c.args.changed.now c.add_first.new.self) (sym (stream_there id c.in-Some.stream.now c.args.self.now at)) c.add_first.ensures

pub invariant_of-self-in_err-made : goal.invariant_of-self-in_err-made
invariant_of-self-in_err-made c =
    let v = c.in-Some.stream.now in
    let w = c.send_from.new.stream in
    let entries = c.self.inside.streams.entries in
    let written = (c.get_mut.follows.holds w).0 in
    let sums = total_written c.args.turn.id.0 entries v w c.in-Some.ensures.value in
    record {
      counted = omega (arith, ap total_of written, sums, ap amount_of c.in_err-made.ensures.err.stream, c.self.invariant.counted);
      few = few_changed c.args.turn.id.0 entries _ v w v c.in-Some.ensures.value written c.in_err-made.ensures.err.stream (keeps_same v.messages) c.self.invariant.few;
      ready = c.self.invariant.ready ∙ ready_kept c.args.turn.id.0 entries _ v w c.in-Some.ensures.value written (ap (λ (t : Stream). t.pause) c.in_err-made.ensures.err.stream);
      listed = lists_kept c.args.turn.id.0 c.self.inside.ready_ids entries _ v w c.in-Some.ensures.value written (ap (λ (t : Stream). t.pause) c.in_err-made.ensures.err.stream) c.self.invariant.listed;
    }

pub returns-in_err-made-clause-err : goal.returns-in_err-made-clause-err
returns-in_err-made-clause-err c =
    let view : Entries → Streams = λ es. record { entries = es; total_threshold = c.self.inside.total.low_threshold; default_threshold = c.self.inside.default_threshold; default_priority = c.self.inside.default_priority; avoids_stalls = c.self.inside.avoids_stalls } in
    let entries = c.self.inside.streams.entries in
    let same = (c.get_mut.follows.holds c.send_from.new.stream).0 ∙ ap (λ w. set_value (is_at (nat_cmp c.args.turn.id.0)) entries w) c.in_err-made.ensures.err.stream ∙ written_same (is_at (nat_cmp c.args.turn.id.0)) c.in-Some.stream.now entries c.in-Some.ensures.value in
    let all = ap view same ∙ c.self.view_is in
    search (rules, all)

pub invariant_of-self-2 : goal.invariant_of-self-2
invariant_of-self-2 c =
    let v = c.in-Some.stream.now in
    let w = c.leave_room_to.new.self in
    let after = c.leave_room_to.ensures ∙ c.in_ok-made.ensures.sent.stream in
    let entries = c.self.inside.streams.entries in
    let written = (c.get_mut.follows.holds w).0 in
    let sums = total_written c.args.turn.id.0 entries v w c.in-Some.ensures.value in
    let most = amount_at_most c.args.turn.id.0 entries v c.in-Some.ensures.value in
    record {
      counted = omega (arith, ap total_of written, sums, most, c.amount-before.ensures, c.amount.ensures, ap amount_of c.leave_room_to.ensures, c.in_ok-made.ensures.sent.less, c.self.invariant.counted, ap (λ w. w.amount) c.decrease.ensures.after);
      few = few_changed c.args.turn.id.0 entries _ v w (advance c.args.turn.size v) c.in-Some.ensures.value written after (keeps_moved c.args.turn.size (front_numbers v.messages v) v.messages) c.self.invariant.few;
      ready = ready_changed c.args.turn.id.0 c.self.inside.ready_count _ _ _ entries _ v w c.in-Some.ensures.value written c.is_ready-was_ready.ensures c.is_ready-is_ready.ensures c.self.invariant.ready c.ready_count_after-self-inside.ensures;
      listed = lists_changed c.args.turn.id.0 _ _ c.self.inside.ready_ids _ entries _ v w c.len-count.ensures.ordered c.in-Some.ensures.value written c.is_ready-was_ready.ensures c.is_ready-is_ready.ensures c.follow.ensures c.self.invariant.listed;
    }

pub ready_count_after-self-inside-requires-clause-least : goal.ready_count_after-self-inside-requires-clause-least
ready_count_after-self-inside-requires-clause-least c = omega (arith, ap one c.is_ready-was_ready.ensures, ready_least c.args.turn.id.0 c.self.inside.streams.entries c.in-Some.stream.now c.in-Some.ensures.value, c.self.invariant.ready)

pub ready_count_after-self-inside-requires-clause-most : goal.ready_count_after-self-inside-requires-clause-most
ready_count_after-self-inside-requires-clause-most c = omega (arith, c.self.invariant.ready, ready_most c.self.inside.streams.entries, c.len-count.ensures.len, c.len-count.ensures.small)

pub returns-clause-line : goal.returns-clause-line
returns-clause-line c =
    let ss = c.args.self.now in
    let at = c.in-Some.ensures.value ∙ ap (λ x. lookup (is_at (nat_cmp c.args.turn.id.0)) x.entries) c.self.view_is in
    c.in_ok-made.ensures.sent.scheduler ∙ sent_line c.args.turn.id.0 c.args.turn.size c.in-Some.stream.now ss c.args.scheduler.now at

pub returns-clause-emitted : goal.returns-clause-emitted
returns-clause-emitted c =
    let id = c.args.turn.id.0 in
    let size = c.args.turn.size in
    let ss = c.args.self.now in
    let v = c.in-Some.stream.now in
    let total = c.self.inside.total in
    let at = c.in-Some.ensures.value ∙ ap (λ x. lookup (is_at (nat_cmp id)) x.entries) c.self.view_is in
    let amount = c.self.invariant.counted ∙ ap (λ x. total_of x.entries) c.self.view_is in
    let threshold = ap (λ x. x.total_threshold) c.self.view_is in
    let is_total_low =
    c.is_crossed_by-is_total_low.ensures
    ∙ crosses_same total (lower c.fragment_size.result total) (watched_total ss) (watched_total (streams_after id size ss)) amount threshold
    (total_after id size c.fragment_size.result total.amount v ss at c.fragment_size.ensures amount) threshold in
    let low : Stream → _ = λ t. crosses (watched_amount t) (watched_amount (advance size t)) in
    c.in_ok-made.ensures.sent.emitted
    ∙ ap (λ b. emitted_made id (low v) b (next_fragment id size v) c.args.events.now) is_total_low
    ∙ ap (λ (t : Stream). emitted_made id (low t) (crosses (watched_total ss) (watched_total (streams_after id size ss))) (next_fragment id size t) c.args.events.now) (sym (stream_there id v ss at))

pub returns-clause-made : goal.returns-clause-made
returns-clause-made c =
    let ss = c.args.self.now in
    let at = c.in-Some.ensures.value ∙ ap (λ x. lookup (is_at (nat_cmp c.args.turn.id.0)) x.entries) c.self.view_is in
    c.in_ok-made.ensures.sent.made ∙ ap (λ (t : Stream). next_fragment c.args.turn.id.0 c.args.turn.size t) (sym (stream_there c.args.turn.id.0 c.in-Some.stream.now ss at))
