use Rattle.std.proofs.Common.{ap, ◌∙◌, arith, rules}
use Rattle.std.specs.Map.{set_value}
use Rattle.std.specs.Ordering.{nat_cmp}
use Rattle.std.specs.BTreeMap.{is_at}
use Rattle.std.proofs.lemmas.List.Sums.{sum_by_push}
use Rattle.sctp_tx_queue.specs.SendQueue.{Stream, Streams, Entries, total_of, amount_of, remaining_bytes}
use Rattle.sctp_tx_queue.proofs.BoundLemmas.{few_changed, few_pushed, keeps_same, small_one}
use Rattle.sctp_tx_queue.proofs.ReadyIdsLemmas.{lists_kept}
use Rattle.sctp_tx_queue.proofs.ReadyLemmas.{ready_kept}
use Rattle.sctp_tx_queue.proofs.StreamsLemmas.{total_written, written_same}
use Rattle.sctp_tx_queue.proofs.send_queue.streams.Streams.push.Goals as goal

pub invariant_of-self-in_err-push : goal.invariant_of-self-in_err-push
invariant_of-self-in_err-push c =
    let v = c.in-Some.stream.now in
    let w = c.push.new.self in
    let entries = c.self.inside.streams.entries in
    let written = (c.get_mut.follows.holds w).0 in
    let sums = total_written c.args.id.0 entries v w c.in-Some.ensures.value in
    record {
      counted = omega (arith, ap total_of written, sums, ap amount_of c.in_err-push.ensures.err, c.self.invariant.counted);
      few = few_changed c.args.id.0 entries _ v w v c.in-Some.ensures.value written c.in_err-push.ensures.err (keeps_same v.messages) c.self.invariant.few;
      ready = c.self.invariant.ready ∙ ready_kept c.args.id.0 entries _ v w c.in-Some.ensures.value written (ap (λ (t : Stream). t.pause) c.in_err-push.ensures.err);
      listed = lists_kept c.args.id.0 c.self.inside.ready_ids entries _ v w c.in-Some.ensures.value written (ap (λ (t : Stream). t.pause) c.in_err-push.ensures.err) c.self.invariant.listed;
    }

pub returns-in_err-push-clause-err : goal.returns-in_err-push-clause-err
returns-in_err-push-clause-err c =
    let view : Entries → Streams = λ es. record { entries = es; total_threshold = c.self.inside.total.low_threshold; default_threshold = c.self.inside.default_threshold; default_priority = c.self.inside.default_priority; avoids_stalls = c.self.inside.avoids_stalls } in
    let entries = c.self.inside.streams.entries in
    let same = (c.get_mut.follows.holds c.push.new.self).0 ∙ ap (λ w. set_value (is_at (nat_cmp c.args.id.0)) entries w) c.in_err-push.ensures.err ∙ written_same (is_at (nat_cmp c.args.id.0)) c.in-Some.stream.now entries c.in-Some.ensures.value in
    let all = ap view same ∙ c.self.view_is in
    search (rules, all)

pub invariant_of-self-2 : goal.invariant_of-self-2
invariant_of-self-2 c =
    let v = c.in-Some.stream.now in
    let w = c.push.new.self in
    let entries = c.self.inside.streams.entries in
    let written = (c.get_mut.follows.holds w).0 in
    let sums = total_written c.args.id.0 entries v w c.in-Some.ensures.value in
    let grown = ap amount_of c.in_ok-push.ensures.ok in
    let more = sum_by_push remaining_bytes v.messages c.args.message in
    let small = small_one c.args.message (omega (arith, c.left-bytes.ensures.value, c.left-bytes.ensures.more)) c.left-bytes.ensures.whole in
    record {
      counted = omega (arith, ap total_of written, sums, grown, more, c.left-bytes.ensures.value, c.self.invariant.counted, ap (λ w. w.amount) c.increase.ensures);
      few = few_pushed c.args.id.0 entries _ v w c.args.message c.in-Some.ensures.value written c.in_ok-push.ensures.ok small (omega (arith, c.requires, ap (λ ss. total_of ss.entries) c.self.view_is)) c.self.invariant.few;
      ready = c.self.invariant.ready ∙ ready_kept c.args.id.0 entries _ v w c.in-Some.ensures.value written (ap (λ (t : Stream). t.pause) c.in_ok-push.ensures.ok);
      listed = lists_kept c.args.id.0 c.self.inside.ready_ids entries _ v w c.in-Some.ensures.value written (ap (λ (t : Stream). t.pause) c.in_ok-push.ensures.ok) c.self.invariant.listed;
    }
