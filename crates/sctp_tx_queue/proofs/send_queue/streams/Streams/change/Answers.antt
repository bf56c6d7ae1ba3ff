use Rattle.std.proofs.Common.{ap, sym, ◌∙◌, arith}
use Rattle.std.specs.Map.{lookup}
use Rattle.std.specs.Ordering.{nat_cmp}
use Rattle.std.specs.BTreeMap.{is_at}
use Rattle.sctp_tx_queue.specs.SendQueue.{Streams, Entries, amount_of, total_of}
use Rattle.sctp_tx_queue.specs.Change.{changed}
use Rattle.sctp_tx_queue.specs.Bounded.{one}
use Rattle.sctp_tx_queue.proofs.BoundLemmas.{few_changed, keeps_changed, changed_amount, changed_fits}
use Rattle.sctp_tx_queue.proofs.ReadyIdsLemmas.{lists_changed}
use Rattle.sctp_tx_queue.proofs.ReadyLemmas.{ready_changed, ready_least, ready_most}
use Rattle.sctp_tx_queue.proofs.StreamsLemmas.{total_written, amount_at_most, put_nowhere}
use Rattle.sctp_tx_queue.proofs.send_queue.streams.Streams.change.Goals as goal

pub returns-in_default : goal.returns-in_default
returns-in_default c =
    let view : Entries → Streams = λ es. record { entries = es; total_threshold = c.self.inside.total.low_threshold; default_threshold = c.self.inside.default_threshold; default_priority = c.self.inside.default_priority; avoids_stalls = c.self.inside.avoids_stalls } in
    ap view (ap (λ m. m.entries) c.get_mut.follows.holds-at-none) ∙ c.self.view_is
    ∙ sym (put_nowhere c.args.id.0 _ c.args.self.now (c.in_default.ensures.value ∙ ap (λ ss. lookup (is_at (nat_cmp c.args.id.0)) ss.entries) c.self.view_is))

pub change-requires : goal.change-requires
change-requires c = changed_amount c.args.id.0 c.args.change c.self.inside.streams.entries c.in-Some.stream.now c.in-Some.ensures.value c.self.invariant.few

pub decrease-requires : goal.decrease-requires
decrease-requires c =
    omega (arith, amount_at_most c.args.id.0 c.self.inside.streams.entries c.in-Some.stream.now c.in-Some.ensures.value, c.amount-before.ensures, c.self.invariant.counted)

pub increase-requires : goal.increase-requires
increase-requires c =
    let v = c.in-Some.stream.now in
    let entries = c.self.inside.streams.entries in
    let sums = total_written c.args.id.0 entries v (changed c.args.change v) c.in-Some.ensures.value in
    let most = amount_at_most c.args.id.0 entries v c.in-Some.ensures.value in
    let fits = changed_fits c.args.id.0 c.args.change entries v c.in-Some.ensures.value c.self.invariant.few in
    omega (arith, sums, most, fits, c.amount-before.ensures, c.amount.ensures, ap amount_of c.change.ensures, c.self.invariant.counted, ap (λ w. w.amount) c.decrease.ensures.after)

pub invariant_of-self-2 : goal.invariant_of-self-2
invariant_of-self-2 c =
    let v = c.in-Some.stream.now in
    let w = c.change.new.self in
    let entries = c.self.inside.streams.entries in
    let written = (c.get_mut.follows.holds w).0 in
    let sums = total_written c.args.id.0 entries v w c.in-Some.ensures.value in
    let most = amount_at_most c.args.id.0 entries v c.in-Some.ensures.value in
    record {
      counted =
          omega (
            arith,
            ap total_of written,
            sums,
            most,
            c.amount-before.ensures,
            c.amount.ensures,
            c.self.invariant.counted,
            ap (λ w. w.amount) c.decrease.ensures.after,
            ap (λ w. w.amount) c.increase.ensures,
          );
      few = few_changed c.args.id.0 entries _ v w (changed c.args.change v) c.in-Some.ensures.value written c.change.ensures (keeps_changed c.args.change v) c.self.invariant.few;
      ready = ready_changed c.args.id.0 c.self.inside.ready_count _ _ _ entries _ v w c.in-Some.ensures.value written c.is_ready-was_ready.ensures c.is_ready-is_ready.ensures c.self.invariant.ready c.ready_count_after-self-inside.ensures;
      listed = lists_changed c.args.id.0 _ _ c.self.inside.ready_ids _ entries _ v w c.len-count.ensures.ordered c.in-Some.ensures.value written c.is_ready-was_ready.ensures c.is_ready-is_ready.ensures c.follow.ensures c.self.invariant.listed;
    }

pub ready_count_after-self-inside-requires-clause-least : goal.ready_count_after-self-inside-requires-clause-least
ready_count_after-self-inside-requires-clause-least c = omega (arith, ap one c.is_ready-was_ready.ensures, ready_least c.args.id.0 c.self.inside.streams.entries c.in-Some.stream.now c.in-Some.ensures.value, c.self.invariant.ready)

pub ready_count_after-self-inside-requires-clause-most : goal.ready_count_after-self-inside-requires-clause-most
ready_count_after-self-inside-requires-clause-most c = omega (arith, c.self.invariant.ready, ready_most c.self.inside.streams.entries, c.len-count.ensures.len, c.len-count.ensures.small)
