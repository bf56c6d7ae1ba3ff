use Rattle.std.proofs.Common.{refl, ap, sym, ◌∙◌, arith}
use Rattle.std.specs.Map.{lookup}
use Rattle.std.specs.Ordering.{nat_cmp}
use Rattle.std.specs.BTreeMap.{is_at, insert_entry}
use Rattle.sctp_tx_queue.specs.SendQueue.{Stream, Streams, blank_stream, total_of, amount_of, push, stream, put_stream, with_stream}
use Rattle.sctp_tx_queue.proofs.BoundLemmas.{few_first, small_one}
use Rattle.sctp_tx_queue.proofs.ReadyIdsLemmas.{lists_inserted}
use Rattle.sctp_tx_queue.proofs.ReadyLemmas.{ready_inserted}
use Rattle.sctp_tx_queue.proofs.StreamsLemmas.{total_inserted, first_is}
use Rattle.sctp_tx_queue.proofs.send_queue.streams.Streams.push_first.Goals as goal

pub invariant_of-self-2 : goal.invariant_of-self-2
invariant_of-self-2 c =
    let id = c.args.id.0 in
    let w = c.push.new.self in
    let entries = c.self.inside.streams.entries in
    let none = c.requires.absent ∙ ap (λ ss. lookup (is_at (nat_cmp id)) ss.entries) (sym c.self.view_is) in
    let first = blank_stream c.self.inside.default_priority c.self.inside.default_threshold in
    let is_first = c.in_ok-push.ensures.ok ∙ ap (λ s. push c.args.message s) c.new-stream.ensures in
    let small = small_one c.args.message (omega (arith, c.left-bytes.ensures.value, c.left-bytes.ensures.more)) c.left-bytes.ensures.whole in
    record {
      counted =
          omega (
            arith,
            ap total_of c.in_ok-insert.ensures.entries,
            total_inserted id w entries c.insert.ensures.was_ordered none,
            ap amount_of is_first,
            c.left-bytes.ensures.value,
            c.self.invariant.counted,
            ap (λ w. w.amount) c.increase.ensures,
          );
      few = few_first id entries _ w first c.args.message c.insert.ensures.was_ordered c.in_ok-insert.ensures.entries is_first refl small (omega (arith, c.requires.room, ap (λ ss. total_of ss.entries) c.self.view_is)) c.self.invariant.few;
      ready = c.self.invariant.ready ∙ ready_inserted id entries _ w c.insert.ensures.was_ordered none c.in_ok-insert.ensures.entries (ap (λ (t : Stream). t.pause) is_first);
      listed = lists_inserted id c.self.inside.ready_ids entries _ w none c.in_ok-insert.ensures.entries (ap (λ (t : Stream). t.pause) is_first) c.self.invariant.listed;
    }

pub returns-clause-ok : goal.returns-clause-ok
returns-clause-ok c =
    let id = c.args.id.0 in
    let inside : Streams = record { entries = c.self.inside.streams.entries; total_threshold = c.self.inside.total.low_threshold; default_threshold = c.self.inside.default_threshold; default_priority = c.self.inside.default_priority; avoids_stalls = c.self.inside.avoids_stalls } in
    let none = c.requires.absent ∙ ap (λ ss. lookup (is_at (nat_cmp id)) ss.entries) (sym c.self.view_is) in
    first_is id c.args.message inside c.insert.new.self.entries c.increase.new.self.low_threshold none
    (c.in_ok-insert.ensures.entries ∙ ap (λ s. insert_entry nat_cmp c.self.inside.streams.entries id s) (c.in_ok-push.ensures.ok ∙ ap (λ s. push c.args.message s) c.new-stream.ensures)) (ap (λ w. w.low_threshold) c.increase.ensures)
    ∙ ap (λ ss. put_stream id (push c.args.message (stream id ss)) (with_stream id ss)) c.self.view_is
