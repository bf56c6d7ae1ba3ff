use Rattle.std.proofs.Common.{ap, sym, ◌∙◌}
use Rattle.std.specs.Map.{lookup}
use Rattle.std.specs.Ordering.{nat_cmp}
use Rattle.std.specs.BTreeMap.{is_at, insert_entry}
use Rattle.sctp_tx_queue.specs.SendQueue.{Stream, total_of}
use Rattle.sctp_tx_queue.proofs.BoundLemmas.{few_opened}
use Rattle.sctp_tx_queue.proofs.ReadyIdsLemmas.{lists_inserted}
use Rattle.sctp_tx_queue.proofs.ReadyLemmas.{ready_inserted}
use Rattle.sctp_tx_queue.proofs.StreamsLemmas.{total_opened}
use Rattle.sctp_tx_queue.proofs.send_queue.streams.Streams.make.Goals as goal

pub invariant_of-self-2 : goal.invariant_of-self-2
invariant_of-self-2 c =
    let id = c.args.id.0 in
    let entries = c.self.inside.streams.entries in
    let none = c.requires ∙ ap (λ ss. lookup (is_at (nat_cmp id)) ss.entries) (sym c.self.view_is) in
    let same = ap total_of c.in_ok-insert.ensures.entries ∙ ap (λ s. total_of (insert_entry nat_cmp entries id s)) c.new-stream.ensures ∙ total_opened id c.self.inside.default_priority c.self.inside.default_threshold entries c.insert.ensures.was_ordered none in
    record {
      counted = c.self.invariant.counted ∙ sym same;
      few = few_opened id entries _ _ c.self.inside.default_priority c.self.inside.default_threshold c.insert.ensures.was_ordered c.in_ok-insert.ensures.entries c.new-stream.ensures c.self.invariant.few;
      ready = c.self.invariant.ready ∙ ready_inserted id entries _ _ c.insert.ensures.was_ordered none c.in_ok-insert.ensures.entries (ap (λ (t : Stream). t.pause) c.new-stream.ensures);
      listed = lists_inserted id c.self.inside.ready_ids entries _ _ none c.in_ok-insert.ensures.entries (ap (λ (t : Stream). t.pause) c.new-stream.ensures) c.self.invariant.listed;
    }

pub returns-clause-total : goal.returns-clause-total
returns-clause-total c =
    let id = c.args.id.0 in
    let entries = c.self.inside.streams.entries in
    let none = c.requires ∙ ap (λ ss. lookup (is_at (nat_cmp id)) ss.entries) (sym c.self.view_is) in
    ap total_of c.in_ok-insert.ensures.entries ∙ ap (λ s. total_of (insert_entry nat_cmp entries id s)) c.new-stream.ensures
    ∙ total_opened id c.self.inside.default_priority c.self.inside.default_threshold entries c.insert.ensures.was_ordered none ∙ ap (λ ss. total_of ss.entries) c.self.view_is
