use Rattle.std.proofs.Common.{◌≡◌, ℕ, List, true, ap, sym, subst, ◌∙◌}
use Rattle.std.specs.Prelude.{IfOk, OnOk, map, filter}
use Rattle.std.specs.List.{list_all}
use Rattle.std.specs.List.Sorted.{IsStrictlySortedBy}
use Rattle.std.specs.Map.{keys_of, values_of}
use Rattle.std.specs.Ordering.{nat_cmp}
use Rattle.sctp_tx_queue.specs.SendQueue.{Streams, stream}
use Rattle.sctp_tx_queue.specs.Bounded.{are_small}
use Rattle.sctp_tx_queue.specs.Restarted.{may_differ}
use Rattle.sctp_tx_queue.specs.Emptied.{emit_all_ended, is_to_empty}
use Rattle.sctp_tx_queue.proofs.OthersOutLemmas.{names}
use Rattle.sctp_tx_queue.proofs.SomeOutLemmas.{some_listed, some_emitted}
use Rattle.sctp_tx_queue.proofs.send_queue.streams.Streams.emit_some_ended.Goals as goal

pub returns-clause-streams : goal.returns-clause-streams
returns-clause-streams c =
    let ss = c.args.self.now in
    let sch = c.args.scheduler.now in
    let log = c.args.candidates.now in
    let sorted : IsStrictlySortedBy nat_cmp (keys_of ss.entries) = subst (λ (t : Streams). IsStrictlySortedBy nat_cmp (keys_of t.entries)) c.self.view_is c.len-count.ensures.ordered in
    let small : list_all are_small (values_of ss.entries) ≡ true = ap (λ (t : Streams). list_all are_small (values_of t.entries)) (sym c.self.view_is) ∙ c.self.invariant.few.small in
    let ids : names c.deref.result.now ≡ filter (may_differ log) (keys_of ss.entries) =
    ap names c.deref.ensures.value ∙ c.in_ok-ids.ensures ∙ ap (λ (t : Streams). filter (may_differ log) (keys_of t.entries)) c.self.view_is in
    subst (λ (ks : List ℕ). IfOk c.emit_ended_of.result (λ ids. map (λ id. id.0) ids.items ≡ ks))
    (ap (λ (ks : List ℕ). filter (λ k. is_to_empty k (stream k ss) sch) ks) ids ∙ some_listed log ss sch sorted small c.requires) c.emit_ended_of.ensures.streams

pub returns-clause-emitted : goal.returns-clause-emitted
returns-clause-emitted c =
    let ss = c.args.self.now in
    let sch = c.args.scheduler.now in
    let log = c.args.candidates.now in
    let before = c.args.events.now in
    let sorted : IsStrictlySortedBy nat_cmp (keys_of ss.entries) = subst (λ (t : Streams). IsStrictlySortedBy nat_cmp (keys_of t.entries)) c.self.view_is c.len-count.ensures.ordered in
    let small : list_all are_small (values_of ss.entries) ≡ true = ap (λ (t : Streams). list_all are_small (values_of t.entries)) (sym c.self.view_is) ∙ c.self.invariant.few.small in
    let ids : names c.deref.result.now ≡ filter (may_differ log) (keys_of ss.entries) =
    ap names c.deref.ensures.value ∙ c.in_ok-ids.ensures ∙ ap (λ (t : Streams). filter (may_differ log) (keys_of t.entries)) c.self.view_is in
    subst (λ t. OnOk c.emit_ended_of.result (c.emit_ended_of.new.events ≡ t))
    (ap (λ (ks : List ℕ). emit_all_ended (map (λ k. stream k ss) ks) before) ids ∙ some_emitted log ss sch sorted small c.requires before) c.emit_ended_of.ensures.emitted
