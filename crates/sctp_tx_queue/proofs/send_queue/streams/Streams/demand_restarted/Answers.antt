use Rattle.std.proofs.Common.{refl, ap, sym, ◌∙◌}
use Rattle.std.specs.Map.{lookup}
use Rattle.std.specs.Ordering.{nat_cmp}
use Rattle.std.specs.BTreeMap.{is_at}
use Rattle.sctp_tx_queue.specs.SendQueue.{Stream, stream, sendable}
use Rattle.sctp_tx_queue.specs.Restarted.{restart}
use Rattle.sctp_tx_queue.proofs.StreamsLemmas.{stream_there, changed_there, changed_nowhere, stream_nowhere, priority_put}
use Rattle.sctp_tx_queue.proofs.send_queue.streams.Streams.demand_restarted.Goals as goal

pub returns-in-Some-clause-bytes : goal.returns-in-Some-clause-bytes
returns-in-Some-clause-bytes c =
    let ss = c.args.self.now in
    let s = stream c.args.id.0 ss in
    let at = c.in-Some.ensures.value ∙ ap (λ x. lookup (is_at (nat_cmp c.args.id.0)) x.entries) c.self.view_is in
    c.sendable_restarted.ensures
    ∙ sym (ap (λ (t : Stream). sendable t) (changed_there c.args.id.0 c.in-Some.stream.now (restart s) ss at) ∙ ap (λ (t : Stream). sendable (restart t)) (stream_there c.args.id.0 c.in-Some.stream.now ss at))

pub returns-in-None-clause-bytes : goal.returns-in-None-clause-bytes
returns-in-None-clause-bytes c =
    let ss = c.args.self.now in
    let s = stream c.args.id.0 ss in
    let none = c.in-None.ensures.value ∙ ap (λ x. lookup (is_at (nat_cmp c.args.id.0)) x.entries) c.self.view_is in
    c.no_demand.ensures.bytes ∙ sym (ap (λ (t : Stream). sendable t) (changed_nowhere c.args.id.0 (restart s) ss none))

pub returns-in-Some-clause-priority : goal.returns-in-Some-clause-priority
returns-in-Some-clause-priority c =
    let ss = c.args.self.now in
    let at = c.in-Some.ensures.value ∙ ap (λ x. lookup (is_at (nat_cmp c.args.id.0)) x.entries) c.self.view_is in
    c.priority.ensures ∙ ap (λ (t : Stream). t.priority) (sym (stream_there c.args.id.0 c.in-Some.stream.now ss at)) ∙ sym (priority_put c.args.id.0 restart ss (λ s. refl))

pub returns-in-None-clause-priority : goal.returns-in-None-clause-priority
returns-in-None-clause-priority c =
    let ss = c.args.self.now in
    let none = c.in-None.ensures.value ∙ ap (λ x. lookup (is_at (nat_cmp c.args.id.0)) x.entries) c.self.view_is in
    c.no_demand.ensures.priority ∙ sym (ap (λ (t : Stream). t.priority) (stream_nowhere c.args.id.0 ss none)) ∙ sym (priority_put c.args.id.0 restart ss (λ s. refl))
