use Rattle.std.proofs.Common.{List, ap, sym, ◌∙◌, take}
use Rattle.std.specs.Prelude.{map}
use Rattle.sctp_serial.specs.declared.api.StreamId.{StreamId}
use Rattle.sctp_tx_queue.specs.Resets.{ready}
use Rattle.sctp_tx_queue.proofs.ReadyIdsLemmas.{lists_none, none_taken}
use Rattle.sctp_tx_queue.proofs.ReadyLemmas.{none_ready}
use Rattle.sctp_tx_queue.proofs.send_queue.streams.Streams.ready.Goals as goal

pub returns-then-self-eq0-clause-ids : goal.returns-then-self-eq0-clause-ids
returns-then-self-eq0-clause-ids c =
    ap (λ (ids : List StreamId). map (λ id. id.0) ids) c.new.ensures.items
    ∙ none_taken c.args.most (ready c.self.inside.streams.entries) (none_ready c.self.inside.streams.entries (sym c.self.invariant.ready ∙ c.if-self-eq0.true))
    ∙ ap (λ ss. take c.args.most (ready ss.entries)) c.self.view_is

pub invariant_of-self : goal.invariant_of-self
invariant_of-self c = record {
  counted = c.self.invariant.counted;
  few = c.self.invariant.few;
  ready = c.self.invariant.ready;
  listed = lists_none _ c.self.inside.streams.entries c.begin.ensures (none_ready c.self.inside.streams.entries (sym c.self.invariant.ready ∙ c.if-self-eq0.true));
}
