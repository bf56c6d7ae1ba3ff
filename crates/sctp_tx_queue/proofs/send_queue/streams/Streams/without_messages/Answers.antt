use Rattle.std.proofs.Common.{◌≡◌, ap, sym, ◌∙◌, subst, arith}
use Rattle.sctp_tx_queue.specs.SendQueue.{Entries, total_of}
use Rattle.sctp_tx_queue.specs.Bounded.{AreFew, ready_count}
use Rattle.sctp_tx_queue.proofs.BoundLemmas.{few_restored}
use Rattle.sctp_tx_queue.proofs.RestoreLemmas.{no_bytes}
use Rattle.sctp_tx_queue.proofs.ReadyIdsLemmas.{lists_none}
use Rattle.sctp_tx_queue.proofs.ReadyLemmas.{ready_restored, none_ready}
use Rattle.sctp_tx_queue.proofs.send_queue.streams.Streams.without_messages.Goals as goal

pub invariant_of-result : goal.invariant_of-result
invariant_of-result c =
    let none : ready_count c.in_ok-streams.streams.entries ≡ 0 = ap ready_count c.in_ok-streams.ensures ∙ ready_restored c.self.inside.default_threshold c.args.records.now in
    record {
      counted = omega (arith, ap (λ w. w.amount) c.new.ensures, ap total_of c.in_ok-streams.ensures, no_bytes c.self.inside.default_threshold c.args.records.now);
      few = subst (λ (es : Entries). AreFew es) (sym c.in_ok-streams.ensures) (few_restored c.self.inside.default_threshold c.args.records.now);
      ready = sym none;
      listed = lists_none _ c.in_ok-streams.streams.entries c.new-2.ensures (none_ready c.in_ok-streams.streams.entries none);
    }
