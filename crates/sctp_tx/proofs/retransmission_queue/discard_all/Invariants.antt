use Rattle.std.proofs.Common.{◌≡◌, [], length}
use Rattle.sctp_tx.specs.Sending.{discard_all}
use Rattle.sctp_tx.proofs.PartlyLemmas.{Discarding}
use Rattle.sctp_tx.proofs.retransmission_queue.discard_all.Given as goal

abbrev pub invariant-loop-next : goal.invariant-loop-next
invariant-loop-next l = record {
  items : record l.outstanding { items = record l.outstanding.items { discards = [] } } ≡ record l.initial.outstanding { items = record l.initial.outstanding.items { discards = [] } };
  rest : discard_all l.outstanding.items.discards l.queue l.events ≡ discard_all l.initial.outstanding.items.discards l.initial.queue l.initial.events;
  done : Discarding l.initial.outstanding l.initial.queue l.initial.events l.outstanding l.queue l.events;
}

abbrev pub decreases-loop-next : goal.decreases-loop-next
decreases-loop-next l = length l.outstanding.items.discards
