use Rattle.std.proofs.Common.{◌≡◌}
use Rattle.sctp_tx_outstanding.specs.Forward.{forward_point, walk_from}
use Rattle.sctp_tx_outstanding.specs.Point.{Ascend}
use Rattle.sctp_tx_outstanding.specs.Touched.{entries_in}
use Rattle.sctp_tx_outstanding.proofs.ForwardLemmas.{at}
use Rattle.sctp_tx_outstanding.proofs.outstanding_data.OutstandingData.forward_point.Given as goal

abbrev pub invariant-loop-place : goal.invariant-loop-place
invariant-loop-place l = record {
  walked : walk_from l.place l.max_size l.self.items (at l.place (entries_in l.touched.items)) l.self.items.kept ≡ forward_point l.max_size l.self.items;
  ascending : Ascend (entries_in l.touched.items);
}
