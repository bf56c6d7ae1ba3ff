use Rattle.sctp_tx.proofs.CongestionLemmas.{windows_grown}
use Rattle.sctp_tx.proofs.retransmission_queue.windows.Windows.grow.Goals as goal

pub returns : goal.returns
returns c = windows_grown c.args.before c.args.acked c.self.inside.rwnd c.self.inside.unfragmented_cwnd c.self.inside.avoids_stalls c.self.inside.congestion c.grow.new.self c.args.self.now c.grow.ensures c.self.view_is
