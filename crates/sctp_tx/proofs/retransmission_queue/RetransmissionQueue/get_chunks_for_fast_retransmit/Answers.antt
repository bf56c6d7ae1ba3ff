use Rattle.std.proofs.Common.{◌≡◌, rules, sym, subst}
use Rattle.sctp_tx.specs.RetransmissionQueue.{Sender}
use Rattle.sctp_tx.specs.Resent.{send_fast}
use Rattle.sctp_tx.specs.Flight.{AddsAtMost}
use Rattle.sctp_tx.proofs.FitLemmas.{fast_adds}
use Rattle.sctp_tx.proofs.retransmission_queue.RetransmissionQueue.get_chunks_for_fast_retransmit.Goals as goal

pub returns-clause-flight : goal.returns-clause-flight
returns-clause-flight c =
    let s = c.args.self.now in
    let is : c.run_for.new.self ≡ send_fast c.args.now c.args.max_bytes s = search rules in
    subst (λ (t : Sender). AddsAtMost c.args.max_bytes s t) (sym is) (fast_adds c.args.now c.args.max_bytes s)
