use Rattle.std.proofs.Common.{ap, sym, ◌∙◌}
use Rattle.std.proofs.lemmas.Result.{on_err_weaker}
use Rattle.sctp_reassembly.specs.ReassemblyQueue.{Forwarded}
use Rattle.sctp_reassembly.specs.Waiting.{waiting_of}
use Rattle.sctp_reassembly.proofs.InterruptedQueueLemmas.{fragment_applied, point_applied}
use Rattle.sctp_reassembly.proofs.reassembly_queue.ReassemblyQueue.apply.Goals as goal

pub returns-in-Fragment-clause-err : goal.returns-in-Fragment-clause-err
returns-in-Fragment-clause-err c = on_err_weaker c.add_now.result (fragment_applied (waiting_of c.args.waiting) _ _ c.args.self.now c.add_now.new.self (ap waiting_of c.in-Fragment.is)) c.add_now.ensures.err

pub returns-in-Point-clause-err : goal.returns-in-Point-clause-err
returns-in-Point-clause-err c = on_err_weaker c.forward_now.result (point_applied (waiting_of c.args.waiting) _ _ c.args.self.now c.forward_now.new.self (ap waiting_of c.in-Point.is ∙ ap (Forwarded c.in-Point.number) (sym c.deref.ensures.value))) c.forward_now.ensures.err
