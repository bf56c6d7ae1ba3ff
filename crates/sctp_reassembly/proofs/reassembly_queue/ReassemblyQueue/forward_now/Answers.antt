use Rattle.std.proofs.lemmas.Result.{on_err_weaker}
use Rattle.sctp_reassembly.proofs.InterruptedQueueLemmas.{passed_in_part}
use Rattle.sctp_reassembly.proofs.reassembly_queue.ReassemblyQueue.forward_now.Goals as goal

pub returns-clause-err : goal.returns-clause-err
returns-clause-err c = on_err_weaker c.handle_forward_tsn-passed.result (passed_in_part c.args.number _ c.args.self.now c.count_from.new.self _ _ _ c.self.view_is c.count_from.ensures c.len-before.ensures c.args.skipped.now) c.handle_forward_tsn-passed.ensures.err
