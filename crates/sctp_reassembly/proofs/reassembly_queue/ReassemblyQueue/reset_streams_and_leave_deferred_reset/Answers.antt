use Rattle.std.proofs.Common.{◌≡◌, map, rules}
use Rattle.std.proofs.lemmas.Result.{on_err_weaker}
use Rattle.sctp_reassembly.specs.ReassemblyQueue.{waiting_in}
use Rattle.sctp_reassembly.specs.Waiting.{waiting_of}
use Rattle.sctp_reassembly.proofs.InterruptedQueueLemmas.{reset_goes_on}
use Rattle.sctp_reassembly.proofs.reassembly_queue.ReassemblyQueue.reset_streams_and_leave_deferred_reset.Goals as goal

pub returns-in-Some-clause-err : goal.returns-in-Some-clause-err
returns-in-Some-clause-err c =
    let waited : map waiting_of c.into_waiting.result.items ≡ waiting_in c.args.self.now.deferred = search rules in
    on_err_weaker c.apply_each.result (reset_goes_on c.args.streams.now _ c.args.self.now _ c.apply_each.new.self _ _ waited c.self.view_is c.reset_streams.ensures.value c.take.ensures.after) c.apply_each.ensures.err
