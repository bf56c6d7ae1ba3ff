use Rattle.std.proofs.lemmas.Result.{on_err_weaker}
use Rattle.std.proofs.Common.{sym, ◌∙◌}
use Rattle.sctp_reassembly.proofs.InterruptedQueueLemmas.{point_comes_in_parts, point_comes}
use Rattle.sctp_reassembly.proofs.reassembly_queue.ReassemblyQueue.handle_forward_tsn.Goals as goal

pub returns-then-point_waits-clause-err : goal.returns-then-point_waits-clause-err
returns-then-point_waits-clause-err c =
    on_err_weaker c.forward_in_parts.result (point_comes_in_parts c.args.tsn.0 c.number_of-number.result c.args.self.now c.come.new.self c.forward_in_parts.new.self c.come.ensures c.number_of-number.ensures.value c.if-number-ge-LIMIT.false c.args.skipped.now (sym c.if-point_waits.true ∙ c.point_waits.ensures.value)) c.forward_in_parts.ensures.err

pub returns-clause-err : goal.returns-clause-err
returns-clause-err c =
    on_err_weaker c.forward_now.result (point_comes c.args.tsn.0 c.number_of-number.result c.args.self.now c.come.new.self c.forward_now.new.self c.come.ensures c.number_of-number.ensures.value c.if-number-ge-LIMIT.false c.args.skipped.now (sym c.if-point_waits.false ∙ c.point_waits.ensures.value)) c.forward_now.ensures.err
