use Rattle.std.proofs.Common.{◌≡◌, false, ap, arith, rules}
use Rattle.std.proofs.lemmas.Result.{on_err_weaker}
use Rattle.sctp_reassembly.specs.ReassemblyStreams.{entries_in}
use Rattle.sctp_reassembly.specs.ReassemblyQueue.{Reassembly, forward_now, resetting}
use Rattle.sctp_reassembly.proofs.ExtendsLemmas.{extends_none, extends_both, saturating_sum_none, counted_both}
use Rattle.sctp_reassembly.proofs.InterruptedLemmas.{on_err}
use Rattle.sctp_reassembly.proofs.InterruptedQueueLemmas.{nothing_forwarded, all_forwarded}
use Rattle.sctp_reassembly.proofs.reassembly_queue.ReassemblyQueue.forward_in_parts.Goals as goal

pub returns-clause-err : goal.returns-clause-err
returns-clause-err c =
    let now = entries_in false (resetting c.args.self.now.deferred) c.args.skipped.now in
    let made : c.forward_now.new.self ≡ forward_now c.args.number now c.args.self.now = search rules in
    on_err_weaker c.wait_with.result (all_forwarded c.args.number now c.args.self.now c.forward_now.new.self c.wait_with.new.self made) c.wait_with.ensures.err

pub returns-in_default-clause-kept : goal.returns-in_default-clause-kept
returns-in_default-clause-kept c = extends_none _

pub returns-in_default-clause-counted : goal.returns-in_default-clause-counted
returns-in_default-clause-counted c = saturating_sum_none _ _ (omega (arith, ap (λ (r : Reassembly). r.ready_count) c.self.view_is))

pub returns-in_err-later-clause-err : goal.returns-in_err-later-clause-err
returns-in_err-later-clause-err c = on_err c.from_residual.result (nothing_forwarded _ _ _ (omega (arith, ap (λ (r : Reassembly). r.ready_count) c.self.view_is)))

pub returns-in_err-later-clause-kept : goal.returns-in_err-later-clause-kept
returns-in_err-later-clause-kept c = extends_none _

pub returns-in_err-later-clause-counted : goal.returns-in_err-later-clause-counted
returns-in_err-later-clause-counted c = saturating_sum_none _ _ (omega (arith, ap (λ (r : Reassembly). r.ready_count) c.self.view_is))

pub returns-in_err-now-clause-err : goal.returns-in_err-now-clause-err
returns-in_err-now-clause-err c = on_err c.from_residual-in_err-now.result (nothing_forwarded _ _ _ (omega (arith, ap (λ (r : Reassembly). r.ready_count) c.self.view_is)))

pub returns-in_err-now-clause-kept : goal.returns-in_err-now-clause-kept
returns-in_err-now-clause-kept c = extends_none _

pub returns-in_err-now-clause-counted : goal.returns-in_err-now-clause-counted
returns-in_err-now-clause-counted c = saturating_sum_none _ _ (omega (arith, ap (λ (r : Reassembly). r.ready_count) c.self.view_is))

pub returns-clause-kept : goal.returns-clause-kept
returns-clause-kept c = extends_both _ _ _ c.forward_now.ensures.kept c.wait_with.ensures.kept

pub returns-clause-counted : goal.returns-clause-counted
returns-clause-counted c = counted_both c.args.self.now c.forward_now.new.self c.wait_with.new.self c.forward_now.ensures.kept c.wait_with.ensures.kept c.forward_now.ensures.counted c.wait_with.ensures.counted
