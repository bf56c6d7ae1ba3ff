use Rattle.std.proofs.lemmas.Result.{on_err_weaker}
use Rattle.std.proofs.Common.{◌≡◌, ap, sym, ◌∙◌, rules}
use Rattle.sctp_chunk.specs.Views.{fragment_tree}
use Rattle.sctp_reassembly.specs.ReassemblyQueue.{is_kept_back}
use Rattle.sctp_reassembly.proofs.InterruptedQueueLemmas.{fragment_lost, fragment_comes}
use Rattle.sctp_reassembly.proofs.reassembly_queue.ReassemblyQueue.add.Goals as goal

pub returns-then-fragment_waits-clause-err : goal.returns-then-fragment_waits-clause-err
returns-then-fragment_waits-clause-err c =
    let id : c.id.result.0 ≡ (fragment_tree c.args.fragment).stream_id = search rules in
    let kept = c.fragment_waits.ensures ∙ ap (λ k. is_kept_back c.number_of-number.result k c.come.new.self.deferred) id in
    on_err_weaker c.wait.result (fragment_lost c.args.tsn.0 c.number_of-number.result c.args.self.now c.come.new.self c.wait.new.self c.come.ensures c.number_of-number.ensures.value c.if-number-ge-LIMIT.false (fragment_tree c.args.fragment) (sym c.if-fragment_waits.true ∙ kept)) c.wait.ensures.err

pub returns-clause-err : goal.returns-clause-err
returns-clause-err c =
    let id : c.id.result.0 ≡ (fragment_tree c.args.fragment).stream_id = search rules in
    let kept = c.fragment_waits.ensures ∙ ap (λ k. is_kept_back c.number_of-number.result k c.come.new.self.deferred) id in
    on_err_weaker c.add_now.result (fragment_comes c.args.tsn.0 c.number_of-number.result c.args.self.now c.come.new.self c.add_now.new.self c.come.ensures c.number_of-number.ensures.value c.if-number-ge-LIMIT.false (fragment_tree c.args.fragment) (sym c.if-fragment_waits.false ∙ kept)) c.add_now.ensures.err
