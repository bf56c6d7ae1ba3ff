use Rattle.std.proofs.Common.{refl, sym, ◌∙◌, append-nil}
use Rattle.std.proofs.lemmas.Result.{on_err_weaker}
use Rattle.sctp_reassembly.proofs.InterruptedLemmas.{on_err}
use Rattle.sctp_reassembly.proofs.InterruptedQueueLemmas.{passes_in_part}
use Rattle.sctp_reassembly.proofs.reassembly_streams.ReassemblyStreams.handle_forward_tsn.Goals as goal

pub returns-in_err-entries-clause-err : goal.returns-in_err-entries-clause-err
returns-in_err-entries-clause-err c = on_err c.from_residual.result (0, 0, record { streams = refl; messages = sym (append-nil c.args.ready.now) })

pub returns-clause-err : goal.returns-clause-err
returns-clause-err c =
    on_err_weaker c.skip_each.result
    (passes_in_part c.args.tsn c.args.skipped.now c.deref.result.now c.args.self.now c.drop_to.new.self c.skip_each.new.self c.args.ready.now c.skip_each.new.ready (c.deref.ensures.value ∙ c.in_ok-entries.ensures) c.drop_to.ensures.value)
    c.skip_each.ensures.err
