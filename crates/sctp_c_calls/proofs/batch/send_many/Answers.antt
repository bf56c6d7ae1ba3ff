use Rattle.std.proofs.Common.{◌≡◌, Err, sym, ap, ◌∙◌}
use Rattle.sctp_association.specs.Socket.{batch_ending, refusals_in}
use Rattle.sctp_state.specs.declared.api.errors.BatchFault.TheVariants.{Refused}
use Rattle.sctp_c_calls.proofs.BatchLemmas.{some_refused}
use Rattle.sctp_c_calls.proofs.batch.send_many.Goals as goal

pub returns-in-Err-Refused-clause-answer : goal.returns-in-Err-Refused-clause-answer
returns-in-Err-Refused-clause-answer g c =
    let is : c.send_many.result ≡ Err (Refused c.in-Err-Refused.refusals) = cc in
    rw (sym c.in-Ok-all_copied.ensures, sym c.options.ensures) (some_refused (sym (ap refusals_in is) ∙ c.send_many.ensures.answer (ap batch_ending is)) (c.send_many.ensures.refused c.in-Err-Refused.refusals is))
