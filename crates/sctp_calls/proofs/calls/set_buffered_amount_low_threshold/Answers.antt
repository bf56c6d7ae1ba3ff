use Rattle.std.proofs.Common.{refl}
use Rattle.sctp_endpoint.proofs.GoesOnLemmas.{goes_on_from}
use Rattle.sctp_calls.proofs.EmittedLemmas.{threshold_grown}
use Rattle.sctp_calls.proofs.calls.set_buffered_amount_low_threshold.Goals as goal

pub returns-clause-goes_on : goal.returns-clause-goes_on
returns-clause-goes_on g c =
    let after = c.set_buffered_amount_low_threshold.new in
    let said = c.set_buffered_amount_low_threshold.ensures in
    goes_on_from c.args.context.now _ _ c.context.view_is (threshold_grown c.set_buffered_amount_low_threshold.result c.args.id.0 c.args.bytes c.context.inside.send_queue after.self
    c.context.inside.events after.events said.emitted said.err) refl
