use Rattle.std.proofs.Common.{refl}
use Rattle.sctp_endpoint.proofs.GoesOnLemmas.{goes_on_from}
use Rattle.sctp_transfer.proofs.EmittedLemmas.{prepared_grown}
use Rattle.sctp_transfer.proofs.stream_reset.prepare_reset.Goals as goal

pub returns-clause-goes_on : goal.returns-clause-goes_on
returns-clause-goes_on g c =
    let after = c.prepare_reset_stream.new in
    let said = c.prepare_reset_stream.ensures in
    goes_on_from c.args.context.now _ _ c.context.view_is (prepared_grown c.prepare_reset_stream.result c.args.id.0 c.context.inside.send_queue after.self
    c.context.inside.events after.events said.emitted said.err) refl
