use Rattle.sctp_endpoint.proofs.GoesOnLemmas.{goes_on_through}
use Rattle.sctp_transfer.proofs.data.handle_no_data.Goals as goal

pub returns-in-Open-clause-goes_on : goal.returns-in-Open-clause-goes_on
returns-in-Open-clause-goes_on g c =
    goes_on_through c.args.context.now c.emit_error.new.self c.send_no_user_data.new.context c.emit_error.ensures.goes_on c.send_no_user_data.ensures.goes_on
