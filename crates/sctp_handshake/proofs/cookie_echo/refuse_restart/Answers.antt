use Rattle.sctp_endpoint.proofs.GoesOnLemmas.{goes_on_through}
use Rattle.sctp_handshake.proofs.cookie_echo.refuse_restart.Goals as goal

pub returns-clause-goes_on : goal.returns-clause-goes_on
returns-clause-goes_on g c =
    goes_on_through c.args.context.now c.emit_in.new.self c.emit_error.new.self c.emit_in.ensures.goes_on c.emit_error.ensures.goes_on
