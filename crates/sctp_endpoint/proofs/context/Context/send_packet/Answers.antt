use Rattle.sctp_endpoint.proofs.GoesOnLemmas.{goes_on_through}
use Rattle.sctp_endpoint.proofs.context.Context.send_packet.Goals as goal

pub returns-clause-goes_on : goal.returns-clause-goes_on
returns-clause-goes_on g c = goes_on_through c.args.self.now c.fill.new.self c.emit.new.self c.fill.ensures.goes_on c.emit.ensures.goes_on

pub returns-in_err-emit-clause-goes_on : goal.returns-in_err-emit-clause-goes_on
returns-in_err-emit-clause-goes_on g c = goes_on_through c.args.self.now c.fill.new.self c.emit.new.self c.fill.ensures.goes_on c.emit.ensures.goes_on
