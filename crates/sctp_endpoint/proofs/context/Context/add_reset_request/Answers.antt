use Rattle.std.proofs.Common.{refl}
use Rattle.sctp_endpoint.proofs.GoesOnLemmas.{goes_on_from}
use Rattle.sctp_endpoint.proofs.QuietLemmas.{quietly_same}
use Rattle.sctp_endpoint.proofs.context.Context.add_reset_request.Goals as goal

pub returns-clause-goes_on : goal.returns-clause-goes_on
returns-clause-goes_on g c = goes_on_from c.args.self.now _ _ c.self.view_is (quietly_same c.self.inside.events) refl

pub returns-in_err-streams-clause-goes_on : goal.returns-in_err-streams-clause-goes_on
returns-in_err-streams-clause-goes_on g c = goes_on_from c.args.self.now _ _ c.self.view_is (quietly_same c.self.inside.events) refl
