use Rattle.std.proofs.Common.{refl}
use Rattle.sctp_endpoint.proofs.GoesOnLemmas.{goes_on_from, goes_on_through}
use Rattle.sctp_endpoint.proofs.QuietLemmas.{quietly_emptied}
use Rattle.sctp_endpoint.proofs.context.Context.empty_if_avoided.Goals as goal

pub returns-in_ok-empty-clause-goes_on : goal.returns-in_ok-empty-clause-goes_on
returns-in_ok-empty-clause-goes_on g c =
    goes_on_through c.args.self.now _ _ c.forget_errors.ensures.goes_on
    (goes_on_from c.forget_errors.new.self _ _ c.self.view_is (quietly_emptied c.self.inside.send_queue c.self.inside.events c.empty.new.events c.in_ok-empty.ensures.emitted) refl)
