use Rattle.std.proofs.Common.{ap}
use Rattle.std.specs.Prelude.{is_some}
use Rattle.spec_endpoint.specs.Shown.{association_in}
use Rattle.sctp_endpoint.specs.declared.state.State as given_state
use Rattle.sctp_endpoint.specs.Views.{state_of}
use Rattle.sctp_endpoint.proofs.GoesOnLemmas.{continues_on, with_entered, with_kept}
use Rattle.sctp_calls.proofs.handover.go_on.Goals as goal

pub returns-in_err-announce-clause-goes_on : goal.returns-in_err-announce-clause-goes_on
returns-in_err-announce-clause-goes_on g c = with_entered c.args.context.now c.announce.new.self c.enter.new.self _ _ c.enter.ensures c.announce.ensures.goes_on

pub returns-clause-goes_on : goal.returns-clause-goes_on
returns-clause-goes_on g c =
    with_kept c.args.context.now c.send_waiting.new.context (state_of c.enter.new.self) (state_of c.send_waiting.new.state)
    (continues_on c.args.context.now c.announce.new.self c.send_waiting.new.context c.announce.ensures.goes_on c.send_waiting.ensures.goes_on)
    (ap (λ (u : given_state.State). is_some (association_in (state_of u))) c.enter.ensures) c.send_waiting.ensures.association
