use Rattle.std.proofs.Common.{map}
use Rattle.spec_endpoint.proofs.ArgumentLemmas.{seen_more, seen_all}
use Rattle.sctp_network_side.specs.SideView.{action_of}
use Rattle.proof_world.specs.Reachable.{ActionFits}
use Rattle.sctp_network.proofs.ReachableLemmas.{all_of_each, fits_readable}
use Rattle.sctp_network.proofs.arguments.events_fit.Goals as goal

pub loop-event-init : goal.loop-event-init
loop-event-init c = tt

pub loop-event-preserved : goal.loop-event-preserved
loop-event-preserved c =
    seen_more ActionFits action_of c.args.events.now c.loop-event.event-index c.event-item.result c.loop-event-test.true c.event-item.is
    c.loop-event.invariant c.an_event_fits.ensures.fits

pub returns : goal.returns
returns c =
    let all = seen_all ActionFits action_of c.args.events.now c.loop-event.event-index c.loop-event-test.false c.loop-event.invariant in
    record { fit = all_of_each ActionFits (map action_of c.args.events.now) all; readable = fits_readable (map action_of c.args.events.now) all }
