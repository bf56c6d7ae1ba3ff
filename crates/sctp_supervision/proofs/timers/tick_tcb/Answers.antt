use Rattle.sctp_endpoint.proofs.GoesOnLemmas.{goes_on_through}
use Rattle.sctp_supervision.proofs.timers.tick_tcb.Goals as goal

pub returns-clause-goes_on : goal.returns-clause-goes_on
returns-clause-goes_on g c =
    let a = c.tick_t3.new.context in
    let b = c.tick_heartbeat_interval.new.context in
    let d = c.tick_heartbeat_timeout-is_unanswered.new.context in
    let e = c.tick_requests.new.context in
    goes_on_through c.args.context.now a e c.in_ok-has_expired.ensures.goes_on (goes_on_through a b e c.in_ok-is_beat.ensures.goes_on
    (goes_on_through b d e c.tick_heartbeat_timeout-is_unanswered.ensures.goes_on c.tick_requests.ensures.goes_on))
