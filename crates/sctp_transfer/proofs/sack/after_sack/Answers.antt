use Rattle.std.proofs.Common.{rules}
use Rattle.sctp_endpoint.specs.GoesOn.{GoesOn}
use Rattle.sctp_endpoint.proofs.GoesOnLemmas.{goes_on_as, goes_on_through}
use Rattle.sctp_transfer.proofs.sack.after_sack.Goals as goal

pub returns-in_err-maybe_send_shutdown_or_ack-clause-goes_on : goal.returns-in_err-maybe_send_shutdown_or_ack-clause-goes_on
returns-in_err-maybe_send_shutdown_or_ack-clause-goes_on g c =
    let joined : GoesOn c.args.context.now c.if-reset_error_counter.context = goes_on_as _ _ (search rules) (search rules) in
    goes_on_through c.args.context.now c.if-reset_error_counter.context c.maybe_send_shutdown_or_ack.new.self joined c.maybe_send_shutdown_or_ack.ensures.goes_on

pub returns-clause-goes_on : goal.returns-clause-goes_on
returns-clause-goes_on g c =
    let joined : GoesOn c.args.context.now c.if-reset_error_counter.context = goes_on_as _ _ (search rules) (search rules) in
    goes_on_through c.args.context.now c.maybe_send_shutdown_or_ack.new.self c.send_after.new.context
    (goes_on_through c.args.context.now c.if-reset_error_counter.context c.maybe_send_shutdown_or_ack.new.self joined c.in_ok-maybe_send_shutdown_or_ack.ensures.goes_on)
    c.send_after.ensures.goes_on
