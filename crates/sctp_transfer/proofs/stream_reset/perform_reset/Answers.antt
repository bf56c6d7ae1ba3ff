use Rattle.sctp_transfer.proofs.stream_reset.perform_reset.Goals as goal

pub returns-in_err-emit_event-clause-goes_on : goal.returns-in_err-emit_event-clause-goes_on
returns-in_err-emit_event-clause-goes_on g c = c.emit_event.ensures.goes_on

pub returns-in_err-emit_event-clause-ready : goal.returns-in_err-emit_event-clause-ready
returns-in_err-emit_event-clause-ready g c = c.reset_streams_and_leave_deferred_reset.ensures.kept

pub returns-clause-goes_on : goal.returns-clause-goes_on
returns-clause-goes_on g c = c.emit_event.ensures.goes_on

pub returns-clause-ready : goal.returns-clause-ready
returns-clause-ready g c = c.reset_streams_and_leave_deferred_reset.ensures.kept
