use Rattle.std.proofs.Common.{Err, ap, ◌∙◌}
use Rattle.sctp_network_side.proofs.HandingLemmas.{is_not_ready}
use Rattle.sctp_network_side.proofs.calling.hand_over.Goals as goal

pub returns-in-Err-NotReady-clause-answer : goal.returns-in-Err-NotReady-clause-answer
returns-in-Err-NotReady-clause-answer g c =
    is_not_ready c.get_handover_state_and_close.result c.in-Err-NotReady.readiness _ _ (c.in-Err-NotReady.is ∙ ap Err c.in-Err-NotReady.field-0-is)
    c.get_handover_state_and_close.ensures.answer c.get_handover_state_and_close.ensures.refused
