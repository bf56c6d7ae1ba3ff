use Rattle.sctp_world.proofs.OptionLemmas.{no_send_options, no_send_payload}
use Rattle.sctp_world.proofs.command.send_of.Goals as goal

pub returns-in_default-options_of-clause-none : goal.returns-in_default-options_of-clause-none
returns-in_default-options_of-clause-none c = no_send_options _ _ _ _ _ c.in_default-options_of.ensures.none

pub returns-in_default-2-clause-none : goal.returns-in_default-2-clause-none
returns-in_default-2-clause-none c = no_send_payload _ _ _ _ _ (rw c.in_default-2.is at c.in_ok-payload.ensures.none)
