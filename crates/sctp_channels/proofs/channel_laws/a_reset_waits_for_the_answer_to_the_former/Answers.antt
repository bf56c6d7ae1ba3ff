use Rattle.sctp_channels.proofs.RunLemmas.{none_before_the_answer}
use Rattle.sctp_channels.proofs.channel_laws.a_reset_waits_for_the_answer_to_the_former.Goals as goal

pub returns : goal.returns
returns c = none_before_the_answer
