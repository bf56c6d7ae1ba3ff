use Rattle.sctp_tx_outstanding.proofs.ItemsStayLemmas.{messages_are_given_up}
use Rattle.sctp_tx_outstanding.proofs.laws.messages_are_given_up.Goals as goal

pub returns : goal.returns
returns c = messages_are_given_up
