use Rattle.sctp_tx_outstanding.proofs.AgainLemmas.{comes_back}
use Rattle.sctp_tx_outstanding.proofs.laws.a_record_brings_the_items_back.Goals as goal

pub returns : goal.returns
returns c = comes_back
