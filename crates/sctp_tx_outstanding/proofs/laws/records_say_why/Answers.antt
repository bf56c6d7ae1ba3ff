use Rattle.sctp_tx_outstanding.proofs.RecordLemmas.{counts_are_emitted, lifetimes_are_emitted}
use Rattle.sctp_tx_outstanding.proofs.laws.records_say_why.Goals as goal

pub returns : goal.returns
returns c = record { counts = counts_are_emitted; lifetimes = lifetimes_are_emitted }
