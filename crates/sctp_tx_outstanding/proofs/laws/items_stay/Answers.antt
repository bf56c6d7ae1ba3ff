use Rattle.sctp_tx_outstanding.proofs.ItemsStayLemmas.{losses_keep, lifetimes_keep, resending_keeps, new_items_keep, sacks_keep}
use Rattle.sctp_tx_outstanding.proofs.laws.items_stay.Goals as goal

pub returns : goal.returns
returns c = record { losses = losses_keep; lifetimes = lifetimes_keep; resending = resending_keeps; new = new_items_keep; sacks = sacks_keep }
