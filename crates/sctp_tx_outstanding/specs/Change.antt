-- What may happen to a kept item.
use Rattle.std.specs.Prelude.{Bool, true, false}
use Rattle.sctp_tx_outstanding.specs.declared.kept.Change.{Change}
use Rattle.sctp_tx_outstanding.specs.declared.kept.Change.TheVariants as changes
use Rattle.sctp_tx_outstanding.specs.Item.{Item, ack, uncover, nack, mark_as_retransmitted, miss_fast, abandon}

abbrev pub apply_change : Change → Item → Item
apply_change changes.Ack i = ack i
apply_change changes.Uncover i = uncover i
apply_change (changes.Nack indication fast) i = nack indication fast i
apply_change changes.Retransmit i = mark_as_retransmitted i
apply_change changes.MissFast i = miss_fast i
apply_change changes.Abandon i = abandon i

-- made by the blocks of a SACK
abbrev pub is_of_sack : Change → Bool
is_of_sack changes.Ack = true
is_of_sack changes.Uncover = true
is_of_sack (changes.Nack indication fast) = false
is_of_sack changes.Retransmit = false
is_of_sack changes.MissFast = false
is_of_sack changes.Abandon = false
