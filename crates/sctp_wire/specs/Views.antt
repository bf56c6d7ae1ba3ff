-- What the program's values say, without where they lie in memory.
use Rattle.sctp_item.specs.Item.{Item}
use Rattle.sctp_wire.specs.declared.item.RawItem.{RawItem}

abbrev pub raw_item : RawItem → Item
raw_item i = record { first = i.first; second = i.second; value = i.value.now }
