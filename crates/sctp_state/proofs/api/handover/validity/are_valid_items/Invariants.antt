use Rattle.std.proofs.Common.{◌≡◌, drop, map}
use Rattle.sctp_state.specs.Handover.{outstanding_data_of}
use Rattle.sctp_state.specs.Validity.{are_valid_items}
use Rattle.sctp_state.proofs.api.handover.validity.are_valid_items.Given as goal

abbrev pub invariant-items : goal.invariant-items
invariant-items l = are_valid_items (map outstanding_data_of (drop l.item-index l.items)) ≡ are_valid_items (map outstanding_data_of l.items)
