use Rattle.std.proofs.Common.{◌≡◌, ◌-◌, ◌^◌, min, take, map}
use Rattle.sctp_state.specs.Handover.{outstanding_data_of}
use Rattle.sctp_state.specs.Validity.{outstanding_bytes}
use Rattle.sctp_state.proofs.api.handover.validity.outstanding_bytes.Given as goal

abbrev pub invariant-items : goal.invariant-items
invariant-items l = l.bytes ≡ min (outstanding_bytes (map outstanding_data_of (take l.data-index l.items))) (2 ^ 64 - 1)
