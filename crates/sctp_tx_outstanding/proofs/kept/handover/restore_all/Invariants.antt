use Rattle.std.proofs.Common.{◌≡◌, ◌<◌, ◌^◌, ◌++◌, drop}
use Rattle.std.specs.Prelude.{map}
use Rattle.sctp_state.specs.Handover.{outstanding_data_of}
use Rattle.sctp_state.specs.Validity.{outstanding_bytes}
use Rattle.sctp_tx_outstanding.specs.Handover.{items_from}
use Rattle.sctp_tx_outstanding.proofs.kept.handover.restore_all.Given as goal

abbrev pub invariant-loop-record : goal.invariant-loop-record
invariant-loop-record l = record {
  mode : l.kept.is_interleaved ≡ l.initial.kept.is_interleaved;
  items : l.kept.items ++ items_from l.now (map outstanding_data_of (drop l.record-index l.records)) ≡ l.initial.kept.items ++ items_from l.now (map outstanding_data_of l.records);
  small : outstanding_bytes (map outstanding_data_of (drop l.record-index l.records)) < 2 ^ 32;
}
