-- The sender in the record of a socket that is handed over; and that of one that takes it up.
use Rattle.std.specs.Prelude.{ℕ, ◌&&◌, ◌==◌, not, nat_lt, min, bit_or, Bool, if◌then◌else◌, None, is_some, length}
use Rattle.sctp_state.specs.Numbers.{most_u32}
use Rattle.sctp_state.specs.Handover.{Transmission}
use Rattle.sctp_state.specs.Timer.{stop}
use Rattle.sctp_tx_outstanding.specs.OutstandingData.{Outstanding, waiting_items}
use Rattle.sctp_tx_outstanding.specs.Handover as items
use Rattle.sctp_tx.specs.Windows.{Windows}
use Rattle.sctp_tx.specs.RetransmissionQueue.{Sender}

-- ---- what stands in the way: items count where none may be handed over

abbrev pub items_bit : Bool → Sender → ℕ
items_bit is_strict s = if is_strict && not (length s.outstanding.items.kept == 0) then 512 else 0

abbrev pub recovery_bit : Sender → ℕ
recovery_bit s = if is_some s.windows.fast_recovery_exit then 1024 else 0

abbrev pub waiting_bit : Bool → Sender → ℕ
waiting_bit is_strict s = if is_strict && nat_lt 0 (waiting_items s.outstanding.items) then 2048 else 0

abbrev pub readiness : Bool → Sender → ℕ
readiness is_strict s = bit_or (bit_or (items_bit is_strict s) (recovery_bit s)) (waiting_bit is_strict s)

-- ---- what is written

abbrev pub saturate_u32 : ℕ → ℕ
saturate_u32 n = min n most_u32

abbrev pub windows_written : Windows → Transmission → Transmission
windows_written w tx = record tx {
  cwnd = saturate_u32 w.cwnd;
  rwnd = saturate_u32 w.rwnd;
  ssthresh = saturate_u32 w.ssthresh;
  partial_bytes_acked = saturate_u32 w.partial_bytes_acked;
}

abbrev pub handed_over : ℕ → Sender → Transmission → Transmission
handed_over now s tx = windows_written s.windows (items.handed_over now s.outstanding tx)

-- ---- what is read: there is no fast recovery, and t3-rtx doesn't run until something is handed out or a SACK leaves
-- something in flight

abbrev pub windows_from : Transmission → Windows → Windows
windows_from tx w = record w {
  cwnd = tx.cwnd;
  ssthresh = tx.ssthresh;
  rwnd = tx.rwnd;
  partial_bytes_acked = tx.partial_bytes_acked;
  fast_recovery_exit = None;
}

abbrev pub restored_with : Transmission → Outstanding → Sender → Sender
restored_with tx d s = record s { outstanding = d; windows = windows_from tx s.windows; t3 = stop s.t3 }

abbrev pub restore : ℕ → Transmission → Sender → Sender
restore now tx s = restored_with tx (items.restore now tx s.outstanding) s
