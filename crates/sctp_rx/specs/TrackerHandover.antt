-- The tracker's part of a handover record.
use Rattle.std.specs.Prelude.{ℕ, ◌-◌, if◌then◌else◌}
use Rattle.sctp_serial.specs.SerialNumber.{serial_sum}
use Rattle.sctp_serial.specs.Unwrapped.{u32_space}
use Rattle.sctp_state.specs.Handover.{Receive}
use Rattle.sctp_rx.specs.Seen.{has_gap}
use Rattle.sctp_rx.specs.DataTracker.{Tracker, DataTracker, wire_tsn, unwrapped_from, restore_tracker}

-- the bit of runs that are pending
abbrev pub readiness : Tracker → ℕ
readiness t = if has_gap t.seen then 8 else 0

-- what is written
abbrev pub write_handover : DataTracker → Receive → Receive
write_handover d r = record r {
  seen_packet = d.tracker.seen_packet;
  last_cumulative_acked_tsn = wire_tsn d d.tracker.seen.front;
  last_assembled_tsn = wire_tsn d d.tracker.seen.front;
}

-- the cumulative TSN that is read: the one behind it is at or above the peer's first one
abbrev pub front_of : ℕ → Receive → ℕ
front_of first r = unwrapped_from first (serial_sum u32_space r.last_cumulative_acked_tsn 1) - 1

abbrev pub restore : Receive → DataTracker → DataTracker
restore r d = record d { tracker = restore_tracker (front_of d.first r) r.seen_packet d.tracker }
