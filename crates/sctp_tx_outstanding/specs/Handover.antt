-- The items in the record of a socket that is handed over, with wire numbers; and those of one that takes it up.
use Rattle.std.specs.Prelude.{ℕ, ◌+◌, ◌-◌, ◌%◌, ◌^◌, min, if◌then◌else◌, unwrap_or, option_map, List, [], map}
use Rattle.sctp_chunk.specs.Chunk.{FragmentTree}
use Rattle.sctp_state.specs.Handover.{OutstandingData, Transmission}
use Rattle.sctp_state.specs.HandoverTimes.{ms_from, moment_from, ms_since, moment_before, lifecycle_from}
use Rattle.sctp_tx_outstanding.specs.declared.item.ItemState.{ItemState}
use Rattle.sctp_tx_outstanding.specs.declared.item.ItemState.TheVariants.{InFlight, Missing, Queued, QueuedFast, Acked, GivenUp}
use Rattle.sctp_tx_outstanding.specs.Item.{Item, is_acked, is_abandoned, is_nacked, should_be_retransmitted}
use Rattle.sctp_tx_outstanding.specs.OutstandingData.{Outstanding, next_number, wire_tsn, begun_at}

-- ---- what is written

abbrev pub item_record : ℕ → Item → OutstandingData
item_record now i = record {
  mid = i.fragment.mid;
  stream_id = i.fragment.stream_id;
  ssn = i.fragment.ssn;
  fsn = i.fragment.fsn;
  ppid = i.fragment.ppid;
  payload = i.fragment.payload;
  expires_in_ms = option_map (ms_from now) i.expires;
  max_retransmissions = i.limit;
  is_beginning = i.fragment.is_beginning;
  is_end = i.fragment.is_end;
  is_unordered = i.fragment.is_unordered;
  lifecycle_id = unwrap_or i.lifecycle 0;
  time_since_sent_ms = ms_since now i.sent_at;
  retransmission_count = min (i.sent - 1) 65535;
  acked = is_acked i;
  is_abandoned = is_abandoned i;
  is_nacked = is_nacked i;
  is_to_be_retransmitted = should_be_retransmitted i;
  message_id = i.number;
}

abbrev pub item_records : ℕ → List Item → List OutstandingData
item_records now is = map (item_record now) is

abbrev pub handed_over : ℕ → Outstanding → Transmission → Transmission
handed_over now d tx = record tx {
  next_tsn = wire_tsn d (next_number d.items);
  outstanding_data = item_records now d.items.kept;
  last_cumulative_tsn_ack = wire_tsn d d.items.acked;
}

-- ---- what is read: what waits to be sent again waits for no special packet, and what is missing was reported so once

abbrev pub fragment_from : OutstandingData → FragmentTree
fragment_from r = record {
  stream_id = r.stream_id;
  is_unordered = r.is_unordered;
  ssn = r.ssn;
  mid = r.mid;
  fsn = r.fsn;
  ppid = r.ppid;
  payload = r.payload;
  is_beginning = r.is_beginning;
  is_end = r.is_end;
}

abbrev pub state_from : OutstandingData → ItemState
state_from r =
    if r.acked then Acked else (if r.is_abandoned then GivenUp else (if r.is_to_be_retransmitted then Queued else (if r.is_nacked then Missing else InFlight)))

abbrev pub reports_in : ItemState → ℕ
reports_in InFlight = 0
reports_in Missing = 1
reports_in Queued = 0
reports_in QueuedFast = 0
reports_in Acked = 0
reports_in GivenUp = 0

abbrev pub item_from : ℕ → OutstandingData → Item
item_from now r = record {
  number = r.message_id % 2 ^ 32;
  fragment = fragment_from r;
  expires = option_map (moment_from now) r.expires_in_ms;
  limit = r.max_retransmissions;
  lifecycle = lifecycle_from r.lifecycle_id;
  state = state_from r;
  sent = r.retransmission_count + 1;
  reports = reports_in (state_from r);
  counts_from = 0;
  sent_at = moment_before now r.time_since_sent_ms;
}

abbrev pub items_from : ℕ → List OutstandingData → List Item
items_from now rs = map (item_from now) rs

-- of what the items were, the modes stay
abbrev pub restore : ℕ → Transmission → Outstanding → Outstanding
restore now tx d = record d {
  items = record (begun_at d.first tx.last_cumulative_tsn_ack d.items) { kept = items_from now tx.outstanding_data; breaks = []; discards = [] };
}
