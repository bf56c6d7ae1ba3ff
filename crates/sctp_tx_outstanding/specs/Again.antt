-- What the items are once they were written into a record and the record is taken up, at the same moment: all that is not
-- written in full is read anew.
use Rattle.std.specs.Prelude.{◌≡◌, ℕ, ◌+◌, ◌-◌, ◌%◌, ◌^◌, ◌<◌, min, option_map, List, map}
use Rattle.sctp_serial.specs.Unwrapped.{origin, u32_space}
use Rattle.sctp_state.specs.Handover.{Transmission}
use Rattle.sctp_state.specs.HandoverTimes.{ms_since, moment_before, moment_again, lifecycle_again}
use Rattle.sctp_tx_outstanding.specs.Item.{Item, demote_fast}
use Rattle.sctp_tx_outstanding.specs.OutstandingData.{Outstanding, wire_tsn, next_number}
use Rattle.sctp_tx_outstanding.specs.Handover.{reports_in, handed_over, restore}

-- whole milliseconds since a moment
abbrev pub sent_again : ℕ → ℕ → ℕ
sent_again now moment = moment_before now (ms_since now moment)

-- what waits for the packet that ignores the congestion window waits for any, and what is missing was reported so once
abbrev pub item_again : ℕ → Item → Item
item_again now i = record i {
  number = i.number % 2 ^ 32;
  expires = option_map (moment_again now) i.expires;
  lifecycle = lifecycle_again i.lifecycle;
  state = demote_fast i.state;
  sent = min (i.sent - 1) 65535 + 1;
  reports = reports_in (demote_fast i.state);
  counts_from = 0;
  sent_at = sent_again now i.sent_at;
}

abbrev pub items_again : ℕ → List Item → List Item
items_again now is = map (item_again now) is

-- the items come back, in whatever data with the same first TSN the record is taken up, under the TSNs that they had; the
-- numbers are the least that are written so
pub record ComesBack (d after : Outstanding) (now : ℕ) : Type 0 where
  pub items : after.items.kept ≡ items_again now d.items.kept
  pub cumulative : wire_tsn after after.items.acked ≡ wire_tsn d d.items.acked
  pub next : wire_tsn after (next_number after.items) ≡ wire_tsn d (next_number d.items)
  pub least : after.items.acked + 1 < origin + u32_space

abbrev pub EachComesBack : Type 0
EachComesBack = (now : ℕ) (tx : Transmission) (d other : Outstanding) → d.first ≡ other.first → d.first < u32_space → ComesBack d (restore now (handed_over now d tx) other) now
