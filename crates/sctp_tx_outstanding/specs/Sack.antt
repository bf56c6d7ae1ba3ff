-- What a SACK says of the items (RFC 9260 sections 6.2.1 and 7.2.4).
use Rattle.std.specs.Prelude.{ℕ, suc, ◌+◌, ◌-◌, ◌^◌, ◌&&◌, not, nat_lt, nat_le, max, Bool, false, if◌then◌else◌, Option, Some, None, List, [], ◌∷◌, ◌++◌, take, drop, filter, sum_by, slice_get, ◌==◌}
use Rattle.sctp_serial.specs.Unwrapped.{origin}
use Rattle.sctp_state.specs.Events.{Event, OnLifecycleMessageMaybeExpired, OnLifecycleMessageDelivered, OnLifecycleEnd, Emitted, emit_events}
use Rattle.sctp_chunk.specs.declared.sack.GapAckBlock.{GapAckBlock}
use Rattle.sctp_chunk.specs.Covered.{is_covered}
use Rattle.sctp_tx_outstanding.specs.declared.item.MissIndication.{MissIndication}
use Rattle.sctp_tx_outstanding.specs.declared.item.MissIndication.TheVariants.{Report}
use Rattle.sctp_tx_outstanding.specs.Item.{Item, is_acked, is_open, is_abandoned, chunk_size, ack, uncover, rtt_from}
use Rattle.sctp_tx_outstanding.specs.OutstandingData.{Items, when, next_number}
use Rattle.sctp_tx_outstanding.specs.Losses.{Step, first_step, nack_below}

-- ---- the range

abbrev pub highest_end : List GapAckBlock → ℕ
highest_end [] = 0
highest_end (b ∷ bs) = max b.end (highest_end bs)

-- numbers stay below this distance from the first one
abbrev pub bound : ℕ
bound = origin + 2 ^ 62

-- a cumulative TSN from the own point to the highest TSN
abbrev pub is_in_range : (cumulative : ℕ) → Items → Bool
is_in_range cumulative s = nat_le s.acked cumulative && (nat_lt cumulative (next_number s) && nat_lt cumulative bound)

-- its cumulative TSN is such a one, and no block reaches above the highest TSN
abbrev pub is_valid : (cumulative : ℕ) → List GapAckBlock → Items → Bool
is_valid cumulative blocks s = nat_le s.acked cumulative && (nat_lt (cumulative + highest_end blocks) (next_number s) && nat_lt cumulative bound)

-- ---- items up to the cumulative TSN leave

-- what is emitted of the message whose end leaves
abbrev pub fate : {P : Type 0} → (is_abandoned : Bool) → ℕ → Event P
fate is_abandoned id = if is_abandoned then OnLifecycleMessageMaybeExpired id else OnLifecycleMessageDelivered id

abbrev pub ending : {P : Type 0} → (is_abandoned : Bool) → Option ℕ → List (Event P)
ending is_abandoned None = []
ending is_abandoned (Some id) = fate is_abandoned id ∷ OnLifecycleEnd id ∷ []

abbrev pub leaving_events : {P : Type 0} → Item → List (Event P)
leaving_events i = if i.fragment.is_end then ending (is_abandoned i) i.lifecycle else []

abbrev pub all_leaving_events : {P : Type 0} → List Item → List (Event P)
all_leaving_events [] = []
all_leaving_events (i ∷ is) = leaving_events i ++ all_leaving_events is

-- how many leave
abbrev pub leaving : (cumulative : ℕ) → Items → ℕ
leaving cumulative s = cumulative - s.acked

-- what a block acknowledged before counts nothing as it leaves
abbrev pub departing_part : (is_interleaved : Bool) → Item → ℕ
departing_part is_interleaved i = when (not (is_acked i)) (chunk_size is_interleaved i)

abbrev pub departing_bytes : (cumulative : ℕ) → Items → ℕ
departing_bytes cumulative s = sum_by (departing_part s.is_interleaved) (take (leaving cumulative s) s.kept)

-- those that stay, and breakpoints that are not passed
abbrev pub staying : (cumulative : ℕ) → Items → Items
staying cumulative s = record s {
  acked = cumulative;
  kept = drop (leaving cumulative s) s.kept;
  breaks = filter (λ b. nat_lt cumulative b) s.breaks;
}

-- ---- blocks

-- a block acknowledges it now
abbrev pub is_newly_acked : (covered : Bool) → Item → Bool
is_newly_acked covered i = covered && is_open i

-- what no block covers any more is in flight again
abbrev pub ack_or_uncover : (covered : Bool) → Item → Item
ack_or_uncover covered i = if covered then ack i else uncover i

-- the items from this offset on
abbrev pub ack_or_uncover_all : List GapAckBlock → ℕ → List Item → List Item
ack_or_uncover_all blocks offset [] = []
ack_or_uncover_all blocks offset (i ∷ is) = ack_or_uncover (is_covered blocks offset) i ∷ ack_or_uncover_all blocks (suc offset) is

abbrev pub newly_acked : List GapAckBlock → (is_interleaved : Bool) → ℕ → List Item → ℕ
newly_acked blocks m offset [] = 0
newly_acked blocks m offset (i ∷ is) = when (is_newly_acked (is_covered blocks offset) i) (chunk_size m i) + newly_acked blocks m (suc offset) is

-- how many items stand below the highest one newly acknowledged
abbrev pub below_highest : List GapAckBlock → ℕ → (place most : ℕ) → List Item → ℕ
below_highest blocks offset place most [] = most
below_highest blocks offset place most (i ∷ is) = below_highest blocks (suc offset) (suc place) (if is_newly_acked (is_covered blocks offset) i then place else most) is

abbrev pub acked_by : List GapAckBlock → Items → Items
acked_by blocks s = record s { kept = ack_or_uncover_all blocks 1 s.kept }

abbrev pub reported_below : List GapAckBlock → Items → ℕ
reported_below blocks s = below_highest blocks 1 0 0 s.kept

-- whether the item at a place is newly acknowledged, and its bytes then
abbrev pub newly_of : (covered : Bool) → Option Item → Bool
newly_of covered None = false
newly_of covered (Some i) = is_newly_acked covered i

abbrev pub bytes_of : (covered is_interleaved : Bool) → Option Item → ℕ
bytes_of covered m None = 0
bytes_of covered m (Some i) = when (is_newly_acked covered i) (chunk_size m i)

abbrev pub is_new_at : List GapAckBlock → ℕ → List Item → Bool
is_new_at blocks place is = newly_of (is_covered blocks (place + 1)) (slice_get is place)

abbrev pub new_bytes_at : List GapAckBlock → (is_interleaved : Bool) → ℕ → List Item → ℕ
new_bytes_at blocks m place is = bytes_of (is_covered blocks (place + 1)) m (slice_get is place)

-- the bytes of an item's chunk, where it is neither acknowledged nor given up
abbrev pub open_size : (is_interleaved : Bool) → Option Item → Option ℕ
open_size m None = None
open_size m (Some i) = if is_open i then Some (chunk_size m i) else None

-- ---- the whole

-- the items that stay, as the blocks say, with what was emitted of those that left
abbrev pub receive_sack_first : {P : Type 0} → (cumulative : ℕ) → List GapAckBlock → Items → Emitted P → Step P
receive_sack_first cumulative blocks s emitted = first_step (acked_by blocks (staying cumulative s)) (emit_events (all_leaving_events (take (leaving cumulative s) s.kept)) emitted)

-- a report by the highest number newly acknowledged. Of an item that may be lost more than once a flight reports count from 0 on: each
abbrev pub report : (once_a_flight : Bool) → (newest next : ℕ) → MissIndication
report once_a_flight newest next = Report newest (if once_a_flight then next else 0)

abbrev pub report_by : (once_a_flight : Bool) → (cumulative : ℕ) → List GapAckBlock → Items → MissIndication
report_by once_a_flight cumulative blocks s = report once_a_flight (cumulative + 1 + reported_below blocks (staying cumulative s)) (next_number s)

-- and after the missing reports: items below the highest one newly acknowledged get one
abbrev pub receive_sack : {P : Type 0} → (cumulative : ℕ) → List GapAckBlock → (once_a_flight is_in_fast_recovery : Bool) → Items → Emitted P → Step P
receive_sack cumulative blocks once_a_flight is_in_fast_recovery s emitted =
    nack_below (report_by once_a_flight cumulative blocks s) (not is_in_fast_recovery) (reported_below blocks (staying cumulative s)) (receive_sack_first cumulative blocks s emitted)

-- the bytes newly acknowledged
abbrev pub acked_bytes : (cumulative : ℕ) → List GapAckBlock → Items → ℕ
acked_bytes cumulative blocks s = departing_bytes cumulative s + newly_acked blocks s.is_interleaved 1 (staying cumulative s).kept

-- ---- round trips

abbrev pub is_open_of : Option Item → Bool
is_open_of None = false
is_open_of (Some i) = is_open i

-- whether the item with this number is kept, and neither acknowledged by a block nor given up
abbrev pub is_open_at : ℕ → Items → Bool
is_open_at number s = if nat_le number s.acked then false else is_open_of (slice_get s.kept (number - s.acked - 1))

abbrev pub sample_of : ℕ → Option Item → Option ℕ
sample_of now None = None
sample_of now (Some i) = if i.sent == 1 then Some (rtt_from now i) else None

-- of the item at a place, where it was sent once
abbrev pub sample_at : ℕ → ℕ → Items → Option ℕ
sample_at now place s = sample_of now (slice_get s.kept place)

-- of the item with this number, if it is kept
abbrev pub sample : ℕ → ℕ → Items → Option ℕ
sample now number s = if nat_le number s.acked then None else sample_at now (number - s.acked - 1) s
