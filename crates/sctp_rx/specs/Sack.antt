-- What a SACK says of the numbers that were seen (RFC 9260 section 3.3.4).
use Rattle.std.specs.Prelude.{ℕ, ◌-◌, ◌&&◌, Bool, nat_le, List, [], map, filter, take}
use Rattle.std.specs.List.{list_any}
use Rattle.sctp_serial.specs.declared.types.tsn.Tsn.{Tsn}
use Rattle.sctp_serial.specs.Unwrapped.{u32_space, wire}
use Rattle.sctp_chunk.specs.declared.sack.GapAckBlock.{GapAckBlock}
use Rattle.sctp_chunk.specs.Chunk.{SackTree}
use Rattle.sctp_rx.specs.Seen.{Run, Seen}
use Rattle.sctp_rx.specs.DataTracker.{Tracker, DataTracker, wire_tsn}

-- a run as offsets from the front
abbrev pub block : ℕ → Run → GapAckBlock
block front r = record { start = r.first - front; end = r.last - front }

-- whether the offsets have 16 bits
abbrev pub is_near : ℕ → Run → Bool
is_near front r = nat_le (r.last - front) 65535

abbrev pub blocks_of : ℕ → List Run → List GapAckBlock
blocks_of front rs = map (block front) (filter (is_near front) rs)

-- of the first twenty runs those that are near
abbrev pub gap_ack_blocks : Seen → List GapAckBlock
gap_ack_blocks s = blocks_of s.front (take 20 s.runs)

abbrev pub tsn : ℕ → ℕ → Tsn
tsn first n = record { 0 = wire u32_space first n }

abbrev pub tsns : ℕ → List ℕ → List Tsn
tsns first ns = map (tsn first) ns

abbrev pub sack : (a_rwnd : ℕ) → DataTracker → SackTree
sack a_rwnd d = record {
  cumulative_tsn_ack = wire_tsn d d.tracker.seen.front;
  a_rwnd = a_rwnd;
  gap_ack_blocks = gap_ack_blocks d.tracker.seen;
  duplicate_tsns = tsns d.first d.tracker.duplicates;
}

-- the duplicates are reported once
abbrev pub clear_duplicates : Tracker → Tracker
clear_duplicates t = record t { duplicates = [] }

-- whether a block covers the offset
abbrev pub is_covered : List GapAckBlock → ℕ → Bool
is_covered bs offset = list_any (λ b. nat_le b.start offset && nat_le offset b.end) bs
