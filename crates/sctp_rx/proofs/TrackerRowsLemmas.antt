-- Worked rows, computed: what the definitions give for a few arrivals.
use Rattle.std.proofs.Common.{◌≡◌, ℕ, true, false, [], ◌∷◌, refl}
use Rattle.sctp_serial.specs.Unwrapped.{origin}
use Rattle.sctp_serial.specs.declared.types.tsn.Tsn.{Tsn}
use Rattle.sctp_chunk.specs.declared.sack.GapAckBlock.{GapAckBlock}
use Rattle.sctp_state.specs.Options.{defaults}
use Rattle.sctp_rx.specs.DataTracker.{DataTracker, tracker, number_of, is_valid, wire_tsn, observe, moves_on, forward}
use Rattle.sctp_rx.specs.Sack.{sack}

-- a tracker whose peer begins with this TSN
abbrev fresh : ℕ → DataTracker
fresh first = record { first = first; tracker = tracker defaults origin }

abbrev taken : ℕ → DataTracker → DataTracker
taken tsn d = record d { tracker = observe (number_of d tsn) false d.tracker }

abbrev forwarded : ℕ → DataTracker → DataTracker
forwarded tsn d = record d { tracker = forward (number_of d tsn) d.tracker }

abbrev gap : ℕ → ℕ → GapAckBlock
gap start end = record { start = start; end = end }

abbrev number : ℕ → Tsn
number n = record { 0 = n }

-- within 100,000 of the cumulative TSN, which is 9
upper_edge : is_valid (tracker defaults origin) (number_of (fresh 10) 100009) ≡ true
upper_edge = refl

above_the_edge : is_valid (tracker defaults origin) (number_of (fresh 10) 100010) ≡ false
above_the_edge = refl

lower_edge : is_valid (tracker defaults origin) (number_of (fresh 10) 4294867305) ≡ true
lower_edge = refl

below_the_edge : is_valid (tracker defaults origin) (number_of (fresh 10) 4294867304) ≡ false
below_the_edge = refl

-- 10, 12, 12
abbrev after_three : DataTracker
after_three = taken 12 (taken 12 (taken 10 (fresh 10)))

one_gap : sack 4711 after_three ≡ record { cumulative_tsn_ack = 10; a_rwnd = 4711; gap_ack_blocks = gap 2 2 ∷ []; duplicate_tsns = number 12 ∷ [] }
one_gap = refl

moves : moves_on (number_of after_three 11) after_three.tracker ≡ true
moves = refl

moved : wire_tsn after_three (forwarded 11 after_three).tracker.seen.front ≡ 12
moved = refl

moves_once : moves_on (number_of (forwarded 11 after_three) 11) (forwarded 11 after_three).tracker ≡ false
moves_once = refl

-- where TSNs wrap
abbrev wrapped : DataTracker
wrapped = taken 2 (taken 0 (taken 4294967292 (taken 4294967290 (fresh 4294967290))))

three_gaps : sack 0 wrapped ≡ record { cumulative_tsn_ack = 4294967290; a_rwnd = 0; gap_ack_blocks = gap 2 2 ∷ gap 6 6 ∷ gap 8 8 ∷ []; duplicate_tsns = [] }
three_gaps = refl

two_gaps : sack 0 (taken 4294967291 wrapped) ≡ record { cumulative_tsn_ack = 4294967292; a_rwnd = 0; gap_ack_blocks = gap 4 4 ∷ gap 6 6 ∷ []; duplicate_tsns = [] }
two_gaps = refl

no_gap : sack 0 (forwarded 1 (taken 4294967291 wrapped)) ≡ record { cumulative_tsn_ack = 2; a_rwnd = 0; gap_ack_blocks = []; duplicate_tsns = [] }
no_gap = refl
