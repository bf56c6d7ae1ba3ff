-- What a call on the streams leaves where memory runs out before its end: its first steps are done, and of what comes behind them nothing.
-- The message in hand is lost. Where no step was done, all is as it was.
use Rattle.std.specs.Prelude.{◌≡◌, ℕ, zero, suc, nat_lt, max, Bool, true, false, if◌then◌else◌, List, [], ◌∷◌, ◌++◌}
use Rattle.sctp_serial.specs.Messages.{Message}
use Rattle.sctp_serial.specs.Unwrapped.{origin, u32_space, halves, nearest}
use Rattle.sctp_serial.specs.declared.types.StreamKey.TheVariants.{Ordered, Unordered}
use Rattle.sctp_chunk.specs.Chunk.{FragmentTree}
use Rattle.sctp_chunk.specs.declared.forward_tsn.SkippedStream.{SkippedStream}
use Rattle.sctp_chunk.specs.declared.forward_tsn.SkippedStream.TheVariants.{ForwardTsn, IForwardTsn}
use Rattle.sctp_fragments.specs.ReassemblyKey.{pair_rank}
use Rattle.sctp_fragments.specs.Runs.{with_item, from_rank}
use Rattle.sctp_fragments.specs.Held.{Held, rank_of, is_complete, is_in_turn, left_by}
use Rattle.sctp_reassembly.specs.Delivery.{OrderedStream, UnorderedStream, OrderedDelivery, UnorderedDelivery, fresh_ordered, fresh_unordered, at_rest, deliver_within}
use Rattle.sctp_reassembly.specs.ReassemblyStreams.{Streams, Outcome, is_far, stream_at, held_as, ordered_number, unordered_number, with_ordered, with_unordered, unchanged, skip_unordered, skip, followed_by, by_stream, dropped_to}

-- ---- one stream

-- the message with the next number was taken out, but isn't ready
abbrev pub losing_next : OrderedDelivery → OrderedDelivery
losing_next d = record d { stream = record d.stream { held = left_by (is_in_turn d.stream.next) d.stream.held } }

-- so many messages became ready, and the one behind them is lost
abbrev pub deliver_in_part : ℕ → ℕ → List Held → OrderedDelivery
deliver_in_part count next hs = losing_next (deliver_within count next hs)

-- a fragment comes: it is lost, or held, unless it is late, and then messages became ready
abbrev pub ordered_arrival_in_part : ℕ → Held → OrderedStream → OrderedDelivery
ordered_arrival_in_part zero h s = at_rest s.next s.held
ordered_arrival_in_part (suc count) h s = if nat_lt h.number s.next then at_rest s.next s.held else deliver_in_part count s.next (with_item rank_of h s.held)

-- a forward point names message n: all that it passes is dropped, and then messages became ready
abbrev pub ordered_forward_in_part : ℕ → ℕ → OrderedStream → OrderedDelivery
ordered_forward_in_part count n s = deliver_in_part count (max (suc n) s.next) (from_rank rank_of (pair_rank (suc n) 0) s.held)

-- an unordered fragment comes: it is lost, or the message is that it completes, unless it is late
abbrev pub unordered_arrival_in_part : ℕ → Held → UnorderedStream → UnorderedDelivery
unordered_arrival_in_part zero h s = record { stream = record s { near = max origin h.number }; messages = [] }
unordered_arrival_in_part (suc count) h s =
    if nat_lt h.number s.passed then record { stream = record s { near = max origin h.number }; messages = [] }
    else record { stream = record s { near = max origin h.number; held = left_by is_complete (with_item rank_of h s.held) }; messages = [] }

-- ---- all streams: those that a fragment or an entry isn't of stay

-- the streams, and what is ready, are those of an outcome
pub record Stands (o : Outcome) (before : List Message) (after : Streams) (ready : List Message) : Type 0 where
  pub streams : after ≡ o.streams
  pub messages : ready ≡ before ++ o.messages

abbrev pub add_ordered_in_part : ℕ → ℕ → Held → Streams → Outcome
add_ordered_in_part steps id h ss =
    if is_far h.number then unchanged ss else with_ordered id (ordered_arrival_in_part steps h (stream_at fresh_ordered id ss.ordered)) ss

abbrev pub add_unordered_in_part : ℕ → ℕ → Held → Streams → Outcome
add_unordered_in_part steps id h ss =
    if is_far h.number then unchanged ss else with_unordered id (unordered_arrival_in_part steps h (stream_at fresh_unordered id ss.unordered)) ss

abbrev pub add_to_stream_in_part : Bool → ℕ → ℕ → FragmentTree → Streams → Outcome
add_to_stream_in_part false steps tsn f ss =
    add_ordered_in_part steps f.stream_id (held_as ss.is_interleaved (ordered_number ss.is_interleaved f (stream_at fresh_ordered f.stream_id ss.ordered)) tsn f) ss
add_to_stream_in_part true steps tsn f ss =
    add_unordered_in_part steps f.stream_id (held_as ss.is_interleaved (unordered_number ss.is_interleaved f (stream_at fresh_unordered f.stream_id ss.unordered)) tsn f) ss

-- a fragment comes: its stream is made where there is none, then the fragment comes to it
abbrev pub add_in_part : ℕ → ℕ → FragmentTree → Streams → Outcome
add_in_part zero tsn f ss = unchanged ss
add_in_part (suc steps) tsn f ss = add_to_stream_in_part f.is_unordered steps tsn f ss

abbrev pub skip_ordered_in_part : ℕ → ℕ → ℕ → Streams → Outcome
skip_ordered_in_part steps id n ss =
    if is_far n then unchanged ss else with_ordered id (ordered_forward_in_part steps n (stream_at fresh_ordered id ss.ordered)) ss

abbrev pub skip_in_stream_in_part : Bool → ℕ → SkippedStream → Streams → Outcome
skip_in_stream_in_part false steps (ForwardTsn id ssn) ss = skip_ordered_in_part steps id.0 (nearest halves 0 (stream_at fresh_ordered id.0 ss.ordered).next ssn.0) ss
skip_in_stream_in_part false steps (IForwardTsn key mid) ss = unchanged ss
skip_in_stream_in_part true steps (ForwardTsn id ssn) ss = unchanged ss
skip_in_stream_in_part true steps (IForwardTsn (Ordered id) mid) ss = skip_ordered_in_part steps id.0 (nearest u32_space 0 (stream_at fresh_ordered id.0 ss.ordered).next mid.0) ss
skip_in_stream_in_part true steps (IForwardTsn (Unordered id) mid) ss = skip_unordered id.0 (nearest u32_space 0 (stream_at fresh_unordered id.0 ss.unordered).near mid.0) ss

-- an entry of a forward point: its stream is made where there is none, then it is forwarded
abbrev pub skip_in_part : ℕ → SkippedStream → Streams → Outcome
skip_in_part zero e ss = unchanged ss
skip_in_part (suc steps) e ss = skip_in_stream_in_part ss.is_interleaved steps e ss

-- so many entries were taken, and of the one behind them so many steps
abbrev pub skip_each_in_part : ℕ → ℕ → List SkippedStream → Streams → Outcome
skip_each_in_part taken steps [] ss = unchanged ss
skip_each_in_part zero steps (e ∷ es) ss = skip_in_part steps e ss
skip_each_in_part (suc taken) steps (e ∷ es) ss = followed_by (skip e ss) (skip_each_in_part taken steps es (skip e ss).streams)

-- a forward point to this TSN
abbrev pub forward_in_part : ℕ → ℕ → ℕ → List SkippedStream → Streams → Outcome
forward_in_part zero steps tsn es ss = unchanged ss
forward_in_part (suc taken) steps tsn es ss = skip_each_in_part taken steps (by_stream es) (dropped_to tsn ss)
