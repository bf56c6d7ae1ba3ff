-- The streams of an association as the receiver knows them, by their ids. A stream that isn't there is as at first.
use Rattle.std.specs.Prelude.{◌≡◌, ℕ, ◌+◌, ◌<◌, ◌^◌, ◌==◌, ◌||◌, not, nat_lt, nat_le, Bool, true, false, if◌then◌else◌, Option, Some, None, is_some, unwrap_or, List, [], ◌∷◌, ◌++◌, length, map, filter}
use Rattle.std.specs.List.{list_any, sum_by}
use Rattle.std.specs.Map.{lookup, set_value, values_of}
use Rattle.std.specs.Ordering.{nat_cmp}
use Rattle.std.specs.BTreeMap.{is_at, insert_entry}
use Rattle.sctp_serial.specs.Messages.{Message}
use Rattle.sctp_serial.specs.Unwrapped.{origin, u32_space, halves, nearest}
use Rattle.sctp_chunk.specs.Chunk.{FragmentTree}
use Rattle.sctp_serial.specs.declared.api.StreamId.{StreamId}
use Rattle.sctp_serial.specs.Keys.{stream_of}
use Rattle.sctp_serial.specs.declared.types.StreamKey.TheVariants.{Ordered, Unordered}
use Rattle.sctp_chunk.specs.declared.forward_tsn.SkippedStream.{SkippedStream}
use Rattle.sctp_chunk.specs.declared.forward_tsn.SkippedStream.TheVariants.{ForwardTsn, IForwardTsn}
use Rattle.sctp_fragments.specs.Held.{Held, bytes_of}
use Rattle.sctp_reassembly.specs.Delivery.{OrderedStream, UnorderedStream, OrderedDelivery, UnorderedDelivery, fresh_ordered, fresh_unordered, ordered_arrival, ordered_forward, unordered_arrival, unordered_forward, unordered_forward_tsn}

-- ---- a map of streams

abbrev pub Entries : Type 0 → Type 0
Entries S = List (ℕ × S)

abbrev pub stream_at : {S : Type 0} → S → ℕ → Entries S → S
stream_at fresh id es = unwrap_or (lookup (is_at (nat_cmp id)) es) fresh

-- with the stream among the others
abbrev pub with_stream : {S : Type 0} → S → ℕ → Entries S → Entries S
with_stream fresh id es = if is_some (lookup (is_at (nat_cmp id)) es) then es else insert_entry nat_cmp es id fresh

-- with this in place of the stream, where it is there
abbrev pub put_stream : {S : Type 0} → ℕ → S → Entries S → Entries S
put_stream id s es = set_value (is_at (nat_cmp id)) es s

-- with this as the stream
abbrev pub set_stream : {S : Type 0} → S → ℕ → S → Entries S → Entries S
set_stream fresh id s es = put_stream id s (with_stream fresh id es)

-- whether a stream is named; where no stream is named, each is
abbrev pub is_named : List StreamId → ℕ → Bool
is_named ids id = (length ids == 0) || list_any (λ i. i.0 == id) ids

abbrev pub forget : {S : Type 0} → List StreamId → Entries S → Entries S
forget ids es = filter (λ e. not (is_named ids e.0)) es

-- what the streams of a map hold
abbrev pub bytes_held : {S : Type 0} → (S → List Held) → Entries S → ℕ
bytes_held held es = sum_by (λ s. bytes_of (held s)) (values_of es)

-- how many fragments they hold
abbrev pub fragments_held : {S : Type 0} → (S → List Held) → Entries S → ℕ
fragments_held held es = sum_by (λ s. length (held s)) (values_of es)

-- how a map of streams counts what they hold
pub record AreCounted {S : Type 0} (held : S → List Held) (bytes fragments : ℕ) (es : Entries S) : Type 0 where
  pub bytes_are : bytes ≡ bytes_held held es
  pub fragments_are : fragments ≡ fragments_held held es

-- ---- all streams of an association

pub record Streams : Type 0 where
  pub is_interleaved : Bool
  pub ordered : Entries OrderedStream
  pub unordered : Entries UnorderedStream

abbrev pub no_streams : Bool → Streams
no_streams is_interleaved = record { is_interleaved = is_interleaved; ordered = []; unordered = [] }

-- streams after a call, and the messages that became ready in it
pub record Outcome : Type 0 where
  pub streams : Streams
  pub messages : List Message

abbrev pub ordered_bytes : Entries OrderedStream → ℕ
ordered_bytes es = bytes_held (λ s. s.held) es

abbrev pub unordered_bytes : Entries UnorderedStream → ℕ
unordered_bytes es = bytes_held (λ s. s.held) es

abbrev pub held_bytes : Streams → ℕ
held_bytes ss = ordered_bytes ss.ordered + unordered_bytes ss.unordered

abbrev pub ordered_fragments : Entries OrderedStream → ℕ
ordered_fragments es = fragments_held (λ s. s.held) es

abbrev pub unordered_fragments : Entries UnorderedStream → ℕ
unordered_fragments es = fragments_held (λ s. s.held) es

abbrev pub fragments_of : Streams → ℕ
fragments_of ss = ordered_fragments ss.ordered + unordered_fragments ss.unordered

-- each sum has 64 bits
pub record AreWithin (ss : Streams) : Type 0 where
  pub bytes : held_bytes ss < 2 ^ 64
  pub fragments : fragments_of ss < 2 ^ 64

-- ---- a fragment comes

-- numbers this far above the first one are ignored
abbrev pub limit : ℕ
limit = origin + 2 ^ 62

abbrev pub is_far : ℕ → Bool
is_far n = nat_le limit n

abbrev pub number_unless_far : ℕ → Option ℕ
number_unless_far n = if is_far n then None else Some n

-- a fragment's place in its message: its TSN, or with interleaving its FSN, which a beginning reads as 0
abbrev pub place_of : Bool → ℕ → FragmentTree → ℕ
place_of is_interleaved tsn f = if is_interleaved then (if f.is_beginning then 0 else f.fsn) else tsn

abbrev pub held_as : Bool → ℕ → ℕ → FragmentTree → Held
held_as is_interleaved number tsn f = record { number = number; index = place_of is_interleaved tsn f; fragment = f }

-- the number of an ordered message is read near the stream's next one
abbrev pub ordered_number : Bool → FragmentTree → OrderedStream → ℕ
ordered_number is_interleaved f s = if is_interleaved then nearest u32_space 0 s.next f.mid else nearest halves 0 s.next f.ssn

-- that of an unordered one near the last that came. Without interleaving it has none
abbrev pub unordered_number : Bool → FragmentTree → UnorderedStream → ℕ
unordered_number is_interleaved f s = if is_interleaved then nearest u32_space 0 s.near f.mid else origin

abbrev pub with_ordered : ℕ → OrderedDelivery → Streams → Outcome
with_ordered id d ss = record { streams = record ss { ordered = set_stream fresh_ordered id d.stream ss.ordered }; messages = d.messages }

abbrev pub with_unordered : ℕ → UnorderedDelivery → Streams → Outcome
with_unordered id d ss = record { streams = record ss { unordered = set_stream fresh_unordered id d.stream ss.unordered }; messages = d.messages }

abbrev pub unchanged : Streams → Outcome
unchanged ss = record { streams = ss; messages = [] }

abbrev pub add_ordered : ℕ → Held → Streams → Outcome
add_ordered id h ss = if is_far h.number then unchanged ss else with_ordered id (ordered_arrival h (stream_at fresh_ordered id ss.ordered)) ss

abbrev pub add_unordered : ℕ → Held → Streams → Outcome
add_unordered id h ss =
    if is_far h.number then unchanged ss else with_unordered id (unordered_arrival h (stream_at fresh_unordered id ss.unordered)) ss

abbrev pub add_in_order : Bool → ℕ → FragmentTree → Streams → Outcome
add_in_order false tsn f ss =
    add_ordered f.stream_id (held_as ss.is_interleaved (ordered_number ss.is_interleaved f (stream_at fresh_ordered f.stream_id ss.ordered)) tsn f) ss
add_in_order true tsn f ss =
    add_unordered f.stream_id (held_as ss.is_interleaved (unordered_number ss.is_interleaved f (stream_at fresh_unordered f.stream_id ss.unordered)) tsn f) ss

-- a fragment with this TSN
abbrev pub add : ℕ → FragmentTree → Streams → Outcome
add tsn f ss = add_in_order f.is_unordered tsn f ss

-- ---- a forward point comes (RFC 3758 section 3.6, RFC 8260 section 2.3.1)

-- message n of a stream was given up, and those before it
abbrev pub skip_ordered : ℕ → ℕ → Streams → Outcome
skip_ordered id n ss = if is_far n then unchanged ss else with_ordered id (ordered_forward n (stream_at fresh_ordered id ss.ordered)) ss

abbrev pub skip_unordered : ℕ → ℕ → Streams → Outcome
skip_unordered id n ss =
    if is_far n then unchanged ss
    else record { streams = record ss { unordered = set_stream fresh_unordered id (unordered_forward n (stream_at fresh_unordered id ss.unordered)) ss.unordered }; messages = [] }

-- an entry names a stream and a number. One of the other kind of chunk says nothing
abbrev pub skip_of : Bool → SkippedStream → Streams → Outcome
skip_of false (ForwardTsn id ssn) ss = skip_ordered id.0 (nearest halves 0 (stream_at fresh_ordered id.0 ss.ordered).next ssn.0) ss
skip_of false (IForwardTsn key mid) ss = unchanged ss
skip_of true (ForwardTsn id ssn) ss = unchanged ss
skip_of true (IForwardTsn (Ordered id) mid) ss = skip_ordered id.0 (nearest u32_space 0 (stream_at fresh_ordered id.0 ss.ordered).next mid.0) ss
skip_of true (IForwardTsn (Unordered id) mid) ss = skip_unordered id.0 (nearest u32_space 0 (stream_at fresh_unordered id.0 ss.unordered).near mid.0) ss

abbrev pub skip : SkippedStream → Streams → Outcome
skip e ss = skip_of ss.is_interleaved e ss

abbrev pub followed_by : Outcome → Outcome → Outcome
followed_by first later = record { streams = later.streams; messages = first.messages ++ later.messages }

abbrev pub skip_each : List SkippedStream → Streams → Outcome
skip_each [] ss = unchanged ss
skip_each (e ∷ es) ss = followed_by (skip e ss) (skip_each es (skip e ss).streams)

-- the entries by ascending stream, those of one stream as they came
abbrev pub skipped_id : SkippedStream → ℕ
skipped_id (ForwardTsn id ssn) = id.0
skipped_id (IForwardTsn key mid) = (stream_of key).0

abbrev pub put_skip : SkippedStream → List SkippedStream → List SkippedStream
put_skip e [] = e ∷ []
put_skip e (x ∷ xs) = if nat_lt (skipped_id e) (skipped_id x) then e ∷ (x ∷ xs) else x ∷ put_skip e xs

abbrev pub put_each : List SkippedStream → List SkippedStream → List SkippedStream
put_each [] xs = xs
put_each (e ∷ es) xs = put_each es (put_skip e xs)

abbrev pub by_stream : List SkippedStream → List SkippedStream
by_stream es = put_each es []

-- without interleaving a point drops the unordered fragments up to it: a message that was begun is ended before another
-- begins, also on other streams, so these belong to messages that were given up
abbrev pub dropped_to : ℕ → Streams → Streams
dropped_to tsn ss =
    record ss { unordered = if ss.is_interleaved then ss.unordered else map (λ e. (e.0, unordered_forward_tsn tsn e.1)) ss.unordered }

-- a forward point to this TSN
abbrev pub forward : ℕ → List SkippedStream → Streams → Outcome
forward tsn es ss = skip_each (by_stream es) (dropped_to tsn ss)

-- a point's entries for the streams that are named, or for the others
abbrev pub is_part : (named : Bool) → List StreamId → ℕ → Bool
is_part named ids id = if named then is_named ids id else not (is_named ids id)

abbrev pub entries_in : (named : Bool) → List StreamId → List SkippedStream → List SkippedStream
entries_in named ids es = filter (λ e. is_part named ids (skipped_id e)) es

-- ---- streams are reset

-- a reset forgets the streams: what is held of them belongs to messages that were given up
abbrev pub reset : List StreamId → Streams → Streams
reset ids ss = record ss { ordered = forget ids ss.ordered; unordered = forget ids ss.unordered }
