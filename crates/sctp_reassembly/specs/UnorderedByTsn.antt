-- Notes of the streams that hold a fragment: a TSN, below which a stream holds none, and its id.
use Rattle.std.specs.Prelude.{◌≡◌, ◌⊎◌, ℕ, ◌≤◌, ◌==◌, false, List, [], Some, map}
use Rattle.std.specs.Ordering.{nat_cmp}
use Rattle.std.specs.Map.{lookup}
use Rattle.std.specs.BTreeMap.{is_at}
use Rattle.sctp_serial.specs.Unwrapped.{origin}
use Rattle.sctp_fragments.specs.ReassemblyKey.{pair_rank}
use Rattle.sctp_fragments.specs.Runs.{from_rank}
use Rattle.sctp_fragments.specs.Held.{Held, rank_of}
use Rattle.sctp_reassembly.specs.Delivery.{UnorderedStream, fresh_unordered, held_from}
use Rattle.sctp_reassembly.specs.ReassemblyStreams.{Entries, stream_at}

abbrev pub Notes : Type 0
Notes = List (ℕ × ℕ)

-- a TSN has one note
abbrev pub IsNoted : Notes → ℕ × ℕ → Type 0
IsNoted notes note = lookup (is_at (nat_cmp note.0)) notes ≡ Some note.1

-- no fragment is below the rank
abbrev pub BeginsFrom : ℕ → List Held → Type 0
BeginsFrom rank hs = (n : ℕ) → n ≤ rank → from_rank rank_of n hs ≡ hs

-- nothing is held, or there is a note of it
abbrev pub HasNote : Notes → ℕ → List Held → Type 0
HasNote notes id hs = (hs ≡ []) ⊎ ((tsn : ℕ) × IsNoted notes (tsn, id) × BeginsFrom (pair_rank origin tsn) hs)

-- there is a note of each stream that holds a fragment
abbrev pub AreNoted : Notes → Entries UnorderedStream → Type 0
AreNoted notes es = (id : ℕ) → HasNote notes id (stream_at fresh_unordered id es).held

-- of each but one
abbrev pub OthersAreNoted : ℕ → Notes → Entries UnorderedStream → Type 0
OthersAreNoted other notes es = (id : ℕ) → (id == other) ≡ false → HasNote notes id (stream_at fresh_unordered id es).held

-- the notes of other streams stay
abbrev pub KeepsOthers : ℕ → Notes → Notes → Type 0
KeepsOthers other old new = (note : ℕ × ℕ) → (note.1 == other) ≡ false → IsNoted old note → IsNoted new note

-- no note is of a rank below this one
abbrev pub NoneBelow : ℕ → Notes → Type 0
NoneBelow rank notes = (note : ℕ × ℕ) → IsNoted notes note → rank ≤ pair_rank origin note.0

-- what a point before the rank leaves of all streams
abbrev pub drop_below : ℕ → Entries UnorderedStream → Entries UnorderedStream
drop_below rank es = map (λ e. (e.0, held_from rank e.1)) es
