-- Streams by name, each with its bit.
use Rattle.std.specs.Prelude.{◌≡◌, ℕ, Bool, ◌==◌, ◌/◌, ◌%◌, List, length, slice_index_or}
use Rattle.std.specs.List.{list_any}
use Rattle.std.specs.Int.{bit_at}
use Rattle.sctp_serial.specs.declared.api.StreamId.{StreamId}

-- whether bit k is set, in words of 64 bits
abbrev pub has_bit : List ℕ → ℕ → Bool
has_bit words k = bit_at (slice_index_or words (k / 64) 0) (k % 64) == 1

-- the streams that are named have their bits, and no other has
pub record AreNamedIn (words : List ℕ) (ids : List StreamId) : Type 0 where
  pub whole : length words ≡ 1024
  pub named : (k : ℕ) → has_bit words k ≡ list_any (λ i. i.0 == k) ids
