-- What is known of items by runs of 64.
use Rattle.std.specs.Prelude.{◌≡◌, ◌≢◌, ℕ, ◌+◌, ◌-◌, ◌/◌, ◌%◌, ◌^◌, ◌<◌, ◌≤◌, true, false, Option, Some, None, List, slice_get, unwrap_or}
use Rattle.std.specs.Int.{bit_at}
use Rattle.sctp_tx_outstanding.specs.declared.runs.Bits.{Bits}
use Rattle.sctp_tx_outstanding.specs.declared.runs.Bits.TheVariants.{Flying, Waiting, Fast, GivenUp}
use Rattle.sctp_tx_outstanding.specs.declared.runs.Run.{Run}
use Rattle.sctp_tx_outstanding.specs.declared.runs.Runs.{Runs}
use Rattle.sctp_tx_outstanding.specs.Item.{Item, is_outstanding, should_be_retransmitted, is_fast, is_abandoned}
use Rattle.sctp_tx_outstanding.specs.Sizes.{AreAtLeast}
use Rattle.sctp_tx_outstanding.specs.Waiting.{IsAtLeast}

-- the run of the item at the place, and its bit there
abbrev pub run_of : (offset place : ℕ) → ℕ
run_of offset place = (offset + place) / 64

abbrev pub bit_of : (offset place : ℕ) → ℕ
bit_of offset place = (offset + place) % 64

-- of a run that isn't listed
abbrev pub nothing_known : Run
nothing_known = record { flying = 2 ^ 64 - 1; waiting = 2 ^ 64 - 1; fast = 2 ^ 64 - 1; given_up = 0; least = 0 }

abbrev pub known_of : List Run → (run : ℕ) → Run
known_of runs n = unwrap_or (slice_get runs n) nothing_known

-- what is known is so of the item with the bit
pub record IsKnown (r : Run) (bit : ℕ) (i : Item) : Type 0 where
  pub flies : bit_at r.flying bit ≡ 0 → is_outstanding i ≡ false
  pub waits : bit_at r.waiting bit ≡ 0 → should_be_retransmitted i ≡ false
  pub fast : bit_at r.fast bit ≡ 0 → is_fast i ≡ false
  pub given_up : bit_at r.given_up bit ≡ 1 → is_abandoned i ≡ true
  pub least : IsAtLeast r.least i

-- the bits of items that may be so, or were given up
abbrev pub bits_of : Bits → Run → ℕ
bits_of Flying r = r.flying
bits_of Waiting r = r.waiting
bits_of Fast r = r.fast
bits_of GivenUp r = r.given_up

abbrev pub IsKnownOf : Run → (bit : ℕ) → Option Item → Type 0
IsKnownOf r bit None = Unit {0}
IsKnownOf r bit (Some i) = IsKnown r bit i

abbrev pub AreKnown : List Run → (offset : ℕ) → List Item → Type 0
AreKnown runs offset is = (k : ℕ) → IsKnownOf (known_of runs (run_of offset k)) (bit_of offset k) (slice_get is k)

pub record HasRuns (x : Runs) (is : List Item) : Type 0 where
  pub small : x.offset < 64
  pub known : AreKnown x.known.items x.offset is
  pub least : AreAtLeast x.least is

-- all items but that at the place are the same
abbrev pub SameBut : (place : ℕ) → (is js : List Item) → Type 0
SameBut place is js = (k : ℕ) → k ≢ place → slice_get js k ≡ slice_get is k

-- if there is an item, it was given up
abbrev pub IsGivenUpOf : Option Item → Type 0
IsGivenUpOf None = Unit {0}
IsGivenUpOf (Some i) = is_abandoned i ≡ true

-- from one place up to another
abbrev pub AreGivenUp : (from to : ℕ) → List Item → Type 0
AreGivenUp from to is = (k : ℕ) → from ≤ k → k < to → IsGivenUpOf (slice_get is k)
