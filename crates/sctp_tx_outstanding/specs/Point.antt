-- What a forward point says: given-up items alone, without a hole, and of each stream touched the number of its last message
-- among them (RFC 3758 section 3.5, RFC 8260 section 2.3).
use Rattle.std.specs.Prelude.{◌≡◌, ℕ, ◌<◌, ◌≤◌, Bool, true, false, if◌then◌else◌, Option, Some, None, List, [], ◌∷◌, length, take, slice_get}
use Rattle.std.specs.List.{list_all}
use Rattle.sctp_tx_outstanding.specs.declared.skips.SkipEntry.{SkipEntry}
use Rattle.sctp_tx_outstanding.specs.Item.{Item, is_abandoned}
use Rattle.sctp_tx_outstanding.specs.OutstandingData.{Items}
use Rattle.sctp_tx_outstanding.specs.Forward.{ForwardPoint, is_forward_due, entry_of, is_alike, is_before, size_with, stops, passes, forward_point}

-- what entries say of a stream and order
abbrev pub named_number : SkipEntry → List SkipEntry → Option ℕ
named_number e [] = None
named_number e (d ∷ ds) = if is_alike e d then Some d.number else named_number e ds

-- what an item says of it, or what was said before
abbrev pub number_in : SkipEntry → Option SkipEntry → Option ℕ → Option ℕ
number_in e None found = found
number_in e (Some d) found = if is_alike e d then Some d.number else found

-- the number of the last of the items that has this stream and order
abbrev pub last_number : (is_interleaved : Bool) → SkipEntry → Option ℕ → List Item → Option ℕ
last_number m e found [] = found
last_number m e found (i ∷ is) = last_number m e (number_in e (entry_of m i) found) is

-- by stream, ordered before unordered, and none twice
abbrev pub Ascend : List SkipEntry → Type 0
Ascend [] = Unit {0}
Ascend (e ∷ es) = (list_all (is_before e) es ≡ true) × Ascend es

pub record IsPoint (most : ℕ) (s : Items) (f : ForwardPoint) : Type 0 where
  pub within : f.count ≤ length s.kept
  pub given_up : list_all is_abandoned (take f.count s.kept) ≡ true
  -- each stream touched is named, with its last number, and no other
  pub named : (e : SkipEntry) → named_number e f.entries ≡ last_number s.is_interleaved e None (take f.count s.kept)
  pub ascends : Ascend f.entries
  -- with all its entries the chunk is within the size, if it passes anything
  pub fits : 0 < f.count → size_with s.is_interleaved None f.entries ≤ most
  -- it is over no breakpoint of a reset
  pub unbroken : (k : ℕ) → k < f.count → stops k s ≡ false
  -- and where it is due it goes on, if the chunk may hold one entry
  pub ahead : is_forward_due s ≡ true → 16 ≤ most → 0 < f.count

abbrev pub PointsAreSound : Type 0
PointsAreSound = (most : ℕ) (s : Items) → IsPoint most s (forward_point most s)

-- it ends before an item that is not given up, before a breakpoint, or before an entry that has no room
abbrev pub PointsGoFar : Type 0
PointsGoFar = (most : ℕ) (s : Items) (i : Item) → slice_get s.kept (forward_point most s).count ≡ Some i → passes most s (forward_point most s) i ≡ false
