-- What is known of the first items that a forward point passes.
use Rattle.std.specs.Prelude.{◌≡◌, ℕ, ◌<◌, ◌≤◌, Bool, true, None, List, [], ◌∷◌, length, take}
use Rattle.std.specs.List.{list_all}
use Rattle.sctp_tx_outstanding.specs.declared.skips.SkipEntry.{SkipEntry}
use Rattle.sctp_tx_outstanding.specs.declared.skips.Touched.{Touched}
use Rattle.sctp_tx_outstanding.specs.declared.passed.Passed.{Passed}
use Rattle.sctp_tx_outstanding.specs.Item.{Item, is_abandoned}
use Rattle.sctp_tx_outstanding.specs.Forward.{ForwardPoint, entry_of, with_entry, size_with}
use Rattle.sctp_tx_outstanding.specs.Point.{Ascend}
use Rattle.sctp_tx_outstanding.specs.Touched.{entries_in, find, last_touch, kept_of}

-- so many of the items are given up, and touch these streams. Those that left may be listed too
pub record ArePassed (is_interleaved : Bool) (is : List Item) (count left : ℕ) (ts : List Touched) : Type 0 where
  pub within : count ≤ length is
  pub given_up : list_all is_abandoned (take count is) ≡ true
  pub ascends : Ascend (entries_in ts)
  pub named : (e : SkipEntry) → kept_of left (find e ts) ≡ last_touch is_interleaved e left None (take count is)

abbrev pub IsPassed : (is_interleaved : Bool) → List Item → Passed → Type 0
IsPassed m is p = ArePassed m is p.count p.left p.touched.items

-- ---- the point that begins so

-- the entries with those of the items
abbrev pub entries_over : (is_interleaved : Bool) → List SkipEntry → List Item → List SkipEntry
entries_over m es [] = es
entries_over m es (i ∷ is) = entries_over m (with_entry (entry_of m i) es) is

-- it passes given-up items up to the end at most, with their entries, and its chunk is within the size
pub record BeginsPoint (most end : ℕ) (is_interleaved : Bool) (is : List Item) (f : ForwardPoint) : Type 0 where
  pub ends : f.count ≤ end
  pub within : f.count ≤ length is
  pub given_up : list_all is_abandoned (take f.count is) ≡ true
  pub entries : f.entries ≡ entries_over is_interleaved [] (take f.count is)
  pub fits : 0 < f.count → size_with is_interleaved None f.entries ≤ most
