-- Streams that given-up items touch, each with the number of the item that touches it last.
use Rattle.std.specs.Prelude.{ℕ, suc, nat_le, Bool, if◌then◌else◌, Option, Some, None, List, [], ◌∷◌, map}
use Rattle.sctp_tx_outstanding.specs.declared.skips.SkipEntry.{SkipEntry}
use Rattle.sctp_tx_outstanding.specs.declared.skips.Touched.{Touched}
use Rattle.sctp_tx_outstanding.specs.Item.{Item}
use Rattle.sctp_tx_outstanding.specs.Forward.{entry_of, is_alike, is_before}

abbrev pub entries_in : List Touched → List SkipEntry
entries_in ts = map (λ t. t.entry) ts

-- the later one stands for an earlier one of its stream and order
abbrev pub put_touched : Touched → List Touched → List Touched
put_touched t [] = t ∷ []
put_touched t (u ∷ us) = if is_before u.entry t.entry then u ∷ put_touched t us else (if is_alike t.entry u.entry then t ∷ us else t ∷ u ∷ us)

abbrev pub touched_with : Option SkipEntry → (last : ℕ) → List Touched → List Touched
touched_with None k ts = ts
touched_with (Some e) k ts = put_touched (record { entry = e; last = k }) ts

-- what is listed of a stream and order
abbrev pub find : SkipEntry → List Touched → Option Touched
find e [] = None
find e (t ∷ ts) = if is_alike e t.entry then Some t else find e ts

-- ---- what items say of it

-- what the item of this number says, or what was said before
abbrev pub touch_by : SkipEntry → (number : ℕ) → Option SkipEntry → Option Touched → Option Touched
touch_by e k None found = found
touch_by e k (Some d) found = if is_alike e d then Some (record { entry = d; last = k }) else found

-- what the last of the items says, of which the first one's number is given
abbrev pub last_touch : (is_interleaved : Bool) → SkipEntry → (first : ℕ) → Option Touched → List Item → Option Touched
last_touch m e k found [] = found
last_touch m e k found (i ∷ is) = last_touch m e (suc k) (touch_by e k (entry_of m i) found) is

-- ---- items leave

-- the item hasn't left
abbrev pub is_kept : (left : ℕ) → Touched → Bool
is_kept left t = nat_le left t.last

abbrev pub kept_of : (left : ℕ) → Option Touched → Option Touched
kept_of left None = None
kept_of left (Some t) = if is_kept left t then Some t else None
