-- The entries of an interval, and for how many there is room.
use Rattle.std.specs.Prelude.{ℕ, ◌+◌, ◌-◌, ◌≤◌, List, [], ◌∷◌, ◌++◌, map}
use Rattle.std.specs.VecDeque.{deque_len, deque_capacity}
use Rattle.sctp_fragments.specs.declared.interval.Entry.{Entry}
use Rattle.sctp_fragments.specs.declared.interval.Size.{Size}
use Rattle.sctp_fragments.specs.declared.interval.Size.TheVariants.{Entries as OfEntries, Pieces as OfPieces}
use Rattle.sctp_fragments.specs.declared.interval.entries.Entries.{Entries}
use Rattle.sctp_fragments.specs.declared.interval.entries.Entries.TheVariants.{One, Many, Long}
use Rattle.sctp_fragments.specs.declared.interval.pieces.Pieces.{Pieces}
use Rattle.sctp_fragments.specs.Runs.{flat}

abbrev pub all_in : {K : Type 0} → Pieces K → List (Entry K)
all_in p = p.first.items ++ (flat (map (λ d. d.items) p.middle.items) ++ p.last.items)

abbrev pub items_of : {K : Type 0} → Entries K → List (Entry K)
items_of (One a e) = e ∷ []
items_of (Many d) = d.items
items_of (Long b) = all_in b.value

-- the room that pieces take between others
abbrev pub size_between : {K : Type 0} → Pieces K → Size
size_between p = OfPieces (deque_len p.middle + 2)

-- the room that entries take at others, with the entry between them
abbrev pub size_of : {K : Type 0} → Entries K → Size
size_of (One a e) = OfEntries 2
size_of (Many d) = OfEntries (deque_len d + 1)
size_of (Long b) = size_between b.value

-- how many entries have room behind pieces, and in front of them
abbrev pub spare_last : {K : Type 0} → Pieces K → ℕ
spare_last p = deque_capacity p.last - deque_len p.last

abbrev pub spare_first : {K : Type 0} → Pieces K → ℕ
spare_first p = deque_capacity p.first - deque_len p.first

-- the same of entries
abbrev pub spare_behind : {K : Type 0} → Entries K → ℕ
spare_behind (One a e) = 0
spare_behind (Many d) = deque_capacity d - deque_len d
spare_behind (Long b) = spare_last b.value

abbrev pub spare_before : {K : Type 0} → Entries K → ℕ
spare_before (One a e) = 0
spare_before (Many d) = deque_capacity d - deque_len d
spare_before (Long b) = spare_first b.value

-- others of a size have room behind pieces, and in front of them
abbrev pub EndsFit : {K : Type 0} → Size → Pieces K → Type 0
EndsFit (OfEntries n) p = n ≤ spare_last p
EndsFit (OfPieces n) p = (1 ≤ spare_last p) × (deque_len p.middle + n ≤ deque_capacity p.middle)

abbrev pub BeginsFit : {K : Type 0} → Size → Pieces K → Type 0
BeginsFit (OfEntries n) p = n ≤ spare_first p
BeginsFit (OfPieces n) p = (1 ≤ spare_first p) × (deque_len p.middle + n ≤ deque_capacity p.middle)

-- the same of entries
abbrev pub FitsBehind : {K : Type 0} → Size → Entries K → Type 0
FitsBehind (OfEntries n) e = n ≤ spare_behind e
FitsBehind (OfPieces n) (One a e) = ⊥
FitsBehind (OfPieces n) (Many d) = ⊥
FitsBehind (OfPieces n) (Long b) = EndsFit (OfPieces n) b.value

abbrev pub FitsBefore : {K : Type 0} → Size → Entries K → Type 0
FitsBefore (OfEntries n) e = n ≤ spare_before e
FitsBefore (OfPieces n) (One a e) = ⊥
FitsBefore (OfPieces n) (Many d) = ⊥
FitsBefore (OfPieces n) (Long b) = BeginsFit (OfPieces n) b.value

-- a single one that takes no more room
abbrev pub IsOne : {K : Type 0} → Entries K → Type 0
IsOne (One a e) = Unit {0}
IsOne (Many d) = ⊥
IsOne (Long b) = ⊥

abbrev pub IsMany : {K : Type 0} → Entries K → Type 0
IsMany (One a e) = ⊥
IsMany (Many d) = Unit {0}
IsMany (Long b) = ⊥

abbrev pub IsLong : {K : Type 0} → Entries K → Type 0
IsLong (One a e) = ⊥
IsLong (Many d) = ⊥
IsLong (Long b) = Unit {0}

-- room can be made for others of the size
abbrev pub IsReady : {K : Type 0} → Size → Entries K → Type 0
IsReady s (One a e) = ⊥
IsReady (OfEntries n) (Many d) = Unit {0}
IsReady (OfPieces n) (Many d) = ⊥
IsReady s (Long b) = Unit {0}
