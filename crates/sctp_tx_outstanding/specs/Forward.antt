-- Forward points: what the sender gave up and sends no more (RFC 3758 section 3.5, RFC 8260 section 2.3).
use Rattle.std.specs.Prelude.{ℕ, zero, suc, ◌+◌, ◌*◌, ◌==◌, ◌&&◌, ◌||◌, not, nat_lt, nat_le, Bool, true, false, if◌then◌else◌, Option, Some, None, List, [], ◌∷◌, length}
use Rattle.std.specs.List.{list_any}
use Rattle.sctp_tx_outstanding.specs.declared.skips.SkipEntry.{SkipEntry}
use Rattle.sctp_tx_outstanding.specs.Item.{Item, is_abandoned}
use Rattle.sctp_tx_outstanding.specs.OutstandingData.{Items, when}

-- whether the first item is given up
abbrev pub is_first_given_up : List Item → Bool
is_first_given_up [] = false
is_first_given_up (i ∷ is) = is_abandoned i

abbrev pub is_forward_due : Items → Bool
is_forward_due s = s.is_partial && is_first_given_up s.kept

-- ---- entries, one for each stream and order, ascending

-- what an item says of its stream: nothing, if it is unordered and has no number that tells messages apart
abbrev pub entry_of : (is_interleaved : Bool) → Item → Option SkipEntry
entry_of m i =
    if m || not i.fragment.is_unordered
    then Some (record { stream_id = record { 0 = i.fragment.stream_id }; is_unordered = i.fragment.is_unordered; number = if m then i.fragment.mid else i.fragment.ssn })
    else None

-- ascending by stream, ordered before unordered
abbrev pub is_before : SkipEntry → SkipEntry → Bool
is_before e d = nat_lt e.stream_id.0 d.stream_id.0 || ((e.stream_id.0 == d.stream_id.0) && (not e.is_unordered && d.is_unordered))

abbrev pub is_same : Bool → Bool → Bool
is_same true b = b
is_same false b = not b

-- of the same stream and order
abbrev pub is_alike : SkipEntry → SkipEntry → Bool
is_alike e d = (e.stream_id.0 == d.stream_id.0) && is_same e.is_unordered d.is_unordered

-- the later entry stands for an earlier one of its stream and order, since numbers rise
abbrev pub put_entry : SkipEntry → List SkipEntry → List SkipEntry
put_entry e [] = e ∷ []
put_entry e (d ∷ ds) = if is_before d e then d ∷ put_entry e ds else (if is_alike e d then e ∷ ds else e ∷ d ∷ ds)

abbrev pub with_entry : Option SkipEntry → List SkipEntry → List SkipEntry
with_entry None es = es
with_entry (Some e) es = put_entry e es

-- ---- the size of the chunk

abbrev pub entry_size : (is_interleaved : Bool) → ℕ
entry_size m = if m then 8 else 4

-- one more entry, unless its stream and order are named
abbrev pub count_with : Option SkipEntry → List SkipEntry → ℕ
count_with None es = length es
count_with (Some e) es = length es + when (not (list_any (is_alike e) es)) 1

-- type, flags, length and TSN, and the entries
abbrev pub size_with : (is_interleaved : Bool) → Option SkipEntry → List SkipEntry → ℕ
size_with m o es = 8 + entry_size m * count_with o es

-- ---- how far the point goes

-- so many items are passed
pub record ForwardPoint : Type 0 where
  pub count : ℕ
  pub entries : List SkipEntry

-- behind a passed item stands a breakpoint of a reset
abbrev pub stops : (count : ℕ) → Items → Bool
stops count s = nat_lt 0 count && list_any (λ b. b == s.acked + 1 + count) s.breaks

-- the next item is given up, no breakpoint stands before it, and its entry has room
abbrev pub passes : (most : ℕ) → Items → ForwardPoint → Item → Bool
passes most s f i = is_abandoned i && (not (stops f.count s) && nat_le (size_with s.is_interleaved (entry_of s.is_interleaved i) f.entries) most)

abbrev pub pass_item : Items → ForwardPoint → Item → ForwardPoint
pass_item s f i = record { count = suc f.count; entries = with_entry (entry_of s.is_interleaved i) f.entries }

-- over given-up items from the cumulative TSN on, without a hole
abbrev pub walk : (most : ℕ) → Items → ForwardPoint → List Item → ForwardPoint
walk most s f [] = f
walk most s f (i ∷ is) = if passes most s f i then walk most s (pass_item s f i) is else f

-- the forward point that fits a chunk of this size
abbrev pub forward_point : (most : ℕ) → Items → ForwardPoint
forward_point most s = walk most s (record { count = 0; entries = [] }) s.kept

-- ---- the walk, from a place on

abbrev pub walk_from : (k most : ℕ) → Items → ForwardPoint → List Item → ForwardPoint
walk_from zero most s f is = walk most s f is
walk_from (suc k) most s f [] = f
walk_from (suc k) most s f (i ∷ is) = walk_from k most s f is

abbrev pub passes_of : (most : ℕ) → Items → ForwardPoint → Option Item → Bool
passes_of most s f None = false
passes_of most s f (Some i) = passes most s f i

abbrev pub entry_in : (is_interleaved : Bool) → Option Item → Option SkipEntry
entry_in m None = None
entry_in m (Some i) = entry_of m i

-- whether the next item is given up, and its entry has room
abbrev pub is_next : (is_interleaved : Bool) → (most : ℕ) → List SkipEntry → Option Item → Bool
is_next m most es None = false
is_next m most es (Some i) = is_abandoned i && nat_le (size_with m (entry_of m i) es) most

-- how many entries stand before the place of this one
abbrev pub entries_before : SkipEntry → List SkipEntry → ℕ
entries_before e [] = 0
entries_before e (d ∷ ds) = if is_before d e then suc (entries_before e ds) else 0

-- whether the entry at a place is of this one's stream and order
abbrev pub is_alike_at : SkipEntry → ℕ → List SkipEntry → Bool
is_alike_at e k [] = false
is_alike_at e zero (d ∷ ds) = is_alike e d
is_alike_at e (suc k) (d ∷ ds) = is_alike_at e k ds
