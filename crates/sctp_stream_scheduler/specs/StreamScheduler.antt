-- Which stream sends next: weighted fair queueing of streams (RFC 8260 section 3.6), without a draw.
use Rattle.std.specs.Prelude.{◌≡◌, ◌==◌, ℕ, ◌+◌, ◌-◌, ◌*◌, ◌/◌, ◌^◌, ◌<◌, ◌≤◌, ◌⊎◌, Bool, false, if◌then◌else◌, List, [], ◌∷◌, min, max, nat_lt, ⊤, is_some, Option, None, Some}
use Rattle.std.specs.List.{AllByRecursion, list_any}
use Rattle.std.specs.Option.{option_map}
use Rattle.std.specs.Map.{lookup, remove_entry}
use Rattle.std.specs.Ordering.{nat_cmp, ordering_then}
use Rattle.std.specs.declared.cmp.Ordering.{Ordering}
use Rattle.std.specs.BTreeMap.{is_at, insert_entry}

-- finish times by stream, in ascending ids, of the streams that have something to send
abbrev pub Times : Type 0
Times = List (ℕ × ℕ)

pub record Scheduler : Type 0 where
  pub times : Times
  pub virtual_time : ℕ
  pub is_interleaved : Bool
  pub most_payload : ℕ  -- the largest payload of a fragment

-- no stream is active
abbrev pub scheduler : ℕ → Scheduler
scheduler most_payload = record { times = []; virtual_time = 0; is_interleaved = false; most_payload = most_payload }

abbrev pub finish_time : ℕ → Times → Option ℕ
finish_time id ts = lookup (is_at (nat_cmp id)) ts

abbrev pub is_active : ℕ → Scheduler → Bool
is_active id s = is_some (finish_time id s.times)

-- ---- finish times

-- what a stream's next fragment costs, where its message has `bytes` left: with interleaving by its bytes and the stream's weight, else 1
abbrev pub cost : ℕ → ℕ → Scheduler → ℕ
cost bytes priority s = if s.is_interleaved then min bytes s.most_payload * 65536 / max priority 1 else 1

-- of a stream that becomes active at a virtual time
abbrev pub finish_at : ℕ → ℕ → ℕ → Scheduler → ℕ
finish_at time bytes priority s = min (time + cost bytes priority s) (2 ^ 128 - 1)

abbrev pub finish_now : ℕ → ℕ → Scheduler → ℕ
finish_now bytes priority s = finish_at s.virtual_time bytes priority s

abbrev pub leave : ℕ → Scheduler → Scheduler
leave id s = record s { times = remove_entry (is_at (nat_cmp id)) s.times }

abbrev pub enter : ℕ → ℕ → Scheduler → Scheduler
enter id finish s = record s { times = insert_entry nat_cmp s.times id finish }

-- a stream has `bytes` to send now: without any it leaves, and one that is active keeps its finish time
abbrev pub set_bytes_remaining : ℕ → ℕ → ℕ → Scheduler → Scheduler
set_bytes_remaining id bytes priority s =
    if bytes == 0 then leave id s
    else (if is_active id s then s else enter id (finish_now bytes priority s) s)

abbrev pub accepted_at : ℕ → Option ℕ → Scheduler → Scheduler
accepted_at id None s = s
accepted_at id (Some finish) s = record (leave id s) { virtual_time = finish }

-- the stream sends: its finish time is the time now
abbrev pub accept : ℕ → Scheduler → Scheduler
accept id s = accepted_at id (finish_time id s.times) s

abbrev pub enable_message_interleaving : Bool → Scheduler → Scheduler
enable_message_interleaving is_interleaved s = record s { is_interleaved = is_interleaved }

-- ---- the next stream

-- this entry, if its time is less than the best before it, which has a smaller id
abbrev pub better : Option (ℕ × ℕ) → ℕ × ℕ → Option (ℕ × ℕ)
better None e = Some e
better (Some b) e = if nat_lt e.1 b.1 then Some e else Some b

abbrev pub best : Option (ℕ × ℕ) → Times → Option (ℕ × ℕ)
best b [] = b
best b (e ∷ es) = best (better b e) es

abbrev pub stream_in : ℕ × ℕ → ℕ
stream_in e = e.0

abbrev pub peek : Scheduler → Option ℕ
peek s = option_map stream_in (best None s.times)

-- the first is not behind the second: it has the smaller finish time, or the same and no greater id
abbrev pub IsAhead : ℕ × ℕ → ℕ × ℕ → Type 0
IsAhead r e = (r.1 < e.1) ⊎ ((r.1 ≡ e.1) × (r.0 ≤ e.0))

-- the same by its properties: the stream is active, none has a smaller finish time, and none with the same a smaller id
abbrev pub IsNext : Times → ℕ → Type 0
IsNext ts id = (finish : ℕ) × (finish_time id ts ≡ Some finish) × AllByRecursion (IsAhead (id, finish)) ts

-- ---- the index by which the next stream is found

abbrev pub turn_cmp : ℕ × ℕ → ℕ × ℕ → Ordering
turn_cmp x y = ordering_then (nat_cmp x.0 y.0) (nat_cmp x.1 y.1)

abbrev pub is_time : ℕ → Option ℕ → Bool
is_time finish None = false
is_time finish (Some f) = f == finish

-- the turns, of a finish time and a stream each, are those of the active streams
abbrev pub Indexes : List (ℕ × ℕ) → Times → Type 0
Indexes turns ts = (t : ℕ × ℕ) → list_any (is_at (turn_cmp t)) turns ≡ is_time t.0 (finish_time t.1 ts)

-- the active streams: the one that stands apart, or else those of a map
abbrev pub times_of : Option (ℕ × ℕ) → Times → Times
times_of None ts = ts
times_of (Some only) ts = only ∷ []

-- where one alone stands apart, the map has none
abbrev pub IsOnly : Option (ℕ × ℕ) → Times → Type 0
IsOnly None ts = ⊤
IsOnly (Some only) ts = ts ≡ []
