-- Fragments that were received, until the message that they belong to is ready, and ready messages, until they are taken.
use Rattle.std.specs.Prelude.{◌≡◌, ℕ, suc, ◌+◌, ◌-◌, ◌*◌, ◌/◌, ◌^◌, ◌<◌, ◌≤◌, ◌&&◌, ◌==◌, ◌||◌, not, nat_lt, nat_le, min, max, sum_by, Bool, true, false, if◌then◌else◌, Option, Some, None, is_some, unwrap_or, List, [], ◌∷◌, ◌++◌, length}
use Rattle.sctp_serial.specs.declared.api.StreamId.{StreamId}
use Rattle.sctp_serial.specs.Messages.{Message}
use Rattle.sctp_serial.specs.Unwrapped.{origin, u32_space, nearest}
use Rattle.sctp_chunk.specs.declared.forward_tsn.SkippedStream.{SkippedStream}
use Rattle.sctp_chunk.specs.Chunk.{FragmentTree}
use Rattle.sctp_reassembly.specs.Delivery.{ready_bytes}
use Rattle.sctp_reassembly.specs.ReassemblyStreams as streams
use Rattle.sctp_reassembly.specs.ReassemblyStreams.{Streams, Outcome, no_streams, held_bytes, fragments_of, is_far, is_named, entries_in}

-- what came while a reset was deferred, with SSNs and MIDs as they came
pub data Waiting : Type 0 where
  Added : (tsn : ℕ) → FragmentTree → Waiting
  Forwarded : (tsn : ℕ) → List SkippedStream → Waiting

-- a reset of these streams, or of all where none is named, that waits until each TSN up to the last one came (RFC 6525
-- section 5.2.2)
pub record Deferred : Type 0 where
  pub last : ℕ
  pub streams : List StreamId
  pub waiting : List Waiting

pub record Reassembly : Type 0 where
  pub max_size : ℕ
  pub max_fragments : ℕ  -- no fragment is let in while so many are held or wait; this option is our own
  pub first : Option ℕ  -- how `origin` is written, once it is known
  pub near : ℕ  -- the last TSN that came: TSNs are read near it
  pub streams : Streams
  pub deferred : Option Deferred
  pub ready : List Message
  pub ready_count : ℕ  -- how many messages became ready

abbrev pub reassembly : ℕ → Bool → Reassembly
reassembly max_size is_interleaved = record {
  max_size = max_size;
  max_fragments = 2 ^ 64 - 1;
  first = None;
  near = origin;
  streams = no_streams is_interleaved;
  deferred = None;
  ready = [];
  ready_count = 0;
}

-- ---- sizes

abbrev pub waiting_bytes : Waiting → ℕ
waiting_bytes (Added tsn f) = length f.payload
waiting_bytes (Forwarded tsn es) = 0

abbrev pub waiting_fragments : Waiting → ℕ
waiting_fragments (Added tsn f) = 1
waiting_fragments (Forwarded tsn es) = 0

abbrev pub waiting_number : Waiting → ℕ
waiting_number (Added tsn f) = tsn
waiting_number (Forwarded tsn es) = tsn

-- what is true of what waits
abbrev pub AreSmall : List Waiting → Type 0
AreSmall [] = Unit {0}
AreSmall (w ∷ ws) = (waiting_number w < 2 ^ 63) × AreSmall ws

-- a point that waits counts with its entries
abbrev pub waiting_entries : Waiting → ℕ
waiting_entries (Added tsn f) = 0
waiting_entries (Forwarded tsn es) = suc (length es)

-- no more than so many wait
abbrev pub most_waiting_entries : ℕ
most_waiting_entries = 65536

-- and no more fragments than so many
abbrev pub most_waiting_fragments : ℕ
most_waiting_fragments = 1024

pub record IsDeferred (bytes fragments entries : ℕ) (ws : List Waiting) : Type 0 where
  pub counted : bytes ≡ sum_by waiting_bytes ws
  pub fragments_counted : fragments ≡ sum_by waiting_fragments ws
  pub entered : entries ≡ min (sum_by waiting_entries ws) (2 ^ 64 - 1)
  pub small : AreSmall ws

abbrev pub deferred_bytes : Option Deferred → ℕ
deferred_bytes None = 0
deferred_bytes (Some d) = sum_by waiting_bytes d.waiting

-- what is held, what waits and what is ready
abbrev pub queued_bytes : Reassembly → ℕ
queued_bytes r = held_bytes r.streams + (deferred_bytes r.deferred + ready_bytes r.ready)

abbrev pub deferred_fragments : Option Deferred → ℕ
deferred_fragments None = 0
deferred_fragments (Some d) = sum_by waiting_fragments d.waiting

-- the fragments that are held or wait; what is ready is its owner's to take
abbrev pub held_fragments : Reassembly → ℕ
held_fragments r = fragments_of r.streams + deferred_fragments r.deferred

abbrev pub watermark : Reassembly → ℕ
watermark r = r.max_size * 9 / 10

-- ---- TSNs

abbrev pub near_first : Option ℕ → ℕ → ℕ → ℕ
near_first None near tsn = origin
near_first (Some first) near tsn = nearest u32_space first near tsn

-- what a TSN stands for: the first one that comes, or that a deferred reset names, is `origin`, later ones are read near the last that came
abbrev pub number_of : Reassembly → ℕ → ℕ
number_of r tsn = near_first r.first r.near tsn

-- a TSN came
abbrev pub came : ℕ → Reassembly → Reassembly
came tsn r = record r { first = Some (unwrap_or r.first tsn); near = max origin (number_of r tsn) }

-- ---- the calls

-- a count that stops at the greatest number of its type
abbrev pub saturating_sum : ℕ → ℕ → ℕ
saturating_sum n m = min (n + m) (2 ^ 64 - 1)

-- each message that became ready since is counted
abbrev pub IsCounted : Reassembly → Reassembly → Type 0
IsCounted old new = new.ready_count ≡ saturating_sum old.ready_count (length new.ready - length old.ready)

-- messages became ready
abbrev pub apply_outcome : Outcome → Reassembly → Reassembly
apply_outcome o r = record r { streams = o.streams; ready = r.ready ++ o.messages; ready_count = saturating_sum r.ready_count (length o.messages) }

abbrev pub add_now : ℕ → FragmentTree → Reassembly → Reassembly
add_now n f r = apply_outcome (streams.add n f r.streams) r

abbrev pub forward_now : ℕ → List SkippedStream → Reassembly → Reassembly
forward_now n es r = apply_outcome (streams.forward n es r.streams) r

-- while a reset is deferred, a fragment above its last TSN waits if it is on one of its streams
abbrev pub is_kept_back : ℕ → ℕ → Option Deferred → Bool
is_kept_back n id None = false
is_kept_back n id (Some d) = nat_lt d.last n && is_named d.streams id

-- and so do entries of a forward point above it
abbrev pub point_waits : ℕ → Option Deferred → Bool
point_waits n None = false
point_waits n (Some d) = nat_lt d.last n

abbrev pub with_waiting : Waiting → Option Deferred → Option Deferred
with_waiting w None = None
with_waiting w (Some d) = Some (record d { waiting = d.waiting ++ w ∷ [] })

abbrev pub keep_back : Waiting → Reassembly → Reassembly
keep_back w r = record r { deferred = with_waiting w r.deferred }

abbrev pub add_or_keep_back : ℕ → FragmentTree → Reassembly → Reassembly
add_or_keep_back n f r = if is_kept_back n f.stream_id r.deferred then keep_back (Added n f) r else add_now n f r

-- the streams of the reset, and what waits for it
abbrev pub resetting : Option Deferred → List StreamId
resetting None = []
resetting (Some d) = d.streams

abbrev pub waiting_in : Option Deferred → List Waiting
waiting_in None = []
waiting_in (Some d) = d.waiting

-- Entries for the reset's streams wait. With none, and nothing that waits before them, there is nothing to do later: what is
-- held of these streams the reset forgets.
abbrev pub wait_with : ℕ → List SkippedStream → Reassembly → Reassembly
wait_with n es r = if (length es == 0) && (length (waiting_in r.deferred) == 0) then r else keep_back (Forwarded n es) r

-- the point's entries for the reset's streams wait, the rest is taken at once
abbrev pub forward_or_wait : ℕ → List SkippedStream → Reassembly → Reassembly
forward_or_wait n es r =
    if point_waits n r.deferred then wait_with n (entries_in true (resetting r.deferred) es) (forward_now n (entries_in false (resetting r.deferred) es) r)
    else forward_now n es r

-- Where a reset is deferred, a point above its last TSN is admitted if with it no more entries wait than may. This rule is our own:
-- another point is as lost, and whoever sent it sends it again.
abbrev pub fits_behind : ℕ → List SkippedStream → Option Deferred → Bool
fits_behind n es None = true
fits_behind n es (Some d) = not (nat_lt d.last n) || nat_le (sum_by waiting_entries d.waiting + suc (length es)) most_waiting_entries

abbrev pub admits_point : ℕ → List SkippedStream → Reassembly → Bool
admits_point tsn es r = fits_behind (number_of r tsn) es r.deferred

-- A fragment that would wait is admitted while fewer wait than may. This rule is our own too.
abbrev pub may_wait : (number stream_id : ℕ) → Option Deferred → Bool
may_wait n id d = not (is_kept_back n id d) || nat_lt (deferred_fragments d) most_waiting_fragments

abbrev pub admits_fragment : (tsn stream_id : ℕ) → Reassembly → Bool
admits_fragment tsn id r = may_wait (number_of r tsn) id r.deferred

-- a fragment with this TSN
abbrev pub add : ℕ → FragmentTree → Reassembly → Reassembly
add tsn f r = if is_far (number_of r tsn) then r else add_or_keep_back (number_of r tsn) f (came tsn r)

-- a forward point to this TSN
abbrev pub forward : ℕ → List SkippedStream → Reassembly → Reassembly
forward tsn es r = if is_far (number_of r tsn) then r else forward_or_wait (number_of r tsn) es (came tsn r)

-- a reset is deferred up to this TSN, unless one is already
abbrev pub defer : ℕ → List StreamId → Reassembly → Reassembly
defer tsn ids r = record r {
  first = if is_some r.deferred then r.first else Some (unwrap_or r.first tsn);
  deferred = if is_some r.deferred then r.deferred else Some (record { last = number_of r tsn; streams = ids; waiting = [] });
}

-- what waited for a reset
abbrev pub apply : Waiting → Reassembly → Reassembly
apply (Added n f) r = add_now n f r
apply (Forwarded n es) r = forward_now n es r

abbrev pub apply_each : List Waiting → Reassembly → Reassembly
apply_each [] r = r
apply_each (w ∷ ws) r = apply_each ws (apply w r)

-- the streams are reset, or all where none is named; then comes what waited, in order
abbrev pub reset : List StreamId → Reassembly → Reassembly
reset ids r = apply_each (waiting_in r.deferred) (record r { streams = streams.reset ids r.streams; deferred = None })

-- what is true of every queue
pub record IsQueue (r : Reassembly) : Type 0 where
  pub small : r.max_size < 2 ^ 32
  pub least : origin ≤ r.near
  pub most : r.near < 2 ^ 63
  pub room : queued_bytes r < 2 ^ 64
  pub fragments : held_fragments r < 2 ^ 64
