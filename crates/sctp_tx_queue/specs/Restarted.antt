-- A new association: what waits is sent from its beginning, under numbers that begin again.
use Rattle.std.specs.Prelude.{◌≡◌, ℕ, ◌==◌, ◌&&◌, Bool, true, false, not, if◌then◌else◌, ⊤, Option, None, Some, is_some, List, [], ◌∷◌, map, take}
use Rattle.std.specs.List.{list_any}
use Rattle.std.specs.Map.{lookup, keys_of}
use Rattle.std.specs.Ordering.{nat_cmp}
use Rattle.std.specs.BTreeMap.{is_at}
use Rattle.sctp_serial.specs.Unwrapped.{origin}
use Rattle.sctp_stream_scheduler.specs.StreamScheduler.{Scheduler, is_active}
use Rattle.sctp_tx_queue.specs.declared.send_queue.stream.PauseState.TheVariants.{NotPaused}
use Rattle.sctp_tx_queue.specs.SendQueue.{Queued, Stream, Streams, Queue, stream, put_stream, sendable, set_sendable}
use Rattle.sctp_tx_queue.specs.Readiness.{has_reset_pending}
use Rattle.sctp_tx_queue.specs.Settings.{begun_without}

abbrev pub whole : Queued → Queued
whole m = record m { offset = 0; numbers = None; fsn = 0 }

-- no message but the first of its stream is partly sent
abbrev pub whole_front : List Queued → List Queued
whole_front [] = []
whole_front (m ∷ rest) = whole m ∷ rest

abbrev pub restart : Stream → Stream
restart s = record s { messages = whole_front s.messages; pause = NotPaused; next_ssn = origin; next_ordered_mid = origin; next_unordered_mid = origin }

abbrev pub restarted_one : ℕ → Queue → Queue
restarted_one id q =
    let ss : Streams = put_stream id (restart (stream id q.streams)) q.streams in
    record q { streams = ss; scheduler = set_sendable id (stream id ss) q.scheduler; begun = begun_without id q.begun }

abbrev pub each_restarted : List ℕ → Queue → Queue
each_restarted [] q = q
each_restarted (id ∷ ids) q = each_restarted ids (restarted_one id q)

-- no message is begun
abbrev pub unbegun : Queue → Queue
unbegun q = record q { begun = None }

-- all streams, ascending by id. Messages keep their numbers in the order of acceptance
abbrev pub reset : Queue → Queue
reset q = unbegun (each_restarted (keys_of q.streams.entries) q)

-- what is left without memory: the first of the streams restarted, or none of them, and the others not
abbrev pub SomeRestarted : Queue → Queue → Type 0
SomeRestarted q after = (count : ℕ) × (after ≡ each_restarted (take count (keys_of q.streams.entries)) q)

-- ---- whether anything is to be done

abbrev pub is_unbegun : Queued → Bool
is_unbegun m = (m.offset == 0) && (not (is_some m.numbers) && (m.fsn == 0))

abbrev pub is_front_unbegun : List Queued → Bool
is_front_unbegun [] = true
is_front_unbegun (m ∷ rest) = is_unbegun m

abbrev pub has_first_numbers : Stream → Bool
has_first_numbers s = (s.next_ssn == origin) && ((s.next_ordered_mid == origin) && (s.next_unordered_mid == origin))

-- it is as a restart leaves it
abbrev pub is_restarted : Stream → Bool
is_restarted s = not (has_reset_pending s) && (has_first_numbers s && is_front_unbegun s.messages)

-- it is active where it has something to send
abbrev pub is_in_line : ℕ → ℕ → Scheduler → Bool
is_in_line id bytes sch = if bytes == 0 then not (is_active id sch) else is_active id sch

-- its message is partly sent, and no other may go before its end
abbrev pub is_begun : ℕ → Option ℕ → Bool
is_begun id None = false
is_begun id (Some begun) = begun == id

-- a restart of this stream leaves all as it is
abbrev pub is_kept : ℕ → Queue → Bool
is_kept id q = not (is_begun id q.begun) && (is_restarted (stream id q.streams) && is_in_line id (sendable (stream id q.streams)) q.scheduler)

-- ---- which streams a reset has to go over

-- the stream, where there is one
abbrev pub is_settled_as : ℕ → Option Stream → Scheduler → Bool
is_settled_as id None sch = true
is_settled_as id (Some s) sch = is_restarted s && is_in_line id (sendable s) sch

-- it is kept, or isn't there
abbrev pub is_settled : ℕ → Queue → Bool
is_settled id q = not (is_begun id q.begun) && is_settled_as id (lookup (is_at (nat_cmp id)) q.streams.entries) q.scheduler

abbrev pub is_among : ℕ → List ℕ → Bool
is_among id ids = list_any (is_at (nat_cmp id)) ids

-- whether a stream may have changed: one of these, or where they aren't known any
abbrev pub may_differ : Option (List ℕ) → ℕ → Bool
may_differ None id = true
may_differ (Some ids) id = is_among id ids

-- a reset leaves the others as they are
abbrev pub ResetKeeps : Option (List ℕ) → Queue → Type 0
ResetKeeps None q = ⊤
ResetKeeps (Some ids) q = (id : ℕ) → is_among id ids ≡ false → is_settled id q ≡ true

abbrev pub AreSettled : List ℕ → Queue → Type 0
AreSettled ids q = (id : ℕ) → is_among id ids ≡ true → is_settled id q ≡ true

-- a stream joins those that may have changed, where it has to
abbrev pub Joins : Bool → ℕ → Option (List ℕ) → Option (List ℕ) → Type 0
Joins has_to id before after = (k : ℕ) → may_differ after k ≡ false → (may_differ before k ≡ false) × ((has_to && (k == id)) ≡ false)

-- all of these streams join those that may have changed, beside those that were there
abbrev pub JoinsAll : List ℕ → Option (List ℕ) → Option (List ℕ) → Type 0
JoinsAll ids before after = (k : ℕ) → may_differ after k ≡ false → (may_differ before k ≡ false) × (is_among k ids ≡ false)

-- the other streams are as a restart leaves them, and none of them is active
abbrev pub OthersRest : Option (List ℕ) → Streams → Scheduler → Type 0
OthersRest log ss sch = (k : ℕ) → may_differ log k ≡ false → (is_settled_as k (lookup (is_at (nat_cmp k)) ss.entries) sch ≡ true) × (is_active k sch ≡ false)

-- what may have changed after a reset, where it is known that it left all streams as a restart does
abbrev pub after_reset : Bool → Option (List ℕ)
after_reset true = Some []
after_reset false = None

-- ---- numbers of messages

abbrev pub numbers_on : (id : ℕ) → Queue → List ℕ
numbers_on id q = map (λ m. m.number) (stream id q.streams).messages

-- they are never set back: each message has the one that it was accepted with, and the next one is as it was
pub record NumbersGoOn (q after : Queue) : Type 0 where
  pub next : after.next_number ≡ q.next_number
  pub waiting : (id : ℕ) → numbers_on id after ≡ numbers_on id q
