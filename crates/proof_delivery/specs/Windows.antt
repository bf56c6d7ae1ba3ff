-- How many fragments two ends have numbered, and how far what is under way may lie behind: the windows under which numbers
-- on the wire say what they mean. All is read off the values that the ends hold between actions.
use Rattle.std.specs.Prelude.{◌≡◌, ℕ, ◌+◌, ◌-◌, ◌^◌, ◌<◌, ◌≤◌, Bool, true, false, Some, List, [], ◌∷◌, ◌++◌, length, replicate, slice_get, nat_le, ⊤, All}
use Rattle.std.specs.List.{list_any}
use Rattle.sctp_serial.specs.Unwrapped.{origin}
use Rattle.sctp_tx_queue.specs.SendQueue.{Queue, stream}
use Rattle.sctp_tx_outstanding.specs.Item.{Item}
use Rattle.sctp_tx_outstanding.specs.OutstandingData.{next_number}
use Rattle.spec_endpoint.specs.Association.{Tcb, State, Closed, CookieWait, Open}
use Rattle.spec_endpoint.specs.Laws.{ResetStreams, SetMaxMessageSize}
use Rattle.proof_pair.specs.Trace.{Side, Pair, emitted_packets, EndAction, Calls, Gives, Refuses, goes, state_of}

-- ---- what an end keeps

-- how many fragments it has numbered
abbrev pub numbered_count : State → ℕ
numbered_count Closed = 0
numbered_count (CookieWait tag first t1) = 0
numbered_count (Open phase t) = next_number t.sender.outstanding.items - origin

-- how many of them it keeps no more: all below its first item
abbrev pub left_count : State → ℕ
left_count Closed = 0
left_count (CookieWait tag first t1) = 0
left_count (Open phase t) = t.sender.outstanding.items.acked + 1 - origin

-- of the item's stream fewer than 32,000 ordered messages are numbered, from its own on
abbrev pub IsNearNext : Queue → Item → Type 0
IsNearNext q i = i.fragment.is_unordered ≡ false → (stream i.fragment.stream_id q.streams).next_ordered_mid < origin + i.fragment.mid + 32000

-- no item is kept while 2^30 later ones are numbered
pub record KeepsWithin (q : Queue) (t : Tcb) : Type 0 where
  pub items : length t.sender.outstanding.items.kept ≤ 2 ^ 30
  pub messages : All (IsNearNext q) t.sender.outstanding.items.kept
  pub fragments : next_number t.sender.outstanding.items < origin + 2 ^ 62

abbrev pub IsWithin : State → Queue → Type 0
IsWithin Closed q = ⊤
IsWithin (CookieWait tag first t1) q = ⊤
IsWithin (Open phase t) q = KeepsWithin q t

abbrev pub queue_of : Side → Queue
queue_of x = x.end.endpoint_state.context.queue

pub record AreWithin (w : Pair) : Type 0 where
  pub a : IsWithin (state_of w.a) (queue_of w.a)
  pub b : IsWithin (state_of w.b) (queue_of w.b)

-- ---- packets that are given

-- a number of fragments of each end
pub record Stamp : Type 0 where
  pub a : ℕ
  pub b : ℕ

abbrev pub numbered : Pair → Stamp
numbered w = record { a = numbered_count (state_of w.a); b = numbered_count (state_of w.b) }

-- Of a packet that end a emitted, or else end b: how many each end kept no more before that action, none of which it carries; and of its
-- own end 2^30 more, as many as that end may keep.
abbrev pub stamp : (of_a : Bool) → Pair → Stamp
stamp true w = record { a = left_count (state_of w.a) + 2 ^ 30; b = left_count (state_of w.b) }
stamp false w = record { a = left_count (state_of w.a); b = left_count (state_of w.b) + 2 ^ 30 }

-- those of all packets that each end emitted
pub record Stamps : Type 0 where
  pub of_a : List Stamp
  pub of_b : List Stamp

abbrev pub no_stamps : Stamps
no_stamps = record { of_a = []; of_b = [] }

-- for the packets that this action added
abbrev pub stamp_packets : (before after : Side) → Stamp → List Stamp → List Stamp
stamp_packets x y s stamps = stamps ++ replicate (length (emitted_packets y) - length (emitted_packets x)) s

abbrev pub stamps_after : Bool → EndAction → Pair → Stamps → Stamps
stamps_after true action w s = record s { of_a = stamp_packets w.a (goes true action w).a (stamp true w) s.of_a }
stamps_after false action w s = record s { of_b = stamp_packets w.b (goes false action w).b (stamp false w) s.of_b }

-- those of the packets that may be given to this end
abbrev pub stamps_for : Bool → Stamps → List Stamp
stamps_for true s = s.of_b
stamps_for false s = s.of_a

-- each end numbered fewer than 2^31 fragments from there on
pub record IsYoung (now old : Stamp) : Type 0 where
  pub a : now.a < old.a + 2 ^ 31
  pub b : now.b < old.b + 2 ^ 31

abbrev pub IsTimely : EndAction → (now : Stamp) → List Stamp → Type 0
IsTimely (Gives which checksum) now stamps = (old : Stamp) → slice_get stamps which ≡ Some old → IsYoung now old
IsTimely (Calls call) now stamps = ⊤
IsTimely (Refuses p) now stamps = ⊤

-- ---- along a trace

abbrev pub KeepsWindows : List (Bool × EndAction) → Pair → Stamps → Type 0
KeepsWindows [] w s = AreWithin w
KeepsWindows (e ∷ es) w s =
    AreWithin w × IsTimely e.1 (numbered w) (stamps_for e.0 s) × KeepsWindows es (goes e.0 e.1 w) (stamps_after e.0 e.1 w s)

abbrev pub resets : EndAction → Bool
resets (Calls (ResetStreams streams)) = true
resets action = false

-- no stream is reset
abbrev pub KeepsStreams : List (Bool × EndAction) → Type 0
KeepsStreams trace = list_any (λ (e : Bool × EndAction). resets e.1) trace ≡ false

abbrev pub sets_more : EndAction → Bool
sets_more (Calls (SetMaxMessageSize bytes)) = nat_le (2 ^ 32) bytes
sets_more action = false

-- no limit of messages' sizes is set that doesn't fit 32 bits, as `set_max_message_size` asks
abbrev pub KeepsLimits : List (Bool × EndAction) → Type 0
KeepsLimits trace = list_any (λ (e : Bool × EndAction). sets_more e.1) trace ≡ false
