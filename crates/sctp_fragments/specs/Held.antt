-- Fragments that are held until their message is ready, in the order of their keys.
use Rattle.std.specs.Prelude.{◌≡◌, ℕ, ◌+◌, ◌&&◌, ◌==◌, not, Bool, true, false, if◌then◌else◌, None, List, [], ◌∷◌, ◌++◌, length}
use Rattle.sctp_serial.specs.Messages.{Message}
use Rattle.sctp_chunk.specs.Chunk.{FragmentTree}
use Rattle.sctp_fragments.specs.ReassemblyKey.{pair_rank}
use Rattle.sctp_fragments.specs.Runs.{flat, runs_of, AreRuns, is_whole, is_held}

-- a fragment and its key: its message's number, and its place in the message, that is its TSN, or with interleaving its
-- FSN (RFC 8260 section 2.1). All are unwrapped. Unordered DATA has no number, and a constant here
pub record Held : Type 0 where
  pub number : ℕ
  pub index : ℕ
  pub fragment : FragmentTree

abbrev pub rank_of : Held → ℕ
rank_of h = pair_rank h.number h.index

-- a message may go on from h to g: h does not end one, and g does not begin one
abbrev pub goes_on : Held → Held → Bool
goes_on h g = not h.fragment.is_end && not g.fragment.is_beginning

abbrev pub begins : Held → Bool
begins h = h.fragment.is_beginning

abbrev pub ends : Held → Bool
ends h = h.fragment.is_end

abbrev pub bytes_of : List Held → ℕ
bytes_of [] = 0
bytes_of (h ∷ hs) = length h.fragment.payload + bytes_of hs

-- the payloads one after another
abbrev pub payload_of : List Held → List ℕ
payload_of [] = []
payload_of (h ∷ hs) = h.fragment.payload ++ payload_of hs

-- the message of an interval: stream and protocol id are those of its beginning, the payloads are joined
abbrev pub message_of_run : List Held → Message
message_of_run [] = record { stream = 0; ppid = 0; payload = [] }
message_of_run (h ∷ hs) =
    record { stream = h.fragment.stream_id; ppid = h.fragment.ppid; payload = payload_of (h ∷ hs) }

-- the intervals: the maximal runs of fragments with one key after the other, which end where a message ends and begin
-- where one begins
abbrev pub intervals_of : List Held → List (List Held)
intervals_of hs = runs_of rank_of goes_on hs

-- whether an interval is a complete message (RFC 9260 section 6.9)
abbrev pub is_complete : List Held → Bool
is_complete r = is_whole begins ends r

abbrev pub NonePass : (List Held → Bool) → List (List Held) → Type 0
NonePass test [] = Unit {0}
NonePass test (r ∷ rs) = (test r ≡ false) × NonePass test rs

abbrev pub NoneComplete : List (List Held) → Type 0
NoneComplete rs = NonePass is_complete rs

-- whether it is one with the number
abbrev pub is_in_turn : ℕ → List Held → Bool
is_in_turn n [] = false
is_in_turn n (h ∷ hs) = is_complete (h ∷ hs) && (h.number == n)

abbrev pub NoneInTurn : ℕ → List (List Held) → Type 0
NoneInTurn n rs = NonePass (is_in_turn n) rs

-- the intervals without the first one that passes the test
abbrev pub without_first_of : (List Held → Bool) → List (List Held) → List (List Held)
without_first_of test [] = []
without_first_of test (r ∷ rs) = if test r then rs else r ∷ without_first_of test rs

-- the fragments without those of the first interval that passes the test
abbrev pub left_by : (List Held → Bool) → List Held → List Held
left_by test hs = flat (without_first_of test (intervals_of hs))

-- ---- what calls do to the intervals

-- x came into an interval
pub record IsPlaced (old new : List Held) (x : Held) : Type 0 where
  pub kept : AreRuns rank_of goes_on None (intervals_of new)
  pub front : List (List Held)
  pub run : List Held
  pub back : List (List Held)
  pub runs : intervals_of new ≡ front ++ run ∷ back
  pub among : is_held rank_of (rank_of x) run ≡ true
  pub others : (test : List Held → Bool) → NonePass test (intervals_of old) → NonePass test (front ++ back)

-- an interval, a complete message, went out
pub record IsTaken (old run new : List Held) : Type 0 where
  pub front : List (List Held)
  pub back : List (List Held)
  pub runs : intervals_of old ≡ front ++ run ∷ back
  pub complete : is_complete run ≡ true
  pub left : intervals_of new ≡ front ++ back
  pub split : old ≡ flat front ++ (run ++ flat back)
  pub rest : new ≡ flat front ++ flat back
