-- What is known of the peer's TSNs, and when it is acknowledged (RFC 9260 section 6.2). The numbers here are unwrapped:
-- they never wrap, and the peer's first one is `origin`.
use Rattle.std.specs.Prelude.{◌≡◌, ℕ, ◌+◌, ◌-◌, ◌*◌, ◌/◌, ◌^◌, ◌==◌, ◌<◌, ◌≤◌, ◌&&◌, ◌||◌, not, nat_lt, nat_le, min, Bool, true, false, if◌then◌else◌, Option, Some, None, List, [], ◌∷◌, length}
use Rattle.sctp_serial.specs.SerialNumber.{serial_difference}
use Rattle.sctp_serial.specs.Unwrapped.{origin, u32_space, wire, nearest}
use Rattle.sctp_state.specs.Options.{Options}
use Rattle.sctp_state.specs.Timer.{Timer, timer, start, stop, set_duration, is_due, expire}
use Rattle.sctp_state.specs.declared.timer.BackoffAlgorithm.TheVariants.{Fixed}
use Rattle.sctp_rx.specs.declared.data_tracker.AckState.{AckState}
use Rattle.sctp_rx.specs.declared.data_tracker.AckState.TheVariants.{Idle, Becoming, Delayed, Immediate}
use Rattle.sctp_rx.specs.Seen.{Seen, contains, has_gap, add, up_to, IsInRuns, highest}

pub record Tracker : Type 0 where
  pub begin : ℕ  -- the front when it was made
  pub seen : Seen  -- its front is the cumulative TSN
  pub duplicates : List ℕ  -- what came again since the last SACK, ascending
  pub seen_packet : Bool  -- whether DATA came
  pub ack : AckState
  pub delay : Timer  -- runs while an acknowledgement is delayed
  pub most_delay : ℕ  -- in nanoseconds

abbrev pub has_seen : Tracker → ℕ → Bool
has_seen t n = contains t.seen n

-- ---- on the wire

-- a tracker, and how `origin` is written
pub record DataTracker : Type 0 where
  pub first : ℕ
  pub tracker : Tracker

abbrev pub wire_tsn : DataTracker → ℕ → ℕ
wire_tsn d n = wire u32_space d.first n

-- what a TSN stands for: the number nearest to the cumulative TSN
abbrev pub number_of : DataTracker → ℕ → ℕ
number_of d tsn = nearest u32_space d.first d.tracker.seen.front tsn

-- numbers stay below this distance from the beginning
abbrev pub bound : ℕ
bound = 2 ^ 62

-- how far from the cumulative TSN a number may lie
abbrev pub window : ℕ
window = 100000

abbrev pub is_valid : Tracker → ℕ → Bool
is_valid t n = nat_le t.seen.front (n + window) && (nat_le n (t.seen.front + window) && nat_lt n (t.begin + bound))

-- ---- a tracker at its beginning

-- an acknowledgement is delayed by half the retransmission timeout at most
abbrev pub ack_delay : ℕ → ℕ → ℕ
ack_delay rto most = min (rto / 2) most

-- the least number that was not seen is `first`
abbrev pub tracker : Options → ℕ → Tracker
tracker o first = record {
  begin = first - 1;
  seen = record { front = first - 1; runs = [] };
  duplicates = [];
  seen_packet = false;
  ack = Idle;
  delay = timer (ack_delay o.rto_initial o.delayed_ack_max_timeout) Fixed (Some 0) None;
  most_delay = o.delayed_ack_max_timeout;
}

abbrev pub update_rto : ℕ → Tracker → Tracker
update_rto rto t = record t { delay = set_duration (ack_delay rto t.most_delay) t.delay }

-- ---- when to acknowledge

-- the delay runs in Delayed alone
abbrev pub acking : AckState → Tracker → Tracker
acking a t = record t { ack = a; delay = stop t.delay }

-- one is to go out at once
abbrev pub force_ack : Tracker → Tracker
force_ack t = acking Immediate t

-- one more chunk is to be acknowledged: at once, where a packet before this one waits
abbrev pub after_packet : AckState → AckState
after_packet Idle = Becoming
after_packet Becoming = Becoming
after_packet Delayed = Immediate
after_packet Immediate = Immediate

abbrev pub ack_after : (is_urgent : Bool) → AckState → AckState
ack_after is_urgent a = if is_urgent then Immediate else after_packet a

-- what is acknowledged at once: a duplicate, a gap that remains, the I bit (RFC 7053), the first DATA chunk
abbrev pub is_urgent : (is_new has_gap is_immediate seen_packet : Bool) → Bool
is_urgent is_new has_gap is_immediate seen_packet = not is_new || (has_gap || (is_immediate || not seen_packet))

abbrev pub is_ack_due : (also_if_delayed : Bool) → AckState → Bool
is_ack_due also_if_delayed Idle = false
is_ack_due also_if_delayed Becoming = also_if_delayed
is_ack_due also_if_delayed Delayed = also_if_delayed
is_ack_due also_if_delayed Immediate = true

-- an acknowledgement that is due counts as sent
abbrev pub take_ack : (also_if_delayed : Bool) → Tracker → Tracker
take_ack also_if_delayed t = record t {
  ack = if is_ack_due also_if_delayed t.ack then Idle else t.ack;
  delay = if is_ack_due also_if_delayed t.ack then stop t.delay else t.delay;
}

abbrev pub is_becoming : AckState → Bool
is_becoming Idle = false
is_becoming Becoming = true
is_becoming Delayed = false
is_becoming Immediate = false

abbrev pub packet_end : ℕ → Tracker → Tracker
packet_end now t = record t {
  ack = if is_becoming t.ack then Delayed else t.ack;
  delay = if is_becoming t.ack then start now t.delay else t.delay;
}

abbrev pub ack_timeout : ℕ → Tracker → Tracker
ack_timeout now t = record t {
  ack = if is_due now t.delay then Immediate else t.ack;
  delay = if is_due now t.delay then stop (expire now t.delay) else t.delay;
}

-- ---- what comes

-- a number in its place, once
abbrev pub insert_number : ℕ → List ℕ → List ℕ
insert_number n [] = n ∷ []
insert_number n (m ∷ ms) = if nat_lt m n then m ∷ insert_number n ms else (if n == m then m ∷ ms else n ∷ m ∷ ms)

-- the first twenty that come are kept
abbrev pub with_duplicate : ℕ → List ℕ → List ℕ
with_duplicate n ms = if nat_lt (length ms) 20 then insert_number n ms else ms

-- the tracker after a number that is new or not, where `seen` is the set with it
abbrev pub observed : (n : ℕ) (is_new is_immediate : Bool) → Seen → Tracker → Tracker
observed n is_new is_immediate seen t = record t {
  seen = seen;
  duplicates = if is_new then t.duplicates else with_duplicate n t.duplicates;
  seen_packet = true;
  ack = ack_after (is_urgent is_new (has_gap seen) is_immediate t.seen_packet) t.ack;
  delay = stop t.delay;
}

-- a DATA chunk with this number, which is valid
abbrev pub observe : ℕ → (is_immediate : Bool) → Tracker → Tracker
observe n is_immediate t = observed n (not (has_seen t n)) is_immediate (add n t.seen) t

-- whether a forward point moves the front (RFC 3758 section 3.6)
abbrev pub moves_on : ℕ → Tracker → Bool
moves_on n t = nat_lt t.seen.front n

-- a forward point, which is valid
abbrev pub forward : ℕ → Tracker → Tracker
forward n t = record t {
  seen = up_to n t.seen;
  ack = ack_after (not (moves_on n t)) t.ack;
  delay = stop t.delay;
}

-- ---- handed over

-- the least number at or above `origin` that is written so
abbrev pub unwrapped_from : ℕ → ℕ → ℕ
unwrapped_from first tsn = origin + serial_difference u32_space tsn first

-- a tracker that has seen each number up to this one
abbrev pub restore_tracker : (front : ℕ) (seen_packet : Bool) → Tracker → Tracker
restore_tracker front seen_packet t =
    record t { begin = front; seen = record { front = front; runs = [] }; seen_packet = seen_packet }

-- ---- what is true of every tracker

-- the delay runs in Delayed alone
abbrev pub DelayFits : AckState → Option ℕ → Type 0
DelayFits Delayed due = Unit {0}
DelayFits Idle due = due ≡ None
DelayFits Becoming due = due ≡ None
DelayFits Immediate due = due ≡ None

pub record IsTracker (t : Tracker) : Type 0 where
  pub least : origin ≤ t.begin + 1
  pub most : t.begin < 2 * origin
  pub begun : t.begin ≤ t.seen.front
  pub runs : IsInRuns t.seen
  pub bounded : highest t.seen < t.begin + bound
  pub near : highest t.seen ≤ t.seen.front + window
  pub few : length t.duplicates ≤ 20
  pub delay : DelayFits t.ack t.delay.due
