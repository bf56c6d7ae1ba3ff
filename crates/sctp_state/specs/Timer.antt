-- A timer that is asked whether it expired. Moments and spans are in nanoseconds.
use Rattle.std.specs.Prelude.{ℕ, ◌-◌, ◌*◌, ◌^◌, ◌==◌, nat_lt, nat_le, min, max, Bool, false, if◌then◌else◌, Option, Some, None, is_some}
use Rattle.sctp_serial.specs.Time.{forever, later}
use Rattle.sctp_state.specs.Numbers.{ms, more}
use Rattle.sctp_state.specs.declared.timer.BackoffAlgorithm.{BackoffAlgorithm}
use Rattle.sctp_state.specs.declared.timer.BackoffAlgorithm.TheVariants.{Fixed, Exponential}

pub record Timer : Type 0 where
  pub duration : ℕ
  pub backoff : BackoffAlgorithm
  pub restarts : Option ℕ  -- how often it goes on after an expiry
  pub most : Option ℕ  -- the longest wait after an expiry
  pub due : Option ℕ  -- the next expiry, of a timer that runs
  pub expiries : ℕ  -- since the start

-- a stopped timer
abbrev pub timer : ℕ → BackoffAlgorithm → Option ℕ → Option ℕ → Timer
timer duration backoff restarts most = record {
  duration = duration;
  backoff = backoff;
  restarts = restarts;
  most = most;
  due = None;
  expiries = 0;
}

abbrev pub start : ℕ → Timer → Timer
start now t = record t { expiries = 0; due = if t.duration == 0 then None else Some (later now t.duration) }

abbrev pub stop : Timer → Timer
stop t = record t { due = None }

abbrev pub set_duration : ℕ → Timer → Timer
set_duration duration t = record t { duration = duration }

abbrev pub is_running : Timer → Bool
is_running t = is_some t.due

abbrev pub due_by : Option ℕ → ℕ → Bool
due_by None now = false
due_by (Some moment) now = nat_le moment now

abbrev pub is_due : ℕ → Timer → Bool
is_due now t = due_by t.due now

-- the moment that never comes, of a stopped one
abbrev pub moment_of : Option ℕ → ℕ
moment_of None = forever
moment_of (Some moment) = moment

abbrev pub next_expiry : Timer → ℕ
next_expiry t = moment_of t.due

-- ---- the k-th expiry since the start

-- 24 hours
abbrev pub longest : ℕ
longest = 24 * 3600 * 1000 * ms

abbrev pub backed_off : BackoffAlgorithm → ℕ → ℕ → ℕ
backed_off Fixed duration k = duration
backed_off Exponential duration k = duration * 2 ^ min (k - 1) 31

abbrev pub cap_at : Option ℕ → ℕ → ℕ
cap_at None span = span
cap_at (Some most) span = min span most

-- how long until the next one
abbrev pub backoff : Timer → ℕ → ℕ
backoff t k = min (cap_at t.most (backed_off t.backoff t.duration k)) longest

-- another span, doubled as often as the timer expired since its start, up to the most
abbrev pub backed_off_with : Timer → (span most : ℕ) → ℕ
backed_off_with t span most = min (cap_at (Some most) (backed_off Exponential span (more t.expiries))) longest

-- whether it is the last
abbrev pub is_last_expiry : Option ℕ → ℕ → Bool
is_last_expiry None k = false
is_last_expiry (Some n) k = nat_lt n k

abbrev pub next_due : Timer → ℕ → Option ℕ → Option ℕ
next_due t k None = None
next_due t k (Some moment) = if is_last_expiry t.restarts k then None else Some (later moment (backoff t k))

-- it begins anew with the wait to which it has backed off, which is its duration then, and no shorter than that was
abbrev pub start_backed_off : ℕ → Timer → Timer
start_backed_off now t = start now (set_duration (max t.duration (backoff t (more t.expiries))) t)

abbrev pub expired_at : ℕ → Timer → Timer
expired_at k t = record t { expiries = k; due = next_due t k t.due }

abbrev pub expire_once : Timer → Timer
expire_once t = expired_at (more t.expiries) t

abbrev pub expire : ℕ → Timer → Timer
expire now t = if is_due now t then expire_once t else t
