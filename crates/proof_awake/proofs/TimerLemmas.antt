-- What becomes of a timer that runs.
use Rattle.std.proofs.Common.{◌≡◌, ℕ, ◌≤◌, inl, inr, Bool, true, false, cond, Option, Some, None, refl, sym, ap, subst, ◌∙◌, arith}
use Rattle.std.specs.Prelude.{◌==◌, is_some, max}
use Rattle.std.proofs.lemmas.Bool.Decides.{nat_tests}
use Rattle.sctp_serial.specs.Time.{later}
use Rattle.sctp_state.specs.Numbers.{more}
use Rattle.sctp_state.specs.Timer.{Timer, start, stop, set_duration, is_due, expire, expire_once, next_due, is_last_expiry, backoff}
use Rattle.sctp_tx.specs.RetransmissionQueue.{backed_off_if}
use Rattle.proof_awake.specs.Awake.{Runs, BeatsOn}
use Rattle.proof_awake.specs.Invariant.{Lasts}

is_not_zero : (n : ℕ) → 1 ≤ n → (n == 0) ≡ false
is_not_zero n h = grind (arith, nat_tests, h)

-- one that is started
pub started : (now : ℕ) (t : Timer) → 1 ≤ t.duration → Runs (start now t)
started now t h = ap (λ b. is_some (let o : Option ℕ = cond b None (Some (later now t.duration)) in o)) (is_not_zero t.duration h)

pub beats_on : (now : ℕ) (t : Timer) → BeatsOn (start now t)
beats_on now t = go (t.duration == 0) refl
  where
    go : (b : Bool) → (t.duration == 0) ≡ b → BeatsOn (start now t)
    go true e = inl e
    go false e = inr (ap (λ b. is_some (let o : Option ℕ = cond b None (Some (later now t.duration)) in o)) e)

-- an expiry that isn't the last
goes_on_once : (k : ℕ) (t : Timer) (r o : Option ℕ) → t.restarts ≡ r → r ≡ None → is_some o ≡ true → is_some (next_due t k o) ≡ true
goes_on_once k t r None e n h = cc
goes_on_once k t r (Some moment) e n h = ap (λ b. is_some (let o : Option ℕ = cond (is_last_expiry b k) None (Some (later moment (backoff t k))) in o)) (e ∙ n)

pub goes_on : (now : ℕ) (t : Timer) → t.restarts ≡ None → Runs t → Runs (expire now t)
goes_on now t r h = go (is_due now t)
  where
    go : (b : Bool) → Runs (let u : Timer = cond b (expire_once t) t in u)
    go true = goes_on_once (more t.expiries) t t.restarts t.due refl r h
    go false = h

pub expire_restarts : (now : ℕ) (t : Timer) → (expire now t).restarts ≡ t.restarts
expire_restarts now t = go (is_due now t)
  where
    go : (b : Bool) → (let u : Timer = cond b (expire_once t) t in u).restarts ≡ t.restarts
    go true = refl
    go false = refl

pub expire_duration : (now : ℕ) (t : Timer) → (expire now t).duration ≡ t.duration
expire_duration now t = go (is_due now t)
  where
    go : (b : Bool) → (let u : Timer = cond b (expire_once t) t in u).duration ≡ t.duration
    go true = refl
    go false = refl

pub beats_after : (now : ℕ) (t : Timer) → t.restarts ≡ None → BeatsOn t → BeatsOn (expire now t)
beats_after now t r (inl z) = inl (ap (λ n. n == 0) (expire_duration now t) ∙ z)
beats_after now t r (inr h) = inr (goes_on now t r h)

-- ---- timers that last

pub lasts_started : (now : ℕ) (t : Timer) → Lasts t → Lasts (start now t)
lasts_started now t h = record { restarts = h.restarts; duration = h.duration }

pub lasts_stopped : (t : Timer) → Lasts t → Lasts (stop t)
lasts_stopped t h = record { restarts = h.restarts; duration = h.duration }

pub lasts_set : (n : ℕ) (t : Timer) → 1 ≤ n → Lasts t → Lasts (set_duration n t)
lasts_set n t l h = record { restarts = h.restarts; duration = l }

at_least : (a b : ℕ) → 1 ≤ a → 1 ≤ max a b
at_least a b h = omega (arith, h)

-- started with the wait to which it backed off, which is no shorter
pub backed_duration : (b : Bool) (now : ℕ) (t : Timer) → 1 ≤ t.duration → 1 ≤ (backed_off_if b now t).duration
backed_duration true now t h = at_least t.duration (backoff t (more t.expiries)) h
backed_duration false now t h = h

pub lasts_backed : (b : Bool) (now : ℕ) (t : Timer) → Lasts t → Lasts (backed_off_if b now t)
lasts_backed true now t h = record { restarts = h.restarts; duration = backed_duration true now t h.duration }
lasts_backed false now t h = h

pub runs_backed : (b : Bool) (now : ℕ) (t : Timer) → 1 ≤ t.duration → Runs t → Runs (backed_off_if b now t)
runs_backed true now t h r = started now (set_duration (max t.duration (backoff t (more t.expiries))) t) (backed_duration true now t h)
runs_backed false now t h r = r

pub lasts_on : (now : ℕ) (t : Timer) → Lasts t → Lasts (expire now t)
lasts_on now t h = record { restarts = expire_restarts now t ∙ h.restarts; duration = subst (λ n. 1 ≤ n) (sym (expire_duration now t)) h.duration }
