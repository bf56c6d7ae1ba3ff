-- Round trip times and the retransmission timeout (RFC 9260 section 6.3.1), in whole nanoseconds.
use Rattle.std.specs.Prelude.{ℕ, ◌+◌, ◌-◌, ◌*◌, ◌/◌, ◌≤◌, nat_lt, ◌||◌, min, max, Bool, true, false, if◌then◌else◌}
use Rattle.sctp_state.specs.Options.{Options}
use Rattle.sctp_state.specs.Timer.{longest}

-- eight times the smoothed time and four times its variance, with the options that they are held to
pub record Rtt : Type 0 where
  pub rtt_max : ℕ
  pub rto_initial : ℕ
  pub rto_max : ℕ
  pub rto_min : ℕ
  pub min_rtt_variance : ℕ
  pub is_sampled : Bool
  pub s8 : ℕ
  pub v4 : ℕ

abbrev pub unsampled : Options → Rtt
unsampled o = record {
  rtt_max = o.rtt_max;
  rto_initial = o.rto_initial;
  rto_max = o.rto_max;
  rto_min = o.rto_min;
  min_rtt_variance = o.min_rtt_variance;
  is_sampled = false;
  s8 = 0;
  v4 = 0;
}

abbrev pub srtt : Rtt → ℕ
srtt r = if r.is_sampled then r.s8 / 8 else r.rto_initial

abbrev pub rto : Rtt → ℕ
rto r = if r.is_sampled then min (max (r.s8 / 8 + r.v4) r.rto_min) r.rto_max else r.rto_initial

-- the variance is at least half of the least one
abbrev pub set_estimates : ℕ → ℕ → Rtt → Rtt
set_estimates s8 v4 r = record r { is_sampled = true; s8 = s8; v4 = max v4 (r.min_rtt_variance / 2) }

abbrev pub distance : ℕ → ℕ → ℕ
distance a b = (a - b) + (b - a)

abbrev pub first_sample : ℕ → Rtt → Rtt
first_sample sample r = set_estimates (8 * sample) (2 * sample) r

abbrev pub later_sample : ℕ → Rtt → Rtt
later_sample sample r = set_estimates (r.s8 - r.s8 / 8 + sample) (r.v4 - r.v4 / 4 + distance sample (r.s8 / 8)) r

-- a sample that is too long is dropped
abbrev pub is_dropped : ℕ → Rtt → Bool
is_dropped sample r = nat_lt r.rtt_max sample || nat_lt longest sample

abbrev pub observe_rto : ℕ → Rtt → Rtt
observe_rto sample r =
    if is_dropped sample r then r else (if r.is_sampled then later_sample sample r else first_sample sample r)

-- what a timeout is held to
abbrev pub IsBetween : ℕ → ℕ → ℕ → Type 0
IsBetween least most n = (least ≤ n) × (n ≤ most)
