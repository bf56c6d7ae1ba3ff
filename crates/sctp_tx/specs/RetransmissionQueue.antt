-- What is sent again, and when: the items, the windows, and the timer of retransmissions (RFC 9260 sections 6.3, 7.2).
use Rattle.std.specs.Prelude.{ℕ, ◌-◌, ◌==◌, ◌&&◌, ◌||◌, not, nat_lt, Bool, true, false, if◌then◌else◌, Option, None, is_some, option_map, List, length}
use Rattle.std.specs.Duration.{as_nanos}
use Rattle.sctp_chunk.specs.declared.sack.GapAckBlock.{GapAckBlock}
use Rattle.sctp_state.specs.Events.{Emitted}
use Rattle.sctp_state.specs.Options.{Options, t3_backoff}
use Rattle.sctp_state.specs.Timer.{Timer, timer, start, start_backed_off, stop, is_running, expire}
use Rattle.sctp_state.specs.declared.timer.BackoffAlgorithm.TheVariants.{Exponential}
use Rattle.sctp_tx_outstanding.specs.OutstandingData.{Outstanding, Items, no_items, next_number, flight_bytes, flight_payload, flight_items}
use Rattle.sctp_tx_outstanding.specs.Losses.{Step}
use Rattle.sctp_tx_outstanding.specs.Sack.{receive_sack, acked_bytes, sample}
use Rattle.sctp_tx.specs.declared.retransmission_queue.HandleSackResult as given
use Rattle.sctp_tx.specs.declared.retransmission_queue.HandleSackResult.TheVariants as results
use Rattle.sctp_tx.specs.Windows.{Windows, at_first, grow, recovering, timed_out, maybe_exit_fast_recovery, is_open, update_rwnd, reopens, saturate_u64}

pub record Sender : Type 0 where
  pub outstanding : Outstanding
  pub windows : Windows
  pub t3 : Timer
  pub rtx_packets : ℕ  -- packets in which an item was sent again
  pub rtx_bytes : ℕ
  pub is_sampled : Bool  -- a round trip was measured

abbrev pub sender : Options → (first a_rwnd : ℕ) → (is_partial is_interleaved : Bool) → Sender
sender o first a_rwnd is_partial is_interleaved = record {
  outstanding = record { first = first; items = no_items is_partial is_interleaved };
  windows = at_first o a_rwnd;
  t3 = timer o.rto_initial Exponential None (t3_backoff o);
  rtx_packets = 0;
  rtx_bytes = 0;
  is_sampled = false;
}

-- ---- the timer runs while something is in flight or missing

abbrev pub nothing_in_flight : Items → Bool
nothing_in_flight s = flight_items s == 0

abbrev pub kept_running : (is_quiet : Bool) → ℕ → Timer → Timer
kept_running is_quiet now t = if is_running t || is_quiet then t else start now t

-- it begins anew
abbrev pub restart_or_stop : (is_empty : Bool) → ℕ → Timer → Timer
restart_or_stop is_empty now t = if is_empty then stop t else start now t

abbrev pub t3_after_sack : (restarts : Bool) → Items → ℕ → Timer → Timer
t3_after_sack restarts s now t = kept_running (nothing_in_flight s) now (if restarts then restart_or_stop (length s.kept == 0) now t else t)

-- The timer begins anew where the cumulative TSN moved; with stalls avoided also, once it backed off, where the peer's window opens: what is in
-- flight was sent into a closed one (section 6.1 rule A).
abbrev pub restarts : (moved : Bool) → (before after : Windows) → Timer → Bool
restarts moved before after t = moved || (reopens before after && nat_lt 0 t.expiries)

-- with stalls avoided it stays backed off until the first round trip is measured (RFC 9260 sections 6.3.1 C1, C5, 6.3.3)
abbrev pub stays_backed_off : (moved : Bool) → (sample : Option ℕ) → Sender → Bool
stays_backed_off moved sample s = not (is_some sample) && (not s.is_sampled && (moved && (s.windows.avoids_stalls && nat_lt 0 s.t3.expiries)))

abbrev pub backed_off_if : Bool → ℕ → Timer → Timer
backed_off_if true now t = start_backed_off now t
backed_off_if false now t = t

-- what is kept is timed from now on
abbrev pub wake : ℕ → Sender → Sender
wake now s = record s { t3 = restart_or_stop (length s.outstanding.items.kept == 0) now s.t3 }

-- ---- a SACK

abbrev pub grown_if : Bool → (before acked : ℕ) → Windows → Windows
grown_if true before acked w = grow before acked w
grown_if false before acked w = w

abbrev pub recovering_if : Bool → (exit : ℕ) → Windows → Windows
recovering_if true exit w = recovering exit w
recovering_if false exit w = w

-- the peer's window, the growth where the cumulative TSN moved, and the cut after a loss; both outside fast recovery
abbrev pub windows_after : (cumulative a_rwnd : ℕ) → (moved is_lossy : Bool) → (before acked payload exit : ℕ) → Windows → Windows
windows_after n a_rwnd moved is_lossy before acked payload exit w =
    recovering_if (is_lossy && is_open n w) exit (grown_if (moved && is_open n w) before acked (update_rwnd a_rwnd payload (maybe_exit_fast_recovery n w)))

-- what the items say to it
abbrev pub step_of : {P : Type 0} → (cumulative : ℕ) → List GapAckBlock → Sender → Emitted P → Step P
step_of n blocks s emitted = receive_sack n blocks s.windows.avoids_stalls (not (is_open n s.windows)) s.outstanding.items emitted

abbrev pub windows_by : {P : Type 0} → (cumulative a_rwnd : ℕ) → List GapAckBlock → Sender → Step P → Windows
windows_by n a_rwnd blocks s step =
    windows_after n a_rwnd (nat_lt s.outstanding.items.acked n) step.is_lossy (saturate_u64 (flight_bytes s.outstanding.items))
    (saturate_u64 (acked_bytes n blocks s.outstanding.items)) (saturate_u64 (flight_payload step.items)) (next_number step.items - 1) s.windows

abbrev pub handle_sack_by : {P : Type 0} → ℕ → (cumulative a_rwnd : ℕ) → List GapAckBlock → Sender → Step P → Sender
handle_sack_by now n a_rwnd blocks s step = let w = windows_by n a_rwnd blocks s step in record s {
  outstanding = record s.outstanding { items = step.items };
  windows = w;
  t3 = t3_after_sack (restarts (nat_lt s.outstanding.items.acked n) s.windows w s.t3) step.items now
      (backed_off_if (stays_backed_off (nat_lt s.outstanding.items.acked n) (sample now n s.outstanding.items) s) now s.t3);
}

abbrev pub handle_sack : {P : Type 0} → ℕ → (cumulative a_rwnd : ℕ) → List GapAckBlock → Sender → Emitted P → Sender
handle_sack now n a_rwnd blocks s emitted = handle_sack_by now n a_rwnd blocks s (step_of n blocks s emitted)

-- one that is not valid changes nothing

abbrev pub sender_if : {P : Type 0} → (is_valid : Bool) → ℕ → (cumulative a_rwnd : ℕ) → List GapAckBlock → Sender → Emitted P → Sender
sender_if true now n a_rwnd blocks s emitted = handle_sack now n a_rwnd blocks s emitted
sender_if false now n a_rwnd blocks s emitted = s

abbrev pub emitted_if : {P : Type 0} → (is_valid : Bool) → (cumulative : ℕ) → List GapAckBlock → Sender → Emitted P → Emitted P
emitted_if true n blocks s emitted = (step_of n blocks s emitted).emitted
emitted_if false n blocks s emitted = emitted

-- the answer: a round trip, and whether something was newly acknowledged
pub data SackAnswer : Type 0 where
  Invalid : SackAnswer
  Valid : (rtt : Option ℕ) → (is_progress : Bool) → SackAnswer

abbrev pub answer_if : (is_valid : Bool) → ℕ → (cumulative : ℕ) → List GapAckBlock → Sender → SackAnswer
answer_if true now n blocks s = Valid (sample now n s.outstanding.items) (nat_lt 0 (acked_bytes n blocks s.outstanding.items))
answer_if false now n blocks s = Invalid

abbrev pub answer_of : given.HandleSackResult → SackAnswer
answer_of results.Invalid = Invalid
answer_of (results.Valid rtt progress) = Valid (option_map as_nanos rtt) progress

-- ---- a timeout

abbrev pub timed_out_sender : ℕ → Items → Sender → Sender
timed_out_sender now after s = record s {
  outstanding = record s.outstanding { items = after };
  windows = timed_out s.windows;
  t3 = expire now s.t3;
}
