-- What starts T3-rtx and the heartbeats' interval, whatever ran before.
use Rattle.std.proofs.Common.{◌≡◌, ℕ, suc, ◌≤◌, inl, inr, Bool, true, false, cond, List, [], ◌∷◌, length, refl, sym, subst, arith}
use Rattle.std.specs.Prelude.{◌⊎◌, ◌==◌, ◌||◌, nat_lt, not}
use Rattle.std.proofs.lemmas.Bool.Decides.{nat_tests}
use Rattle.sctp_packet.specs.Chunk.{FragmentTree}
use Rattle.sctp_state.specs.Events.{Emitted}
use Rattle.sctp_state.specs.Timer.{Timer, start, is_running}
use Rattle.sctp_tx_outstanding.specs.OutstandingData.{Items}
use Rattle.sctp_tx_outstanding.specs.Resending.{Resent}
use Rattle.sctp_tx_outstanding.specs.Sack.{sample}
use Rattle.sctp_tx_queue.specs.SendQueue.{Queue}
use Rattle.sctp_tx_queue.specs.Settings.{Changed}
use Rattle.sctp_tx.specs.RetransmissionQueue.{Sender, kept_running, nothing_in_flight, restart_or_stop, t3_after_sack, restarts, stays_backed_off, backed_off_if, step_of, windows_by}
use Rattle.sctp_tx.specs.Resent.{resent, start_t3_if}
use Rattle.sctp_tx.specs.Sending as fragments
use Rattle.sctp_tx.specs.Sending.{discard_all, without_discards, filled_with, fill, timed_filling, send}
use Rattle.spec_endpoint.specs.Association.{Heartbeats}
use Rattle.spec_endpoint.specs.Heartbeats.{restart_interval_if}
use Rattle.spec_endpoint.specs.Packets.{room}
use Rattle.proof_awake.specs.Awake.{Runs, BeatsOn}
use Rattle.proof_awake.specs.Restored.{FlightIsTimed, fragments_for, has_data, EachPacketWithDataStartsTimers, EachSackStartsT3}
use Rattle.proof_awake.proofs.TimerLemmas.{started, beats_on, backed_duration}
use Rattle.proof_awake.proofs.SenderLemmas.{same_t3}

-- kept running for what is in flight
kept_timed : (quiet : Bool) (now : ℕ) (t : Timer) → 1 ≤ t.duration → (quiet ≡ true) ⊎ Runs (kept_running quiet now t)
kept_timed true now t l = inl refl
kept_timed false now t l = inr (go (is_running t) refl)
  where
    go : (b : Bool) → is_running t ≡ b → Runs (let u : Timer = cond (b || false) t (start now t) in u)
    go true r = r
    go false r = started now t l

-- ---- a SACK

left_duration : (is_empty : Bool) (now : ℕ) (t : Timer) → 1 ≤ t.duration → 1 ≤ (restart_or_stop is_empty now t).duration
left_duration true now t l = l
left_duration false now t l = l

after_sack : (moved : Bool) (items : Items) (now : ℕ) (t : Timer) → 1 ≤ t.duration → (nothing_in_flight items ≡ true) ⊎ Runs (t3_after_sack moved items now t)
after_sack true items now t l = kept_timed (nothing_in_flight items) now _ (left_duration (length items.kept == 0) now t l)
after_sack false items now t l = kept_timed (nothing_in_flight items) now t l

pub sack_starts : EachSackStartsT3
sack_starts now n a_rwnd blocks s emitted l =
    let step = step_of n blocks s emitted in
    let stays = stays_backed_off (nat_lt s.outstanding.items.acked n) (sample now n s.outstanding.items) s in
    after_sack (restarts (nat_lt s.outstanding.items.acked n) s.windows (windows_by n a_rwnd blocks s step) s.t3) step.items now (backed_off_if stays now s.t3) (backed_duration stays now s.t3 l)

-- ---- data

some_length : (cs : List (ℕ × FragmentTree)) → has_data cs ≡ true → (length cs == 0) ≡ false
some_length [] h = absurd (cc)
some_length (c ∷ cs) h = positive (length cs)
  where
    positive : (n : ℕ) → (suc n == 0) ≡ false
    positive n = grind (arith, nat_tests)

some_sent : (cs : List (ℕ × FragmentTree)) → has_data cs ≡ true → nat_lt 0 (length cs) ≡ true
some_sent [] h = absurd (cc)
some_sent (c ∷ cs) h = positive (length cs)
  where
    positive : (n : ℕ) → nat_lt 0 (suc n) ≡ true
    positive n = grind (arith, nat_tests)

timed_by : (now : ℕ) (y : fragments.Filling (List ℕ)) → has_data y.chunks ≡ true → 1 ≤ y.sender.t3.duration → FlightIsTimed (timed_filling now y).sender
timed_by now y h l =
    subst (λ (b : Bool). FlightIsTimed (start_t3_if b now y.sender)) (sym (some_sent y.chunks h))
    (kept_timed (nothing_in_flight y.sender.outstanding.items) now y.sender.t3 l)

sent_timed : (now most : ℕ) (s : Sender) (q : Queue) (e : Emitted (List ℕ)) → has_data (send now most s q e).chunks ≡ true → 1 ≤ s.t3.duration → FlightIsTimed (send now most s q e).sender
sent_timed now most s q e h l =
    let left : Changed (List ℕ) = discard_all s.outstanding.items.discards q e in
    let again : Resent = resent most (without_discards s) in
    let x : fragments.Filling (List ℕ) = filled_with most (without_discards s) again left in
    timed_by now (fill (suc x.left) now x) h (subst (λ (t : Timer). 1 ≤ t.duration) (sym (same_t3 s now most left)) l)

beats_restart : (b : Bool) (now : ℕ) (h : Heartbeats) → b ≡ false → BeatsOn (restart_interval_if (not b) now h).interval
beats_restart true now h e = absurd (cc)
beats_restart false now h e = beats_on now h.interval

pub data_starts : EachPacketWithDataStartsTimers
data_starts x h = record {
  t3 = λ l. sent_timed x.context.now (room x.packet) x.tcb.sender x.context.queue x.context.emitted h l;
  beats = beats_restart (length (fragments_for x).chunks == 0) x.context.now x.context.heartbeats (some_length (fragments_for x).chunks h);
}
