-- What the sender and the queue emit stands behind what was emitted before, also where memory ran out.
use Rattle.std.proofs.Common.{◌≡◌, ℕ, zero, suc, ◌+◌, Bool, true, false, Option, Some, None, List, [], ◌∷◌, ◌++◌, length, refl, sym, subst, inl, inr}
use Rattle.std.specs.Prelude.{◌⊎◌, ◌&&◌, ◌-◌, nat_lt, not, take, is_some, if◌then◌else◌, unwrap_or, option_map, slice_get}
use Rattle.sctp_chunk.specs.declared.sack.GapAckBlock.{GapAckBlock}
use Rattle.sctp_state.specs.declared.api.GivenUpCause.TheVariants.{Lifetime, Retransmissions}
use Rattle.sctp_state.specs.Events.{Emitted, Event, OnBufferedAmountLow, OnTotalBufferedAmountLow, emit_events, emit_given_up, expired_events}
use Rattle.sctp_state.specs.ThresholdWatcher.{crosses}
use Rattle.sctp_tx_outstanding.specs.declared.item.MissIndication.{MissIndication}
use Rattle.sctp_tx_outstanding.specs.declared.item.MissIndication.TheVariants.{Timeout}
use Rattle.sctp_tx_outstanding.specs.Item.{Item, is_abandoned}
use Rattle.sctp_tx_outstanding.specs.OutstandingData.{Discard, Items}
use Rattle.sctp_tx_outstanding.specs.Losses.{Step, first_step, nack_item, nack_at, nack_below, nack_all, is_to_be_abandoned, given_up_if, expired_at, expire_below, expire_outstanding}
use Rattle.sctp_tx_outstanding.specs.Sack.{report_by, all_leaving_events, leaving_events, ending, leaving, staying, reported_below, receive_sack_first, is_valid}
use Rattle.sctp_tx_outstanding.specs.Interrupted.{Same, SackPartlyTaken}
use Rattle.sctp_tx.specs.Windows.{is_open}
use Rattle.sctp_tx_queue.specs.SendQueue.{Queue, Queued, Stream, Streams, stream, watched_amount, watched_total}
use Rattle.sctp_tx_queue.specs.Produced.{Produced, emit_expired, emit_fallen, emit_stale, is_stale, falls_low, total_falls_low, production, fully_sent, when, emitted_made, streams_without_stale, streams_after, advance, next_fragment, turn, Turn, next_stream, idle, produce_within, produce}
use Rattle.sctp_tx_queue.specs.Interrupted.{Passed, Stopped, Interrupted}
use Rattle.sctp_tx_queue.specs.Settings.{discard, discard_from, streams_discarded, front_discarded}
use Rattle.sctp_tx.specs.RetransmissionQueue.{Sender, emitted_if}
use Rattle.sctp_tx.specs.Resent.{may_send_new, resent}
use Rattle.sctp_tx.specs.Sending.{Filling, offered_payload, append, queue_step_if, next_turn, fill, discard_all, without_discards, filled_with, send}
use Rattle.sctp_tx.specs.Interrupted.{NotProduced, NotAppended, PartlyFilled, after_turns, PartlySent, PartlyExpired, PartlyTimedOut, PartlyAcknowledged}
use Rattle.sctp_endpoint.specs.GoesOn.{GrownQuietly}
use Rattle.sctp_endpoint.proofs.QuietLemmas.{AreQuiet, quiet_both, quiet_expired, quietly_same, quietly_through, quietly_emitted, quietly_given_up, quietly_dropped}

abbrev E : Type 0
E = Emitted (List ℕ)

to : (t u v : E) → v ≡ u → GrownQuietly t u → GrownQuietly t v
to t u v e g = subst (λ (w : E). GrownQuietly t w) (sym e) g

-- ---- the queue

expired_grown : (now : ℕ) (ms : List Queued) (t : E) → GrownQuietly t (emit_expired now ms t)
expired_grown now [] t = quietly_same t
expired_grown now (m ∷ rest) t = by (is_stale now m) (expired_grown now rest (emit_events (expired_events m.lifecycle) (emit_given_up m.number Lifetime t))) where
  dropped : E
  dropped = emit_events (expired_events m.lifecycle) (emit_given_up m.number Lifetime t)

  by : (b : Bool) → GrownQuietly dropped (emit_expired now rest dropped) → GrownQuietly t (if b then emit_expired now rest dropped else t)
  by true g = quietly_through t dropped (emit_expired now rest dropped) (quietly_dropped m.number Lifetime m.lifecycle t) g
  by false g = quietly_same t

quiet_when : (b : Bool) (e : Event (List ℕ)) → AreQuiet (e ∷ []) → AreQuiet (when b e)
quiet_when true e quiet = quiet
quiet_when false e quiet = refl

quiet_sent : (lifecycle : Option ℕ) → AreQuiet {P = List ℕ} (fully_sent lifecycle)
quiet_sent None = refl
quiet_sent (Some id) = refl

quiet_production : (id : ℕ) (is_low is_total_low : Bool) (lifecycle : Option ℕ) → AreQuiet {P = List ℕ} (production id is_low is_total_low lifecycle)
quiet_production id is_low is_total_low lifecycle =
    quiet_both (when is_low (OnBufferedAmountLow id)) (when is_total_low OnTotalBufferedAmountLow ++ fully_sent lifecycle) (quiet_when is_low (OnBufferedAmountLow id) refl)
    (quiet_both (when is_total_low OnTotalBufferedAmountLow) (fully_sent lifecycle) (quiet_when is_total_low OnTotalBufferedAmountLow refl) (quiet_sent lifecycle))

fallen_grown : (id : ℕ) (before after : Streams) (t : E) → GrownQuietly t (emit_fallen id before after t)
fallen_grown id before after t =
    let is_low = falls_low id before after in
    let is_total_low = total_falls_low before after in
    quietly_emitted (production id is_low is_total_low None) t (quiet_production id is_low is_total_low None)

stale_grown : (now id : ℕ) (ss : Streams) (t : E) → GrownQuietly t (emit_stale now id ss t)
stale_grown now id ss t =
    let u = emit_expired now (stream id ss).messages t in
    quietly_through t u (emit_stale now id ss t) (expired_grown now (stream id ss).messages t) (fallen_grown id ss (streams_without_stale now id ss) u)

made_grown : (id : ℕ) (is_low is_total_low : Bool) (made : Option Produced) (t : E) → GrownQuietly t (emitted_made id is_low is_total_low made t)
made_grown id is_low is_total_low None t = quietly_same t
made_grown id is_low is_total_low (Some p) t = quietly_emitted (production id is_low is_total_low p.lifecycle) t (quiet_production id is_low is_total_low p.lifecycle)

discarded_grown : (id : ℕ) (ss : Streams) (found : Option (Option ℕ)) (q : Queue) (t : E) → GrownQuietly t (discard_from id ss found q t).emitted
discarded_grown id ss None q t = quietly_same t
discarded_grown id ss (Some lifecycle) q t =
    let u = emit_events (expired_events lifecycle) t in
    quietly_through t u (emit_fallen id q.streams ss u) (quietly_emitted (expired_events lifecycle) t (quiet_expired (List ℕ) lifecycle)) (fallen_grown id q.streams ss u)

discards_grown : (ds : List Discard) (q : Queue) (t : E) → GrownQuietly t (discard_all ds q t).emitted
discards_grown [] q t = quietly_same t
discards_grown (d ∷ ds) q t =
    let x = discard d.stream d.number q t in
    quietly_through t x.emitted (discard_all ds x.queue x.emitted).emitted
    (discarded_grown d.stream (streams_discarded d.stream d.number q.streams) (front_discarded d.number (stream d.stream q.streams).messages) q t) (discards_grown ds x.queue x.emitted)

module _ (now size : ℕ) where
  turn_grown : (id : ℕ) (q : Queue) (t : E) → GrownQuietly t (turn now id size q t).emitted
  turn_grown id q t =
      let ss = streams_without_stale now id q.streams in
      let s : Stream = stream id ss in
      let u = emit_stale now id q.streams t in
      quietly_through t u (turn now id size q t).emitted (stale_grown now id q.streams t)
      (made_grown id (crosses (watched_amount s) (watched_amount (advance size s))) (crosses (watched_total ss) (watched_total (streams_after id size ss))) (next_fragment id size s) u)

  within_grown : (turns : ℕ) (q : Queue) (t : E) → GrownQuietly t (produce_within turns now size q t).emitted
  within_grown zero q t = quietly_same t
  within_grown (suc turns) q t = next (within_grown turns) (next_stream q) where
    Others : Type 0
    Others = (r : Queue) (u : E) → GrownQuietly u (produce_within turns now size r u).emitted

    by : Others → (b : Bool) (x : Turn (List ℕ)) → GrownQuietly t x.emitted → GrownQuietly t (if b then x else produce_within turns now size x.queue x.emitted).emitted
    by others true x g = g
    by others false x g = quietly_through t x.emitted (produce_within turns now size x.queue x.emitted).emitted g (others x.queue x.emitted)

    next : Others → (found : Option ℕ) → GrownQuietly t (unwrap_or (option_map (λ id. let x = turn now id size q t in if is_some x.made then x else produce_within turns now size x.queue x.emitted) found) (idle q t)).emitted
    next others None = quietly_same t
    next others (Some id) = by others (is_some (turn now id size q t).made) (turn now id size q t) (turn_grown id q t)

  produced_grown : (q : Queue) (t : E) → GrownQuietly t (produce now size q t).emitted
  produced_grown q t = within_grown (length q.scheduler.times + 2) q t

  passed_grown : (turns : ℕ) (q : Queue) (t : E) (rest : Queue) (later : E) → Passed turns now size q t rest later → GrownQuietly t later
  passed_grown zero q t rest later p = to t t later p.events (quietly_same t)
  passed_grown (suc turns) q t rest later p =
      let x = turn now p.0 size q t in
      quietly_through t x.emitted later (turn_grown p.0 q t) (passed_grown turns x.queue x.emitted rest later p.1.1.1)

  stopped_grown : (id : ℕ) (q : Queue) (t : E) (rest : Queue) (later : E) → Stopped now id q t rest later → GrownQuietly t later
  stopped_grown id q t rest later (inl same) = to t t later same.events (quietly_same t)
  stopped_grown id q t rest later (inr freed) = to t (emit_stale now id q.streams t) later freed.events (stale_grown now id q.streams t)

  interrupted_grown : (q : Queue) (t : E) (rest : Queue) (later : E) → Interrupted now size q t rest later → GrownQuietly t later
  interrupted_grown q t rest later i = quietly_through t i.emitted later (passed_grown i.turns q t i.queue i.emitted i.passed) (stopped_grown i.id i.queue i.emitted rest later i.stopped)

-- ---- a packet that is filled

module _ (now : ℕ) where
  appended : (made : Option Produced) (x : Filling (List ℕ)) → (append now made x).emitted ≡ x.emitted
  appended None x = refl
  appended (Some p) x = refl

  step_grown : (x : Filling (List ℕ)) → GrownQuietly x.emitted (next_turn now x).filling.emitted
  step_grown x = by (may_send_new x.sender && nat_lt 0 (offered_payload x.left x.sender)) where
    by : (b : Bool) → GrownQuietly x.emitted (queue_step_if b now x).filling.emitted
    by true =
        let y = produce now (offered_payload x.left x.sender) x.queue x.emitted in
        let z : Filling (List ℕ) = record x { queue = y.queue; emitted = y.emitted } in
        to x.emitted y.emitted (append now y.made z).emitted (appended y.made z) (produced_grown now (offered_payload x.left x.sender) x.queue x.emitted)
    by false = quietly_same x.emitted

  filled_grown : (turns : ℕ) (x : Filling (List ℕ)) → GrownQuietly x.emitted (fill turns now x).emitted
  filled_grown zero x = quietly_same x.emitted
  filled_grown (suc turns) x = by (next_turn now x).is_more (filled_grown turns (next_turn now x).filling) where
    y : Filling (List ℕ)
    y = (next_turn now x).filling

    by : (b : Bool) → GrownQuietly y.emitted (fill turns now y).emitted → GrownQuietly x.emitted (if b then fill turns now y else y).emitted
    by true g = quietly_through x.emitted y.emitted (fill turns now y).emitted (step_grown x) g
    by false g = step_grown x

  turns_grown : (turns : ℕ) (x : Filling (List ℕ)) → GrownQuietly x.emitted (after_turns turns now x).emitted
  turns_grown zero x = quietly_same x.emitted
  turns_grown (suc turns) x =
      let y = after_turns turns now x in
      quietly_through x.emitted y.emitted (next_turn now y).filling.emitted (turns_grown turns x) (step_grown y)

  turn_stopped_grown : (x : Filling (List ℕ)) (after : Sender) (rest : Queue) (later : E) → NotProduced now x after rest later ⊎ NotAppended now x after rest later → GrownQuietly x.emitted later
  turn_stopped_grown x after rest later (inl none) = interrupted_grown now (offered_payload x.left x.sender) x.queue x.emitted rest later none.queue
  turn_stopped_grown x after rest later (inr some) =
      to x.emitted (produce now (offered_payload x.left x.sender) x.queue x.emitted).emitted later some.events (produced_grown now (offered_payload x.left x.sender) x.queue x.emitted)

  partly_filled_grown : (x : Filling (List ℕ)) (after : Sender) (rest : Queue) (later : E) → PartlyFilled now x after rest later → GrownQuietly x.emitted later
  partly_filled_grown x after rest later h =
      let y = after_turns h.turns now x in
      quietly_through x.emitted y.emitted later (turns_grown h.turns x) (turn_stopped_grown y after rest later h.turn.stopped)

sent_grown : (now most : ℕ) (s : Sender) (q : Queue) (t : E) → GrownQuietly t (send now most s q t).emitted
sent_grown now most s q t =
    let d = discard_all s.outstanding.items.discards q t in
    let x = filled_with most (without_discards s) (resent most (without_discards s)) d in
    quietly_through t d.emitted (fill (suc x.left) now x).emitted (discards_grown s.outstanding.items.discards q t) (filled_grown now (suc x.left) x)

pub sent_events : (now most : ℕ) (s : Sender) (q : Queue) (t u : E) → u ≡ (send now most s q t).emitted → GrownQuietly t u
sent_events now most s q t u e = to t (send now most s q t).emitted u e (sent_grown now most s q t)

pub partly_sent_events : (now most : ℕ) (s : Sender) (q : Queue) (t : E) (after : Sender) (rest : Queue) (later : E) → PartlySent now most s q t after rest later → GrownQuietly t later
partly_sent_events now most s q t after rest later (inl h) =
    to t (discard_all (take h.discarded.count s.outstanding.items.discards) q t).emitted later h.discarded.queue.events (discards_grown (take h.discarded.count s.outstanding.items.discards) q t)
partly_sent_events now most s q t after rest later (inr (inl h)) = to t (discard_all s.outstanding.items.discards q t).emitted later h.queue.events (discards_grown s.outstanding.items.discards q t)
partly_sent_events now most s q t after rest later (inr (inr h)) =
    let d = discard_all s.outstanding.items.discards q t in
    let x = filled_with most (without_discards s) (resent most (without_discards s)) d in
    quietly_through t d.emitted later (discards_grown s.outstanding.items.discards q t) (partly_filled_grown now x after rest later h)

-- ---- items that are missing, and lifetimes

nacked_one : (indication : MissIndication) (fast : Bool) (k : ℕ) (i : Item) (x : Step (List ℕ)) (b : Bool) → is_to_be_abandoned x.items.is_partial indication i ≡ b → GrownQuietly x.emitted (nack_item indication fast k i x).emitted
nacked_one indication fast k i x true e = rw e (quietly_given_up i.number (Retransmissions (i.sent - 1)) x.emitted)
nacked_one indication fast k i x false e = rw e (quietly_same x.emitted)

nacked_at : (indication : MissIndication) (fast : Bool) (k : ℕ) (x : Step (List ℕ)) → GrownQuietly x.emitted (nack_at indication fast k x).emitted
nacked_at indication fast k x = by (slice_get x.items.kept k) where
  by : (found : Option Item) → GrownQuietly x.emitted (unwrap_or (option_map (λ i. nack_item indication fast k i x) found) x).emitted
  by None = quietly_same x.emitted
  by (Some i) = nacked_one indication fast k i x (is_to_be_abandoned x.items.is_partial indication i) refl

nacked_grown : (indication : MissIndication) (fast : Bool) (count : ℕ) (x : Step (List ℕ)) → GrownQuietly x.emitted (nack_below indication fast count x).emitted
nacked_grown indication fast zero x = quietly_same x.emitted
nacked_grown indication fast (suc n) x =
    let y = nack_below indication fast n x in
    quietly_through x.emitted y.emitted (nack_at indication fast n y).emitted (nacked_grown indication fast n x) (nacked_at indication fast n y)

given_up_grown : (found : Option ℕ) (x : Step (List ℕ)) → GrownQuietly x.emitted (given_up_if found x).emitted
given_up_grown None x = quietly_same x.emitted
given_up_grown (Some n) x = quietly_given_up n Lifetime x.emitted

expired_below_grown : (now count : ℕ) (x : Step (List ℕ)) → GrownQuietly x.emitted (expire_below now count x).emitted
expired_below_grown now zero x = quietly_same x.emitted
expired_below_grown now (suc n) x =
    let y = expire_below now n x in
    quietly_through x.emitted y.emitted (given_up_if (expired_at now n y.items) y).emitted (expired_below_grown now n x) (given_up_grown (expired_at now n y.items) y)

pub expired_events_stand : (now : ℕ) (s : Sender) (t u : E) → u ≡ (expire_outstanding now s.outstanding.items t).emitted → GrownQuietly t u
expired_events_stand now s t u e =
    to t (expire_outstanding now s.outstanding.items t).emitted u e (expired_below_grown now (length s.outstanding.items.kept) (first_step s.outstanding.items t))

pub partly_expired_events : (now : ℕ) (s : Sender) (t : E) (after : Sender) (later : E) → PartlyExpired now s t after later → GrownQuietly t later
partly_expired_events now s t after later h =
    to t (expire_below now h.items.0 (first_step s.outstanding.items t)).emitted later h.items.1.events (expired_below_grown now h.items.0 (first_step s.outstanding.items t))

pub timed_out_events : (s : Sender) (t u : E) → u ≡ (nack_all s.outstanding.items t).emitted → GrownQuietly t u
timed_out_events s t u e =
    to t (nack_all s.outstanding.items t).emitted u e (nacked_grown Timeout false (length s.outstanding.items.kept) (first_step s.outstanding.items t))

pub partly_timed_out_events : (now : ℕ) (s : Sender) (t : E) (after : Sender) (later : E) → PartlyTimedOut now s t after later → GrownQuietly t later
partly_timed_out_events now s t after later h =
    to t (nack_below Timeout false h.items.0 (first_step s.outstanding.items t)).emitted later h.items.1.events (nacked_grown Timeout false h.items.0 (first_step s.outstanding.items t))

-- ---- a SACK

quiet_ending : (b : Bool) (lifecycle : Option ℕ) → AreQuiet {P = List ℕ} (ending b lifecycle)
quiet_ending b None = refl
quiet_ending true (Some id) = refl
quiet_ending false (Some id) = refl

quiet_left : (is_end b : Bool) (lifecycle : Option ℕ) → AreQuiet {P = List ℕ} (if is_end then ending b lifecycle else [])
quiet_left true b lifecycle = quiet_ending b lifecycle
quiet_left false b lifecycle = refl

quiet_leaving : (is : List Item) → AreQuiet {P = List ℕ} (all_leaving_events is)
quiet_leaving [] = refl
quiet_leaving (i ∷ is) = quiet_both (leaving_events i) (all_leaving_events is) (quiet_left i.fragment.is_end (is_abandoned i) i.lifecycle) (quiet_leaving is)

sack_first_grown : (n : ℕ) (blocks : List GapAckBlock) (s : Items) (t : E) → GrownQuietly t (receive_sack_first n blocks s t).emitted
sack_first_grown n blocks s t = quietly_emitted (all_leaving_events (take (leaving n s) s.kept)) t (quiet_leaving (take (leaving n s) s.kept))

sack_below_grown : (n : ℕ) (blocks : List GapAckBlock) (indication : MissIndication) (fast : Bool) (count : ℕ) (s : Items) (t : E) → GrownQuietly t (nack_below indication fast count (receive_sack_first n blocks s t)).emitted
sack_below_grown n blocks indication fast count s t =
    let x = receive_sack_first n blocks s t in
    quietly_through t x.emitted (nack_below indication fast count x).emitted (sack_first_grown n blocks s t) (nacked_grown indication fast count x)

sack_step_grown : (valid : Bool) (n : ℕ) (blocks : List GapAckBlock) (s : Sender) (t : E) → GrownQuietly t (emitted_if valid n blocks s t)
sack_step_grown true n blocks s t = sack_below_grown n blocks (report_by s.windows.avoids_stalls n blocks s.outstanding.items) (not (not (is_open n s.windows))) (reported_below blocks (staying n s.outstanding.items)) s.outstanding.items t
sack_step_grown false n blocks s t = quietly_same t

pub sack_events : (n : ℕ) (blocks : List GapAckBlock) (s : Sender) (t u : E) → u ≡ emitted_if (is_valid n blocks s.outstanding.items) n blocks s t → GrownQuietly t u
sack_events n blocks s t u e = to t (emitted_if (is_valid n blocks s.outstanding.items) n blocks s t) u e (sack_step_grown (is_valid n blocks s.outstanding.items) n blocks s t)

pub partly_acknowledged_events : (n : ℕ) (blocks : List GapAckBlock) (s : Sender) (t : E) (after : Sender) (later : E) → PartlyAcknowledged n blocks s t after later → GrownQuietly t later
partly_acknowledged_events n blocks s t after later h = by h.items where
  by : Same s.outstanding t after.outstanding later ⊎ SackPartlyTaken n blocks s.windows.avoids_stalls (not (is_open n s.windows)) s.outstanding t after.outstanding later → GrownQuietly t later
  by (inl same) = to t t later same.events (quietly_same t)
  by (inr part) = to t (nack_below (report_by s.windows.avoids_stalls n blocks s.outstanding.items) (not (not (is_open n s.windows))) part.0 (receive_sack_first n blocks s.outstanding.items t)).emitted later part.1.events (sack_below_grown n blocks (report_by s.windows.avoids_stalls n blocks s.outstanding.items) (not (not (is_open n s.windows))) part.0 s.outstanding.items t)
