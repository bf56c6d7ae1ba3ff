-- What was emitted stands, whatever is emitted behind it.
use Rattle.std.proofs.Common.{◌≡◌, ℕ, Bool, true, false, cond, List, [], ◌∷◌, Option, None, sym, subst}
use Rattle.sctp_state.specs.declared.api.GivenUpCause.{GivenUpCause}
use Rattle.sctp_state.specs.declared.api.GivenUpCause.TheVariants.{Lifetime, Reset}
use Rattle.sctp_state.specs.Events.{Event, Emitted, Grown, emit_events, emit_given_up, expired_events}
use Rattle.sctp_state.proofs.EventLemmas.{grown_same, grown_through, grown_emitted, grown_given_up}
use Rattle.sctp_tx_queue.specs.SendQueue.{Queued, Streams, stream}
use Rattle.sctp_tx_queue.specs.Produced.{is_stale, emit_expired, emit_fallen, emit_stale, falls_low, total_falls_low, production, streams_without_stale}
use Rattle.sctp_tx_queue.specs.Resets.{emit_unsent, is_partly}

pub grown_after : {P : Type 0} (es : List (Event P)) (t u v : Emitted P) → u ≡ emit_events es t → Grown u v → Grown t v
grown_after es t u v e g = grown_through t u v (subst (λ x. Grown t x) (sym e) (grown_emitted es t)) g

pub grown_after_record : {P : Type 0} (n : ℕ) (cause : GivenUpCause) (t u v : Emitted P) → u ≡ emit_given_up n cause t → Grown u v → Grown t v
grown_after_record n cause t u v e g = grown_through t u v (subst (λ x. Grown t x) (sym e) (grown_given_up n cause t)) g

pub grown_dropped : {P : Type 0} (n : ℕ) (cause : GivenUpCause) (lifecycle : Option ℕ) (t : Emitted P) → Grown t (emit_events (expired_events lifecycle) (emit_given_up n cause t))
grown_dropped n cause lifecycle t =
    let given_up = emit_given_up n cause t in
    grown_through t given_up (emit_events (expired_events lifecycle) given_up) (grown_given_up n cause t) (grown_emitted (expired_events lifecycle) given_up)

-- of messages that expired, and of amounts that fell as they are dropped
pub grown_expired : {P : Type 0} (now : ℕ) (ms : List Queued) (t : Emitted P) → Grown t (emit_expired now ms t)
grown_expired now [] t = grown_same t
grown_expired {P} now (m ∷ rest) t = by (is_stale now m) (grown_expired now rest dropped)
  where
    dropped : Emitted P
    dropped = emit_events (expired_events m.lifecycle) (emit_given_up m.number Lifetime t)

    by : (b : Bool) → Grown dropped (emit_expired now rest dropped) → Grown t (cond b (emit_expired now rest dropped) t)
    by true g = grown_through t dropped (emit_expired now rest dropped) (grown_dropped m.number Lifetime m.lifecycle t) g
    by false g = grown_same t

pub grown_fallen : {P : Type 0} (id : ℕ) (before after : Streams) (t : Emitted P) → Grown t (emit_fallen id before after t)
grown_fallen id before after t = grown_emitted (production id (falls_low id before after) (total_falls_low before after) None) t

pub grown_stale : {P : Type 0} (now id : ℕ) (ss : Streams) (t : Emitted P) → Grown t (emit_stale now id ss t)
grown_stale now id ss t =
    let u = emit_expired now (stream id ss).messages t in
    grown_through t u (emit_stale now id ss t) (grown_expired now (stream id ss).messages t) (grown_fallen id ss (streams_without_stale now id ss) u)

pub grown_waiting : {P : Type 0} (ms : List Queued) (t : Emitted P) → Grown t (emit_unsent ms t)
grown_waiting [] t = grown_same t
grown_waiting {P} (m ∷ rest) t = grown_through t (next (is_partly m)) (emit_unsent rest (next (is_partly m))) (step (is_partly m)) (grown_waiting rest (next (is_partly m)))
  where
    next : Bool → Emitted P
    next b = cond b t (emit_events (expired_events m.lifecycle) (emit_given_up m.number Reset t))

    step : (b : Bool) → Grown t (next b)
    step true = grown_same t
    step false = grown_dropped m.number Reset m.lifecycle t
