-- What is emitted and announces no association.
use Rattle.std.proofs.Common.{◌≡◌, ℕ, ◌+◌, Bool, true, false, cond, Option, Some, None, List, [], ◌∷◌, ◌++◌, length, refl, ap, sym, subst, ◌∙◌, arith}
use Rattle.std.specs.Prelude.{filter}
use Rattle.std.specs.Map.{keys_of}
use Rattle.std.proofs.lemmas.List.{length-append}
use Rattle.std.proofs.lemmas.List.Elements.{filter-append}
use Rattle.sctp_state.specs.declared.api.GivenUpCause.{GivenUpCause}
use Rattle.sctp_state.specs.declared.api.GivenUpCause.TheVariants.{Ended, Reset}
use Rattle.sctp_state.specs.Events.{Event, Emitted, OnBufferedAmountLow, emit_event, emit_events, emit_given_up, expired_events}
use Rattle.sctp_state.proofs.EventLemmas.{grown_same, grown_through, grown_emitted, grown_given_up}
use Rattle.sctp_tx_queue.specs.SendQueue.{Queue, Queued, stream}
use Rattle.sctp_tx_queue.specs.Emptied.{emptied_one, emit_ended, emit_each_ended, empty}
use Rattle.sctp_tx_queue.specs.Produced.{when}
use Rattle.sctp_tx_queue.specs.Resets.{emit_unsent, is_partly}
use Rattle.sctp_endpoint.specs.GoesOn.{announces, GrownQuietly}

abbrev pub AreQuiet : {P : Type 0} → List (Event P) → Type 0
AreQuiet es = length (filter announces es) ≡ 0

pub quiet_both : {P : Type 0} (es fs : List (Event P)) → AreQuiet es → AreQuiet fs → AreQuiet (es ++ fs)
quiet_both es fs e f = ap length (filter-append announces es fs) ∙ length-append (filter announces es) (filter announces fs) ∙ omega (arith, e, f)

pub quietly_same : {P : Type 0} (t : Emitted P) → GrownQuietly t t
quietly_same t = record { stands = grown_same t; announced = refl }

pub quietly_through : {P : Type 0} (t u v : Emitted P) → GrownQuietly t u → GrownQuietly u v → GrownQuietly t v
quietly_through t u v g h = record { stands = grown_through t u v g.stands h.stands; announced = h.announced ∙ g.announced }

pub quietly_emitted : {P : Type 0} (es : List (Event P)) (t : Emitted P) → AreQuiet es → GrownQuietly t (emit_events es t)
quietly_emitted es t quiet = record {
  stands = grown_emitted es t;
  announced = ap length (filter-append announces t.events es) ∙ length-append (filter announces t.events) (filter announces es) ∙ omega (arith, quiet);
}

pub quietly_given_up : {P : Type 0} (n : ℕ) (cause : GivenUpCause) (t : Emitted P) → GrownQuietly t (emit_given_up n cause t)
quietly_given_up n cause t = record { stands = grown_given_up n cause t; announced = refl }

pub quietly_as : {P : Type 0} (t u v : Emitted P) → v ≡ u → GrownQuietly t u → GrownQuietly t v
quietly_as {P} t u v e g = subst (λ (w : Emitted P). GrownQuietly t w) (sym e) g

one_quiet : {P : Type 0} (e : Event P) → announces e ≡ false → AreQuiet (e ∷ [])
one_quiet {P} e quiet = ap (λ (b : Bool). let es : List (Event P) = cond b (e ∷ []) [] in length es) quiet

pub quietly_by : (e : Event (List ℕ)) (t u : Emitted (List ℕ)) → announces e ≡ false → u ≡ emit_event e t → GrownQuietly t u
quietly_by e t u quiet is = quietly_as t (emit_event e t) u is (quietly_emitted (e ∷ []) t (one_quiet e quiet))

-- ---- messages that are dropped

pub quiet_expired : (P : Type 0) (lifecycle : Option ℕ) → AreQuiet {P = P} (expired_events lifecycle)
quiet_expired P None = refl
quiet_expired P (Some id) = refl

pub quietly_dropped : {P : Type 0} (n : ℕ) (cause : GivenUpCause) (lifecycle : Option ℕ) (t : Emitted P) → GrownQuietly t (emit_events (expired_events lifecycle) (emit_given_up n cause t))
quietly_dropped {P} n cause lifecycle t =
    let given_up : Emitted P = emit_given_up n cause t in
    quietly_through t given_up (emit_events (expired_events lifecycle) given_up) (quietly_given_up n cause t) (quietly_emitted (expired_events lifecycle) given_up (quiet_expired P lifecycle))

ended_quietly : {P : Type 0} (ms : List Queued) (t : Emitted P) → GrownQuietly t (emit_ended ms t)
ended_quietly [] t = quietly_same t
ended_quietly {P} (m ∷ rest) t =
    let next : Emitted P = emit_events (expired_events m.lifecycle) (emit_given_up m.number Ended t) in
    quietly_through t next (emit_ended rest next) (quietly_dropped m.number Ended m.lifecycle t) (ended_quietly rest next)

each_ended_quietly : {P : Type 0} (ids : List ℕ) (q : Queue) (t : Emitted P) → GrownQuietly t (emit_each_ended ids q t)
each_ended_quietly [] q t = quietly_same t
each_ended_quietly {P} (id ∷ ids) q t =
    let next : Emitted P = emit_ended (stream id q.streams).messages t in
    quietly_through t next (emit_each_ended ids (emptied_one id q) next) (ended_quietly (stream id q.streams).messages t) (each_ended_quietly ids (emptied_one id q) next)

pub quietly_emptied : (q : Queue) (t u : Emitted (List ℕ)) → u ≡ (empty q t).emitted → GrownQuietly t u
quietly_emptied q t u is = quietly_as t (empty q t).emitted u is (each_ended_quietly (keys_of q.streams.entries) q t)

pub quietly_waiting : {P : Type 0} (ms : List Queued) (t : Emitted P) → GrownQuietly t (emit_unsent ms t)
quietly_waiting [] t = quietly_same t
quietly_waiting {P} (m ∷ rest) t = quietly_through t (next (is_partly m)) (emit_unsent rest (next (is_partly m))) (step (is_partly m)) (quietly_waiting rest (next (is_partly m)))
  where
    next : Bool → Emitted P
    next b = cond b t (emit_events (expired_events m.lifecycle) (emit_given_up m.number Reset t))

    step : (b : Bool) → GrownQuietly t (next b)
    step true = quietly_same t
    step false = quietly_dropped m.number Reset m.lifecycle t

-- an amount that fell to its threshold
pub quietly_low : (b : Bool) (id : ℕ) (t : Emitted (List ℕ)) → GrownQuietly t (emit_events (when b (OnBufferedAmountLow id)) t)
quietly_low true id t = quietly_emitted (OnBufferedAmountLow id ∷ []) t refl
quietly_low false id t = quietly_emitted [] t refl
