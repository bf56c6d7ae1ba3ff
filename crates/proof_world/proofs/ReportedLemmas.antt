-- The lifecycle ids that the log has as delivered are those that the trace's end reported as delivered.
use Rattle.std.proofs.Common.{◌≡◌, ℕ, ◌+◌, List, [], ◌∷◌, ◌++◌, refl, sym, ap, ◌∙◌, append-nil}
use Rattle.std.proofs.lemmas.Grind.{flat_map-append}
use Rattle.sctp_state.specs.Events.{Event, SendPacket, OnConnected, OnClosed, OnConnectionRestarted, OnAborted, OnError, OnBufferedAmountLow, OnTotalBufferedAmountLow, OnStreamsResetFailed, OnStreamsResetPerformed, OnIncomingStreamReset, OnLifecycleMessageFullySent, OnLifecycleMessageMaybeExpired, OnLifecycleMessageExpired, OnLifecycleMessageDelivered, OnLifecycleEnd}
use Rattle.proof_endpoint.specs.Mapped.{Mapping, Carried, as_bytes}
use Rattle.proof_refines.specs.Reachable.{delivered_ids}
use Rattle.proof_pair.specs.Trace as traces
use Rattle.spec_world.specs.Observations.{End, A, B, same_end, none_unless, Entry, Called, Given, Foreign, Timed, Associated, EmittedPacket, EmittedEvent, GaveUp, BecameReady}
use Rattle.spec_world.specs.World.{Side, emitted_entries}
use Rattle.proof_world.specs.Traces.{emitted_by, emitted_in}
use Rattle.proof_world.specs.Delivered.{reported_by, reported}
use Rattle.proof_world.proofs.EventLemmas.{mapped}
use Rattle.proof_world.proofs.LoggedLemmas.{reports_none}
use Rattle.proof_world.proofs.SidesLemmas.{Good}

-- ---- one end's events

own_more : (x : End) (id : ℕ) (more rest : List ℕ) → more ≡ rest → none_unless (same_end x x) id ++ more ≡ id ∷ rest
own_more A id more rest e = ap (λ (l : List ℕ). id ∷ l) e
own_more B id more rest e = ap (λ (l : List ℕ). id ∷ l) e

pub reported_emitted : (f : Mapping Carried (List ℕ)) (x : End) (n : ℕ) (es : List (Event Carried)) → reported x (emitted_entries x n (mapped f es)) ≡ delivered_ids es
reported_emitted f x n [] = refl
reported_emitted f x n (SendPacket p ∷ es) = reported_emitted f x (n + 1) es
reported_emitted f x n (OnConnected ∷ es) = reported_emitted f x n es
reported_emitted f x n (OnClosed ∷ es) = reported_emitted f x n es
reported_emitted f x n (OnConnectionRestarted ∷ es) = reported_emitted f x n es
reported_emitted f x n (OnAborted kind text ∷ es) = reported_emitted f x n es
reported_emitted f x n (OnError kind text ∷ es) = reported_emitted f x n es
reported_emitted f x n (OnBufferedAmountLow id ∷ es) = reported_emitted f x n es
reported_emitted f x n (OnTotalBufferedAmountLow ∷ es) = reported_emitted f x n es
reported_emitted f x n (OnStreamsResetFailed ids ∷ es) = reported_emitted f x n es
reported_emitted f x n (OnStreamsResetPerformed ids ∷ es) = reported_emitted f x n es
reported_emitted f x n (OnIncomingStreamReset ids ∷ es) = reported_emitted f x n es
reported_emitted f x n (OnLifecycleMessageFullySent id ∷ es) = reported_emitted f x n es
reported_emitted f x n (OnLifecycleMessageMaybeExpired id ∷ es) = reported_emitted f x n es
reported_emitted f x n (OnLifecycleMessageExpired id ∷ es) = reported_emitted f x n es
reported_emitted f x n (OnLifecycleMessageDelivered id ∷ es) = own_more x id _ _ (reported_emitted f x n es)
reported_emitted f x n (OnLifecycleEnd id ∷ es) = reported_emitted f x n es

-- ---- whole logs

reported_step : (x : End) (e : Entry) → reported x (emitted_by x e) ≡ reported_by x e
reported_step x (Called y clock call answer) = refl
reported_step x (Given y clock packet) = refl
reported_step x (Foreign y clock bytes) = refl
reported_step x (Timed y clock now) = refl
reported_step x (Associated y a) = refl
reported_step x (GaveUp y g) = refl
reported_step x (BecameReady y m) = refl
reported_step A (EmittedPacket A packet) = refl
reported_step A (EmittedPacket B packet) = refl
reported_step B (EmittedPacket A packet) = refl
reported_step B (EmittedPacket B packet) = refl
reported_step A (EmittedEvent A event) = append-nil (reported_by A (EmittedEvent A event))
reported_step A (EmittedEvent B event) = sym (reports_none A B event refl)
reported_step B (EmittedEvent A event) = sym (reports_none B A event refl)
reported_step B (EmittedEvent B event) = append-nil (reported_by B (EmittedEvent B event))

pub reported_by_emitted : (x : End) (log : List Entry) → reported x log ≡ reported x (emitted_in x log)
reported_by_emitted x [] = refl
reported_by_emitted x (e ∷ log) =
    ap (λ (l : List ℕ). reported_by x e ++ l) (reported_by_emitted x log)
    ∙ ap (λ (l : List ℕ). l ++ reported x (emitted_in x log)) (sym (reported_step x e))
    ∙ sym (flat_map-append (reported_by x) (emitted_by x e) (emitted_in x log))

pub reported_is : (word_of : List ℕ → ℕ) (x : End) (log : List Entry) (others : List (List ℕ)) (side : Side) (end : traces.Side) → Good word_of x log others side end
    → reported x log ≡ delivered_ids end.emitted
reported_is word_of x log others side end g =
    reported_by_emitted x log ∙ (ap (reported x) g.image.emitted ∙ reported_emitted (as_bytes word_of) x 0 end.emitted)
