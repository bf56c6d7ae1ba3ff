-- Along each trace in which no handover is taken up, records of messages given up are justified.
use Rattle.std.proofs.Common.{◌≡◌, ◌||◌, not, ℕ, ◌^◌, ◌<◌, Bool, true, false, Option, Some, None, List, [], ◌∷◌, ◌++◌, length, map, slice_get, refl, sym, ap, subst, ◌∙◌, append_assoc, append-nil}
use Rattle.std.specs.List.{AllByRecursion, list_any}
use Rattle.std.proofs.lemmas.List.{length-map, map-append}
use Rattle.std.proofs.lemmas.Bool.{both_ways, or_parts, not-true}
use Rattle.rand_core.specs.Stream.{Stream}
use Rattle.sctp_serial.specs.Messages.{Message}
use Rattle.sctp_packet.specs.Packet.{PacketTree}
use Rattle.sctp_state.specs.declared.api.errors.SendError.{SendError}
use Rattle.sctp_state.specs.Events.{GivenUp}
use Rattle.sctp_state.specs.Options.{Options, SendOptions}
use Rattle.spec_endpoint.specs.Association.{EndpointState, Endpoint, where_open, with_context}
use Rattle.sctp_state.specs.declared.api.errors.ResetStreamsError.{ResetStreamsError}
use Rattle.spec_endpoint.specs.StreamReset.{reset_refusal, streams_reset_unless}
use Rattle.spec_endpoint.specs.Sending.{send_in}
use Rattle.spec_endpoint.specs.Calls.{shown_state, send_refusal_of, offer, offer_all, sent_unless}
use Rattle.spec_endpoint.specs.Input.{packet_refusal, in_endpoint_state}
use Rattle.spec_endpoint.specs.Laws.{Call, Connect, Close, Shutdown, Send, SendMany, ResetStreams, TakeMessage, SetLowThreshold, SetPriority, SetMaxMessageSize, Advance, HandOver, Restore, ReceivePacket, ReceiveNoPacket, called}
use Rattle.proof_endpoint.specs.Mapped.{Carried}
use Rattle.proof_endpoint.specs.Acts.{idle, calm, IsOffered}
use Rattle.proof_pair.specs.Trace.{Side, Pair, emitted_packets, EndAction, Calls, Gives, Refuses, as_received, drain, give_carried, foreign_if, act, goes, side_of, start, state_of}
use Rattle.proof_endpoint.proofs.CallActsLemmas.{does_send_in}
use Rattle.proof_endpoint.proofs.RowActsLemmas.{placed, does_where_open}
use Rattle.proof_endpoint.proofs.ActsLemmas.{keeps_call}
use Rattle.proof_endpoint.proofs.LivesLemmas.{offers, not_offered}
use Rattle.proof_endpoint.specs.Lifecycles.{is_restore}
use Rattle.proof_delivery.specs.Accepted.{AcceptedMessage, accepted_by, accepted_in, accepted_at, accepted}
use Rattle.proof_delivery.specs.Justified.{clock, Acceptance, accepted_then, acceptances, records_of, records_given, records_foreign, records_by, records_at, reset_unless, reset_by, reset_at, avoids_stalls, dated_record, dated_records, IsJustified, restores, RestoresNone, RecordsAreJustified, AcceptancesAreAccepted}
use Rattle.proof_delivery.specs.GivenUp.{kept_in}
use Rattle.proof_delivery.proofs.JustifiedQueueLemmas.{all_behind}
use Rattle.proof_delivery.proofs.JustifiedActsLemmas.{IsJustifiedAt, SoundAt, stays_sound}
use Rattle.proof_delivery.proofs.JustifiedOffersLemmas.{justified_more, shorter, offers_sound}

-- ---- calls that accept no message

abbrev is_steady : Call → Bool
is_steady call = not (offers call || is_restore call)

not_steady : (call c : Call) → is_steady call ≡ true → call ≡ c → is_steady c ≡ false → ⊥
not_steady call c e same f = (both_ways (is_steady call) (ap is_steady same ∙ f) e)

no_offer : (call : Call) → is_steady call ≡ true → (m : Message) (o : SendOptions) → IsOffered call m o → ⊥
no_offer call e m o is = not_offered call m o is ((or_parts (offers call) (is_restore call) (not-true (offers call || is_restore call) e)).0)

-- and reset these streams alone
abbrev ResetsJust : Call → List ℕ → Type 0
ResetsJust call resets = (streams : List ℕ) → call ≡ ResetStreams streams → resets ≡ streams

steady_sound : (old : List Acceptance) (resets : List ℕ) (call : Call) → is_steady call ≡ true → ResetsJust call resets → (e : Endpoint Carried) → SoundAt old resets (calm e)
    → SoundAt old resets (calm (called call e))
steady_sound old resets call steady asked e h =
    keeps_call call (stays_sound old resets call (no_offer call steady) (λ s is. not_steady call (Restore s) steady is refl) asked) e h

-- ---- each call

module _ (old : List Acceptance) where
  -- what may be sent goes out
  sent_sound : (s : EndpointState Carried) (w : Stream) → SoundAt old [] (placed s w) → SoundAt old [] (placed (where_open send_in s) w)
  sent_sound s w h =
      let k = stays_sound old [] TakeMessage (no_offer TakeMessage refl) (λ s is. not_steady TakeMessage (Restore s) refl is refl) (λ streams is. cc) in
      does_where_open k w send_in s (does_send_in k w) h

  sent_unless_sound : (r : Option SendError) (s : EndpointState Carried) (w : Stream) → SoundAt old [] (placed s w) → SoundAt old [] (placed (sent_unless r s) w)
  sent_unless_sound None s w h = sent_sound s w h
  sent_unless_sound (Some e) s w h = h

-- with what an action of the end accepts
abbrev with_call : List Acceptance → Call → Side → List Acceptance
with_call old call x = old ++ map (accepted_then (clock x)) (accepted_by call x)

-- between actions
abbrev pub Rests : List Acceptance → Side → Type 0
Rests all x = (resets : List ℕ) → SoundAt all resets (calm x.end)

module _ (old : List Acceptance) (x : Side) where
  offered_sound : (ms : List Message) (o : SendOptions) → length (with_call old (SendMany ms o) x) < 2 ^ 32 → SoundAt old [] (calm x.end)
      → SoundAt (with_call old (SendMany ms o) x) [] (idle (state_of x) (offer_all ms o (shown_state (state_of x)) x.end.endpoint_state.context) x.end.draws)
  offered_sound ms o few h = offers_sound [] (kept_in (state_of x)) o (shown_state (state_of x)) ms old x.end.endpoint_state.context few h

  nothing_more : (resets : List ℕ) (call : Call) → is_steady call ≡ true → ResetsJust call resets → SoundAt old resets (calm x.end) → SoundAt (old ++ []) resets (calm (called call x.end))
  nothing_more resets call steady asked h =
      subst (λ (xs : List Acceptance). SoundAt xs resets (calm (called call x.end))) (sym (append-nil old)) (steady_sound old resets call steady asked x.end h)

  -- by whether streams can be reset
  abbrev after_reset_if : Option ResetStreamsError → (streams : List ℕ) → Endpoint Carried
  after_reset_if o streams = in_endpoint_state (streams_reset_unless o streams) x.end

  reset_sound : (streams : List ℕ) (o : Option ResetStreamsError) → reset_refusal (state_of x) ≡ o → Rests old x
      → SoundAt (old ++ []) (reset_unless o streams) (calm (after_reset_if o streams))
  reset_sound streams None e h =
      subst (λ (o : Option ResetStreamsError). SoundAt (old ++ []) streams (calm (after_reset_if o streams))) e
      (nothing_more streams (ResetStreams streams) refl (λ ids is. cc) (h streams))
  reset_sound streams (Some r) e h = subst (λ (xs : List Acceptance). SoundAt xs [] (calm x.end)) (sym (append-nil old)) (h [])

  call_sound : (call : Call) → restores (Calls call) ≡ false → length (with_call old call x) < 2 ^ 32 → Rests old x
      → SoundAt (with_call old call x) (reset_by (Calls call) x) (calm (called call x.end))
  call_sound (Send m o) none few h =
      sent_unless_sound (with_call old (Send m o) x) (send_refusal_of m x.end.endpoint_state)
      (with_context x.end.endpoint_state (offer m o (shown_state (state_of x)) x.end.endpoint_state.context)) x.end.draws (offered_sound (m ∷ []) o few (h []))
  call_sound (SendMany ms o) none few h =
      sent_sound (with_call old (SendMany ms o) x) (with_context x.end.endpoint_state (offer_all ms o (shown_state (state_of x)) x.end.endpoint_state.context)) x.end.draws
      (offered_sound ms o few (h []))
  call_sound (Restore s) none few h = cc
  call_sound Connect none few h = nothing_more [] Connect refl (λ ids is. cc) (h [])
  call_sound Close none few h = nothing_more [] Close refl (λ ids is. cc) (h [])
  call_sound Shutdown none few h = nothing_more [] Shutdown refl (λ ids is. cc) (h [])
  call_sound (ResetStreams streams) none few h = reset_sound streams (reset_refusal (state_of x)) refl h
  call_sound TakeMessage none few h = nothing_more [] TakeMessage refl (λ ids is. cc) (h [])
  call_sound (SetLowThreshold stream bytes) none few h = nothing_more [] (SetLowThreshold stream bytes) refl (λ ids is. cc) (h [])
  call_sound (SetPriority stream priority) none few h = nothing_more [] (SetPriority stream priority) refl (λ ids is. cc) (h [])
  call_sound (SetMaxMessageSize bytes) none few h = nothing_more [] (SetMaxMessageSize bytes) refl (λ ids is. cc) (h [])
  call_sound (Advance now) none few h = nothing_more [] (Advance now) refl (λ ids is. cc) (h [])
  call_sound HandOver none few h = nothing_more [] HandOver refl (λ ids is. cc) (h [])
  call_sound (ReceivePacket p) none few h = nothing_more [] (ReceivePacket p) refl (λ ids is. cc) (h [])
  call_sound ReceiveNoPacket none few h = nothing_more [] ReceiveNoPacket refl (λ ids is. cc) (h [])

-- ---- actions

-- after one that resets these streams, with its records
pub record Actions (all : List Acceptance) (resets : List ℕ) (x : Side) (records : List GivenUp) : Type 0 where
  pub rests : Rests all x
  pub justified : AllByRecursion (IsJustifiedAt all (avoids_stalls x) resets (clock x)) records

actions_took : (all : List Acceptance) (resets : List ℕ) (e : Endpoint Carried) (x : Side) → SoundAt all resets (calm e) → Actions all resets (drain e x) (records_of e)
actions_took all resets e x h = record { rests = λ later. record { holds = h.holds; stay = h.stay; justified = tt }; justified = h.justified }

actions_none : (all : List Acceptance) (resets : List ℕ) (x : Side) → Rests all x → Actions all resets x []
actions_none all resets x h = record { rests = h; justified = tt }

no_more : (old : List Acceptance) (x : Side) (records : List GivenUp) → Actions old [] x records → Actions (old ++ []) [] x records
no_more old x records t = subst (λ (xs : List Acceptance). Actions xs [] x records) (sym (append-nil old)) t

module _ (old : List Acceptance) (x y : Side) (h : Rests old x) where
  actions_given : (p : Option Carried) (checksum : ℕ) → Actions old [] (give_carried p checksum x) (records_given p checksum x)
  actions_given None checksum = actions_none old [] x h
  actions_given (Some p) checksum =
      let e : Endpoint Carried = called (ReceivePacket (as_received p checksum)) x.end in
      let t : Actions old [] (drain e x) (records_of e) = actions_took old [] e x (steady_sound old [] (ReceivePacket (as_received p checksum)) refl (λ ids is. cc) x.end (h [])) in
      record { rests = t.rests; justified = t.justified }

  actions_refused : (r : Option (List ℕ)) (p : PacketTree) → Actions old [] (foreign_if r p x) (records_foreign r p x)
  actions_refused None p = actions_none old [] x h
  actions_refused (Some text) p = actions_took old [] (called (ReceivePacket p) x.end) x (steady_sound old [] (ReceivePacket p) refl (λ ids is. cc) x.end (h []))

  abbrev with_action : EndAction → List Acceptance
  with_action t = old ++ map (accepted_then (clock x)) (accepted_in t x)

  action_justified : (t : EndAction) → restores t ≡ false → length (with_action t) < 2 ^ 32 → Actions (with_action t) (reset_by t x) (act t x y) (records_by t x y)
  action_justified (Calls call) none few = actions_took (with_action (Calls call)) (reset_by (Calls call) x) (called call x.end) x (call_sound old x call none few h)
  action_justified (Gives which checksum) none few = no_more old _ _ (actions_given (slice_get (emitted_packets y) which) checksum)
  action_justified (Refuses p) none few = no_more old _ _ (actions_refused (packet_refusal p.header.verification_tag p.chunks (state_of x)) p)

-- ---- traces

-- with what an action of either end accepts
abbrev pub accepted_now : (x acts : Bool) → EndAction → Pair → List Acceptance
accepted_now x acts t w = map (accepted_then (clock (side_of x w))) (accepted_at x acts t w)

pub goes_on : (old : List Acceptance) (x acts : Bool) (t : EndAction) (w : Pair) → restores t ≡ false → length (old ++ accepted_now x acts t w) < 2 ^ 32
    → Rests old (side_of x w) → Actions (old ++ accepted_now x acts t w) (reset_at x acts t w) (side_of x (goes acts t w)) (records_at x acts t w)
goes_on old true true t w none few h = action_justified old w.a w.b h t none few
goes_on old false false t w none few h = action_justified old w.b w.a h t none few
goes_on old true false t w none few h = no_more old w.a [] (actions_none old [] w.a h)
goes_on old false true t w none few h = no_more old w.b [] (actions_none old [] w.b h)

-- records of an action, where more messages are accepted later
all_then : (all more : List Acceptance) (avoids : Bool) (resets : List ℕ) (now : ℕ) (gs : List GivenUp) → AllByRecursion (IsJustifiedAt all avoids resets now) gs
    → AllByRecursion (IsJustified (all ++ more)) (map (dated_record avoids now resets) gs)
all_then all more avoids resets now [] h = tt
all_then all more avoids resets now (g ∷ gs) h = (justified_more resets all more avoids now g h.0, all_then all more avoids resets now gs h.1)

run_justified : (x : Bool) (es : List (Bool × EndAction)) (old : List Acceptance) (w : Pair) → RestoresNone es → length (old ++ acceptances x es w) < 2 ^ 32
    → Rests old (side_of x w) → AllByRecursion (IsJustified (old ++ acceptances x es w)) (dated_records x es w)
run_justified x [] old w none few h = tt
run_justified x (e ∷ es) old w none few h =
    let v : Pair = goes e.0 e.1 w in
    let later : Bool = list_any (λ (d : Bool × EndAction). restores d.1) es in
    let all : List Acceptance = old ++ accepted_now x e.0 e.1 w in
    let more : List Acceptance = acceptances x es v in
    let joins : all ++ more ≡ old ++ (accepted_now x e.0 e.1 w ++ more) = append_assoc old (accepted_now x e.0 e.1 w) more in
    let short : length (all ++ more) < 2 ^ 32 = subst (λ (xs : List Acceptance). length xs < 2 ^ 32) (sym joins) few in
    let avoids : Bool = avoids_stalls (side_of x v) in
    let now : ℕ = clock (side_of x v) in
    let resets : List ℕ = reset_at x e.0 e.1 w in
    let t : Actions all resets (side_of x v) (records_at x e.0 e.1 w) = goes_on old x e.0 e.1 w ((or_parts (restores e.1) later none).0) (shorter all more short) h in
    subst (λ (xs : List Acceptance). AllByRecursion (IsJustified xs) (dated_records x (e ∷ es) w)) joins
    (all_behind (IsJustified (all ++ more)) (map (dated_record avoids now resets) (records_at x e.0 e.1 w)) (dated_records x es v) (all_then all more avoids resets now (records_at x e.0 e.1 w) t.justified)
    (run_justified x es all v ((or_parts (restores e.1) later none).1) short t.rests))

-- ---- the laws

-- an acceptance's message
pub offers_back : (now : ℕ) (os : List AcceptedMessage) → map (λ (a : Acceptance). a.offer) (map (accepted_then now) os) ≡ os
offers_back now [] = refl
offers_back now (o ∷ os) = ap (λ (rest : List AcceptedMessage). o ∷ rest) (offers_back now os)

pub acceptances_accepted : AcceptancesAreAccepted
acceptances_accepted x [] w = refl
acceptances_accepted x (e ∷ es) w =
    let v : Pair = goes e.0 e.1 w in
    map-append (λ (a : Acceptance). a.offer) (accepted_now x e.0 e.1 w) (acceptances x es v)
    ∙ (ap (λ (os : List AcceptedMessage). os ++ map (λ (a : Acceptance). a.offer) (acceptances x es v)) (offers_back (clock (side_of x w)) (accepted_at x e.0 e.1 w))
    ∙ ap (λ (os : List AcceptedMessage). accepted_at x e.0 e.1 w ++ os) (acceptances_accepted x es v))

as_many : (x : Bool) (es : List (Bool × EndAction)) (w : Pair) → length (accepted x es w) ≡ length (acceptances x es w)
as_many x es w = sym (ap length (acceptances_accepted x es w)) ∙ length-map (acceptances x es w) (λ (a : Acceptance). a.offer)

pub at_first : (x : Bool) (a b : Options) (draws_a draws_b : Stream) → Rests [] (side_of x (start a b draws_a draws_b))
at_first true a b draws_a draws_b = λ resets. record { holds = record { stand = tt; counts = refl }; stay = tt; justified = tt }
at_first false a b draws_a draws_b = λ resets. record { holds = record { stand = tt; counts = refl }; stay = tt; justified = tt }

pub records_justified : RecordsAreJustified
records_justified a b draws_a draws_b trace none x few =
    let w : Pair = start a b draws_a draws_b in
    run_justified x trace [] w none (subst (λ (n : ℕ). n < 2 ^ 32) (as_many x trace w) few) (at_first x a b draws_a draws_b)
