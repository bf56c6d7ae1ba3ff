-- What the log has of an end's events is what the trace's end emitted, but for its packets; and what that says of resets.
use Rattle.std.proofs.Common.{◌≡◌, ◌⊎◌, inl, inr, ℕ, suc, ◌+◌, Bool, true, false, cond, Option, List, [], ◌∷◌, ◌++◌, map, drop, refl, sym, ap, subst, ◌∙◌, append_assoc}
use Rattle.std.specs.List.{flat_map}
use Rattle.std.proofs.lemmas.Grind.{flat_map-append}
use Rattle.sctp_serial.specs.Messages.{Message}
use Rattle.sctp_state.specs.Events.{Event, GivenUp, SendPacket, OnConnected, OnClosed, OnConnectionRestarted, OnAborted, OnError, OnBufferedAmountLow, OnTotalBufferedAmountLow, OnStreamsResetFailed, OnStreamsResetPerformed, OnIncomingStreamReset, OnLifecycleMessageFullySent, OnLifecycleMessageMaybeExpired, OnLifecycleMessageExpired, OnLifecycleMessageDelivered, OnLifecycleEnd}
use Rattle.spec_endpoint.specs.Association.{Endpoint}
use Rattle.spec_endpoint.specs.Shown.{Association}
use Rattle.proof_endpoint.specs.Mapped.{Mapping, Carried, as_bytes}
use Rattle.proof_pair.specs.Trace as traces
use Rattle.proof_delivery.specs.Answered.{performed_in}
use Rattle.proof_delivery.specs.StreamEpochs.{are_named, performed_of, resets_emitted, failed_in}
use Rattle.spec_world.specs.Observations.{End, A, B, same_end, same_association, none_unless, Entry, Called, Given, Foreign, Timed, Associated, EmittedPacket, EmittedEvent, GaveUp, BecameReady, ready_by}
use Rattle.spec_world.specs.World.{Side, association, associated_unless, emitted_entries, given_up_entries, ready_before, news}
use Rattle.spec_endpoint.specs.Calls.{ready_at}
use Rattle.proof_world.specs.Traces.{emitted_by, emitted_in}
use Rattle.proof_world.specs.Delivered.{emitted_events_by, emitted_events, reset_by, begins_event}
use Rattle.proof_world.proofs.EventLemmas.{mapped, same_itself}
use Rattle.proof_world.proofs.LoggedLemmas.{IsQuietOn, behind_none, none_ready, none_associated, none_emitted, quiet_ready}
use Rattle.proof_world.proofs.PrefixLemmas.{none_behind, Longer, one_is_longer, split_head}
use Rattle.proof_world.proofs.SidesLemmas.{Good}

-- ---- events but for packets

abbrev pub bare : List (Event Carried) → List (Event (List ℕ))
bare [] = []
bare (SendPacket p ∷ es) = bare es
bare (OnConnected ∷ es) = OnConnected ∷ bare es
bare (OnClosed ∷ es) = OnClosed ∷ bare es
bare (OnConnectionRestarted ∷ es) = OnConnectionRestarted ∷ bare es
bare (OnAborted kind text ∷ es) = OnAborted kind text ∷ bare es
bare (OnError kind text ∷ es) = OnError kind text ∷ bare es
bare (OnBufferedAmountLow id ∷ es) = OnBufferedAmountLow id ∷ bare es
bare (OnTotalBufferedAmountLow ∷ es) = OnTotalBufferedAmountLow ∷ bare es
bare (OnStreamsResetFailed ids ∷ es) = OnStreamsResetFailed ids ∷ bare es
bare (OnStreamsResetPerformed ids ∷ es) = OnStreamsResetPerformed ids ∷ bare es
bare (OnIncomingStreamReset ids ∷ es) = OnIncomingStreamReset ids ∷ bare es
bare (OnLifecycleMessageFullySent id ∷ es) = OnLifecycleMessageFullySent id ∷ bare es
bare (OnLifecycleMessageMaybeExpired id ∷ es) = OnLifecycleMessageMaybeExpired id ∷ bare es
bare (OnLifecycleMessageExpired id ∷ es) = OnLifecycleMessageExpired id ∷ bare es
bare (OnLifecycleMessageDelivered id ∷ es) = OnLifecycleMessageDelivered id ∷ bare es
bare (OnLifecycleEnd id ∷ es) = OnLifecycleEnd id ∷ bare es

pub bare_both : (es fs : List (Event Carried)) → bare (es ++ fs) ≡ bare es ++ bare fs
bare_both [] fs = refl
bare_both (SendPacket p ∷ es) fs = bare_both es fs
bare_both (OnConnected ∷ es) fs = ap (λ (l : List (Event (List ℕ))). OnConnected ∷ l) (bare_both es fs)
bare_both (OnClosed ∷ es) fs = ap (λ (l : List (Event (List ℕ))). OnClosed ∷ l) (bare_both es fs)
bare_both (OnConnectionRestarted ∷ es) fs = ap (λ (l : List (Event (List ℕ))). OnConnectionRestarted ∷ l) (bare_both es fs)
bare_both (OnAborted kind text ∷ es) fs = ap (λ (l : List (Event (List ℕ))). OnAborted kind text ∷ l) (bare_both es fs)
bare_both (OnError kind text ∷ es) fs = ap (λ (l : List (Event (List ℕ))). OnError kind text ∷ l) (bare_both es fs)
bare_both (OnBufferedAmountLow id ∷ es) fs = ap (λ (l : List (Event (List ℕ))). OnBufferedAmountLow id ∷ l) (bare_both es fs)
bare_both (OnTotalBufferedAmountLow ∷ es) fs = ap (λ (l : List (Event (List ℕ))). OnTotalBufferedAmountLow ∷ l) (bare_both es fs)
bare_both (OnStreamsResetFailed ids ∷ es) fs = ap (λ (l : List (Event (List ℕ))). OnStreamsResetFailed ids ∷ l) (bare_both es fs)
bare_both (OnStreamsResetPerformed ids ∷ es) fs = ap (λ (l : List (Event (List ℕ))). OnStreamsResetPerformed ids ∷ l) (bare_both es fs)
bare_both (OnIncomingStreamReset ids ∷ es) fs = ap (λ (l : List (Event (List ℕ))). OnIncomingStreamReset ids ∷ l) (bare_both es fs)
bare_both (OnLifecycleMessageFullySent id ∷ es) fs = ap (λ (l : List (Event (List ℕ))). OnLifecycleMessageFullySent id ∷ l) (bare_both es fs)
bare_both (OnLifecycleMessageMaybeExpired id ∷ es) fs = ap (λ (l : List (Event (List ℕ))). OnLifecycleMessageMaybeExpired id ∷ l) (bare_both es fs)
bare_both (OnLifecycleMessageExpired id ∷ es) fs = ap (λ (l : List (Event (List ℕ))). OnLifecycleMessageExpired id ∷ l) (bare_both es fs)
bare_both (OnLifecycleMessageDelivered id ∷ es) fs = ap (λ (l : List (Event (List ℕ))). OnLifecycleMessageDelivered id ∷ l) (bare_both es fs)
bare_both (OnLifecycleEnd id ∷ es) fs = ap (λ (l : List (Event (List ℕ))). OnLifecycleEnd id ∷ l) (bare_both es fs)

-- packets say nothing of resets
pub bare_performed : (es : List (Event Carried)) → performed_in (bare es) ≡ performed_in es
bare_performed [] = refl
bare_performed (OnStreamsResetPerformed ids ∷ es) = ap suc (bare_performed es)
bare_performed (e ∷ es) = bare_performed es

pub bare_names : (es : List (Event Carried)) → performed_of (bare es) ≡ performed_of es
bare_names [] = refl
bare_names (OnStreamsResetPerformed ids ∷ es) = ap (λ (l : List ℕ). ids ++ l) (bare_names es)
bare_names (e ∷ es) = bare_names es

pub bare_resets : (s : ℕ) (es : List (Event Carried)) → resets_emitted s (bare es) ≡ resets_emitted s es
bare_resets s [] = refl
bare_resets s (OnIncomingStreamReset ids ∷ es) = ap (λ (n : ℕ). cond (are_named ids s) (1 + n) n) (bare_resets s es)
bare_resets s (e ∷ es) = bare_resets s es

pub bare_failed : (es : List (Event Carried)) → failed_in (bare es) ≡ failed_in es
bare_failed [] = refl
bare_failed (OnStreamsResetFailed ids ∷ es) = refl
bare_failed (e ∷ es) = bare_failed es

-- ---- in the log

own_more : (x : End) (e : Event (List ℕ)) (more rest : List (Event (List ℕ))) → more ≡ rest → none_unless (same_end x x) e ++ more ≡ e ∷ rest
own_more A e more rest h = ap (λ (l : List (Event (List ℕ))). e ∷ l) h
own_more B e more rest h = ap (λ (l : List (Event (List ℕ))). e ∷ l) h

pub happened_emitted : (f : Mapping Carried (List ℕ)) (x : End) (n : ℕ) (es : List (Event Carried)) → emitted_events x (emitted_entries x n (mapped f es)) ≡ bare es
happened_emitted f x n [] = refl
happened_emitted f x n (SendPacket p ∷ es) = happened_emitted f x (n + 1) es
happened_emitted f x n (OnConnected ∷ es) = own_more x OnConnected _ _ (happened_emitted f x n es)
happened_emitted f x n (OnClosed ∷ es) = own_more x OnClosed _ _ (happened_emitted f x n es)
happened_emitted f x n (OnConnectionRestarted ∷ es) = own_more x OnConnectionRestarted _ _ (happened_emitted f x n es)
happened_emitted f x n (OnAborted kind text ∷ es) = own_more x (OnAborted kind text) _ _ (happened_emitted f x n es)
happened_emitted f x n (OnError kind text ∷ es) = own_more x (OnError kind text) _ _ (happened_emitted f x n es)
happened_emitted f x n (OnBufferedAmountLow id ∷ es) = own_more x (OnBufferedAmountLow id) _ _ (happened_emitted f x n es)
happened_emitted f x n (OnTotalBufferedAmountLow ∷ es) = own_more x OnTotalBufferedAmountLow _ _ (happened_emitted f x n es)
happened_emitted f x n (OnStreamsResetFailed ids ∷ es) = own_more x (OnStreamsResetFailed ids) _ _ (happened_emitted f x n es)
happened_emitted f x n (OnStreamsResetPerformed ids ∷ es) = own_more x (OnStreamsResetPerformed ids) _ _ (happened_emitted f x n es)
happened_emitted f x n (OnIncomingStreamReset ids ∷ es) = own_more x (OnIncomingStreamReset ids) _ _ (happened_emitted f x n es)
happened_emitted f x n (OnLifecycleMessageFullySent id ∷ es) = own_more x (OnLifecycleMessageFullySent id) _ _ (happened_emitted f x n es)
happened_emitted f x n (OnLifecycleMessageMaybeExpired id ∷ es) = own_more x (OnLifecycleMessageMaybeExpired id) _ _ (happened_emitted f x n es)
happened_emitted f x n (OnLifecycleMessageExpired id ∷ es) = own_more x (OnLifecycleMessageExpired id) _ _ (happened_emitted f x n es)
happened_emitted f x n (OnLifecycleMessageDelivered id ∷ es) = own_more x (OnLifecycleMessageDelivered id) _ _ (happened_emitted f x n es)
happened_emitted f x n (OnLifecycleEnd id ∷ es) = own_more x (OnLifecycleEnd id) _ _ (happened_emitted f x n es)

one_step : (x : End) (e : Entry) → emitted_events x (emitted_by x e) ≡ emitted_events_by x e
one_step x (Called y clock call answer) = refl
one_step x (Given y clock packet) = refl
one_step x (Foreign y clock bytes) = refl
one_step x (Timed y clock now) = refl
one_step x (Associated y a) = refl
one_step x (GaveUp y g) = refl
one_step x (BecameReady y m) = refl
one_step A (EmittedPacket A packet) = refl
one_step A (EmittedPacket B packet) = refl
one_step B (EmittedPacket A packet) = refl
one_step B (EmittedPacket B packet) = refl
one_step A (EmittedEvent A event) = refl
one_step A (EmittedEvent B event) = refl
one_step B (EmittedEvent A event) = refl
one_step B (EmittedEvent B event) = refl

pub happened_by_emitted : (x : End) (log : List Entry) → emitted_events x log ≡ emitted_events x (emitted_in x log)
happened_by_emitted x [] = refl
happened_by_emitted x (e ∷ log) =
    ap (λ (l : List (Event (List ℕ))). emitted_events_by x e ++ l) (happened_by_emitted x log)
    ∙ (ap (λ (l : List (Event (List ℕ))). l ++ emitted_events x (emitted_in x log)) (sym (one_step x e))
    ∙ sym (flat_map-append (emitted_events_by x) (emitted_by x e) (emitted_in x log)))

pub happened_is : (word_of : List ℕ → ℕ) (x : End) (log : List Entry) (others : List (List ℕ)) (side : Side) (end : traces.Side) → Good word_of x log others side end
    → emitted_events x log ≡ bare end.emitted
happened_is word_of x log others side end g = happened_by_emitted x log ∙ (ap (emitted_events x) g.image.emitted ∙ happened_emitted (as_bytes word_of) x 0 end.emitted)

-- ---- behind the first entry of an event

abbrev pub begun_by : Entry → List Entry
begun_by e = none_unless (begins_event e) e

pub quiet_resets : (x y : End) → IsQuietOn (reset_by x) y
quiet_resets x y = record { on_emitted = record { associated = λ a. refl; emitted = λ n. refl; happened = λ e. refl }; gave_up = λ g. refl }

pub quiet_begun : (y : End) → IsQuietOn begun_by y
quiet_begun y = record { on_emitted = record { associated = λ a. refl; emitted = λ n. refl; happened = λ e. refl }; gave_up = λ g. refl }

pub quiet_happened : (x y : End) → same_end x y ≡ false → IsQuietOn (emitted_events_by x) y
quiet_happened x y h = record {
  on_emitted = record { associated = λ a. refl; emitted = λ n. refl; happened = λ e. ap (λ (b : Bool). none_unless b e) h };
  gave_up = λ g. refl;
}

one_of : {X : Type 0} (x : X) (xs ys : List X) → (x ∷ xs) ++ ys ≡ [] → ⊥
one_of x xs ys e = cc

-- no other event begins
pub none_begun : (more before behind : List Entry) (first : Entry) → flat_map begun_by more ≡ [] → more ≡ before ++ first ∷ behind → begins_event first ≡ true → ⊥
none_begun more [] behind first none is h =
    one_of first [] (flat_map begun_by behind)
    (ap (λ (b : Bool). none_unless b first ++ flat_map begun_by behind) (sym h) ∙ (sym (ap (flat_map begun_by) is) ∙ none))
none_begun more (k ∷ before) behind first none is h =
    none_begun (before ++ first ∷ behind) before behind first
    (none_behind (begun_by k) (flat_map begun_by (before ++ first ∷ behind)) (sym (ap (flat_map begun_by) is) ∙ none)) refl h

-- behind a message that became ready nothing is emitted
abbrev pub IsEmittedFirst : List Entry → Type 0
IsEmittedFirst more = (x y : End) (m : Message) (front behind : List Entry) → more ≡ front ++ BecameReady y m ∷ behind → emitted_events x behind ≡ []

pub ready_among : (y : End) (m : Message) (front behind log : List Entry) → flat_map (ready_by y) log ≡ [] → log ≡ front ++ BecameReady y m ∷ behind → ⊥
ready_among y m [] behind log none is =
    one_of m [] (flat_map (ready_by y) behind)
    (ap (λ (b : Bool). none_unless b m ++ flat_map (ready_by y) behind) (sym (same_itself y)) ∙ (sym (ap (flat_map (ready_by y)) is) ∙ none))
ready_among y m (k ∷ front) behind log none is =
    ready_among y m front behind (front ++ BecameReady y m ∷ behind)
    (none_behind (ready_by y k) (flat_map (ready_by y) (front ++ BecameReady y m ∷ behind)) (sym (ap (flat_map (ready_by y)) is) ∙ none)) refl

pub last_none : {X : Type 0} (f : Entry → List X) (k l : List Entry) → flat_map f (k ++ l) ≡ [] → flat_map f l ≡ []
last_none f [] l h = h
last_none f (e ∷ k) l h = last_none f k l (none_behind (f e) (flat_map f (k ++ l)) h)

pub none_emitted_first : IsEmittedFirst []
none_emitted_first x y m [] behind is = cc
none_emitted_first x y m (k ∷ front) behind is = cc

emitted_before : (early last : List Entry) → ((y : End) → flat_map (ready_by y) early ≡ []) → ((x : End) → emitted_events x last ≡ []) → IsEmittedFirst (early ++ last)
emitted_before early last none quiet x y m front behind is = go (one_is_longer early last front (BecameReady y m ∷ behind) is)
  where
    within : (between : List Entry) → early ≡ front ++ between → BecameReady y m ∷ behind ≡ between ++ last → emitted_events x behind ≡ []
    within [] made rest = last_none (emitted_events_by x) (BecameReady y m ∷ []) behind (ap (emitted_events x) rest ∙ quiet x)
    within (k ∷ between) made rest =
        absurd (ready_among y m front between early (none y)
        (made ∙ ap (λ (e : Entry). front ++ e ∷ between) (sym (split_head (BecameReady y m) k behind (between ++ last) rest))))

    go : Longer early front (BecameReady y m ∷ behind) last ⊎ Longer front early last (BecameReady y m ∷ behind) → emitted_events x behind ≡ []
    go (inl h) = last_none (emitted_events_by x) (h.between ++ BecameReady y m ∷ []) behind (ap (emitted_events x) (joins h.between) ∙ (sym (ap (emitted_events x) h.behind) ∙ quiet x))
      where
        joins : (between : List Entry) → (between ++ BecameReady y m ∷ []) ++ behind ≡ between ++ BecameReady y m ∷ behind
        joins [] = refl
        joins (k ∷ between) = ap (λ (l : List Entry). k ∷ l) (joins between)
    go (inr h) = within h.between h.made h.behind

quiet_last : (x y : End) (gs : List GivenUp) (ms : List Message) → emitted_events x (given_up_entries y gs ++ map (BecameReady y) ms) ≡ []
quiet_last x y [] ms = none_ready (emitted_events_by x) y (λ m. refl) ms
quiet_last x y (g ∷ gs) ms = quiet_last x y gs ms

pub news_emitted_first : (x : End) (n ready : ℕ) (old : Option Association) (s : Endpoint (List ℕ)) → IsEmittedFirst (news x n ready old s)
news_emitted_first x n ready old s =
    let same : Bool = same_association old (association s) in
    let start : List Entry = associated_unless same x (association s) in
    let emitted_part : List Entry = emitted_entries x n s.endpoint_state.context.emitted.events in
    let given_up_part : List Entry = given_up_entries x s.endpoint_state.context.emitted.given_up in
    let ms : List Message = drop (ready_before same ready) (ready_at s) in
    subst IsEmittedFirst (append_assoc start emitted_part (given_up_part ++ map (BecameReady x) ms))
    (emitted_before (start ++ emitted_part) (given_up_part ++ map (BecameReady x) ms)
    (λ y. behind_none (ready_by y) x start emitted_part (none_associated (ready_by y) x (quiet_ready y x).on_emitted same (association s))
    ∙ none_emitted (ready_by y) x (quiet_ready y x).on_emitted n s.endpoint_state.context.emitted.events)
    (λ y. quiet_last y x s.endpoint_state.context.emitted.given_up ms))
