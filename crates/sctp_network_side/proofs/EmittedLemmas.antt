-- Events taken one after the other.
use Rattle.std.specs.Prelude.{slice_get}
use Rattle.std.proofs.Common.{◌≡◌, ℕ, zero, suc, ◌+◌, ◌≤◌, ◌<◌, Option, Some, None, List, [], ◌∷◌, ◌++◌, length, map, drop, refl, sym, ap, ◌∙◌, append_assoc, arith}
use Rattle.sctp_state.specs.Events.{Event, SendPacket, OnConnected, OnClosed, OnConnectionRestarted, OnAborted, OnError, OnBufferedAmountLow, OnTotalBufferedAmountLow, OnStreamsResetFailed, OnStreamsResetPerformed, OnIncomingStreamReset, OnLifecycleMessageFullySent, OnLifecycleMessageMaybeExpired, OnLifecycleMessageExpired, OnLifecycleMessageDelivered, OnLifecycleEnd, GivenUp, first_of}
use Rattle.sctp_serial.specs.Messages.{Message}
use Rattle.sctp_network_side.specs.SideView.{ready_entry}
use Rattle.spec_world.specs.Observations.{End, Entry, EmittedEvent, GaveUp, BecameReady}
use Rattle.spec_world.specs.World.{emitted_entries, given_up_entries}
use Rattle.spec_endpoint.specs.Packets.{packets_in}

packets_step : (e : Event (List ℕ)) (es : List (Event (List ℕ))) → packets_in (e ∷ es) ≡ packets_in (e ∷ []) ++ packets_in es
packets_step (SendPacket bytes) es = refl
packets_step OnConnected es = refl
packets_step OnClosed es = refl
packets_step OnConnectionRestarted es = refl
packets_step (OnAborted kind text) es = refl
packets_step (OnError kind text) es = refl
packets_step (OnBufferedAmountLow id) es = refl
packets_step OnTotalBufferedAmountLow es = refl
packets_step (OnStreamsResetFailed ids) es = refl
packets_step (OnStreamsResetPerformed ids) es = refl
packets_step (OnIncomingStreamReset ids) es = refl
packets_step (OnLifecycleMessageFullySent id) es = refl
packets_step (OnLifecycleMessageMaybeExpired id) es = refl
packets_step (OnLifecycleMessageExpired id) es = refl
packets_step (OnLifecycleMessageDelivered id) es = refl
packets_step (OnLifecycleEnd id) es = refl

onward : (x : End) (n : ℕ) (es : List (Event (List ℕ))) → emitted_entries x n es ≡ emitted_entries x (n + 0) es
onward x n es = ap (λ (m : ℕ). emitted_entries x m es) (omega arith)

behind : (x : End) (n : ℕ) (e : Event (List ℕ)) (es : List (Event (List ℕ))) → EmittedEvent x e ∷ emitted_entries x n es ≡ EmittedEvent x e ∷ emitted_entries x (n + 0) es
behind x n e es = ap (λ (l : List Entry). EmittedEvent x e ∷ l) (onward x n es)

emitted_step : (x : End) (n : ℕ) (e : Event (List ℕ)) (es : List (Event (List ℕ)))
    → emitted_entries x n (e ∷ es) ≡ emitted_entries x n (e ∷ []) ++ emitted_entries x (n + length (packets_in (e ∷ []))) es
emitted_step x n (SendPacket bytes) es = refl
emitted_step x n OnConnected es = behind x n OnConnected es
emitted_step x n OnClosed es = behind x n OnClosed es
emitted_step x n OnConnectionRestarted es = behind x n OnConnectionRestarted es
emitted_step x n (OnAborted kind text) es = behind x n (OnAborted kind text) es
emitted_step x n (OnError kind text) es = behind x n (OnError kind text) es
emitted_step x n (OnBufferedAmountLow id) es = behind x n (OnBufferedAmountLow id) es
emitted_step x n OnTotalBufferedAmountLow es = behind x n OnTotalBufferedAmountLow es
emitted_step x n (OnStreamsResetFailed ids) es = behind x n (OnStreamsResetFailed ids) es
emitted_step x n (OnStreamsResetPerformed ids) es = behind x n (OnStreamsResetPerformed ids) es
emitted_step x n (OnIncomingStreamReset ids) es = behind x n (OnIncomingStreamReset ids) es
emitted_step x n (OnLifecycleMessageFullySent id) es = behind x n (OnLifecycleMessageFullySent id) es
emitted_step x n (OnLifecycleMessageMaybeExpired id) es = behind x n (OnLifecycleMessageMaybeExpired id) es
emitted_step x n (OnLifecycleMessageExpired id) es = behind x n (OnLifecycleMessageExpired id) es
emitted_step x n (OnLifecycleMessageDelivered id) es = behind x n (OnLifecycleMessageDelivered id) es
emitted_step x n (OnLifecycleEnd id) es = behind x n (OnLifecycleEnd id) es

first_and_rest : {X : Type 0} (xs : List X) (x : X) → Some x ≡ first_of xs → xs ≡ x ∷ drop 1 xs
first_and_rest [] x e = cc
first_and_rest (y ∷ ys) x e = ap (λ (z : _). z ∷ ys) (sym (some_inj e))
  where
    some_inj : Some x ≡ Some y → x ≡ y
    some_inj h = cc

pub packets_taken : (e : Event (List ℕ)) (events rest : List (Event (List ℕ))) (old new : List (List ℕ)) → Some e ≡ first_of events → rest ≡ drop 1 events
    → new ≡ old ++ packets_in (e ∷ []) → new ++ packets_in rest ≡ old ++ packets_in events
packets_taken e events rest old new first r n =
    ap (λ (l : List (List ℕ)). l ++ packets_in rest) n ∙ append_assoc old (packets_in (e ∷ [])) (packets_in rest)
    ∙ ap (λ (l : List (List ℕ)). old ++ l) (sym (packets_step e rest) ∙ ap (λ (es : List (Event (List ℕ))). packets_in (e ∷ es)) r ∙ ap packets_in (sym (first_and_rest events e first)))

pub emitted_taken : (x : End) (m n : ℕ) (e : Event (List ℕ)) (events rest : List (Event (List ℕ))) (old new : List Entry) → Some e ≡ first_of events → rest ≡ drop 1 events
    → n ≡ m + length (packets_in (e ∷ [])) → new ≡ old ++ emitted_entries x m (e ∷ []) → new ++ emitted_entries x n rest ≡ old ++ emitted_entries x m events
emitted_taken x m n e events rest old new first r c l =
    ap (λ (k : List Entry). k ++ emitted_entries x n rest) l ∙ append_assoc old (emitted_entries x m (e ∷ [])) (emitted_entries x n rest)
    ∙ ap (λ (k : List Entry). old ++ k)
    (ap (λ (k : ℕ). emitted_entries x m (e ∷ []) ++ emitted_entries x k rest) c ∙ sym (emitted_step x m e rest)
    ∙ ap (λ (es : List (Event (List ℕ))). emitted_entries x m (e ∷ es)) r ∙ ap (emitted_entries x m) (sym (first_and_rest events e first)))

-- ---- messages that were given up

pub given_up_taken : (x : End) (g : GivenUp) (records rest : List GivenUp) (old new : List Entry) → Some g ≡ first_of records → rest ≡ drop 1 records
    → new ≡ old ++ GaveUp x g ∷ [] → new ++ given_up_entries x rest ≡ old ++ given_up_entries x records
given_up_taken x g records rest old new first r l =
    ap (λ (k : List Entry). k ++ given_up_entries x rest) l ∙ append_assoc old (GaveUp x g ∷ []) (given_up_entries x rest)
    ∙ ap (λ (gs : List GivenUp). old ++ GaveUp x g ∷ given_up_entries x gs) r ∙ ap (λ (gs : List GivenUp). old ++ given_up_entries x gs) (sym (first_and_rest records g first))

-- ---- messages that are ready

got : {X : Type 0} (xs : List X) (k : ℕ) (x : X) → slice_get xs k ≡ Some x → drop k xs ≡ x ∷ drop (suc k) xs
got [] k x e = cc
got (y ∷ ys) zero x e = ap (λ (z : _). z ∷ ys) (some_inj e)
  where
    some_inj : Some y ≡ Some x → y ≡ x
    some_inj h = cc
got (y ∷ ys) (suc k) x e = got ys k x e

pub one_more : {X : Type 0} (f : X → Entry) (xs : List X) (k : ℕ) (x : X) (old new start : List Entry) → slice_get xs k ≡ Some x → new ≡ old ++ f x ∷ []
    → old ++ map f (drop k xs) ≡ start → new ++ map f (drop (k + 1) xs) ≡ start
one_more f xs k x old new start e n s =
    let next : suc k ≡ k + 1 = omega arith in
    let rest : (f x ∷ []) ++ map f (drop (k + 1) xs) ≡ map f (drop k xs) =
    ap (λ (m : ℕ). f x ∷ map f (drop m xs)) (sym next) ∙ sym (ap (map f) (got xs k x e)) in
    ap (λ (l : List Entry). l ++ map f (drop (k + 1) xs)) n ∙ append_assoc old (f x ∷ []) (map f (drop (k + 1) xs))
    ∙ ap (λ (l : List Entry). old ++ l) rest ∙ s

past : {X : Type 0} (xs : List X) (k : ℕ) → slice_get xs k ≡ None → length xs ≤ k
past [] k e = omega arith
past (x ∷ xs) zero e = cc
past (x ∷ xs) (suc k) e = omega (arith, past xs k e)

logged_for : (x : End) (messages : List Message) (k : ℕ) (o : Option Message) (old new start : List Entry) → o ≡ slice_get messages k → k < length messages
    → new ≡ old ++ ready_entry x o → old ++ map (BecameReady x) (drop k messages) ≡ start → new ++ map (BecameReady x) (drop (k + 1) messages) ≡ start
logged_for x messages k None old new start e within n s = absurd (omega (arith, within, past messages k (sym e)))
logged_for x messages k (Some m) old new start e within n s = one_more (BecameReady x) messages k m old new start (sym e) n s

pub message_logged : (x : End) (messages : List Message) (k : ℕ) (old new start : List Entry) → k < length messages
    → new ≡ old ++ ready_entry x (slice_get messages k) → old ++ map (BecameReady x) (drop k messages) ≡ start → new ++ map (BecameReady x) (drop (k + 1) messages) ≡ start
message_logged x messages k old new start within n s = logged_for x messages k (slice_get messages k) old new start refl within n s
