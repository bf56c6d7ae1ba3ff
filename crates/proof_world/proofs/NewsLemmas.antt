-- What an event adds to the log: of its own end what it emitted, of the other one nothing.
use Rattle.std.proofs.Common.{◌≡◌, ℕ, ◌+◌, ◌==◌, Bool, true, false, Option, Some, None, List, [], ◌∷◌, ◌++◌, map, drop, refl, sym, ap, ◌∙◌, append-nil}
use Rattle.std.specs.List.{flat_map}
use Rattle.std.proofs.lemmas.Grind.{flat_map-append}
use Rattle.std.proofs.lemmas.Bool.{and_parts, eqb-true}
use Rattle.sctp_serial.specs.Messages.{Message}
use Rattle.sctp_state.specs.Events.{Event, GivenUp, SendPacket, OnConnected, OnClosed, OnConnectionRestarted, OnAborted, OnError, OnBufferedAmountLow, OnTotalBufferedAmountLow, OnStreamsResetFailed, OnStreamsResetPerformed, OnIncomingStreamReset, OnLifecycleMessageFullySent, OnLifecycleMessageMaybeExpired, OnLifecycleMessageExpired, OnLifecycleMessageDelivered, OnLifecycleEnd}
use Rattle.spec_endpoint.specs.Association.{Endpoint}
use Rattle.spec_endpoint.specs.Shown.{Association}
use Rattle.spec_world.specs.Observations.{End, A, B, same_end, same_association, none_unless, Entry, Called, Given, Foreign, Timed, Associated, EmittedPacket, EmittedEvent, GaveUp, BecameReady, newer, held_after, held_from, connected_by}
use Rattle.spec_world.specs.World.{association, associated_unless, association_entries, ready_before, ready_entries, given_up_entries, emitted_entries, news}
use Rattle.spec_endpoint.specs.Calls.{ready_at}
use Rattle.proof_world.specs.Traces.{emitted_by, emitted_in}
use Rattle.proof_world.specs.Consistent.{association_ends_by}
use Rattle.proof_world.proofs.EventLemmas.{emitted_own, emitted_other}

-- ---- what was emitted

pub emitted_both : (x : End) (k l : List Entry) → emitted_in x (k ++ l) ≡ emitted_in x k ++ emitted_in x l
emitted_both x k l = flat_map-append (emitted_by x) k l

emitted_given_up : (x y : End) (records : List GivenUp) → emitted_in x (given_up_entries y records) ≡ []
emitted_given_up x y [] = refl
emitted_given_up x y (g ∷ records) = emitted_given_up x y records

emitted_ready_all : (x y : End) (ms : List Message) → emitted_in x (map (BecameReady y) ms) ≡ []
emitted_ready_all x y [] = refl
emitted_ready_all x y (m ∷ ms) = emitted_ready_all x y ms

emitted_associated : (x y : End) (b : Bool) (a : Option Association) → emitted_in x (associated_unless b y a) ≡ []
emitted_associated x y true a = refl
emitted_associated x y false a = refl

module _ (x y : End) (n ready : ℕ) (old : Option Association) (s : Endpoint (List ℕ)) where
  abbrev tail : List Entry
  tail = given_up_entries y s.endpoint_state.context.emitted.given_up ++ ready_entries y (ready_before (same_association old (association s)) ready) (ready_at s)

  emitted_tail : emitted_in x tail ≡ []
  emitted_tail =
      emitted_both x (given_up_entries y s.endpoint_state.context.emitted.given_up) (ready_entries y (ready_before (same_association old (association s)) ready) (ready_at s))
      ∙ ap (λ (l : List Entry). l ++ emitted_in x (ready_entries y (ready_before (same_association old (association s)) ready) (ready_at s))) (emitted_given_up x y s.endpoint_state.context.emitted.given_up)
      ∙ emitted_ready_all x y (drop (ready_before (same_association old (association s)) ready) (ready_at s))

  emitted_news : emitted_in x (news y n ready old s) ≡ emitted_in x (emitted_entries y n s.endpoint_state.context.emitted.events)
  emitted_news =
      emitted_both x (association_entries y old (association s)) (emitted_entries y n s.endpoint_state.context.emitted.events ++ tail)
      ∙ ap (λ (l : List Entry). l ++ emitted_in x (emitted_entries y n s.endpoint_state.context.emitted.events ++ tail)) (emitted_associated x y (same_association old (association s)) (association s))
      ∙ emitted_both x (emitted_entries y n s.endpoint_state.context.emitted.events) tail
      ∙ ap (λ (l : List Entry). emitted_in x (emitted_entries y n s.endpoint_state.context.emitted.events) ++ l) emitted_tail
      ∙ append-nil (emitted_in x (emitted_entries y n s.endpoint_state.context.emitted.events))

pub news_own : (x : End) (n ready : ℕ) (old : Option Association) (s : Endpoint (List ℕ))
    → emitted_in x (news x n ready old s) ≡ emitted_entries x n s.endpoint_state.context.emitted.events
news_own x n ready old s = emitted_news x x n ready old s ∙ emitted_own x n s.endpoint_state.context.emitted.events

pub news_other : (x y : End) → same_end x y ≡ false → (n ready : ℕ) (old : Option Association) (s : Endpoint (List ℕ)) → emitted_in x (news y n ready old s) ≡ []
news_other x y d n ready old s = emitted_news x y n ready old s ∙ emitted_other x y d n s.endpoint_state.context.emitted.events

-- ---- what is held

pub held_both : (x : End) (h : Option Association) (k l : List Entry) → held_from x h (k ++ l) ≡ held_from x (held_from x h k) l
held_both x h [] l = refl
held_both x h (e ∷ k) l = held_both x (held_after x h e) k l

abbrev pub AreQuiet : List Entry → Type 0
AreQuiet l = (x : End) (h : Option Association) → held_from x h l ≡ h

quiet_emitted : (y : End) (n : ℕ) (es : List (Event (List ℕ))) → AreQuiet (emitted_entries y n es)
quiet_emitted y n [] x h = refl
quiet_emitted y n (SendPacket p ∷ es) x h = quiet_emitted y (n + 1) es x h
quiet_emitted y n (OnConnected ∷ es) x h = quiet_emitted y n es x h
quiet_emitted y n (OnClosed ∷ es) x h = quiet_emitted y n es x h
quiet_emitted y n (OnConnectionRestarted ∷ es) x h = quiet_emitted y n es x h
quiet_emitted y n (OnAborted kind text ∷ es) x h = quiet_emitted y n es x h
quiet_emitted y n (OnError kind text ∷ es) x h = quiet_emitted y n es x h
quiet_emitted y n (OnBufferedAmountLow id ∷ es) x h = quiet_emitted y n es x h
quiet_emitted y n (OnTotalBufferedAmountLow ∷ es) x h = quiet_emitted y n es x h
quiet_emitted y n (OnStreamsResetFailed ids ∷ es) x h = quiet_emitted y n es x h
quiet_emitted y n (OnStreamsResetPerformed ids ∷ es) x h = quiet_emitted y n es x h
quiet_emitted y n (OnIncomingStreamReset ids ∷ es) x h = quiet_emitted y n es x h
quiet_emitted y n (OnLifecycleMessageFullySent id ∷ es) x h = quiet_emitted y n es x h
quiet_emitted y n (OnLifecycleMessageMaybeExpired id ∷ es) x h = quiet_emitted y n es x h
quiet_emitted y n (OnLifecycleMessageExpired id ∷ es) x h = quiet_emitted y n es x h
quiet_emitted y n (OnLifecycleMessageDelivered id ∷ es) x h = quiet_emitted y n es x h
quiet_emitted y n (OnLifecycleEnd id ∷ es) x h = quiet_emitted y n es x h

quiet_given_up : (y : End) (records : List GivenUp) → AreQuiet (given_up_entries y records)
quiet_given_up y [] x h = refl
quiet_given_up y (g ∷ records) x h = quiet_given_up y records x h

quiet_ready : (y : End) (ms : List Message) → AreQuiet (map (BecameReady y) ms)
quiet_ready y [] x h = refl
quiet_ready y (m ∷ ms) x h = quiet_ready y ms x h

pub quiet_both : (k l : List Entry) → AreQuiet k → AreQuiet l → AreQuiet (k ++ l)
quiet_both k l a b x h = held_both x h k l ∙ ap (λ (o : Option Association). held_from x o l) (a x h) ∙ b x h

quiet_tail : (y : End) (n k : ℕ) (events : List (Event (List ℕ))) (records : List GivenUp) (ms : List Message)
    → AreQuiet (emitted_entries y n events ++ (given_up_entries y records ++ ready_entries y k ms))
quiet_tail y n k events records ms =
    quiet_both (emitted_entries y n events) (given_up_entries y records ++ ready_entries y k ms) (quiet_emitted y n events)
    (quiet_both (given_up_entries y records) (ready_entries y k ms) (quiet_given_up y records) (quiet_ready y (drop k ms)))

abbrev pub of_numbers : (i j k l : ℕ) → Association
of_numbers i j k l = record { my_tag = i; my_initial_tsn = j; peer_tag = k; peer_initial_tsn = l }

pub made_same : (i j k l m n o p : ℕ) → i ≡ m → j ≡ n → k ≡ o → l ≡ p → of_numbers i j k l ≡ of_numbers m n o p
made_same i j k l m n o p a b c d = cc

pub one_association : (o p : Option Association) → same_association o p ≡ true → o ≡ p
one_association None None e = refl
one_association None (Some b) e = cc
one_association (Some a) None e = cc
one_association (Some a) (Some b) e =
    let e1 = (and_parts (a.my_tag == b.my_tag) _ e).1 in
    let e2 = (and_parts (a.my_initial_tsn == b.my_initial_tsn) _ e1).1 in
    ap Some (made_same a.my_tag a.my_initial_tsn a.peer_tag a.peer_initial_tsn b.my_tag b.my_initial_tsn b.peer_tag b.peer_initial_tsn
    (eqb-true a.my_tag b.my_tag (and_parts (a.my_tag == b.my_tag) _ e).0)
    (eqb-true a.my_initial_tsn b.my_initial_tsn (and_parts (a.my_initial_tsn == b.my_initial_tsn) _ e1).0)
    (eqb-true a.peer_tag b.peer_tag (and_parts (a.peer_tag == b.peer_tag) _ e2).0)
    (eqb-true a.peer_initial_tsn b.peer_initial_tsn (and_parts (a.peer_tag == b.peer_tag) _ e2).1))

newer_own : (x : End) (a h : Option Association) → newer (same_end x x) a h ≡ a
newer_own A a h = refl
newer_own B a h = refl

newer_other : (x y : End) → same_end x y ≡ false → (a h : Option Association) → newer (same_end x y) a h ≡ h
newer_other x y d a h = ap (λ (b : Bool). newer b a h) d

associated_own : (x : End) (b : Bool) (old new : Option Association) → (b ≡ true → old ≡ new) → held_from x old (associated_unless b x new) ≡ new
associated_own x true old new same = same refl
associated_own x false old new same = newer_own x new old

associated_other : (x y : End) → same_end x y ≡ false → (b : Bool) (h new : Option Association) → held_from x h (associated_unless b y new) ≡ h
associated_other x y d true h new = refl
associated_other x y d false h new = newer_other x y d new h

pub held_own : (x : End) (n ready : ℕ) (old : Option Association) (s : Endpoint (List ℕ)) → held_from x old (news x n ready old s) ≡ association s
held_own x n ready old s =
    held_both x old (association_entries x old (association s)) _
    ∙ quiet_tail x n (ready_before (same_association old (association s)) ready) s.endpoint_state.context.emitted.events s.endpoint_state.context.emitted.given_up (ready_at s) x
    (held_from x old (association_entries x old (association s)))
    ∙ associated_own x (same_association old (association s)) old (association s) (one_association old (association s))

pub held_other : (x y : End) → same_end x y ≡ false → (n ready : ℕ) (old h : Option Association) (s : Endpoint (List ℕ)) → held_from x h (news y n ready old s) ≡ h
held_other x y d n ready old h s =
    held_both x h (association_entries y old (association s)) _
    ∙ quiet_tail y n (ready_before (same_association old (association s)) ready) s.endpoint_state.context.emitted.events s.endpoint_state.context.emitted.given_up (ready_at s) x
    (held_from x h (association_entries y old (association s)))
    ∙ associated_other x y d (same_association old (association s)) h (association s)

-- ---- what else is read off the log is read off what was emitted

of_none : (f : Entry → List End) (e : Entry) (b : Bool) → f e ≡ [] → flat_map f (none_unless b e) ≡ f e
of_none f e true none = append-nil (f e)
of_none f e false none = sym none

of_one : (f : Entry → List End) (e : Entry) (y : End) (b : Bool) → f e ≡ none_unless b y → flat_map f (none_unless b e) ≡ f e
of_one f e y true one = append-nil (f e)
of_one f e y false one = sym one

connected_step : (x : End) (e : Entry) → flat_map (connected_by x) (emitted_by x e) ≡ connected_by x e
connected_step x (Called y clock call answer) = refl
connected_step x (Given y clock packet) = refl
connected_step x (Foreign y clock bytes) = refl
connected_step x (Timed y clock now) = refl
connected_step x (Associated y a) = refl
connected_step x (GaveUp y g) = refl
connected_step x (BecameReady y m) = refl
connected_step x (EmittedPacket y packet) = of_none (connected_by x) (EmittedPacket y packet) (same_end x y) refl
connected_step x (EmittedEvent y (SendPacket p)) = of_none (connected_by x) (EmittedEvent y (SendPacket p)) (same_end x y) refl
connected_step x (EmittedEvent y OnConnected) = of_one (connected_by x) (EmittedEvent y OnConnected) y (same_end x y) refl
connected_step x (EmittedEvent y OnClosed) = of_none (connected_by x) (EmittedEvent y OnClosed) (same_end x y) refl
connected_step x (EmittedEvent y OnConnectionRestarted) = of_none (connected_by x) (EmittedEvent y OnConnectionRestarted) (same_end x y) refl
connected_step x (EmittedEvent y (OnAborted kind text)) = of_none (connected_by x) (EmittedEvent y (OnAborted kind text)) (same_end x y) refl
connected_step x (EmittedEvent y (OnError kind text)) = of_none (connected_by x) (EmittedEvent y (OnError kind text)) (same_end x y) refl
connected_step x (EmittedEvent y (OnBufferedAmountLow id)) = of_none (connected_by x) (EmittedEvent y (OnBufferedAmountLow id)) (same_end x y) refl
connected_step x (EmittedEvent y OnTotalBufferedAmountLow) = of_none (connected_by x) (EmittedEvent y OnTotalBufferedAmountLow) (same_end x y) refl
connected_step x (EmittedEvent y (OnStreamsResetFailed ids)) = of_none (connected_by x) (EmittedEvent y (OnStreamsResetFailed ids)) (same_end x y) refl
connected_step x (EmittedEvent y (OnStreamsResetPerformed ids)) = of_none (connected_by x) (EmittedEvent y (OnStreamsResetPerformed ids)) (same_end x y) refl
connected_step x (EmittedEvent y (OnIncomingStreamReset ids)) = of_none (connected_by x) (EmittedEvent y (OnIncomingStreamReset ids)) (same_end x y) refl
connected_step x (EmittedEvent y (OnLifecycleMessageFullySent id)) = of_none (connected_by x) (EmittedEvent y (OnLifecycleMessageFullySent id)) (same_end x y) refl
connected_step x (EmittedEvent y (OnLifecycleMessageMaybeExpired id)) = of_none (connected_by x) (EmittedEvent y (OnLifecycleMessageMaybeExpired id)) (same_end x y) refl
connected_step x (EmittedEvent y (OnLifecycleMessageExpired id)) = of_none (connected_by x) (EmittedEvent y (OnLifecycleMessageExpired id)) (same_end x y) refl
connected_step x (EmittedEvent y (OnLifecycleMessageDelivered id)) = of_none (connected_by x) (EmittedEvent y (OnLifecycleMessageDelivered id)) (same_end x y) refl
connected_step x (EmittedEvent y (OnLifecycleEnd id)) = of_none (connected_by x) (EmittedEvent y (OnLifecycleEnd id)) (same_end x y) refl

pub connected_by_emitted : (x : End) (log : List Entry) → flat_map (connected_by x) log ≡ flat_map (connected_by x) (emitted_in x log)
connected_by_emitted x [] = refl
connected_by_emitted x (e ∷ log) =
    ap (λ (l : List End). connected_by x e ++ l) (connected_by_emitted x log)
    ∙ ap (λ (l : List End). l ++ flat_map (connected_by x) (emitted_in x log)) (sym (connected_step x e))
    ∙ sym (flat_map-append (connected_by x) (emitted_by x e) (emitted_in x log))

ended_step : (x : End) (e : Entry) → flat_map (association_ends_by x) (emitted_by x e) ≡ association_ends_by x e
ended_step x (Called y clock call answer) = refl
ended_step x (Given y clock packet) = refl
ended_step x (Foreign y clock bytes) = refl
ended_step x (Timed y clock now) = refl
ended_step x (Associated y a) = refl
ended_step x (GaveUp y g) = refl
ended_step x (BecameReady y m) = refl
ended_step x (EmittedPacket y packet) = of_none (association_ends_by x) (EmittedPacket y packet) (same_end x y) refl
ended_step x (EmittedEvent y (SendPacket p)) = of_none (association_ends_by x) (EmittedEvent y (SendPacket p)) (same_end x y) refl
ended_step x (EmittedEvent y OnConnected) = of_none (association_ends_by x) (EmittedEvent y OnConnected) (same_end x y) refl
ended_step x (EmittedEvent y OnClosed) = of_one (association_ends_by x) (EmittedEvent y OnClosed) y (same_end x y) refl
ended_step x (EmittedEvent y OnConnectionRestarted) = of_none (association_ends_by x) (EmittedEvent y OnConnectionRestarted) (same_end x y) refl
ended_step x (EmittedEvent y (OnAborted kind text)) = of_one (association_ends_by x) (EmittedEvent y (OnAborted kind text)) y (same_end x y) refl
ended_step x (EmittedEvent y (OnError kind text)) = of_none (association_ends_by x) (EmittedEvent y (OnError kind text)) (same_end x y) refl
ended_step x (EmittedEvent y (OnBufferedAmountLow id)) = of_none (association_ends_by x) (EmittedEvent y (OnBufferedAmountLow id)) (same_end x y) refl
ended_step x (EmittedEvent y OnTotalBufferedAmountLow) = of_none (association_ends_by x) (EmittedEvent y OnTotalBufferedAmountLow) (same_end x y) refl
ended_step x (EmittedEvent y (OnStreamsResetFailed ids)) = of_none (association_ends_by x) (EmittedEvent y (OnStreamsResetFailed ids)) (same_end x y) refl
ended_step x (EmittedEvent y (OnStreamsResetPerformed ids)) = of_none (association_ends_by x) (EmittedEvent y (OnStreamsResetPerformed ids)) (same_end x y) refl
ended_step x (EmittedEvent y (OnIncomingStreamReset ids)) = of_none (association_ends_by x) (EmittedEvent y (OnIncomingStreamReset ids)) (same_end x y) refl
ended_step x (EmittedEvent y (OnLifecycleMessageFullySent id)) = of_none (association_ends_by x) (EmittedEvent y (OnLifecycleMessageFullySent id)) (same_end x y) refl
ended_step x (EmittedEvent y (OnLifecycleMessageMaybeExpired id)) = of_none (association_ends_by x) (EmittedEvent y (OnLifecycleMessageMaybeExpired id)) (same_end x y) refl
ended_step x (EmittedEvent y (OnLifecycleMessageExpired id)) = of_none (association_ends_by x) (EmittedEvent y (OnLifecycleMessageExpired id)) (same_end x y) refl
ended_step x (EmittedEvent y (OnLifecycleMessageDelivered id)) = of_none (association_ends_by x) (EmittedEvent y (OnLifecycleMessageDelivered id)) (same_end x y) refl
ended_step x (EmittedEvent y (OnLifecycleEnd id)) = of_none (association_ends_by x) (EmittedEvent y (OnLifecycleEnd id)) (same_end x y) refl

pub ended_by_emitted : (x : End) (log : List Entry) → flat_map (association_ends_by x) log ≡ flat_map (association_ends_by x) (emitted_in x log)
ended_by_emitted x [] = refl
ended_by_emitted x (e ∷ log) =
    ap (λ (l : List End). association_ends_by x e ++ l) (ended_by_emitted x log)
    ∙ ap (λ (l : List End). l ++ flat_map (association_ends_by x) (emitted_in x log)) (sym (ended_step x e))
    ∙ sym (flat_map-append (association_ends_by x) (emitted_by x e) (emitted_in x log))
