-- What the log says of messages is what the trace says of them: those that were accepted, became ready, were handed out, given up.
use Rattle.std.proofs.Common.{◌≡◌, ℕ, ◌+◌, ◌<◌, ◌==◌, ◌||◌, Bool, true, false, Option, Some, None, List, [], ◌∷◌, ◌++◌, map, take, drop, refl, ap, ◌∙◌, append-nil, arith}
use Rattle.std.specs.List.{flat_map, list_any}
use Rattle.std.proofs.lemmas.Grind.{flat_map-append}
use Rattle.std.proofs.lemmas.Bool.Decides.{nat_tests}
use Rattle.std.proofs.lemmas.Bool.{ne_eqb}
use Rattle.sctp_serial.specs.Messages.{Message}
use Rattle.sctp_state.specs.declared.api.SocketState.{SocketState}
use Rattle.sctp_state.specs.declared.api.errors.SendError.{SendError}
use Rattle.sctp_state.specs.Options.{Options, SendOptions}
use Rattle.sctp_state.specs.Events.{Event, GivenUp, SendPacket, OnConnected, OnClosed, OnConnectionRestarted, OnAborted, OnError, OnBufferedAmountLow, OnTotalBufferedAmountLow, OnStreamsResetFailed, OnStreamsResetPerformed, OnIncomingStreamReset, OnLifecycleMessageFullySent, OnLifecycleMessageMaybeExpired, OnLifecycleMessageExpired, OnLifecycleMessageDelivered, OnLifecycleEnd, first_of}
use Rattle.spec_endpoint.specs.Association.{Context, Endpoint}
use Rattle.sctp_tx_queue.specs.SendQueue.{Queue, add}
use Rattle.spec_endpoint.specs.Calls.{send_refusal, refusals, with_refusal, queue_entry, offered, offer, ready_at}
use Rattle.spec_endpoint.specs.Shown.{Association}
use Rattle.proof_endpoint.specs.Mapped.{Carried}
use Rattle.proof_delivery.specs.Accepted.{AcceptedMessage, unless_refused, accepted_of}
use Rattle.spec_world.specs.Observations.{End, same_end, same_association, none_unless, some_unless, unrefused, Send, Sent, TookMessage, Entry, Associated, EmittedPacket, EmittedEvent, GaveUp, BecameReady, ready_by, handed_out_in, handed_out_by, given_up_by, given_up}
use Rattle.spec_world.specs.World.{association, associated_unless, association_entries, ready_before, ready_entries, given_up_entries, emitted_entries, news}
use Rattle.proof_world.specs.Delivered.{accepted_messages_in, accepted_messages_by, reported_by}

-- ---- what an event adds behind its first entry

-- of this end's events, such entries say nothing of it
pub record IsQuietOnEmitted {X : Type 0} (f : Entry → List X) (y : End) : Type 0 where
  pub associated : (a : Option Association) → f (Associated y a) ≡ []
  pub emitted : (n : ℕ) → f (EmittedPacket y n) ≡ []
  pub happened : (e : Event (List ℕ)) → f (EmittedEvent y e) ≡ []

pub record IsQuietOn {X : Type 0} (f : Entry → List X) (y : End) : Type 0 where
  pub on_emitted : IsQuietOnEmitted f y
  pub gave_up : (g : GivenUp) → f (GaveUp y g) ≡ []

module _ {X : Type 0} (f : Entry → List X) (y : End) where
  one_more : (e : Entry) (l : List Entry) → f e ≡ [] → flat_map f l ≡ [] → flat_map f (e ∷ l) ≡ []
  one_more e l h k = ap (λ (z : List X). z ++ flat_map f l) h ∙ k

  pub behind_none : (k l : List Entry) → flat_map f k ≡ [] → flat_map f (k ++ l) ≡ flat_map f l
  behind_none k l h = flat_map-append f k l ∙ ap (λ (z : List X). z ++ flat_map f l) h

  pub none_ready : ((m : Message) → f (BecameReady y m) ≡ []) → (ms : List Message) → flat_map f (map (BecameReady y) ms) ≡ []
  none_ready h [] = refl
  none_ready h (m ∷ ms) = one_more (BecameReady y m) (map (BecameReady y) ms) (h m) (none_ready h ms)

module _ {X : Type 0} (f : Entry → List X) (y : End) (q : IsQuietOnEmitted f y) where
  pub none_associated : (b : Bool) (a : Option Association) → flat_map f (associated_unless b y a) ≡ []
  none_associated true a = refl
  none_associated false a = one_more f y (Associated y a) [] (q.associated a) refl

  pub none_emitted : (n : ℕ) (es : List (Event (List ℕ))) → flat_map f (emitted_entries y n es) ≡ []
  none_emitted n [] = refl
  none_emitted n (SendPacket p ∷ es) = one_more f y (EmittedPacket y n) (emitted_entries y (n + 1) es) (q.emitted n) (none_emitted (n + 1) es)
  none_emitted n (OnConnected ∷ es) = one_more f y (EmittedEvent y OnConnected) (emitted_entries y n es) (q.happened OnConnected) (none_emitted n es)
  none_emitted n (OnClosed ∷ es) = one_more f y (EmittedEvent y OnClosed) (emitted_entries y n es) (q.happened OnClosed) (none_emitted n es)
  none_emitted n (OnConnectionRestarted ∷ es) = one_more f y (EmittedEvent y OnConnectionRestarted) (emitted_entries y n es) (q.happened OnConnectionRestarted) (none_emitted n es)
  none_emitted n (OnAborted kind text ∷ es) = one_more f y (EmittedEvent y (OnAborted kind text)) (emitted_entries y n es) (q.happened (OnAborted kind text)) (none_emitted n es)
  none_emitted n (OnError kind text ∷ es) = one_more f y (EmittedEvent y (OnError kind text)) (emitted_entries y n es) (q.happened (OnError kind text)) (none_emitted n es)
  none_emitted n (OnBufferedAmountLow id ∷ es) = one_more f y (EmittedEvent y (OnBufferedAmountLow id)) (emitted_entries y n es) (q.happened (OnBufferedAmountLow id)) (none_emitted n es)
  none_emitted n (OnTotalBufferedAmountLow ∷ es) = one_more f y (EmittedEvent y OnTotalBufferedAmountLow) (emitted_entries y n es) (q.happened OnTotalBufferedAmountLow) (none_emitted n es)
  none_emitted n (OnStreamsResetFailed ids ∷ es) = one_more f y (EmittedEvent y (OnStreamsResetFailed ids)) (emitted_entries y n es) (q.happened (OnStreamsResetFailed ids)) (none_emitted n es)
  none_emitted n (OnStreamsResetPerformed ids ∷ es) = one_more f y (EmittedEvent y (OnStreamsResetPerformed ids)) (emitted_entries y n es) (q.happened (OnStreamsResetPerformed ids)) (none_emitted n es)
  none_emitted n (OnIncomingStreamReset ids ∷ es) = one_more f y (EmittedEvent y (OnIncomingStreamReset ids)) (emitted_entries y n es) (q.happened (OnIncomingStreamReset ids)) (none_emitted n es)
  none_emitted n (OnLifecycleMessageFullySent id ∷ es) = one_more f y (EmittedEvent y (OnLifecycleMessageFullySent id)) (emitted_entries y n es) (q.happened (OnLifecycleMessageFullySent id)) (none_emitted n es)
  none_emitted n (OnLifecycleMessageMaybeExpired id ∷ es) = one_more f y (EmittedEvent y (OnLifecycleMessageMaybeExpired id)) (emitted_entries y n es) (q.happened (OnLifecycleMessageMaybeExpired id)) (none_emitted n es)
  none_emitted n (OnLifecycleMessageExpired id ∷ es) = one_more f y (EmittedEvent y (OnLifecycleMessageExpired id)) (emitted_entries y n es) (q.happened (OnLifecycleMessageExpired id)) (none_emitted n es)
  none_emitted n (OnLifecycleMessageDelivered id ∷ es) = one_more f y (EmittedEvent y (OnLifecycleMessageDelivered id)) (emitted_entries y n es) (q.happened (OnLifecycleMessageDelivered id)) (none_emitted n es)
  none_emitted n (OnLifecycleEnd id ∷ es) = one_more f y (EmittedEvent y (OnLifecycleEnd id)) (emitted_entries y n es) (q.happened (OnLifecycleEnd id)) (none_emitted n es)

module _ {X : Type 0} (f : Entry → List X) (y : End) (q : IsQuietOn f y) where
  none_given_up : (gs : List GivenUp) → flat_map f (given_up_entries y gs) ≡ []
  none_given_up [] = refl
  none_given_up (g ∷ gs) = one_more f y (GaveUp y g) (given_up_entries y gs) (q.gave_up g) (none_given_up gs)

  -- so all that counts are the messages that became ready
  pub in_news : (n ready : ℕ) (old : Option Association) (s : Endpoint (List ℕ))
      → flat_map f (news y n ready old s) ≡ flat_map f (ready_entries y (ready_before (same_association old (association s)) ready) (ready_at s))
  in_news n ready old s =
      let last : List Entry = ready_entries y (ready_before (same_association old (association s)) ready) (ready_at s) in
      let given_up_part : List Entry = given_up_entries y s.endpoint_state.context.emitted.given_up in
      let emitted_part : List Entry = emitted_entries y n s.endpoint_state.context.emitted.events in
      behind_none f y (association_entries y old (association s)) (emitted_part ++ (given_up_part ++ last)) (none_associated f y q.on_emitted (same_association old (association s)) (association s))
      ∙ (behind_none f y emitted_part (given_up_part ++ last) (none_emitted f y q.on_emitted n s.endpoint_state.context.emitted.events) ∙ behind_none f y given_up_part last (none_given_up s.endpoint_state.context.emitted.given_up))

  pub none_in_news : ((m : Message) → f (BecameReady y m) ≡ []) → (n ready : ℕ) (old : Option Association) (s : Endpoint (List ℕ))
      → flat_map f (news y n ready old s) ≡ []
  none_in_news h n ready old s = in_news n ready old s ∙ none_ready f y h (drop (ready_before (same_association old (association s)) ready) (ready_at s))

-- ---- readings of the log

pub quiet_offers : (x y : End) → IsQuietOn (accepted_messages_by x) y
quiet_offers x y = record { on_emitted = record { associated = λ a. refl; emitted = λ n. refl; happened = λ e. refl }; gave_up = λ g. refl }

pub quiet_ready : (x y : End) → IsQuietOn (ready_by x) y
quiet_ready x y = record { on_emitted = record { associated = λ a. refl; emitted = λ n. refl; happened = λ e. refl }; gave_up = λ g. refl }

pub quiet_handed : (x y : End) → IsQuietOn (handed_out_by x) y
quiet_handed x y = record { on_emitted = record { associated = λ a. refl; emitted = λ n. refl; happened = λ e. refl }; gave_up = λ g. refl }

-- of what an end emits, the other one gave up and reported nothing
pub quiet_given_up : (x y : End) → same_end x y ≡ false → IsQuietOn (given_up_by x) y
quiet_given_up x y h = record { on_emitted = record { associated = λ a. refl; emitted = λ n. refl; happened = λ e. refl }; gave_up = λ g. ap (λ (b : Bool). none_unless b g) h }

pub reports_none : (x y : End) (event : Event (List ℕ)) → same_end x y ≡ false → reported_by x (EmittedEvent y event) ≡ []
reports_none x y (SendPacket bytes) h = refl
reports_none x y OnConnected h = refl
reports_none x y OnClosed h = refl
reports_none x y OnConnectionRestarted h = refl
reports_none x y (OnAborted kind text) h = refl
reports_none x y (OnError kind text) h = refl
reports_none x y (OnBufferedAmountLow id) h = refl
reports_none x y OnTotalBufferedAmountLow h = refl
reports_none x y (OnStreamsResetFailed ids) h = refl
reports_none x y (OnStreamsResetPerformed ids) h = refl
reports_none x y (OnIncomingStreamReset ids) h = refl
reports_none x y (OnLifecycleMessageFullySent id) h = refl
reports_none x y (OnLifecycleMessageMaybeExpired id) h = refl
reports_none x y (OnLifecycleMessageExpired id) h = refl
reports_none x y (OnLifecycleMessageDelivered id) h = ap (λ (b : Bool). none_unless b id) h
reports_none x y (OnLifecycleEnd id) h = refl

pub quiet_reported : (x y : End) → same_end x y ≡ false → IsQuietOn (reported_by x) y
quiet_reported x y h = record {
  on_emitted = record { associated = λ a. refl; emitted = λ n. refl; happened = λ e. reports_none x y e h };
  gave_up = λ g. refl;
}

ready_own : (x : End) → same_end x x ≡ true → (ms : List Message) → flat_map (ready_by x) (map (BecameReady x) ms) ≡ ms
ready_own x h [] = refl
ready_own x h (m ∷ ms) =
    ap (λ (b : Bool). none_unless b m ++ flat_map (ready_by x) (map (BecameReady x) ms)) h ∙ ap (λ (z : List Message). m ∷ z) (ready_own x h ms)

ready_other : (x y : End) → same_end x y ≡ false → (m : Message) → ready_by x (BecameReady y m) ≡ []
ready_other x y h m = ap (λ (b : Bool). none_unless b m) h

pub ready_news : (x : End) → same_end x x ≡ true → (n ready : ℕ) (old : Option Association) (s : Endpoint (List ℕ))
    → flat_map (ready_by x) (news x n ready old s) ≡ drop (ready_before (same_association old (association s)) ready) (ready_at s)
ready_news x h n ready old s =
    in_news (ready_by x) x (quiet_ready x x) n ready old s ∙ ready_own x h (drop (ready_before (same_association old (association s)) ready) (ready_at s))

pub ready_news_other : (x y : End) → same_end x y ≡ false → (n ready : ℕ) (old : Option Association) (s : Endpoint (List ℕ))
    → flat_map (ready_by x) (news y n ready old s) ≡ []
ready_news_other x y h n ready old s = none_in_news (ready_by x) y (quiet_ready x y) (ready_other x y h) n ready old s

-- what was given up is emitted once
given_up_own : (x : End) → same_end x x ≡ true → (gs : List GivenUp) → given_up x (given_up_entries x gs) ≡ gs
given_up_own x h [] = refl
given_up_own x h (g ∷ gs) = ap (λ (b : Bool). none_unless b g ++ given_up x (given_up_entries x gs)) h ∙ ap (λ (z : List GivenUp). g ∷ z) (given_up_own x h gs)

pub given_up_news : (x : End) → same_end x x ≡ true → (n ready : ℕ) (old : Option Association) (s : Endpoint (List ℕ))
    → given_up x (news x n ready old s) ≡ s.endpoint_state.context.emitted.given_up
given_up_news x h n ready old s =
    let last : List Entry = ready_entries x (ready_before (same_association old (association s)) ready) (ready_at s) in
    let given_up_part : List Entry = given_up_entries x s.endpoint_state.context.emitted.given_up in
    let emitted_part : List Entry = emitted_entries x n s.endpoint_state.context.emitted.events in
    let quiet : IsQuietOnEmitted (given_up_by x) x = record { associated = λ a. refl; emitted = λ k. refl; happened = λ e. refl } in
    behind_none (given_up_by x) x (association_entries x old (association s)) (emitted_part ++ (given_up_part ++ last))
    (none_associated (given_up_by x) x quiet (same_association old (association s)) (association s))
    ∙ (behind_none (given_up_by x) x emitted_part (given_up_part ++ last) (none_emitted (given_up_by x) x quiet n s.endpoint_state.context.emitted.events)
    ∙ (flat_map-append (given_up_by x) given_up_part last
    ∙ (ap (λ (z : List GivenUp). given_up x given_up_part ++ z) (none_ready (given_up_by x) x (λ m. refl) (drop (ready_before (same_association old (association s)) ready) (ready_at s)))
    ∙ (append-nil (given_up x given_up_part) ∙ given_up_own x h s.endpoint_state.context.emitted.given_up))))

-- ---- calls

-- the first that is ready is handed out
pub first_handed : (ms : List Message) → handed_out_in (TookMessage (first_of ms)) ≡ take 1 ms
first_handed [] = refl
first_handed (m ∷ ms) = refl

abbrev with_options : SendOptions → List Message → List AcceptedMessage
with_options o ms = map (λ (m : Message). record { message = m; options = o }) ms

pub one_offer : (r : Option SendError) (m : Message) (o : SendOptions) → accepted_messages_in (Send m o) (Sent r) ≡ unless_refused r m o ++ []
one_offer None m o = refl
one_offer (Some e) m o = refl

-- of several
later_place : (p place : ℕ) (e : SendError) (rest : List (ℕ × SendError)) → p < place → list_any (λ (r : ℕ × SendError). r.0 == place) ((p, e) ∷ rest) ≡ list_any (λ (r : ℕ × SendError). r.0 == place) rest
later_place p place e rest l = ap (λ (b : Bool). b || list_any (λ (r : ℕ × SendError). r.0 == place) rest) (ne_eqb p place (λ e. absurd (omega (arith, e, l))))

pub unrefused_later : (p : ℕ) (e : SendError) (rest : List (ℕ × SendError)) (place : ℕ) (ms : List Message) → p < place → unrefused place ms ((p, e) ∷ rest) ≡ unrefused place ms rest
unrefused_later p e rest place [] l = refl
unrefused_later p e rest place (m ∷ ms) l =
    ap (λ (b : Bool). some_unless b m (unrefused (place + 1) ms ((p, e) ∷ rest))) (later_place p place e rest l)
    ∙ ap (λ (z : List Message). some_unless (list_any (λ (r : ℕ × SendError). r.0 == place) rest) m z) (unrefused_later p e rest (place + 1) ms (omega (arith, l)))

-- refusals name later places only
pub none_before : (place next : ℕ) → place < next → (ms : List Message) (o : SendOptions) (shown : SocketState) (c : Context (List ℕ))
    → list_any (λ (r : ℕ × SendError). r.0 == place) (refusals next ms o shown c) ≡ false
none_before place next l [] o shown c = refl
none_before place next l (m ∷ ms) o shown c =
    none_with (send_refusal m shown c) (refusals (next + 1) ms o shown (offer m o shown c)) (none_before place (next + 1) (omega (arith, l)) ms o shown (offer m o shown c))
  where
    none_with : (r : Option SendError) (rest : List (ℕ × SendError)) → list_any (λ (z : ℕ × SendError). z.0 == place) rest ≡ false
        → list_any (λ (z : ℕ × SendError). z.0 == place) (with_refusal next r rest) ≡ false
    none_with None rest h = h
    none_with (Some e) rest h = grind (arith, nat_tests, h, l)

-- what of a context counts here
pub record IsAlike (c : Context (List ℕ)) (d : Context Carried) : Type 0 where
  pub options : c.options ≡ d.options
  pub queue : c.queue ≡ d.queue
  pub now : c.now ≡ d.now

refused_alike : (m : Message) (shown : SocketState) (c : Context (List ℕ)) (d : Context Carried) → IsAlike c d → send_refusal m shown c ≡ send_refusal m shown d
refused_alike m shown c d a =
    ap (λ (z : Options). send_refusal m shown (record d { options = z; queue = c.queue })) a.options
    ∙ ap (λ (z : Queue). send_refusal m shown (record d { queue = z })) a.queue

offer_alike : (m : Message) (o : SendOptions) (shown : SocketState) (c : Context (List ℕ)) (d : Context Carried) → IsAlike c d → IsAlike (offer m o shown c) (offer m o shown d)
offer_alike m o shown c d a = go (send_refusal m shown c) (send_refusal m shown d) (refused_alike m shown c d a)
  where
    go : (r s : Option SendError) → r ≡ s → IsAlike (offered r m o c) (offered s m o d)
    go None None e = record {
      options = a.options;
      queue = ap (λ (q : Queue). add m.stream (queue_entry q.next_number c.now m o) q) a.queue ∙ ap (λ (n : ℕ). add m.stream (queue_entry d.queue.next_number n m o) d.queue) a.now;
      now = a.now;
    }
    go (Some x) (Some y) e = record { options = a.options; queue = a.queue; now = a.now }
    go None (Some y) e = cc
    go (Some x) None e = cc

pub many_offers : (place : ℕ) (ms : List Message) (o : SendOptions) (shown : SocketState) (c : Context (List ℕ)) (d : Context Carried) → IsAlike c d
    → with_options o (unrefused place ms (refusals place ms o shown c)) ≡ accepted_of ms o shown d
many_offers place [] o shown c d a = refl
many_offers place (m ∷ ms) o shown c d a =
    go (send_refusal m shown c) (send_refusal m shown d) (refused_alike m shown c d a)
    (none_before place (place + 1) (omega arith) ms o shown (offer m o shown c))
    (many_offers (place + 1) ms o shown (offer m o shown c) (offer m o shown d) (offer_alike m o shown c d a))
  where
    rest : List (ℕ × SendError)
    rest = refusals (place + 1) ms o shown (offer m o shown c)

    among : (r : Option SendError) → Bool
    among r = list_any (λ (z : ℕ × SendError). z.0 == place) (with_refusal place r rest)

    here : (e : SendError) → among (Some e) ≡ true
    here e = grind (arith, nat_tests)

    go : (r s : Option SendError) → r ≡ s → list_any (λ (z : ℕ × SendError). z.0 == place) rest ≡ false
        → with_options o (unrefused (place + 1) ms rest) ≡ accepted_of ms o shown (offer m o shown d)
        → with_options o (unrefused place (m ∷ ms) (with_refusal place r rest)) ≡ unless_refused s m o ++ accepted_of ms o shown (offer m o shown d)
    go None None e none ih =
        ap (λ (b : Bool). with_options o (some_unless b m (unrefused (place + 1) ms rest))) none
        ∙ ap (λ (z : List AcceptedMessage). record { message = m; options = o } ∷ z) ih
    go (Some x) (Some y) e none ih =
        ap (λ (b : Bool). with_options o (some_unless b m (unrefused (place + 1) ms ((place, x) ∷ rest)))) (here x)
        ∙ (ap (with_options o) (unrefused_later place x rest (place + 1) ms (omega arith)) ∙ ih)
    go None (Some y) e none ih = cc
    go (Some x) None e none ih = cc
