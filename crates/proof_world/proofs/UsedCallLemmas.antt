-- Each call leaves an end within what it accepted, with what it accepts then.
use Rattle.std.proofs.Common.{◌≡◌, ℕ, ◌+◌, ◌≤◌, ◌==◌, ◌&&◌, not, Bool, true, false, Option, Some, None, List, [], ◌∷◌, ◌++◌, map, refl, sym, ap, subst, ◌∙◌, append_assoc, append-nil, arith}
use Rattle.std.specs.List.{list_any}
use Rattle.std.proofs.lemmas.Bool.{both_ways}
use Rattle.std.proofs.lemmas.Bool.Decides.{nat_tests}
use Rattle.sctp_serial.specs.Messages.{Message}
use Rattle.sctp_state.specs.declared.api.SocketState.{SocketState}
use Rattle.sctp_state.specs.declared.api.errors.SendError.{SendError}
use Rattle.sctp_state.specs.Options.{SendOptions}
use Rattle.sctp_tx_queue.specs.SendQueue.{Queued, Entries, Queue, stream}
use Rattle.spec_endpoint.specs.Association.{State, Context, EndpointState, Endpoint, with_context}
use Rattle.spec_endpoint.specs.Sending.{send_in}
use Rattle.spec_endpoint.specs.Calls.{shown_state, send_refusal, send_refusal_of, refusals, with_refusal, queue_entry, accept, offered, offer, offer_all}
use Rattle.spec_endpoint.specs.Laws as table
use Rattle.spec_endpoint.specs.Laws.{called}
use Rattle.spec_endpoint.specs.Receiving.{Receives, read, not_read}
use Rattle.proof_endpoint.specs.Acts.{calm, Preserves}
use Rattle.proof_endpoint.specs.Lifecycles.{is_restore}
use Rattle.proof_endpoint.proofs.ActsLemmas.{keeps_call}
use Rattle.proof_endpoint.proofs.CallActsLemmas.{does_send_in, does_sent_unless}
use Rattle.proof_endpoint.proofs.LivesLemmas.{offers, not_offered}
use Rattle.proof_endpoint.proofs.RowActsLemmas.{does_where_open}
use Rattle.proof_delivery.specs.Accepted.{AcceptedMessage}
use Rattle.spec_world.specs.Observations.{Call, Connect, Shutdown, Close, Send, SendMany, TakeMessage, Reset, SetPriority, SetMaxMessageSize, SetLowThreshold, HandOver, Sent, some_unless, unrefused}
use Rattle.spec_world.specs.World.{after_call, after_time, answer_to}
use Rattle.proof_world.specs.Delivered.{accepted_messages_in}
use Rattle.proof_world.specs.Few.{most_fragments, one_if, ordered_on}
use Rattle.proof_world.proofs.LoggedLemmas.{none_before, unrefused_later}
use Rattle.proof_world.proofs.UsedQueueLemmas.{of_added}
use Rattle.proof_world.proofs.UsedStreamLemmas.{HasOrdered, keeps_ordered, AllStand, one_of, stream_stands, stands_added, pushed_ordered, more_ordered}
use Rattle.proof_world.proofs.UsedItemsLemmas.{count}
use Rattle.proof_world.proofs.UsedLemmas.{left_cost, whole_cost, UsesIn, UsesAt, Onward, uses_on}

-- ---- more messages

pub most_both : (taken bs : List AcceptedMessage) → most_fragments (taken ++ bs) ≡ most_fragments taken + most_fragments bs
most_both [] bs = omega arith
most_both (a ∷ taken) bs = omega (arith, most_both taken bs)

pub ordered_both : (id : ℕ) (taken bs : List AcceptedMessage) → ordered_on id (taken ++ bs) ≡ ordered_on id taken + ordered_on id bs
ordered_both id [] bs = omega arith
ordered_both id (a ∷ taken) bs = omega (arith, ordered_both id taken bs)

module _ (most more : ℕ → ℕ) (few : (id : ℕ) → most id ≤ more id) where
  more_stand : (es : Entries) → AllStand (λ id s. HasOrdered (most id) s) (keeps_ordered most) es → AllStand (λ id s. HasOrdered (more id) s) (keeps_ordered more) es
  more_stand [] h = tt
  more_stand (e ∷ es) h = (more_ordered (most e.0) (more e.0) e.1 (few e.0) h.0, more_stand es h.1)

-- more was accepted, or records were taken
pub uses_more : (all all_then : ℕ) (most more : ℕ → ℕ) (s : State) (q : Queue) (n m : ℕ) → all ≤ all_then → all + n ≤ all_then + m → ((id : ℕ) → most id ≤ more id)
    → UsesIn all most s q n → UsesIn all_then more s q m
uses_more all all_then most more s q n m grown sum few h = record {
  whole = omega (arith, grown, h.whole);
  used = omega (arith, sum, h.used);
  from = h.from;
  streams = more_stand most more few q.streams.entries h.streams;
}

-- so much, with r records taken
abbrev pub all_of : List AcceptedMessage → ℕ → ℕ
all_of taken r = most_fragments taken + r

abbrev pub on_streams : List AcceptedMessage → ℕ → ℕ
on_streams taken id = ordered_on id taken

abbrev sent_so : Message → SendOptions → AcceptedMessage
sent_so m o = record { message = m; options = o }

abbrev with_options : SendOptions → List Message → List AcceptedMessage
with_options o ms = map (λ (m : Message). sent_so m o) ms

-- the message is ordered and on this stream, or on another one
one_on : (m : Message) (o : SendOptions) (old : List AcceptedMessage) (id : ℕ) → ordered_on id (old ++ sent_so m o ∷ []) ≡ ordered_on id old + one_if ((m.stream == id) && not o.unordered)
one_on m o old id = omega (arith, ordered_both id old (sent_so m o ∷ []))

same_number : (n : ℕ) → (n == n) ≡ true
same_number n = grind (arith, nat_tests)

here_on : (m : Message) (o : SendOptions) (old : List AcceptedMessage) → ordered_on m.stream (old ++ sent_so m o ∷ []) ≡ ordered_on m.stream old + one_if (not o.unordered)
here_on m o old = one_on m o old m.stream ∙ ap (λ (b : Bool). ordered_on m.stream old + one_if (b && not o.unordered)) (same_number m.stream)

pushes : (b : Bool) (n k : ℕ) → k ≡ n + one_if b → n + one_of b ≤ k
pushes true n k e = omega (arith, e)
pushes false n k e = omega (arith, e)

-- ---- acceptance

module _ {P : Type 0} (r : ℕ) (s : State) where
  abbrev In : List AcceptedMessage → Context P → Type 0
  In old c = UsesIn (all_of old r) (on_streams old) s c.queue (count c.emitted)

  accepted_one : (m : Message) (o : SendOptions) (old : List AcceptedMessage) (c : Context P) → In old c → In (old ++ sent_so m o ∷ []) (accept m o c)
  accepted_one m o old c h =
      let entry : Queued = queue_entry c.queue.next_number c.now m o in
      let bs : List AcceptedMessage = old ++ sent_so m o ∷ [] in
      let few : (id : ℕ) → on_streams old id ≤ on_streams bs id = λ id. omega (arith, one_on m o old id) in
      let before : HasOrdered (on_streams old m.stream) (stream m.stream c.queue.streams)
      = stream_stands (λ id s. HasOrdered (on_streams old id) s) (keeps_ordered (on_streams old)) m.stream c.queue.streams h.streams in
      record {
        whole = omega (arith, h.whole, of_added whole_cost m.stream entry c.queue, most_both old (sent_so m o ∷ []));
        used = omega (arith, h.used, of_added left_cost m.stream entry c.queue, most_both old (sent_so m o ∷ []));
        from = h.from;
        streams =
            stands_added (λ id s. HasOrdered (on_streams bs id) s) (keeps_ordered (on_streams bs)) m.stream entry c.queue
            (pushed_ordered (on_streams old m.stream) (on_streams bs m.stream) entry (stream m.stream c.queue.streams)
            (pushes (not o.unordered) (on_streams old m.stream) (on_streams bs m.stream) (here_on m o old)) refl before)
            (more_stand (on_streams old) (on_streams bs) few c.queue.streams.entries h.streams);
      }

  one_offered : (z : Option SendError) (m : Message) (o : SendOptions) (old : List AcceptedMessage) (c : Context P) → In old c → In (old ++ accepted_messages_in (Send m o) (Sent z)) (offered z m o c)
  one_offered None m o old c h = accepted_one m o old c h
  one_offered (Some e) m o old c h = subst (λ (bs : List AcceptedMessage). In bs c) (sym (append-nil old)) h

-- several, one after the other
module _ (r : ℕ) (s : State) where
  all_offered : (place : ℕ) (ms : List Message) (o : SendOptions) (shown : SocketState) (old : List AcceptedMessage) (c : Context (List ℕ)) → In r s old c
      → In r s (old ++ with_options o (unrefused place ms (refusals place ms o shown c))) (offer_all ms o shown c)
  all_offered place [] o shown old c h = subst (λ (bs : List AcceptedMessage). In r s bs c) (sym (append-nil old)) h
  all_offered place (m ∷ ms) o shown old c h =
      go (send_refusal m shown c) (none_before place (place + 1) (omega arith) ms o shown (offer m o shown c)) refl (λ bs k. all_offered (place + 1) ms o shown bs (offer m o shown c) k)
    where
      rest : List (ℕ × SendError)
      rest = refusals (place + 1) ms o shown (offer m o shown c)

      among : (z : Option SendError) → Bool
      among z = list_any (λ (x : ℕ × SendError). x.0 == place) (with_refusal place z rest)

      here : (e : SendError) → among (Some e) ≡ true
      here e = grind (arith, nat_tests)

      last : Context (List ℕ)
      last = offer_all ms o shown (offer m o shown c)

      go : (z : Option SendError) → list_any (λ (x : ℕ × SendError). x.0 == place) rest ≡ false → send_refusal m shown c ≡ z
          → ((bs : List AcceptedMessage) → In r s bs (offer m o shown c) → In r s (bs ++ with_options o (unrefused (place + 1) ms rest)) last)
          → In r s (old ++ with_options o (unrefused place (m ∷ ms) (with_refusal place z rest))) last
      go None none e later =
          let next : In r s (old ++ sent_so m o ∷ []) (offer m o shown c) =
          subst (λ (d : Context (List ℕ)). In r s (old ++ sent_so m o ∷ []) d) (sym (ap (λ (z : Option SendError). offered z m o c) e)) (accepted_one r s m o old c h) in
          let joined : (old ++ sent_so m o ∷ []) ++ with_options o (unrefused (place + 1) ms rest) ≡ old ++ with_options o (unrefused place (m ∷ ms) rest) =
          append_assoc old (sent_so m o ∷ []) (with_options o (unrefused (place + 1) ms rest))
          ∙ ap (λ (b : Bool). old ++ with_options o (some_unless b m (unrefused (place + 1) ms rest))) (sym none) in
          subst (λ (bs : List AcceptedMessage). In r s bs last) joined (later (old ++ sent_so m o ∷ []) next)
      go (Some x) none e later =
          let next : In r s old (offer m o shown c) = subst (λ (d : Context (List ℕ)). In r s old d) (sym (ap (λ (z : Option SendError). offered z m o c) e)) h in
          let joined : with_options o (unrefused (place + 1) ms rest) ≡ with_options o (unrefused place (m ∷ ms) ((place, x) ∷ rest)) =
          ap (with_options o) (sym (unrefused_later place x rest (place + 1) ms (omega arith)))
          ∙ ap (λ (b : Bool). with_options o (some_unless b m (unrefused (place + 1) ms ((place, x) ∷ rest)))) (sym (here x)) in
          subst (λ (bs : List AcceptedMessage). In r s (old ++ bs) last) joined (later old next)

-- ---- each call

abbrev pub Within : List AcceptedMessage → ℕ → Endpoint (List ℕ) → Type 0
Within taken r s = UsesAt (all_of taken r) (on_streams taken) (calm s)

module _ (taken : List AcceptedMessage) (r : ℕ) where
  -- of a call that offers none
  steady : (call : table.Call) → offers call ≡ false → is_restore call ≡ false → (s : Endpoint (List ℕ)) → Within taken r s → Within taken r (called call s)
  steady call e f s h =
      keeps_call call (uses_on (all_of taken r) (on_streams taken) call (λ m o is. not_offered call m o is e) (λ k is. both_ways (is_restore call) f (ap is_restore is))) s h

  acts : Preserves {P = List ℕ} table.ReceiveNoPacket (Onward (all_of taken r) (on_streams taken))
  acts = uses_on (all_of taken r) (on_streams taken) table.ReceiveNoPacket (λ m o is. not_offered table.ReceiveNoPacket m o is refl) (λ k is. both_ways false refl (ap is_restore is))

  pub time_within : (now : ℕ) (s : Endpoint (List ℕ)) → Within taken r s → Within taken r (after_time now s)
  time_within now s h = steady (table.Advance now) refl refl s h

  pub received_within : (word_of : List ℕ → ℕ) (bytes : List ℕ) (s t : Endpoint (List ℕ)) → Receives word_of bytes s t → Within taken r s → Within taken r t
  received_within word_of bytes s t (read p accepts is) h = subst (Within taken r) (sym is) (steady (table.ReceivePacket p) refl refl s h)
  received_within word_of bytes s t (not_read fault is_fault refuses is) h = subst (Within taken r) (sym is) (steady table.ReceiveNoPacket refl refl s h)

  none_more : (s : Endpoint (List ℕ)) → Within taken r s → Within (taken ++ []) r s
  none_more s h = subst (λ (bs : List AcceptedMessage). Within bs r s) (sym (append-nil taken)) h

pub call_within : (taken : List AcceptedMessage) (r : ℕ) (call : Call) (s : Endpoint (List ℕ)) → Within taken r s → Within (taken ++ accepted_messages_in call (answer_to call s)) r (after_call call s)
call_within taken r (Send m o) s h =
    let e : EndpointState (List ℕ) = s.endpoint_state in
    let t : EndpointState (List ℕ) = with_context e (offer m o (shown_state e.state) e.context) in
    let bs : List AcceptedMessage = taken ++ accepted_messages_in (Send m o) (answer_to (Send m o) s) in
    does_sent_unless (acts bs r) s.draws (send_refusal_of m e) t (one_offered r e.state (send_refusal_of m e) m o taken e.context h)
call_within taken r (SendMany ms o) s h =
    let e : EndpointState (List ℕ) = s.endpoint_state in
    let t : EndpointState (List ℕ) = with_context e (offer_all ms o (shown_state e.state) e.context) in
    let bs : List AcceptedMessage = taken ++ accepted_messages_in (SendMany ms o) (answer_to (SendMany ms o) s) in
    does_where_open (acts bs r) s.draws send_in t (does_send_in (acts bs r) s.draws) (all_offered r e.state 0 ms o (shown_state e.state) taken e.context h)
call_within taken r Connect s h = none_more taken r (after_call Connect s) (steady taken r table.Connect refl refl s h)
call_within taken r Shutdown s h = none_more taken r (after_call Shutdown s) (steady taken r table.Shutdown refl refl s h)
call_within taken r Close s h = none_more taken r (after_call Close s) (steady taken r table.Close refl refl s h)
call_within taken r TakeMessage s h = none_more taken r (after_call TakeMessage s) (steady taken r table.TakeMessage refl refl s h)
call_within taken r (Reset streams) s h = none_more taken r (after_call (Reset streams) s) (steady taken r (table.ResetStreams streams) refl refl s h)
call_within taken r (SetPriority id priority) s h = none_more taken r (after_call (SetPriority id priority) s) (steady taken r (table.SetPriority id priority) refl refl s h)
call_within taken r (SetMaxMessageSize bytes) s h = none_more taken r (after_call (SetMaxMessageSize bytes) s) (steady taken r (table.SetMaxMessageSize bytes) refl refl s h)
call_within taken r (SetLowThreshold id bytes) s h = none_more taken r (after_call (SetLowThreshold id bytes) s) (steady taken r (table.SetLowThreshold id bytes) refl refl s h)
call_within taken r HandOver s h = none_more taken r (after_call HandOver s) (steady taken r table.HandOver refl refl s h)
