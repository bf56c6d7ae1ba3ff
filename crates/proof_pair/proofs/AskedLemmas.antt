-- What a handover asks holds of each end that calls lead to.
use Rattle.std.proofs.Common.{◌≡◌, ℕ, ◌+◌, ◌%◌, ◌^◌, ◌<◌, Bool, true, false, Option, Some, None, List, [], ◌∷◌, ◌++◌, length, mod-eq_of_lt, refl, sym, ap, subst, ◌∙◌, arith}
use Rattle.sctp_serial.specs.Messages.{Message}
use Rattle.sctp_packet.specs.Grammar.{Each}
use Rattle.sctp_state.specs.declared.api.SocketState.{SocketState}
use Rattle.sctp_state.specs.declared.api.errors.RestoreError.{RestoreError}
use Rattle.sctp_state.specs.declared.api.errors.SendError.{SendError}
use Rattle.sctp_state.specs.declared.api.handover.HandoverSocketState.{HandoverSocketState}
use Rattle.sctp_state.specs.declared.api.handover.HandoverSocketState.TheVariants as handed
use Rattle.sctp_state.specs.Handover.{HandoverState}
use Rattle.sctp_state.specs.Options.{SendOptions}
use Rattle.sctp_tx_queue.specs.SendQueue.{Queued, Queue}
use Rattle.sctp_tx_queue.proofs.InOrderLemmas.{new_in_order}
use Rattle.sctp_tx_queue.proofs.RestLemmas.{calls_leave_rests}
use Rattle.spec_endpoint.specs.Association.{Context, EndpointState, with_context, Endpoint, fresh}
use Rattle.spec_endpoint.specs.Calls.{shown_state, send_refusal, send_refusal_of, queue_entry, offered, offer, offer_all, sent_unless}
use Rattle.spec_endpoint.specs.Handover.{restore_refusal_in, restored_as, restored_unless}
use Rattle.spec_endpoint.specs.Laws.{Call, Connect, Close, Shutdown, Send, SendMany, ResetStreams, TakeMessage, SetLowThreshold, SetPriority, SetMaxMessageSize, Advance, HandOver, Restore, ReceivePacket, ReceiveNoPacket, called}
use Rattle.proof_endpoint.specs.HandoverRoundTrip.{IsNumberedOnce, established_state, HandoverGoesOn, MadeConnected, CallsNumberOnce}
use Rattle.proof_endpoint.specs.Lifecycles.{is_restore}
use Rattle.proof_endpoint.specs.Acts.{IsOffered, alone, among}
use Rattle.proof_pair.specs.HandoverInvariants.{IsOrdered, HandoverInvariantOf, HandoverInvariant, HandsIn, offers, NewEndsMeetHandoverInvariant, EachCallPreservesHandoverInvariant, NumbersOn, EachCallNumbersOnce, Use, Calls, Takes, after_use, after_uses, MayUse, offers_in, offers_along, EachEndGoesOn}
use Rattle.proof_endpoint.proofs.ActsLemmas.{keeps_call}
use Rattle.proof_pair.proofs.AskedActsLemmas.{Leads, associated_on}
use Rattle.proof_pair.proofs.AskedKeepsLemmas.{IsQuiet, keeps}
use Rattle.proof_pair.proofs.AskedRestoreLemmas.{takes_up}
use Rattle.proof_endpoint.proofs.NewEndLemmas.{none_sorted}

-- ---- a new end

pub new_ends_asked : NewEndsMeetHandoverInvariant
new_ends_asked o pack random = record {
  association = tt;
  queued = record { sorted = none_sorted; order = new_in_order.order o; next = omega arith; rests = calls_leave_rests.new o };
}

-- ---- a record that says that nothing is open changes nothing

restored_closed : (o : Option RestoreError) (h : HandoverState) (s : EndpointState (List ℕ)) → h.socket_state ≡ handed.Closed → restored_unless o h s ≡ s
restored_closed None h s e = ap (λ (how : HandoverSocketState). restored_as how h s) e
restored_closed (Some x) h s e = refl

called_closed : (h : HandoverState) (e : Endpoint (List ℕ)) → h.socket_state ≡ handed.Closed → called (Restore h) e ≡ e
called_closed h e is = ap (λ (s : EndpointState (List ℕ)). record e { endpoint_state = s }) (restored_closed (restore_refusal_in e.endpoint_state.state h) h e.endpoint_state is)

not_restore : (call : Call) (h : HandoverState) → is_restore call ≡ false → call ≡ Restore h → ⊥
not_restore call h e is = let b : is_restore call ≡ true = ap is_restore is in cc

same_record : (h g : HandoverState) → Restore h ≡ Restore g → h ≡ g
same_record h g e = ap (λ (call : Call). elim call [ Restore x ↦ x | call ↦ h ]) e

-- ---- each call

not_among : (m : Message) (before behind : List Message) → [] ≡ before ++ m ∷ behind → ⊥
not_among m [] behind e = cc
not_among m (x ∷ before) behind e = cc

same_list : (o p : SendOptions) (ms : List Message) → SendMany [] o ≡ SendMany ms p → ms ≡ []
same_list o p ms e = ap (λ (call : Call). elim call [ SendMany xs h ↦ xs | call ↦ ms ]) (sym e)

abbrev pub is_offer : Call → Bool
is_offer (Send m o) = true
is_offer (SendMany ms o) = true
is_offer call = false

no_offer : (call : Call) → is_offer call ≡ false → (m : Message) (o : SendOptions) → IsOffered call m o → ⊥
no_offer call none m o (alone is) = let b : is_offer call ≡ true = ap is_offer is in cc
no_offer call none m o (among ms is at) = let b : is_offer call ≡ true = ap is_offer is in cc

module _ (once : CallsNumberOnce) (made : MadeConnected) where
  leads : (call : Call) (e : Endpoint (List ℕ)) → HandsIn call → ((h : HandoverState) → call ≡ Restore h → h.socket_state ≡ handed.Connected)
      → Leads (IsQuiet call) e.endpoint_state.state e.endpoint_state.context (called call e).endpoint_state.state (called call e).endpoint_state.context
  leads call e fits stands = keeps_call call (keeps once made call fits (λ h is. takes_up h (stands h is) (subst HandsIn is fits))) e

  asked_open : (call : Call) (e : Endpoint (List ℕ)) → HandsIn call → is_restore call ≡ false → HandoverInvariant e → HandoverInvariant (called call e)
  asked_open call e fits none a = (leads call e fits (λ h is. absurd (not_restore call h none is))).asked a

  asked_restored : (how : HandoverSocketState) (h : HandoverState) (e : Endpoint (List ℕ)) → h.socket_state ≡ how → HandsIn (Restore h) → HandoverInvariant e
      → HandoverInvariant (called (Restore h) e)
  asked_restored handed.Closed h e is fits a = subst HandoverInvariant (sym (called_closed h e is)) a
  asked_restored handed.Connected h e is fits a =
      (leads (Restore h) e fits (λ g same. subst (λ (x : HandoverState). x.socket_state ≡ handed.Connected) (same_record h g same) is)).asked a

  pub each_call : EachCallPreservesHandoverInvariant
  each_call (Restore h) e fits a = asked_restored h.socket_state h e refl fits a
  each_call Connect e fits a = asked_open Connect e fits refl a
  each_call Close e fits a = asked_open Close e fits refl a
  each_call Shutdown e fits a = asked_open Shutdown e fits refl a
  each_call (Send m o) e fits a = asked_open (Send m o) e fits refl a
  each_call (SendMany ms o) e fits a = asked_open (SendMany ms o) e fits refl a
  each_call (ResetStreams ids) e fits a = asked_open (ResetStreams ids) e fits refl a
  each_call TakeMessage e fits a = asked_open TakeMessage e fits refl a
  each_call (SetLowThreshold id bytes) e fits a = asked_open (SetLowThreshold id bytes) e fits refl a
  each_call (SetPriority id priority) e fits a = asked_open (SetPriority id priority) e fits refl a
  each_call (SetMaxMessageSize bytes) e fits a = asked_open (SetMaxMessageSize bytes) e fits refl a
  each_call (Advance now) e fits a = asked_open (Advance now) e fits refl a
  each_call HandOver e fits a = asked_open HandOver e fits refl a
  each_call (ReceivePacket p) e fits a = asked_open (ReceivePacket p) e fits refl a
  each_call ReceiveNoPacket e fits a = asked_open ReceiveNoPacket e fits refl a

  -- ---- numbers

  numbers_same : (n : ℕ) (q r : Queue) → IsNumberedOnce r → r.next_number ≡ q.next_number → NumbersOn n q r
  numbers_same n q r h e = record { once = h; next = omega (arith, e) }

  quiet_numbers : (call : Call) (e : Endpoint (List ℕ)) → HandsIn call → is_restore call ≡ false → ((m : Message) (o : SendOptions) → IsOffered call m o → ⊥)
      → IsNumberedOnce e.endpoint_state.context.queue → NumbersOn (offers call) e.endpoint_state.context.queue (called call e).endpoint_state.context.queue
  quiet_numbers call e fits none not_offered h =
      let q : IsQuiet call = record { none = not_offered; new = λ g is. not_restore call g none is } in
      let l = leads call e fits (λ g is. absurd (not_restore call g none is)) in
      numbers_same (offers call) e.endpoint_state.context.queue (called call e).endpoint_state.context.queue (l.numbers q h) (l.next q)

  none_of_none : (o p : SendOptions) (m : Message) → IsOffered (SendMany [] o) m p → ⊥
  none_of_none o p m (alone is) = cc
  none_of_none o p m (among ms is at) = not_among m at.before at.behind (sym (same_list o p ms is) ∙ at.split)

  numbers_offered : (r : Option SendError) (m : Message) (o : SendOptions) (c : Context (List ℕ)) → c.queue.next_number + 1 < 2 ^ 32
      → IsNumberedOnce c.queue → NumbersOn 1 c.queue (offered r m o c).queue
  numbers_offered None m o c small h =
      let q : Queued = queue_entry c.queue.next_number c.now m o in
      let next : (c.queue.next_number + 1) % 2 ^ 32 ≡ c.queue.next_number + 1 = mod-eq_of_lt small in
      record { once = once.added m.stream q c.queue refl small h; next = omega (arith, next) }
  numbers_offered (Some x) m o c small h = numbers_same 1 c.queue c.queue h refl

  numbers_all : (ms : List Message) (o : SendOptions) (shown : SocketState) (c : Context (List ℕ)) → c.queue.next_number + length ms < 2 ^ 32
      → IsNumberedOnce c.queue → NumbersOn (length ms) c.queue (offer_all ms o shown c).queue
  numbers_all [] o shown c small h = numbers_same 0 c.queue c.queue h refl
  numbers_all (m ∷ ms) o shown c small h =
      let d : Context (List ℕ) = offer m o shown c in
      let first : NumbersOn 1 c.queue d.queue = numbers_offered (send_refusal m shown c) m o c (omega (arith, small)) h in
      let rest : NumbersOn (length ms) d.queue (offer_all ms o shown d).queue = numbers_all ms o shown d (omega (arith, small, first.next)) first.once in
      record { once = rest.once; next = omega (arith, first.next, rest.next) }

  -- what was accepted is sent
  numbers_sent : (n : ℕ) (o : SendOptions) (c : Context (List ℕ)) (e : Endpoint (List ℕ)) → NumbersOn n c.queue e.endpoint_state.context.queue
      → NumbersOn n c.queue (called (SendMany [] o) e).endpoint_state.context.queue
  numbers_sent n o c e h =
      let rest = quiet_numbers (SendMany [] o) e tt refl (λ m p is. none_of_none o p m is) h.once in
      record { once = rest.once; next = omega (arith, h.next, rest.next) }

  abbrev with_offers : Endpoint (List ℕ) → Context (List ℕ) → Endpoint (List ℕ)
  with_offers e d = record e { endpoint_state = with_context e.endpoint_state d }

  numbers_sent_unless : (r : Option SendError) (o : SendOptions) (c : Context (List ℕ)) (e : Endpoint (List ℕ)) → NumbersOn 1 c.queue e.endpoint_state.context.queue
      → NumbersOn 1 c.queue (sent_unless r e.endpoint_state).context.queue
  numbers_sent_unless None o c e h = numbers_sent 1 o c e h
  numbers_sent_unless (Some x) o c e h = h

  pub each_call_numbers : EachCallNumbersOnce
  each_call_numbers (Send m o) e fits a none small h =
      let c : Context (List ℕ) = e.endpoint_state.context in
      let d : Context (List ℕ) = offer m o (shown_state e.endpoint_state.state) c in
      numbers_sent_unless (send_refusal_of m e.endpoint_state) o c (with_offers e d) (numbers_offered (send_refusal_of m e.endpoint_state) m o c small h)
  each_call_numbers (SendMany ms o) e fits a none small h =
      let c : Context (List ℕ) = e.endpoint_state.context in
      let d : Context (List ℕ) = offer_all ms o (shown_state e.endpoint_state.state) c in
      numbers_sent (length ms) o c (with_offers e d) (numbers_all ms o (shown_state e.endpoint_state.state) c small h)
  each_call_numbers (Restore g) e fits a none small h = absurd (cc)
  each_call_numbers Connect e fits a none small h = quiet_numbers Connect e fits refl (no_offer Connect refl) h
  each_call_numbers Close e fits a none small h = quiet_numbers Close e fits refl (no_offer Close refl) h
  each_call_numbers Shutdown e fits a none small h = quiet_numbers Shutdown e fits refl (no_offer Shutdown refl) h
  each_call_numbers (ResetStreams ids) e fits a none small h = quiet_numbers (ResetStreams ids) e fits refl (no_offer (ResetStreams ids) refl) h
  each_call_numbers TakeMessage e fits a none small h = quiet_numbers TakeMessage e fits refl (no_offer TakeMessage refl) h
  each_call_numbers (SetLowThreshold id bytes) e fits a none small h = quiet_numbers (SetLowThreshold id bytes) e fits refl (no_offer (SetLowThreshold id bytes) refl) h
  each_call_numbers (SetPriority id priority) e fits a none small h = quiet_numbers (SetPriority id priority) e fits refl (no_offer (SetPriority id priority) refl) h
  each_call_numbers (SetMaxMessageSize bytes) e fits a none small h = quiet_numbers (SetMaxMessageSize bytes) e fits refl (no_offer (SetMaxMessageSize bytes) refl) h
  each_call_numbers (Advance now) e fits a none small h = quiet_numbers (Advance now) e fits refl (no_offer (Advance now) refl) h
  each_call_numbers HandOver e fits a none small h = quiet_numbers HandOver e fits refl (no_offer HandOver refl) h
  each_call_numbers (ReceivePacket p) e fits a none small h = quiet_numbers (ReceivePacket p) e fits refl (no_offer (ReceivePacket p) refl) h
  each_call_numbers ReceiveNoPacket e fits a none small h = quiet_numbers ReceiveNoPacket e fits refl (no_offer ReceiveNoPacket refl) h

  -- ---- along all uses

  used_asked : (u : Use) (e : Endpoint (List ℕ)) → MayUse u → HandoverInvariant e → HandoverInvariant (after_use u e)
  used_asked (Calls call) e may a = each_call call e may.0 a
  used_asked (Takes left) e may a =
      let c : Context (List ℕ) = e.endpoint_state.context in
      record { association = associated_on e.endpoint_state.state c (record c { emitted = left }) refl refl a.association; queued = a.queued }

  used_numbers : (u : Use) (e : Endpoint (List ℕ)) → MayUse u → HandoverInvariant e → e.endpoint_state.context.queue.next_number + offers_in u < 2 ^ 32
      → IsNumberedOnce e.endpoint_state.context.queue → NumbersOn (offers_in u) e.endpoint_state.context.queue (after_use u e).endpoint_state.context.queue
  used_numbers (Calls call) e may a small h = each_call_numbers call e may.0 a may.1 small h
  used_numbers (Takes left) e may a small h = numbers_same 0 e.endpoint_state.context.queue e.endpoint_state.context.queue h refl

  record Holds (e : Endpoint (List ℕ)) : Type 0 where
    asked : HandoverInvariant e
    numbers : IsNumberedOnce e.endpoint_state.context.queue

  along : (us : List Use) (e : Endpoint (List ℕ)) → Each MayUse us → e.endpoint_state.context.queue.next_number + offers_along us < 2 ^ 32 → Holds e
      → Holds (after_uses us e)
  along [] e may small h = h
  along (u ∷ us) e may small h =
      let n : NumbersOn (offers_in u) e.endpoint_state.context.queue (after_use u e).endpoint_state.context.queue = used_numbers u e may.0 h.asked (omega (arith, small)) h.numbers in
      along us (after_use u e) may.1 (omega (arith, small, n.next)) (record { asked = used_asked u e may.0 h.asked; numbers = n.once })

  abbrev HoldsIn : EndpointState (List ℕ) → Type 0
  HoldsIn s = HandoverInvariantOf s.state s.context × IsNumberedOnce s.context.queue

  pub each_end : HandoverGoesOn → EachEndGoesOn
  each_end goes_on o pack random uses may few t c is ready fits other draws =
      let e : Endpoint (List ℕ) = after_uses uses (fresh o pack random) in
      let h : Holds e = along uses (fresh o pack random) may (omega (arith, few)) (record { asked = new_ends_asked o pack random; numbers = once.new o }) in
      let at : HoldsIn (established_state t c) = subst HoldsIn is (h.asked, h.numbers) in
      let q : IsOrdered c.queue = at.0.queued in
      goes_on t c other draws ready at.0.association (record { sorted = q.sorted; order = q.order; numbers = at.1; next = q.next; rests = q.rests }) fits
