-- The call that resets streams, unless an end refuses it: each stream is prepared, then what an open end sends goes out.
use Rattle.std.proofs.Common.{◌≡◌, ℕ, ◌+◌, Bool, true, false, Option, None, List, [], ◌∷◌, ◌++◌, All, refl, sym, ap, subst, ◌∙◌, append_assoc, append-nil}
use Rattle.rand_core.specs.Stream.{Stream}
use Rattle.sctp_serial.specs.Messages as messages
use Rattle.sctp_state.specs.declared.api.errors.ResetStreamsError.{ResetStreamsError}
use Rattle.sctp_state.specs.Events.{Emitted, nothing_emitted}
use Rattle.proof_protocol.specs.State.{Message}
use Rattle.spec_endpoint.specs.Association.{Phase, Tcb, State, Closed, CookieWait, Open, Context, EndpointState, Endpoint, with_context}
use Rattle.spec_endpoint.specs.Sending.{send_in}
use Rattle.spec_endpoint.specs.Input.{in_endpoint_state}
use Rattle.spec_endpoint.specs.StreamReset.{unless_supported, reset_refusal, prepare_reset_stream, prepare_all, streams_reset_unless}
use Rattle.spec_endpoint.specs.Laws.{Call, ResetStreams, ReceiveNoPacket}
use Rattle.proof_endpoint.specs.Mapped.{Carried}
use Rattle.proof_endpoint.specs.Acts.{EndWithPacket, idle, calm, IsReset, prepares, HasNoEnd, Preserves, PreservesUntilEnd}
use Rattle.spec_endpoint.specs.Packets.{packets_in}
use Rattle.proof_pair.proofs.EmittedLemmas.{emits_prepared}
use Rattle.proof_pair.proofs.UntilLemmas.{none_before, Until, frame}
use Rattle.proof_endpoint.proofs.RowActsLemmas.{does_where_open}
use Rattle.proof_endpoint.proofs.CallActsLemmas.{does_send_in}
use Rattle.proof_pair.proofs.JoinActsLemmas.{Setting, InvAt}
use Rattle.proof_pair.proofs.JoinKeepsLemmas.{Rules}
use Rattle.proof_pair.proofs.JoinFrameLemmas.{joins}
use Rattle.proof_delivery.specs.StreamEpochs.{performed_of, resets_emitted}
use Rattle.proof_delivery.proofs.ClaimLemmas.{Direction, transfer_of, first_in, SaysIn, SenderClaim, ReceiverClaim}
use Rattle.proof_delivery.proofs.FrameLemmas.{Joined, KeepsJoined}
use Rattle.proof_delivery.proofs.FrameLemmas as frames
use Rattle.proof_delivery.proofs.ResetEventsLemmas.{emitted_counts, resets_prepared}
use Rattle.proof_delivery.proofs.SenderToolLemmas.{same_packets}
use Rattle.proof_delivery.proofs.SenderResetLemmas.{prepares_claims, prepared_answers}

-- where these are prepared
abbrev pub preparing : List ℕ → Endpoint Carried → EndWithPacket Carried
preparing ids e = idle e.endpoint_state.state (prepare_all ids e.endpoint_state.context) e.draws

-- the end after the call, unless it refuses
abbrev pub reset_by : Option ResetStreamsError → List ℕ → Endpoint Carried → Endpoint Carried
reset_by o ids e = in_endpoint_state (streams_reset_unless o ids) e

-- where it doesn't, it has a control block, and may ask for resets
pub can_reset : (b : Bool) → unless_supported b ≡ None → b ≡ true
can_reset true e = refl
can_reset false e = cc

-- ---- it is done by acts

module _ {call : Call} {R : EndWithPacket Carried → EndWithPacket Carried → Type 0} (k : Preserves call R) (w : Stream) where
  prepares_all : (all before ids : List ℕ) (phase : Phase) (t : Tcb) (c : Context Carried) → call ≡ ResetStreams all → all ≡ before ++ ids → t.capabilities.reconfig ≡ true
      → R (idle (Open phase t) c w) (idle (Open phase t) (prepare_all ids c) w)
  prepares_all all before [] phase t c is e can = k.same (idle (Open phase t) c w)
  prepares_all all before (id ∷ ids) phase t c is e can =
      let asked : IsReset call id = record { streams = all; asked = is; among = record { before = before; behind = ids; split = e } } in
      k.through (k.resets (prepares id phase t (idle (Open phase t) c w) asked can))
      (prepares_all all (before ++ id ∷ []) ids phase t (prepare_reset_stream id c) is (e ∙ sym (append_assoc before (id ∷ []) ids)) can)

  prepares_in : (s : State) (ids : List ℕ) (c : Context Carried) → call ≡ ResetStreams ids → reset_refusal s ≡ None → R (idle s c w) (idle s (prepare_all ids c) w)
  prepares_in Closed ids c is fine = cc
  prepares_in (CookieWait tag first t1) ids c is fine = cc
  prepares_in (Open phase t) ids c is fine = prepares_all ids [] ids phase t c is refl (can_reset t.capabilities.reconfig fine)

module _ (g : Setting) (quiet : Rules g ReceiveNoPacket) {R : EndWithPacket Carried → EndWithPacket Carried → Type 0} (k : KeepsJoined g ReceiveNoPacket R) (e : Endpoint Carried) where
  pub then_reset : (ids : List ℕ) → Rules g (ResetStreams ids) → reset_refusal e.endpoint_state.state ≡ None → HasNoEnd (calm (reset_by None ids e)) → InvAt g (calm e)
      → R (preparing ids e) (calm (reset_by None ids e))
  then_reset ids r fine none inv =
      let f : PreservesUntilEnd ReceiveNoPacket (Joined g R) = frames.frame g ReceiveNoPacket quiet refl k in
      let s : EndpointState Carried = with_context e.endpoint_state (prepare_all ids e.endpoint_state.context) in
      let before : Until (λ a b. InvAt g a → InvAt g b) (calm e) (preparing ids e) =
      prepares_in (frame (joins g (ResetStreams ids) r)) e.draws e.endpoint_state.state ids e.endpoint_state.context refl fine in
      let rest : Until (Joined g R) (preparing ids e) (calm (reset_by None ids e)) = does_where_open (frame f) e.draws send_in s (does_send_in (frame f) e.draws) in
      (rest.1 none (before.1 (none_before (preparing ids e) (calm (reset_by None ids e)) rest.0 none) inv)).1

-- ---- the sender

module _ (message : ℕ → Message) (lifecycle : ℕ → Option ℕ) (is_interleaved : Bool) (from : Direction) where
  claims_prepared : (phase : Phase) (t : Tcb) (w : Stream) (ids before : List ℕ) (c : Context Carried) (x : Direction) → performed_of c.emitted.events ≡ []
      → SenderClaim message lifecycle is_interleaved from before (idle (Open phase t) c w) x
      → (y : Direction) × SenderClaim message lifecycle is_interleaved from (before ++ ids) (idle (Open phase t) (prepare_all ids c) w) y
  claims_prepared phase t w [] before c x none h =
      (x, subst (λ (ps : List ℕ). SenderClaim message lifecycle is_interleaved from ps (idle (Open phase t) c w) x) (sym (append-nil before)) h)
  claims_prepared phase t w (id ∷ ids) before c x none h =
      let m : EndWithPacket Carried = idle (Open phase t) c w in
      let a = prepares_claims message lifecycle is_interleaved from before id phase t m x none h in
      let b = claims_prepared phase t w ids (before ++ id ∷ []) (prepare_reset_stream id c) a.0 (prepared_answers message lifecycle is_interleaved from id m none) a.1 in
      (b.0, subst (λ (ps : List ℕ). SenderClaim message lifecycle is_interleaved from ps (idle (Open phase t) (prepare_all ids (prepare_reset_stream id c)) w) b.0) (append_assoc before (id ∷ []) ids) b.1)

  -- where nothing was emitted yet
  pub claim_prepared : (s : State) (c : Context Carried) (w : Stream) (ids : List ℕ) → reset_refusal s ≡ None → c.emitted ≡ nothing_emitted → (x : Direction)
      → SenderClaim message lifecycle is_interleaved from [] (idle s c w) x → (y : Direction) × SenderClaim message lifecycle is_interleaved from ids (idle s (prepare_all ids c) w) y
  claim_prepared Closed c w ids fine none x h = cc
  claim_prepared (CookieWait tag first t1) c w ids fine none x h = cc
  claim_prepared (Open phase t) c w ids fine none x h = claims_prepared phase t w ids [] c x (ap (λ (t : Emitted Carried). performed_of t.events) none) h

-- ---- the receiver, to which that is nothing

prepared_packets : (ids : List ℕ) (c : Context Carried) → packets_in (prepare_all ids c).emitted.events ≡ packets_in c.emitted.events
prepared_packets [] c = refl
prepared_packets (id ∷ ids) c = prepared_packets ids (prepare_reset_stream id c) ∙ same_packets c.emitted (prepare_reset_stream id c).emitted (emits_prepared id c.queue c.emitted)

prepared_emitted : (s : ℕ) (ids : List ℕ) (c : Context Carried) → resets_emitted s (prepare_all ids c).emitted.events ≡ resets_emitted s c.emitted.events
prepared_emitted s [] c = refl
prepared_emitted s (id ∷ ids) c =
    prepared_emitted s ids (prepare_reset_stream id c)
    ∙ (sym (emitted_counts s (prepare_reset_stream id c).emitted.events) ∙ (ap (λ es. resets_emitted s es) (resets_prepared id c.queue c.emitted) ∙ emitted_counts s c.emitted.events))

module _ (message : ℕ → Message) (is_interleaved : Bool) (from : Direction) (handed : List messages.Message) (ids : List ℕ) (e : Endpoint Carried) where
  pub claim_preparing : (x : Direction) → ReceiverClaim message is_interleaved from handed (calm e) x → ReceiverClaim message is_interleaved from handed (preparing ids e) x
  claim_preparing x c = record {
    kept = c.kept;
    goes = c.goes;
    stay = c.stay;
    shown = c.shown;
    performed = λ s. c.performed s ∙ ap (λ (n : ℕ). from.rules.performed s + n) (sym (prepared_emitted s ids e.endpoint_state.context));
    emitted = subst (λ (ps : List Carried). All (λ (p : Carried). All (SaysIn (first_in e.endpoint_state.state) (transfer_of from).acknowledged x) p.chunks) ps)
        (sym (prepared_packets ids e.endpoint_state.context)) c.emitted;
    made = c.made;
  }
