-- A handover at both sockets.
use Rattle.std.proofs.Common.{◌≡◌, ℕ, ◌==◌, Bool, true, false, Option, Some, None, refl, ap, ◌∙◌}
use Rattle.sctp_state.specs.declared.api.errors.RestoreError.{RestoreError}
use Rattle.sctp_state.specs.declared.api.handover.HandoverSocketState.{HandoverSocketState}
use Rattle.sctp_state.specs.declared.api.handover.HandoverSocketState.TheVariants as handed
use Rattle.sctp_state.specs.Events.{OnConnected, OnClosed}
use Rattle.sctp_state.specs.Handover.{HandoverState}
use Rattle.spec_endpoint.specs.Association.{Tcb, Phase, CookieEchoed, Established, ShutdownPending, ShutdownSent, ShutdownReceived, ShutdownAckSent, State, Closed, CookieWait, Open, Context, EndpointState}
use Rattle.spec_endpoint.specs.Packets.{emit_event_in}
use Rattle.spec_endpoint.specs.Sending.{AfterSending, open_with, send_buffered}
use Rattle.spec_endpoint.specs.Handover.{readiness_open, readiness, left_in, left_if, hand_over, tcb_from, context_restored, take_up, restore_refusal_in, restored_as, restored_unless, restore, woken_if, goes_on}
use Rattle.proof_endpoint.specs.Mapped.{Mapping, map_context, map_endpoint_state}
use Rattle.proof_endpoint.proofs.SendingMapsLemmas.{map_sent, maps_say, maps_send_buffered}
use Rattle.proof_endpoint.proofs.RowMapsLemmas.{maps_in_state}

module _ {P Q : Type 0} (f : Mapping P Q) where
  maps_left_in : (st : State) (c : Context P) → left_in st (map_context f c) ≡ map_endpoint_state f (left_in st c)
  maps_left_in Closed c = refl
  maps_left_in (CookieWait tag first t1) c = refl
  maps_left_in (Open phase t) c = maps_in_state f Closed (emit_event_in OnClosed c) (emit_event_in OnClosed (map_context f c)) (maps_say f OnClosed c)

  maps_left_if : (b : Bool) (s : EndpointState P) → left_if b (map_endpoint_state f s) ≡ map_endpoint_state f (left_if b s)
  maps_left_if true s = maps_left_in s.state s.context
  maps_left_if false s = refl

  -- packets don't stand in the way
  maps_readiness_open : (phase : Phase) (t : Tcb) (c : Context P) → readiness_open phase t (map_context f c) ≡ readiness_open phase t c
  maps_readiness_open (CookieEchoed t1 cookie) t c = refl
  maps_readiness_open Established t c = refl
  maps_readiness_open ShutdownPending t c = refl
  maps_readiness_open (ShutdownSent t2) t c = refl
  maps_readiness_open ShutdownReceived t c = refl
  maps_readiness_open (ShutdownAckSent t2) t c = refl

  maps_readiness_in : (st : State) (c : Context P) → readiness (record { state = st; context = map_context f c }) ≡ readiness (record { state = st; context = c })
  maps_readiness_in Closed c = refl
  maps_readiness_in (CookieWait tag first t1) c = refl
  maps_readiness_in (Open phase t) c = maps_readiness_open phase t c

  pub maps_hand_over : (s : EndpointState P) → hand_over (map_endpoint_state f s) ≡ map_endpoint_state f (hand_over s)
  maps_hand_over s =
      ap (λ (b : Bool). left_if b (map_endpoint_state f s)) (ap (λ (n : ℕ). n == 0) (maps_readiness_in s.state s.context)) ∙ maps_left_if (readiness s == 0) s

  maps_woken : (b : Bool) (t : Tcb) (c : Context P) → woken_if b t (map_context f c) ≡ map_sent f (woken_if b t c)
  maps_woken true t c = refl
  maps_woken false t c = refl

  maps_take_up : (h : HandoverState) (c : Context P) → take_up h (map_context f c) ≡ map_endpoint_state f (take_up h c)
  maps_take_up h c =
      let x : AfterSending P = woken_if c.options.avoid_stalls (tcb_from c.now c.options h) (context_restored h c) in
      ap (λ (y : AfterSending Q). goes_on y) (maps_woken c.options.avoid_stalls (tcb_from c.now c.options h) (context_restored h c))
      ∙ (ap (λ (e : Context Q). open_with Established (send_buffered false x.tcb e)) (maps_say f OnConnected x.context)
      ∙ ap (λ (y : AfterSending Q). open_with Established y) (maps_send_buffered f false x.tcb (emit_event_in OnConnected x.context)))

  maps_taken_as : (how : HandoverSocketState) (h : HandoverState) (s : EndpointState P) → restored_as how h (map_endpoint_state f s) ≡ map_endpoint_state f (restored_as how h s)
  maps_taken_as handed.Closed h s = refl
  maps_taken_as handed.Connected h s = maps_take_up h s.context

  maps_restored_unless : (o : Option RestoreError) (h : HandoverState) (s : EndpointState P) → restored_unless o h (map_endpoint_state f s) ≡ map_endpoint_state f (restored_unless o h s)
  maps_restored_unless None h s = maps_taken_as h.socket_state h s
  maps_restored_unless (Some e) h s = refl

  pub maps_restore : (h : HandoverState) (s : EndpointState P) → restore h (map_endpoint_state f s) ≡ map_endpoint_state f (restore h s)
  maps_restore h s = maps_restored_unless (restore_refusal_in s.state h) h s
