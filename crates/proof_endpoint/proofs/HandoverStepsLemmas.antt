-- What a handover emits at both sockets.
use Rattle.std.proofs.Common.{◌==◌, Bool, true, false, Option, Some, None, refl}
use Rattle.sctp_state.specs.declared.api.errors.RestoreError.{RestoreError}
use Rattle.sctp_state.specs.declared.api.handover.HandoverSocketState.{HandoverSocketState}
use Rattle.sctp_state.specs.declared.api.handover.HandoverSocketState.TheVariants as handed
use Rattle.sctp_state.specs.Events.{OnConnected, OnClosed}
use Rattle.sctp_state.specs.Handover.{HandoverState}
use Rattle.spec_endpoint.specs.Association.{Tcb, State, Closed, CookieWait, Open, Context, EndpointState}
use Rattle.spec_endpoint.specs.Packets.{emit_event_in}
use Rattle.spec_endpoint.specs.Handover.{readiness, left_in, left_if, hand_over, tcb_from, context_restored, take_up, restore_refusal_in, restored_as, restored_unless, restore, woken_if}
use Rattle.spec_endpoint.specs.Sending.{AfterSending}
use Rattle.proof_endpoint.proofs.StepsLemmas.{Goes, Steps}
use Rattle.proof_endpoint.proofs.GoesLemmas.{goes_silent, goes_same, goes_then, goes_said}
use Rattle.proof_endpoint.proofs.SendingStepsLemmas.{goes_send_buffered}
use Rattle.proof_endpoint.proofs.RowStepsLemmas.{StepsFrom, steps_same, steps_opened}

module _ {P : Type 0} where
  steps_left_in : (st : State) (c : Context P) → StepsFrom st c (left_in st c)
  steps_left_in Closed c = goes_same c
  steps_left_in (CookieWait tag first t1) c = goes_same c
  steps_left_in (Open phase t) c = goes_said 1 c (emit_event_in OnClosed c) OnClosed refl refl refl tt refl

  steps_left_if : (b : Bool) (s : EndpointState P) → Steps s (left_if b s)
  steps_left_if true s = steps_left_in s.state s.context
  steps_left_if false s = steps_same s

  pub steps_hand_over : (s : EndpointState P) → Steps s (hand_over s)
  steps_hand_over s = steps_left_if (readiness s == 0) s

  goes_woken : (b : Bool) (t : Tcb) (c : Context P) → Goes 0 c (woken_if b t c).context
  goes_woken true t c = goes_silent c (woken_if true t c).context refl refl refl
  goes_woken false t c = goes_same c

  goes_take_up : (h : HandoverState) (c : Context P) → Goes 0 c (take_up h c).context
  goes_take_up h c =
      let d : Context P = context_restored h c in
      let x : AfterSending P = woken_if c.options.avoid_stalls (tcb_from c.now c.options h) d in
      let e : Context P = emit_event_in OnConnected x.context in
      goes_then 0 c d (take_up h c).context (goes_silent c d refl refl refl)
      (goes_then 0 d x.context (take_up h c).context (goes_woken c.options.avoid_stalls (tcb_from c.now c.options h) d)
      (goes_then 0 x.context e (take_up h c).context (goes_said 0 x.context e OnConnected refl refl refl tt refl) (goes_send_buffered e false x.tcb)))

  steps_taken_as : (how : HandoverSocketState) (h : HandoverState) (s : EndpointState P) → Steps s (restored_as how h s)
  steps_taken_as handed.Closed h s = steps_same s
  steps_taken_as handed.Connected h s = steps_opened s.state s.context _ _ (take_up h s.context).context (goes_take_up h s.context)

  steps_restored_unless : (o : Option RestoreError) (h : HandoverState) (s : EndpointState P) → Steps s (restored_unless o h s)
  steps_restored_unless None h s = steps_taken_as h.socket_state h s
  steps_restored_unless (Some e) h s = steps_same s

  pub steps_restore : (h : HandoverState) (s : EndpointState P) → Steps s (restore h s)
  steps_restore h s = steps_restored_unless (restore_refusal_in s.state h) h s
