-- The calls that send leave no stream in line where no item is kept.
use Rattle.std.proofs.Common.{Bool, ◌≡◌, ℕ, ◌≤◌, Option, Some, None, List, [], ◌∷◌, refl, sym, subst, ◌∙◌, arith}
use Rattle.sctp_serial.specs.Messages.{Message}
use Rattle.sctp_state.specs.declared.api.SocketState.{SocketState}
use Rattle.sctp_state.specs.declared.api.errors.SendError.{SendError}
use Rattle.sctp_state.specs.declared.api.errors.ResetStreamsError.{ResetStreamsError}
use Rattle.sctp_state.specs.Options.{Options, SendOptions}
use Rattle.spec_endpoint.specs.Association.{Tcb, Phase, CookieEchoed, Established, ShutdownPending, ShutdownSent, ShutdownReceived, ShutdownAckSent, State, Closed, CookieWait, Open, Context, EndpointState, where_open}
use Rattle.spec_endpoint.specs.Packets.{round_down_to_4, new_packet}
use Rattle.spec_endpoint.specs.Sending.{send_in}
use Rattle.spec_endpoint.specs.Calls.{shown_state, send_refusal, offered, offer, offer_all}
use Rattle.spec_endpoint.specs.StreamReset.{prepare_reset_stream, prepare_all, streams_reset_unless, reset_refusal}
use Rattle.proof_awake.specs.Invariant.{StateHolds}
use Rattle.proof_awake.specs.Line.{HasNoLine, SendingCallsLeaveNoLine}
use Rattle.proof_awake.proofs.LineLemmas.{none_in_line}

module _ {P : Type 0} (avoids : Bool) where
  pub phase_sends : (phase : Phase) (t : Tcb) (c : Context P) → 2 ≤ c.options.max_burst → StateHolds avoids (Open phase t) c.options c.heartbeats → HasNoLine (send_in phase t c)
  phase_sends (CookieEchoed t1 cookie) t c b h = tt
  phase_sends Established t c b h =
      let m = h.0.options.mtu_least in
      let l : 44 ≤ round_down_to_4 c.options.mtu = omega (arith, m) in
      none_in_line (new_packet c.options t) t c b l h.1.1.sender.windows
  phase_sends ShutdownPending t c b h = tt
  phase_sends (ShutdownSent t2) t c b h = tt
  phase_sends ShutdownReceived t c b h = tt
  phase_sends (ShutdownAckSent t2) t c b h = tt

  pub state_sends : (s : State) (c : Context P) → 2 ≤ c.options.max_burst → StateHolds avoids s c.options c.heartbeats → HasNoLine (where_open send_in (record { state = s; context = c }))
  state_sends Closed c b h = tt
  state_sends (CookieWait tag first t1) c b h = tt
  state_sends (Open phase t) c b h = phase_sends phase t c b h

  -- what is offered, or prepared, changes neither options nor timers
  pub record Same (c d : Context P) : Type 0 where
    pub options_are : d.options ≡ c.options
    pub heartbeats_are : d.heartbeats ≡ c.heartbeats

  pub offered_same : (r : Option SendError) (m : Message) (o : SendOptions) (c : Context P) → Same c (offered r m o c)
  offered_same None m o c = record { options_are = refl; heartbeats_are = refl }
  offered_same (Some e) m o c = record { options_are = refl; heartbeats_are = refl }

  same_both : (a b c : Context P) → Same a b → Same b c → Same a c
  same_both a b c h k = record { options_are = k.options_are ∙ h.options_are; heartbeats_are = k.heartbeats_are ∙ h.heartbeats_are }

  pub offers_same : (ms : List Message) (o : SendOptions) (shown : SocketState) (c : Context P) → Same c (offer_all ms o shown c)
  offers_same [] o shown c = record { options_are = refl; heartbeats_are = refl }
  offers_same (m ∷ ms) o shown c =
      let d : Context P = offer m o shown c in
      same_both c d (offer_all ms o shown d) (offered_same (send_refusal m shown c) m o c) (offers_same ms o shown d)

  pub prepared_same : (ids : List ℕ) (c : Context P) → Same c (prepare_all ids c)
  prepared_same [] c = record { options_are = refl; heartbeats_are = refl }
  prepared_same (id ∷ ids) c =
      let d : Context P = prepare_reset_stream id c in
      same_both c d (prepare_all ids d) (record { options_are = refl; heartbeats_are = refl }) (prepared_same ids d)

  pub sends_then : (s : State) (c d : Context P) → Same c d → 2 ≤ c.options.max_burst → StateHolds avoids s c.options c.heartbeats → HasNoLine (where_open send_in (record { state = s; context = d }))
  sends_then s c d e b h =
      state_sends s d (subst (λ (o : Options). 2 ≤ o.max_burst) (sym e.options_are) b)
      (subst (λ (o : Options). StateHolds avoids s o d.heartbeats) (sym e.options_are) (subst (λ (x : _). StateHolds avoids s c.options x) (sym e.heartbeats_are) h))

  reset_sends : (o : Option ResetStreamsError) (ids : List ℕ) (s : EndpointState P) → o ≡ None → 2 ≤ s.context.options.max_burst → StateHolds avoids s.state s.context.options s.context.heartbeats
      → HasNoLine (streams_reset_unless o ids s)
  reset_sends None ids s e b h = sends_then s.state s.context (prepare_all ids s.context) (prepared_same ids s.context) b h
  reset_sends (Some fault) ids s e b h = absurd (cc)

pub calls_leave_no_line : SendingCallsLeaveNoLine
calls_leave_no_line s h two =
    let b : Bool = s.context.options.avoid_stalls in
    record {
      sent = λ ms o. sends_then b s.state s.context (offer_all ms o (shown_state s.state) s.context) (offers_same b ms o (shown_state s.state) s.context) two h;
      reset = λ streams e. reset_sends b (reset_refusal s.state) streams s e two h;
    }
