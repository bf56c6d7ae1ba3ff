-- What a call leaves of what was emitted, read off the socket.
use Rattle.std.proofs.Common.{◌≡◌, ◌⊎◌, inl, inr, ℕ, List, [], Some, refl, sym, subst, Result, Ok, Err, OnErr}
use Rattle.sctp_serial.specs.Messages.{Message}
use Rattle.sctp_state.specs.Events.{Emitted, Grown}
use Rattle.sctp_state.specs.Handover.{HandoverState}
use Rattle.sctp_state.proofs.EventLemmas.{grown_same}
use Rattle.sctp_endpoint.specs.GoesOn.{GrownQuietly, GoesOn, Continues, HoldsAnnounced, GoesOnWith}
use Rattle.sctp_endpoint.proofs.QuietLemmas.{quietly_same}
use Rattle.sctp_endpoint.specs.Views.{ContextValue}
use Rattle.sctp_reassembly.specs.Delivery.{Extends}
use Rattle.sctp_reassembly.proofs.ExtendsLemmas.{extends_none, extends_by}
use Rattle.spec_endpoint.specs.Association.{State}
use Rattle.spec_endpoint.specs.Calls.{ready_in}
use Rattle.spec_endpoint.specs.Shown.{association_in}
use Rattle.sctp_association.specs.Socket.{SocketValue, LeavesRestoring, association_from}

module _ {R C : Type 0} (v s : SocketValue R C) (is : v ≡ s) where
  pub stands_same : Grown s.context.emitted v.context.emitted
  stands_same = subst (λ (u : SocketValue R C). Grown u.context.emitted v.context.emitted) is (grown_same v.context.emitted)

  pub quiet_same : GrownQuietly s.context.emitted v.context.emitted
  quiet_same = subst (λ (u : SocketValue R C). GrownQuietly u.context.emitted v.context.emitted) is (quietly_same v.context.emitted)

  pub quiet_on : (t : Emitted (List ℕ)) → GrownQuietly v.context.emitted t → GrownQuietly s.context.emitted t
  quiet_on t g = subst (λ (u : SocketValue R C). GrownQuietly u.context.emitted t) is g

  pub quiet_by : (c : ContextValue C) → GoesOn v.context c → GrownQuietly s.context.emitted c.emitted
  quiet_by c g = quiet_on c.emitted g.emitted

  pub stands_on : (t : Emitted (List ℕ)) → GrownQuietly v.context.emitted t → Grown s.context.emitted t
  stands_on t g = (quiet_on t g).stands

  pub stands_by : (c : ContextValue C) → GoesOn v.context c → Grown s.context.emitted c.emitted
  stands_by c g = stands_on c.emitted g.emitted

  pub stands_along : (c : ContextValue C) → Continues v.context c → Grown s.context.emitted c.emitted
  stands_along c g = subst (λ (u : SocketValue R C). Grown u.context.emitted c.emitted) is g.emitted

  pub stands_with : (c : ContextValue C) (t : State) → GoesOnWith v.context c t → Grown s.context.emitted c.emitted
  stands_with c t g = subst (λ (u : SocketValue R C). Grown u.context.emitted c.emitted) is g.emitted

  pub held_same : HoldsAnnounced s.context.emitted v.context.emitted v.state
  held_same = inl quiet_same.announced

  pub held_with : (c : ContextValue C) (t : State) → GoesOnWith v.context c t → HoldsAnnounced s.context.emitted c.emitted t
  held_with c t g = subst (λ (u : SocketValue R C). HoldsAnnounced u.context.emitted c.emitted t) is g.held

-- ---- a record that is taken up

none_or_same : (old new : List Message) → (old ≡ []) ⊎ (new ≡ old) → Extends old new
none_or_same old new (inl none) = subst (λ (ms : List Message). Extends ms new) (sym none) (extends_by [] new new refl)
none_or_same old new (inr same) = subst (λ (ms : List Message). Extends old ms) (sym same) (extends_none old)

module _ {R C : Type 0} (h : HandoverState) (v s : SocketValue R C) (is : v ≡ s) where
  pub restoring_by : (w : SocketValue R C) → GoesOnWith v.context w.context w.state
      → (association_in w.state ≡ association_in v.state) ⊎ (association_in w.state ≡ Some (association_from h))
      → (ready_in v.state ≡ []) ⊎ (ready_in w.state ≡ ready_in v.state) → LeavesRestoring h s w
  restoring_by w g a r = subst (λ (u : SocketValue R C). LeavesRestoring h u w) is (record { emitted = g.emitted; held = g.held; association = a; ready = none_or_same (ready_in v.state) (ready_in w.state) r })

on_err : {T F P : Type 0} (r : Result T F) → P → OnErr r P
on_err (Ok x) p = tt
on_err (Err x) p = p

pub restoring_err : {R C T F : Type 0} (r : Result T F) (h : HandoverState) (v s : SocketValue R C) (is : v ≡ s) (w : SocketValue R C) → GoesOnWith v.context w.context w.state
    → (association_in w.state ≡ association_in v.state) ⊎ (association_in w.state ≡ Some (association_from h))
    → (ready_in v.state ≡ []) ⊎ (ready_in w.state ≡ ready_in v.state) → OnErr r (LeavesRestoring h s w)
restoring_err r h v s is w g a e = on_err r (restoring_by h v s is w g a e)
