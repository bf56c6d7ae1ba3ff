-- A call that goes on from what another one left.
use Rattle.std.proofs.Common.{◌≡◌, inl, inr, ℕ, true, List, [], ◌∷◌, refl, ap, sym, subst, ◌∙◌}
use Rattle.std.specs.Prelude.{is_some}
use Rattle.sctp_state.specs.Events.{Event, Emitted, Grown, emit_event}
use Rattle.sctp_state.proofs.EventLemmas.{grown_same, grown_through, grown_emitted}
use Rattle.spec_endpoint.specs.Association.{State, Phase, Tcb, Open}
use Rattle.spec_endpoint.specs.Shown.{association_in}
use Rattle.sctp_endpoint.specs.declared.state.Phase as given_phase
use Rattle.sctp_endpoint.specs.declared.state.State as given_state
use Rattle.sctp_endpoint.specs.declared.state.State.TheVariants as states
use Rattle.sctp_endpoint.specs.declared.transmission_control_block.TransmissionControlBlock.{TransmissionControlBlock}
use Rattle.sctp_endpoint.specs.Views.{ContextValue, state_of}
use Rattle.sctp_endpoint.specs.GoesOn.{announcements, GrownQuietly, GoesOn, Continues, HoldsAnnounced, GoesOnWith}
use Rattle.sctp_endpoint.proofs.QuietLemmas.{quietly_same, quietly_through, quietly_as}

module _ {C : Type 0} where
  pub goes_on_same : (c : ContextValue C) → GoesOn c c
  goes_on_same c = record { emitted = quietly_same c.emitted; accepted = refl }

  pub goes_on_through : (c d e : ContextValue C) → GoesOn c d → GoesOn d e → GoesOn c e
  goes_on_through c d e g h = record { emitted = quietly_through c.emitted d.emitted e.emitted g.emitted h.emitted; accepted = h.accepted ∙ g.accepted }

  pub goes_on_as : (c d : ContextValue C) → d.emitted ≡ c.emitted → d.counts.tx_messages ≡ c.counts.tx_messages → GoesOn c d
  goes_on_as c d e n = record { emitted = quietly_as c.emitted c.emitted d.emitted e (quietly_same c.emitted); accepted = n }

  pub goes_on_by : (c d : ContextValue C) → GrownQuietly c.emitted d.emitted → d.counts.tx_messages ≡ c.counts.tx_messages → GoesOn c d
  goes_on_by c d g n = record { emitted = g; accepted = n }

  -- the same of what is read of a context
  pub goes_on_from : (c v w : ContextValue C) → v ≡ c → GrownQuietly v.emitted w.emitted → w.counts.tx_messages ≡ v.counts.tx_messages → GoesOn c w
  goes_on_from c v w is g n = subst (λ (u : ContextValue C). GoesOn u w) is (record { emitted = g; accepted = n })

  -- ---- any events

  pub continues_same : (c : ContextValue C) → Continues c c
  continues_same c = record { emitted = grown_same c.emitted; accepted = refl }

  pub continues_by_event : (e : Event (List ℕ)) (c d : ContextValue C) → d.emitted ≡ emit_event e c.emitted → d.counts.tx_messages ≡ c.counts.tx_messages → Continues c d
  continues_by_event e c d is n = record { emitted = subst (λ (t : Emitted (List ℕ)). Grown c.emitted t) (sym is) (grown_emitted (e ∷ []) c.emitted); accepted = n }

  pub continues_by : (c d : ContextValue C) → GoesOn c d → Continues c d
  continues_by c d g = record { emitted = g.emitted.stands; accepted = g.accepted }

  pub continues_behind : (c d e : ContextValue C) → GoesOn c d → Continues d e → Continues c e
  continues_behind c d e g h = record { emitted = grown_through c.emitted d.emitted e.emitted g.emitted.stands h.emitted; accepted = h.accepted ∙ g.accepted }

  pub continues_on : (c d e : ContextValue C) → Continues c d → GoesOn d e → Continues c e
  continues_on c d e g h = record { emitted = grown_through c.emitted d.emitted e.emitted g.emitted h.emitted.stands; accepted = h.accepted ∙ g.accepted }

  pub continues_through : (c d e : ContextValue C) → Continues c d → Continues d e → Continues c e
  continues_through c d e g h = record { emitted = grown_through c.emitted d.emitted e.emitted g.emitted h.emitted; accepted = h.accepted ∙ g.accepted }

  -- ---- with an association

  pub with_same : (c : ContextValue C) (s : State) → GoesOnWith c c s
  with_same c s = record { emitted = grown_same c.emitted; accepted = refl; held = inl refl }

  pub with_quiet : (c d : ContextValue C) (s : State) → GoesOn c d → GoesOnWith c d s
  with_quiet c d s g = record { emitted = g.emitted.stands; accepted = g.accepted; held = inl g.emitted.announced }

  pub with_held : (c d : ContextValue C) (s : State) → Continues c d → is_some (association_in s) ≡ true → GoesOnWith c d s
  with_held c d s g held = record { emitted = g.emitted; accepted = g.accepted; held = inr held }

  pub with_open : (c d : ContextValue C) (phase : Phase) (t : Tcb) → Continues c d → GoesOnWith c d (Open phase t)
  with_open c d phase t g = record { emitted = g.emitted; accepted = g.accepted; held = inr refl }

  pub continues_with : (c d : ContextValue C) (s : State) → GoesOnWith c d s → Continues c d
  continues_with c d s g = record { emitted = g.emitted; accepted = g.accepted }

  held_behind : (c d e : ContextValue C) (s : State) → announcements d.emitted ≡ announcements c.emitted → HoldsAnnounced d.emitted e.emitted s → HoldsAnnounced c.emitted e.emitted s
  held_behind c d e s quiet (inl same) = inl (same ∙ quiet)
  held_behind c d e s quiet (inr held) = inr held

  -- behind what announces none
  pub with_behind : (c d e : ContextValue C) (s : State) → GoesOn c d → GoesOnWith d e s → GoesOnWith c e s
  with_behind c d e s g h = record {
    emitted = grown_through c.emitted d.emitted e.emitted g.emitted.stands h.emitted;
    accepted = h.accepted ∙ g.accepted;
    held = held_behind c d e s g.emitted.announced h.held;
  }

  -- in a state that was entered before
  pub with_entered : (c d : ContextValue C) (s : given_state.State) (phase : given_phase.Phase) (t : TransmissionControlBlock) → s ≡ states.Open phase t → Continues c d → GoesOnWith c d (state_of s)
  with_entered c d s phase t is g = with_held c d (state_of s) g (ap (λ (u : given_state.State). is_some (association_in (state_of u))) is)

  -- with the association that there was before
  pub with_kept : (c d : ContextValue C) (s t : State) → Continues c d → is_some (association_in s) ≡ true → association_in t ≡ association_in s → GoesOnWith c d t
  with_kept c d s t g held kept = with_held c d t g (ap is_some kept ∙ held)
