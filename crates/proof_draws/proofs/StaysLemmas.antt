-- An association stays in one trace where it stays in the other.
use Rattle.std.proofs.Common.{◌≡◌, Option, Some, None, List, inl, inr, refl, sym, ap, subst, ◌∙◌}
use Rattle.std.specs.Prelude.{option_map}
use Rattle.spec_endpoint.specs.Association.{State, Closed, CookieWait, Open, EndpointState, Endpoint}
use Rattle.spec_endpoint.specs.Shown.{Association, association_in}
use Rattle.spec_endpoint.specs.Laws.{Call, called}
use Rattle.proof_endpoint.specs.Mapped.{Carried}
use Rattle.sctp_state.specs.Events.{GivenUp}
use Rattle.proof_pair.specs.Trace.{Side, state_of}
use Rattle.proof_pair.specs.Agreement.{Draw as Drawn}
use Rattle.proof_draws.specs.NamedChunks.{Names, move_by}
use Rattle.proof_draws.specs.Names.{named_state}
use Rattle.proof_draws.specs.Pairing.{names}
use Rattle.proof_draws.proofs.TwinLemmas.{Stand}
use Rattle.proof_draws.proofs.StepLemmas.{Outcome}
use Rattle.proof_draws.proofs.ActionLemmas.{Turning, Idle}

abbrev named_association : Names → Association → Association
named_association n a = record {
  my_tag = n.tag a.my_tag;
  my_initial_tsn = move_by n.own a.my_initial_tsn;
  peer_tag = n.tag a.peer_tag;
  peer_initial_tsn = move_by n.peer a.peer_initial_tsn;
}

held_named : (n : Names) (s : State) → association_in (named_state n s) ≡ option_map (named_association n) (association_in s)
held_named n Closed = refl
held_named n (CookieWait tag first t1) = refl
held_named n (Open phase t) = refl

none_named : (n : Names) (o : Option Association) → option_map (named_association n) o ≡ None → o ≡ None
none_named n None h = refl
none_named n (Some a) h = cc

abbrev Same : State → State → Type 0
Same s u = association_in u ≡ association_in s

module _ (n : Names) (s u r w : State) (first : r ≡ named_state n s) (second : w ≡ named_state n u) where
  stays : Same s u → Same r w
  stays h =
      ap association_in second
      ∙ (held_named n u ∙ (ap (λ (o : Option Association). option_map (named_association n) o) h ∙ (sym (held_named n s) ∙ sym (ap association_in first))))

  stayed_by : Stand s u → (o : Option Association) → association_in s ≡ o → Same r w → association_in u ≡ o
  stayed_by stand (Some a) e h = stand a e
  stayed_by stand None e h =
      none_named n (association_in u)
      (sym (held_named n u)
      ∙ (sym (ap association_in second)
      ∙ (h ∙ (ap association_in first ∙ (held_named n s ∙ ap (λ (o : Option Association). option_map (named_association n) o) e)))))

  stayed : Stand s u → Same r w → Same s u
  stayed stand h = stayed_by stand (association_in s) refl h

module _ (ps : List (Drawn × Drawn)) (x z : Side) (u : State) (a b : Side) (records too : List GivenUp) where
  outcome_stays : (c : Call) (f : Endpoint Carried) → Outcome ps x z u c f → Same (state_of x) (called c x.end).endpoint_state.state → Same (state_of z) f.endpoint_state.state
  outcome_stays c f (inl n) h =
      stays (names ps n.mine n.peer n.tie n.cookie_tie) (state_of x) (called c x.end).endpoint_state.state (state_of z) f.endpoint_state.state n.before
      (ap (λ (s : EndpointState Carried). s.state) n.is) h
  outcome_stays c f (inr r) h = ap (λ (e : Endpoint Carried). association_in e.endpoint_state.state) r.so

  outcome_stayed : (c : Call) (f : Endpoint Carried) → Outcome ps x z u c f → Stand (state_of x) (called c x.end).endpoint_state.state
      → Same (state_of z) f.endpoint_state.state → Same (state_of x) (called c x.end).endpoint_state.state
  outcome_stayed c f (inl n) stand h =
      stayed (names ps n.mine n.peer n.tie n.cookie_tie) (state_of x) (called c x.end).endpoint_state.state (state_of z) f.endpoint_state.state n.before
      (ap (λ (s : EndpointState Carried). s.state) n.is) stand h
  outcome_stayed c f (inr r) stand h = ap (λ (e : Endpoint Carried). association_in e.endpoint_state.state) r.is

  pub turning_stays : Turning ps x z u a b records too → Same (state_of x) (state_of a) → Same (state_of z) (state_of b)
  turning_stays g h =
      ap (λ (s : Side). association_in (state_of s)) g.second_is
      ∙ outcome_stays g.call g.second g.outcome (sym (ap (λ (s : Side). association_in (state_of s)) g.first_is) ∙ h)

  pub turning_stayed : Turning ps x z u a b records too → Stand (state_of x) (state_of a) → Same (state_of z) (state_of b) → Same (state_of x) (state_of a)
  turning_stayed g stand h =
      ap (λ (s : Side). association_in (state_of s)) g.first_is
      ∙ outcome_stayed g.call g.second g.outcome (subst (λ (s : Side). Stand (state_of x) (state_of s)) g.first_is stand)
      (sym (ap (λ (s : Side). association_in (state_of s)) g.second_is) ∙ h)

  pub idle_stays : Idle x z a b records too → Same (state_of x) (state_of a) → Same (state_of z) (state_of b)
  idle_stays g h = ap (λ (s : Side). association_in (state_of s)) g.second_is

  pub idle_stayed : Idle x z a b records too → Same (state_of z) (state_of b) → Same (state_of x) (state_of a)
  idle_stayed g h = ap (λ (s : Side). association_in (state_of s)) g.first_is
