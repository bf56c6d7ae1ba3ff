-- An association that is announced has begun.
use Rattle.std.proofs.Common.{◌≡◌, ℕ, Bool, true, List, ap, ◌∙◌}
use Rattle.std.specs.Prelude.{is_some}
use Rattle.sctp_capabilities.specs.StateCookie.{Cookie}
use Rattle.spec_endpoint.specs.Association.{State, Context, EndpointState}
use Rattle.spec_endpoint.specs.Shown.{association_in}
use Rattle.sctp_endpoint.specs.GoesOn.{GoesOn, Continues, GoesOnWith}
use Rattle.sctp_endpoint.specs.Views.{ContextValue}
use Rattle.sctp_endpoint.proofs.GoesOnLemmas.{continues_behind, continues_through, continues_with, with_held}
use Rattle.sctp_handshake.specs.Beginning.{begun}

pub begun_held : (resets : Bool) (k : Cookie) (tie : ℕ) (c : Context (List ℕ)) (x : EndpointState (List ℕ)) → x ≡ begun resets k tie c → is_some (association_in x.state) ≡ true
begun_held resets k tie c x is = ap (λ (y : EndpointState (List ℕ)). is_some (association_in y.state)) is

module _ {C : Type 0} (c d e : ContextValue C) (s : State) (begins : GoesOn c d) (announces : Continues d e) (held : is_some (association_in s) ≡ true) where
  pub announced_with : GoesOnWith c e s
  announced_with = with_held c e s (continues_behind c d e begins announces) held

  pub greeted_with : (f : ContextValue C) (t : State) → GoesOnWith e f t → association_in t ≡ association_in s → GoesOnWith c f t
  greeted_with f t greets kept = with_held c f t (continues_through c e f (continues_behind c d e begins announces) (continues_with e f t greets)) (ap is_some kept ∙ held)
