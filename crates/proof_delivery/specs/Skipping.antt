-- A trace, computed: of three ordered messages on one stream the second is lost, and may not be sent again.
use Rattle.std.specs.Prelude.{◌≡◌, ◌*◌, ◌^◌, Bool, true, false, Some, List, [], ◌∷◌, ◌++◌, map}
use Rattle.sctp_state.specs.Options.{plainly}
use Rattle.proof_refines.specs.Reachable.{delivered_ids}
use Rattle.spec_endpoint.specs.Laws.{Send, Advance}
use Rattle.proof_pair.specs.Trace.{EndAction, Calls, Gives, run, KeepsRules, NoAssociationHasEnded}
use Rattle.proof_pair.specs.Opens.{at_first, one_connects}
use Rattle.proof_pair.specs.Handing.{text, messages_made_ready}
use Rattle.proof_delivery.specs.Accepted.{AcceptedMessage, accepted}
use Rattle.proof_delivery.specs.GivenUp.{given_up, IsAtRest}
use Rattle.proof_delivery.specs.Delivery.{IsInBounds}

-- the packet of the second never comes; once T3-rtx expires, a forward point passes it
abbrev pub one_is_lost : List (Bool × EndAction)
one_is_lost =
    one_connects
    ++ ((true, Calls (Send (text 97) (record plainly { lifecycle_id = Some 7 }))) ∷ (true, Calls (Send (text 98) (record plainly { max_retransmissions = Some 0 })))
    ∷ (true, Calls (Send (text 99) plainly)) ∷ (false, Gives 2 0) ∷ (false, Gives 4 0) ∷ (true, Gives 2 0) ∷ (true, Gives 3 0)
    ∷ (true, Calls (Advance (2 * 10 ^ 9))) ∷ (false, Gives 5 0) ∷ (false, Calls (Advance (2 * 10 ^ 9))) ∷ (true, Gives 4 0) ∷ [])

-- the others become ready, and in the end the sender is at rest
pub record OneIsSkipped : Type 0 where
  pub follows : KeepsRules one_is_lost at_first
  pub not_ended : NoAssociationHasEnded (run one_is_lost at_first)
  pub bounds : IsInBounds one_is_lost at_first
  pub accepts : map (λ (o : AcceptedMessage). o.message) (accepted true one_is_lost at_first) ≡ text 97 ∷ text 98 ∷ text 99 ∷ []
  pub readies : messages_made_ready false one_is_lost at_first ≡ text 97 ∷ text 99 ∷ []
  pub gives_up : given_up true one_is_lost at_first ≡ 1 ∷ []
  pub reports : delivered_ids (run one_is_lost at_first).a.emitted ≡ 7 ∷ []
  pub rests : IsAtRest (run one_is_lost at_first).a
