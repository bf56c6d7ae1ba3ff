-- A trace, computed, in which a stream is reset.
use Rattle.std.specs.Prelude.{◌≡◌, Bool, true, false, List, [], ◌∷◌, ◌++◌}
use Rattle.sctp_state.specs.Options.{plainly}
use Rattle.spec_endpoint.specs.Laws.{Send, ResetStreams}
use Rattle.proof_pair.specs.Trace.{EndAction, Calls, Gives, run, KeepsRules, NoAssociationHasEnded}
use Rattle.proof_pair.specs.Handing.{messages_made_ready, text}
use Rattle.proof_pair.specs.Opens.{at_first, one_connects}
use Rattle.proof_delivery.specs.StreamEpochs.{all_open, message_epochs, performed_of, resets_emitted, emitted_along, NoneIsRefused}
use Rattle.proof_delivery.specs.Delivery.{IsInBounds}

-- A message is sent; its stream is reset twice at once, and another message is accepted; the packets come in order. The second call
-- finds the stream waiting, and raises no epoch.
abbrev pub one_is_reset : List (Bool × EndAction)
one_is_reset =
    one_connects
    ++ ((true, Calls (Send (text 97) plainly)) ∷ (true, Calls (ResetStreams (1 ∷ []))) ∷ (true, Calls (ResetStreams (1 ∷ []))) ∷ (true, Calls (Send (text 98) plainly))
    ∷ (false, Gives 2 0) ∷ (false, Gives 3 0) ∷ (true, Gives 2 0) ∷ (true, Gives 3 0) ∷ (false, Gives 4 0) ∷ [])

-- both become ready, and the reset is emitted once at either end
pub record OneIsReset : Type 0 where
  pub follows : KeepsRules one_is_reset at_first
  pub not_ended : NoAssociationHasEnded (run one_is_reset at_first)
  pub bounds : IsInBounds one_is_reset at_first
  pub epochs : message_epochs true one_is_reset at_first all_open ≡ 0 ∷ 1 ∷ []
  pub readies : messages_made_ready false one_is_reset at_first ≡ text 97 ∷ text 98 ∷ []
  pub emitted : resets_emitted 1 (emitted_along false one_is_reset at_first) ≡ 1
  pub performed : performed_of (emitted_along true one_is_reset at_first) ≡ 1 ∷ []
  pub none_refused : NoneIsRefused one_is_reset at_first
