-- A run of a world, computed, in which a stream is reset. So the law of worlds speaks of resets: all that it asks holds of this run, and
-- messages of two epochs become ready.
use Rattle.std.specs.Prelude.{◌≡◌, List, [], ◌∷◌, ◌++◌}
use Rattle.sctp_state.specs.Options.{plainly}
use Rattle.proof_pair.specs.Handing.{text}
use Rattle.proof_delivery.specs.StreamEpochs.{all_open, performed_of, resets_emitted}
use Rattle.spec_world.specs.Observations.{A, B, Send, Reset, accepted, ready}
use Rattle.spec_world.specs.World.{World, Action, CallOf, Give}
use Rattle.proof_world.specs.FirstRun.{opening}
use Rattle.proof_world.specs.Reachable.{Origin, IsReachable, initial_world}
use Rattle.proof_world.specs.Consistent.{IsUndisturbed}
use Rattle.proof_world.specs.Delivered.{message_epochs, emitted_events, WorldIsInBounds}
use Rattle.proof_world.specs.Few.{LogUsesFew}

-- A message is sent; its stream is reset twice at once, and another message is accepted. The second call finds the stream waiting, and
-- raises no epoch.
abbrev pub one_is_reset : List Action
one_is_reset =
    opening
    ++ (CallOf A (Send (text 97) plainly) ∷ CallOf A (Reset (1 ∷ [])) ∷ CallOf A (Reset (1 ∷ [])) ∷ CallOf A (Send (text 98) plainly)
    ∷ Give 2 B ∷ Give 3 B ∷ Give 2 A ∷ Give 3 A ∷ Give 4 B ∷ [])

-- both become ready, and each end emits once that the stream was reset
pub record OneIsReset : Type 0 where
  pub origin : Origin
  pub world : World
  pub reachable : IsReachable origin one_is_reset world
  pub undisturbed : IsUndisturbed world
  pub bounds : WorldIsInBounds one_is_reset (initial_world origin) world reachable.runs
  pub few : LogUsesFew world.log
  pub accepts : accepted A world.log ≡ text 97 ∷ text 98 ∷ []
  pub epochs : message_epochs A world.log all_open ≡ 0 ∷ 1 ∷ []
  pub readies : ready B world.log ≡ text 97 ∷ text 98 ∷ []
  pub emitted : resets_emitted 1 (emitted_events B world.log) ≡ 1
  pub performed : performed_of (emitted_events A world.log) ≡ 1 ∷ []
