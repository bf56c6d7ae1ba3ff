-- A run of a world, computed: of three ordered messages on one stream the second is lost, and may not be sent again. So the law of
-- worlds speaks of something: all that it asks holds of this run, and a message is skipped, given up, and reported.
use Rattle.std.specs.Prelude.{◌≡◌, ◌*◌, ◌^◌, true, Some, List, [], ◌∷◌, ◌++◌}
use Rattle.sctp_state.specs.Options.{plainly}
use Rattle.proof_pair.specs.Handing.{text}
use Rattle.spec_world.specs.Observations.{A, B, Send, accepted, ready}
use Rattle.spec_world.specs.World.{World, Action, CallOf, Give, AdvanceTime, is_at_rest}
use Rattle.proof_world.specs.FirstRun.{opening}
use Rattle.proof_world.specs.Reachable.{Origin, IsReachable, initial_world}
use Rattle.proof_world.specs.Consistent.{IsUndisturbed}
use Rattle.proof_world.specs.Delivered.{given_up_places, reported, WorldIsInBounds}
use Rattle.proof_world.specs.Few.{LogUsesFew}

-- the packet of the second never comes; once T3-rtx expires, a forward point passes it
abbrev pub one_is_lost : List Action
one_is_lost =
    opening
    ++ (CallOf A (Send (text 97) (record plainly { lifecycle_id = Some 7 })) ∷ CallOf A (Send (text 98) (record plainly { max_retransmissions = Some 0 }))
    ∷ CallOf A (Send (text 99) plainly) ∷ Give 2 B ∷ Give 4 B ∷ Give 2 A ∷ Give 3 A ∷ AdvanceTime A (2 * 10 ^ 9) ∷ Give 5 B ∷ AdvanceTime B (2 * 10 ^ 9) ∷ Give 4 A ∷ [])

-- the others become ready, and in the end the sender is at rest
pub record OneIsSkipped : Type 0 where
  pub origin : Origin
  pub world : World
  pub reachable : IsReachable origin one_is_lost world
  pub undisturbed : IsUndisturbed world
  pub bounds : WorldIsInBounds one_is_lost (initial_world origin) world reachable.runs
  pub few : LogUsesFew world.log
  pub accepts : accepted A world.log ≡ text 97 ∷ text 98 ∷ text 99 ∷ []
  pub readies : ready B world.log ≡ text 97 ∷ text 99 ∷ []
  pub gives_up : given_up_places A world.log ≡ 1 ∷ []
  pub reports : reported A world.log ≡ 7 ∷ []
  pub rests : is_at_rest A world ≡ true
