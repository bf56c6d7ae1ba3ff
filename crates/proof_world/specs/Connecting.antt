-- Runs of worlds, computed, in which both ends connect. So agreement speaks of something, and so does independence: all that they ask holds.
use Rattle.spec_world.specs.World.{World}
use Rattle.proof_world.specs.FirstRun.{opening, IsOpen}
use Rattle.proof_world.specs.Reachable.{Origin, initial_world, IsReachable}
use Rattle.proof_world.specs.Agreed.{EachEndDrawsDistinctTags}
use Rattle.proof_world.specs.Alike.{TwoOrigins, first_origin, second_origin, AreComparable}

-- no end draws a tag twice, and both ends are connected
pub record EndsConnect : Type 0 where
  pub origin : Origin
  pub world : World
  pub reachable : IsReachable origin opening world
  pub tags : EachEndDrawsDistinctTags opening (initial_world origin) world reachable.runs
  pub are_open : IsOpen world

-- two such worlds, whose ends draw other words, can be compared
pub record TwoWorldsConnect : Type 0 where
  pub origins : TwoOrigins
  pub first : World
  pub second : World
  pub first_reachable : IsReachable (first_origin origins) opening first
  pub second_reachable : IsReachable (second_origin origins) opening second
  pub comparable : AreComparable origins opening first second first_reachable.runs second_reachable.runs
  pub first_open : IsOpen first
  pub second_open : IsOpen second
