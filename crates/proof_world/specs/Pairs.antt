-- Two worlds that the same actions lead on, event by event, the first one first.
use Rattle.std.specs.Prelude.{◌≡◌, ◌⊎◌, Bool, true, false, List, [], ◌∷◌, ◌++◌}
use Rattle.spec_world.specs.World.{World, Action, Runs, IsDisabled}

-- from the worlds w and v to the worlds x and y
pub record Both (actions : List Action) (w v x y : World) : Type 0 where
  pub first : Runs actions w x
  pub second : Runs actions v y

-- up to an event that names a packet which one of them hasn't
pub record BothUpToLack (actions : List Action) (w v x y : World) : Type 0 where
  pub before : List Action
  pub action : Action
  pub rest : List Action
  pub split : actions ≡ before ++ action ∷ rest
  pub both : Both before w v x y
  pub lacks : IsDisabled action x ⊎ IsDisabled action y

-- Up to an event at which one of them ran out of memory: the first, and then the second stands as before it; or the second, once the
-- first had gone on.
pub data RanOut (actions : List Action) (w v x y : World) (first_failed second_failed : Bool) : Type 0 where
  in_first : (before : List Action) (action : Action) (rest : List Action) (u : World) → actions ≡ before ++ action ∷ rest → Both before w v u y
      → first_failed ≡ true → second_failed ≡ false → RanOut actions w v x y first_failed second_failed
  in_second : (before : List Action) (action : Action) (rest : List Action) (u : World) → actions ≡ before ++ action ∷ rest → Runs before v u
      → Runs (before ++ action ∷ []) w x → first_failed ≡ false → second_failed ≡ true → RanOut actions w v x y first_failed second_failed
