-- What the program's value of a world says.
use Rattle.std.specs.Prelude.{ℕ, Bool, List}
use Rattle.rand_core.specs.Stream.{Stream}
use Rattle.spec_world.specs.Observations.{Entry}
use Rattle.spec_world.specs.World.{World}
use Rattle.sctp_network_side.specs.SideView.{SideValue, side_in}

-- a world as the program has it
pub record WorldValue (R C : Type 0) : Type 0 where
  pub a : SideValue R C
  pub b : SideValue R C
  pub log : List Entry
  pub has_failed : Bool

-- the two ends and the log, with all that their generators will answer
abbrev pub world_of : {R C : Type 0} → (R → Stream) → (C → List ℕ → ℕ) → WorldValue R C → World
world_of stream word_of w = record { a = side_in stream word_of w.a; b = side_in stream word_of w.b; log = w.log }
