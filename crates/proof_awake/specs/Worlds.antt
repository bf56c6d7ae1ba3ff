-- Each end of a world is awake between events, and has no stream in line while nothing is kept.
use Rattle.std.specs.Prelude.{ℕ, ◌≤◌, List}
use Rattle.rand_core.specs.Stream.{Stream}
use Rattle.sctp_state.specs.Options.{Options, IsValid}
use Rattle.spec_world.specs.Observations.{End}
use Rattle.spec_world.specs.World.{World, Action, Runs, side_of, fresh_world}
use Rattle.proof_world.specs.Reachable.{Origin, IsReachable}
use Rattle.proof_awake.specs.Awake.{IsAwake}
use Rattle.proof_awake.specs.Line.{HasNoLine}

abbrev pub EndsAreAwake : World → Type 0
EndsAreAwake w = (x : End) → IsAwake (side_of x w).socket.endpoint_state

-- whatever led two new ends, with valid options, to where they stand
abbrev pub WorldsAreAwake : Type 0
WorldsAreAwake =
    (options_a options_b : Options) (draws_a draws_b : Stream) (word_of_a word_of_b : List ℕ → ℕ) (actions : List Action) (w : World) → IsValid options_a → IsValid options_b
    → Runs actions (fresh_world options_a options_b draws_a draws_b word_of_a word_of_b) w → EndsAreAwake w

-- an end with bursts of two packets or more
pub record EndsHaveNoLine (burst_a burst_b : ℕ) (w : World) : Type 0 where
  pub a : 2 ≤ burst_a → HasNoLine w.a.socket.endpoint_state
  pub b : 2 ≤ burst_b → HasNoLine w.b.socket.endpoint_state

abbrev pub WorldsHaveNoLine : Type 0
WorldsHaveNoLine = (o : Origin) (actions : List Action) (w : World) → IsReachable o actions w → EndsHaveNoLine o.a.max_burst o.b.max_burst w
