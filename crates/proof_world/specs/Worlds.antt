-- Each trace of two new ends is that of a world: what traces say of lists of chunks, they say of bytes.
use Rattle.std.specs.Prelude.{◌≡◌, ℕ, Bool, true, false, List, map, All}
use Rattle.std.specs.List.{list_any}
use Rattle.rand_core.specs.Stream.{Stream}
use Rattle.sctp_state.specs.Options.{Options}
use Rattle.proof_endpoint.specs.Mapped.{as_written}
use Rattle.proof_endpoint.specs.Sound.{OptionsFit}
use Rattle.spec_endpoint.specs.Wire.{AreBytes}
use Rattle.proof_pair.specs.Trace as traces
use Rattle.proof_pair.specs.Trace.{Pair, EndAction, emitted_packets, run, start}
use Rattle.spec_world.specs.World.{World, Action, GiveForeign, Runs, fresh_world}
use Rattle.proof_world.specs.Reachable.{ActionFits}
use Rattle.proof_world.specs.Traces.{AreActionsOf, AreImages}

abbrev pub is_foreign : Action → Bool
is_foreign (GiveForeign x bytes) = true
is_foreign action = false

-- no bytes come from elsewhere: what an end makes of them no action of chunks says
abbrev pub NoneIsForeign : List Action → Type 0
NoneIsForeign actions = list_any is_foreign actions ≡ false

-- each packet that it emitted is bytes, once it is written
abbrev pub EmitsBytes : (word_of : List ℕ → ℕ) → traces.Side → Type 0
EmitsBytes word_of end = All AreBytes (map (as_written word_of) (emitted_packets end))

pub record BothEmitBytes (word_of_a word_of_b : List ℕ → ℕ) (c : Pair) : Type 0 where
  pub a : EmitsBytes word_of_a c.a
  pub b : EmitsBytes word_of_b c.b

-- a world that these actions lead to, which is this pair with each packet written
pub record HasWorld (from : World) (word_of_a word_of_b : List ℕ → ℕ) (actions : List Action) (to : Pair) : Type 0 where
  pub world : World
  pub runs : Runs actions from world
  pub images : AreImages word_of_a word_of_b world to

-- For any options, words, checksum functions and actions that fit, and the trace of these actions.
abbrev pub TracesHaveWorlds : Type 0
TracesHaveWorlds =
    (a b : Options) (draws_a draws_b : Stream) (word_of_a word_of_b : List ℕ → ℕ) (actions : List Action) (trace : List (Bool × EndAction))
    → OptionsFit a → OptionsFit b → All ActionFits actions → NoneIsForeign actions
    → AreActionsOf word_of_a word_of_b actions trace (start a b draws_a draws_b)
    → BothEmitBytes word_of_a word_of_b (run trace (start a b draws_a draws_b))
    → HasWorld (fresh_world a b draws_a draws_b word_of_a word_of_b) word_of_a word_of_b actions (run trace (start a b draws_a draws_b))
