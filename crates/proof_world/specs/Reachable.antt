-- What led a new world to where it stands: what it began with, and the actions since.
use Rattle.std.specs.Prelude.{◌≡◌, ℕ, List, ◌++◌, All}
use Rattle.rand_core.specs.Stream.{Stream}
use Rattle.sctp_state.specs.Options.{Options, IsValid}
use Rattle.spec_endpoint.specs.Wire.{AreBytes}
use Rattle.proof_endpoint.specs.Sound.{OptionsFit, ArgumentFits}
use Rattle.spec_world.specs.World.{World, Action, CallOf, Give, GiveForeign, AdvanceTime, Runs, fresh_world, table_call}

-- what a call hands in fits; bytes from elsewhere are below 256 each
abbrev pub ActionFits : Action → Type 0
ActionFits (CallOf x call) = ArgumentFits (table_call call)
ActionFits (Give packet x) = Unit {0}
ActionFits (GiveForeign x bytes) = AreBytes bytes
ActionFits (AdvanceTime x now) = Unit {0}

-- All packets are bytes: numbers below 256.
pub record IsInBytes (w : World) : Type 0 where
  pub a : All AreBytes w.a.packets
  pub b : All AreBytes w.b.packets

-- what two new ends have: options, all words that their generators will answer, and checksum functions
pub record Origin : Type 0 where
  pub a : Options
  pub b : Options
  pub draws_a : Stream
  pub draws_b : Stream
  pub word_of_a : List ℕ → ℕ
  pub word_of_b : List ℕ → ℕ

abbrev pub origin : (a b : Options) (draws_a draws_b : Stream) (word_of_a word_of_b : List ℕ → ℕ) → Origin
origin a b draws_a draws_b word_of_a word_of_b =
    record { a = a; b = b; draws_a = draws_a; draws_b = draws_b; word_of_a = word_of_a; word_of_b = word_of_b }

-- that new world
abbrev pub initial_world : Origin → World
initial_world o = fresh_world o.a o.b o.draws_a o.draws_b o.word_of_a o.word_of_b

-- That new world, with options that a socket can be made with, was led to this one by these actions, which fit; its packets are bytes.
pub record IsReachable (o : Origin) (actions : List Action) (w : World) : Type 0 where
  pub valid_a : IsValid o.a
  pub valid_b : IsValid o.b
  pub fits_a : OptionsFit o.a
  pub fits_b : OptionsFit o.b
  pub fit : All ActionFits actions
  pub runs : Runs actions (initial_world o) w
  pub bytes : IsInBytes w

-- What happens has one outcome, since bytes have one reading.
abbrev pub RunsHaveOneOutcome : Type 0
RunsHaveOneOutcome = (actions : List Action) (w u v : World) → Runs actions w u → Runs actions w v → u ≡ v

-- Whatever led a new world to w leads it on to v, by these actions more.
abbrev pub Continues : (actions : List Action) (w v : World) → Type 0
Continues actions w v = (o : Origin) (before : List Action) → IsReachable o before w → IsReachable o (before ++ actions) v
