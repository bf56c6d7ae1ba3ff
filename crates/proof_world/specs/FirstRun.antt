-- The first run: two ends connect, one message crosses, and its sender is at rest.
use Rattle.std.specs.Prelude.{◌≡◌, ℕ, true, Some, List, [], ◌∷◌, ◌++◌}
use Rattle.rand_core.specs.Stream.{Stream}
use Rattle.sctp_serial.specs.Messages.{Message}
use Rattle.sctp_state.specs.Options.{SendOptions, defaults}
use Rattle.spec_endpoint.specs.Shown.{Association}
use Rattle.proof_endpoint.specs.FirstRun.{IsSmall}
use Rattle.spec_world.specs.Observations.{A, B, mirrored, times_connected, held, accepted, ready, Connect, Send}
use Rattle.spec_world.specs.World.{Action, CallOf, Give, World, Runs, fresh_world, is_at_rest}

-- INIT, INIT ACK, COOKIE ECHO and COOKIE ACK are given, each once
abbrev pub opening : List Action
opening = CallOf A Connect ∷ Give 0 B ∷ Give 0 A ∷ Give 1 B ∷ Give 1 A ∷ []

-- a message is sent, and its packet given
abbrev pub crossing : Message → SendOptions → List Action
crossing m options = CallOf A (Send m options) ∷ Give 2 B ∷ []

-- its acknowledgement is given
abbrev pub acknowledging : List Action
acknowledging = Give 2 A ∷ []

-- all of it
abbrev pub first_run : Message → SendOptions → List Action
first_run m options = opening ++ (crossing m options ++ acknowledging)

-- two ends with default options and one checksum function that did nothing yet
pub record IsFresh (w : World) : Type 0 where
  pub a : Stream
  pub b : Stream
  pub word_of : List ℕ → ℕ
  pub is : w ≡ fresh_world defaults defaults a b word_of word_of

-- each end emitted once that it is connected, and the associations that they hold are mirrored
pub record IsOpen (w : World) : Type 0 where
  pub association : Association
  pub held_by_a : held A w.log ≡ Some association
  pub held_by_b : held B w.log ≡ Some (mirrored association)
  pub connected_a : times_connected A w.log ≡ 1
  pub connected_b : times_connected B w.log ≡ 1

-- the message was accepted by one end, and became ready at the other
pub record HasCrossed (m : Message) (w : World) : Type 0 where
  pub accepted : accepted A w.log ≡ m ∷ []
  pub ready : ready B w.log ≡ m ∷ []

-- two fresh ends came here by these events
pub record CameBy (before : List Action) (w : World) : Type 0 where
  pub origin : World
  pub fresh : IsFresh origin
  pub runs : Runs before origin w

-- What events lead to that continue the first run: the ends are open, the message has crossed, its sender is at rest.
pub record LeadsFirstRun (actions : List Action) (w v : World) : Type 0 where
  pub opens : (before : List Action) → CameBy before w → before ++ actions ≡ opening → IsOpen v
  pub crosses : (m : Message) (options : SendOptions) → IsSmall m → (before : List Action) → CameBy before w
      → before ++ actions ≡ opening ++ crossing m options → HasCrossed m v
  pub rests : (m : Message) (options : SendOptions) → IsSmall m → (before : List Action) → CameBy before w
      → before ++ actions ≡ first_run m options → is_at_rest A v ≡ true

-- these events, and others behind them, continue it
pub record ContinuesFirstRun (actions : List Action) (w : World) : Type 0 where
  pub message : Message
  pub options : SendOptions
  pub small : IsSmall message
  pub before : List Action
  pub came : CameBy before w
  pub rest : List Action
  pub is : before ++ (actions ++ rest) ≡ first_run message options
