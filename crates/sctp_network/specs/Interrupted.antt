-- Where memory runs out along a run: the events that happened, and what the log has of the next one.
use Rattle.std.specs.Prelude.{◌≡◌, List}
use Rattle.spec_world.specs.Observations.{Entry}
use Rattle.spec_world.specs.World.{World, Action, Happens, RunsUpToEnabled}
use Rattle.sctp_network_side.specs.Interrupted.{StopsWithin}

-- the log of a world that the event leads to
abbrev pub IsMadeBy : Action → World → List Entry → Type 0
IsMadeBy action w log = (v : World) × Happens action w v × (log ≡ v.log)

-- Events happened, and at the next one, whose packet is there, memory ran out. The log is the one up to there, or a beginning of one that
-- this event makes of it.
pub record RunsUpToFailure (actions : List Action) (w : World) (log : List Entry) : Type 0 where
  pub up_to : RunsUpToEnabled actions w
  pub stops : StopsWithin (IsMadeBy up_to.action up_to.reached) up_to.reached.log log
