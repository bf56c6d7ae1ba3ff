-- What an end that emits `OnConnected` knows of the other one: claim and associations are read off the log.
use Rattle.std.specs.Prelude.{◌≡◌, Some, List, ◌∷◌, ◌++◌}
use Rattle.sctp_state.specs.Events.{OnConnected}
use Rattle.spec_endpoint.specs.Shown.{Association}
use Rattle.spec_world.specs.Observations.{End, mirrored, held, Entry, EmittedEvent}
use Rattle.spec_world.specs.World.{World, Action, Runs, other}
use Rattle.proof_world.specs.Reachable.{Origin, initial_world, IsReachable}
use Rattle.proof_world.specs.Draws.{DrawsTagsOnce}

-- The end holds an association, and the other end holds or has held the mirrored one: at a beginning of this log.
pub record IsAgreed (x : End) (log : List Entry) : Type 0 where
  pub association : Association
  pub holds : held x log ≡ Some association
  pub early : List Entry
  pub late : List Entry
  pub split : log ≡ early ++ late
  pub other_held : held (other x) early ≡ Some (mirrored association)

-- At each OnConnected, by what stands before it. An end holds an association from its entry to the next one.
abbrev pub WorldAgrees : List Entry → Type 0
WorldAgrees log = (x : End) (before behind : List Entry) → log ≡ before ++ EmittedEvent x OnConnected ∷ behind → IsAgreed x before

-- neither end draws a verification tag twice; both may draw the same one
abbrev pub EachEndDrawsDistinctTags : (actions : List Action) (w v : World) → Runs actions w v → Type 0
EachEndDrawsDistinctTags actions w v runs = (x : End) → DrawsTagsOnce x actions w v runs

-- Of each reachable world, whatever rules the run follows, and behind the end of an association too.
abbrev pub WorldsAgree : Type 0
WorldsAgree =
    (origin : Origin) (actions : List Action) (w : World) (l : IsReachable origin actions w) → EachEndDrawsDistinctTags actions (initial_world origin) w l.runs → WorldAgrees w.log
