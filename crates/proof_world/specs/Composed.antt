-- What holds of each reachable world: of its packets and lifecycles always, of what is delivered until an end first emits that an
-- association is over.
use Rattle.std.specs.Prelude.{◌≡◌, ℕ, ◌^◌, ◌<◌, ◌≤◌, false, List, ◌++◌, length}
use Rattle.sctp_rx.specs.Delivery.{Extends}
use Rattle.proof_delivery.specs.StreamEpochs.{failed_in}
use Rattle.spec_world.specs.Observations.{End, Entry, ready, handed_out}
use Rattle.spec_world.specs.World.{World, Action, Runs, AreShort}
use Rattle.proof_world.specs.Reachable.{Origin, initial_world, IsReachable}
use Rattle.proof_world.specs.Consistent.{NoEndingIsLogged, WorldKeepsRules, WorldEndsAreConsistent}
use Rattle.proof_world.specs.Delivered.{AlongRun, accepted_messages, emitted_events, WorldDelivers, WorldIsInBounds}
use Rattle.proof_world.specs.Few.{LogUsesFew}
use Rattle.proof_world.specs.Justified.{options_of, AreJustified}
use Rattle.proof_world.specs.Readable.{PacketsReadBack}
use Rattle.proof_world.specs.Ended.{lifecycle_ends_at, handed_to}

-- Where the rules are followed until then, both ends are consistent between events; what was handed out is a prefix of what became
-- ready, at each point of the log; and as long as the bounds are kept, what became ready fits what was accepted, each message in its
-- epoch, what was skipped was given up, what was reported is ready, at rest nothing is left, and no end emits that a reset failed. Where the
-- log uses few numbers, they are kept.
-- Behind that too: records of messages given up are justified; no packet is above its sender's mtu, and each is read back as the chunks
-- that a row put in; and no lifecycle is reported to have ended more often than messages with its id were handed in.
pub record Composes (o : Origin) (actions : List Action) (w : World) (runs : Runs actions (initial_world o) w) : Type 0 where
  pub consistent : WorldKeepsRules w → AlongRun (λ u. NoEndingIsLogged u.log → WorldEndsAreConsistent o.a o.b u) actions (initial_world o) w runs
  pub handed : WorldKeepsRules w → (x : End) (early late : List Entry) → w.log ≡ early ++ late → NoEndingIsLogged early → Extends (handed_out x early) (ready x early)
  pub delivers : WorldKeepsRules w → WorldIsInBounds actions (initial_world o) w runs → (x : End) → WorldDelivers x actions (initial_world o) w runs
  pub delivers_few : WorldKeepsRules w → LogUsesFew w.log → (x : End) → WorldDelivers x actions (initial_world o) w runs
  pub none_refused : WorldKeepsRules w → WorldIsInBounds actions (initial_world o) w runs → (x : End) (early late : List Entry) → w.log ≡ early ++ late → NoEndingIsLogged early
      → failed_in (emitted_events x early) ≡ false
  pub justified : (x : End) → length (accepted_messages x w.log) < 2 ^ 32 → AreJustified x (options_of x o.a o.b).avoid_stalls w.log
  pub short : AreShort o.a.mtu o.b.mtu w
  pub read_back : PacketsReadBack o actions w
  pub lifecycles : (x : End) (id : ℕ) → lifecycle_ends_at id x w.log ≤ handed_to id x w.log

abbrev pub WorldsCompose : Type 0
WorldsCompose = (o : Origin) (actions : List Action) (w : World) (l : IsReachable o actions w) → Composes o actions w l.runs
