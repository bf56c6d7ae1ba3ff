-- Two traces that follow the rules and open an association, so that the law of traces speaks of something: one end connects,
-- and both do at once.
use Rattle.std.specs.Prelude.{◌≡◌, Bool, true, false, List, [], ◌∷◌}
use Rattle.sctp_state.specs.Options.{defaults}
use Rattle.spec_endpoint.specs.Laws.{Connect}
use Rattle.spec_endpoint.specs.Pair.{counting_from}
use Rattle.proof_pair.specs.Trace.{Pair, has_connected, EndAction, Calls, Gives, run, KeepsRules, NoAssociationHasEnded, AreValidOptions, start}

abbrev pub at_first : Pair
at_first = start defaults defaults (counting_from 456) (counting_from 1000)

-- INIT, INIT ACK, COOKIE ECHO, COOKIE ACK
abbrev pub one_connects : List (Bool × EndAction)
one_connects = (true, Calls Connect) ∷ (false, Gives 0 0) ∷ (true, Gives 0 0) ∷ (false, Gives 1 0) ∷ (true, Gives 1 0) ∷ []

-- two INITs, two INIT ACKs, two COOKIE ECHOs
abbrev pub both_connect : List (Bool × EndAction)
both_connect =
    (true, Calls Connect) ∷ (false, Calls Connect) ∷ (false, Gives 0 0) ∷ (true, Gives 0 0) ∷ (false, Gives 1 0) ∷ (true, Gives 1 0) ∷ (false, Gives 2 0)
    ∷ (true, Gives 2 0) ∷ []

pub record Opens (trace : List (Bool × EndAction)) : Type 0 where
  pub given : AreValidOptions defaults
  pub follows : KeepsRules trace at_first
  pub not_ended : NoAssociationHasEnded (run trace at_first)
  pub a_connected : has_connected (run trace at_first).a.emitted ≡ true
  pub b_connected : has_connected (run trace at_first).b.emitted ≡ true

abbrev pub OneConnects : Type 0
OneConnects = Opens one_connects

abbrev pub BothConnect : Type 0
BothConnect = Opens both_connect
