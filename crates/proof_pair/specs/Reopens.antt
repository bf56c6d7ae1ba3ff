-- Two traces of which the law of agreement speaks and that of consistent ends doesn't, computed: a restart, and an old cookie.
use Rattle.std.specs.Prelude.{◌≡◌, Bool, true, false, List, [], ◌∷◌, ◌++◌, length}
use Rattle.spec_endpoint.specs.Laws.{Connect, Close}
use Rattle.proof_pair.specs.Trace.{has_connected, EndAction, Calls, Gives, run, state_of}
use Rattle.proof_pair.specs.Opens.{at_first, one_connects}
use Rattle.proof_pair.specs.Agreement.{held_in, no_histories, histories_along, AreDistinctPerEnd, AreAllowed, emitted_since}

-- both ends close, and the COOKIE ECHO comes again
abbrev pub both_close : List (Bool × EndAction)
both_close = one_connects ++ ((true, Calls Close) ∷ (false, Calls Close) ∷ [])

abbrev pub old_cookie : List (Bool × EndAction)
old_cookie = both_close ++ ((false, Gives 1 0) ∷ [])

-- one end closes, and connects anew
abbrev pub one_restarts : List (Bool × EndAction)
one_restarts = one_connects ++ ((true, Calls Close) ∷ (true, Calls Connect) ∷ (false, Gives 3 0) ∷ (true, Gives 2 0) ∷ [])

abbrev pub restart_actions : List (Bool × EndAction)
restart_actions = one_restarts ++ ((false, Gives 4 0) ∷ [])

-- the second end emits that it is connected, by the last action
pub record Reopens (before all : List (Bool × EndAction)) : Type 0 where
  pub allowed : AreAllowed all
  pub distinct : AreDistinctPerEnd (histories_along all at_first no_histories)
  pub emits : has_connected (emitted_since (run before at_first).b (run all at_first).b) ≡ true
  pub b_holds : length (held_in (state_of (run all at_first).b)) ≡ 1

-- by an old cookie, while the first holds nothing
pub record AnOldCookieOpens : Type 0 where
  pub reopens : Reopens both_close old_cookie
  pub a_holds_none : held_in (state_of (run old_cookie at_first).a) ≡ []

abbrev pub ARestartOpens : Type 0
ARestartOpens = Reopens one_restarts restart_actions
