-- Two ends of a world are consistent: premises and claim are read off the log and the world.
use Rattle.std.specs.Prelude.{◌≡◌, ◌⊎◌, ℕ, ◌==◌, ◌&&◌, ◌≤◌, Bool, false, Option, Some, None, List, [], ◌∷◌, ◌++◌, length, take, drop, slice_get, ⊤}
use Rattle.std.specs.Int.{w32, from_be_bytes}
use Rattle.std.specs.List.{flat_map, list_any}
use Rattle.sctp_state.specs.Options.{Options}
use Rattle.sctp_capabilities.specs.Capabilities.{agreed, mirrored_capabilities}
use Rattle.sctp_state.specs.Events.{OnClosed, OnAborted}
use Rattle.spec_endpoint.specs.Association.{Tcb, Phase, Open}
use Rattle.spec_endpoint.specs.Shown.{Association}
use Rattle.spec_world.specs.Observations.{End, A, B, same_end, none_unless, mirrored, held, times_connected, Connect, Shutdown, Entry, Called, Given, EmittedEvent}
use Rattle.spec_world.specs.World.{World, Action, Runs, side_of, other}
use Rattle.proof_world.specs.FirstRun.{opening, IsFresh}
use Rattle.proof_world.specs.Reachable.{Origin, IsReachable}

-- ---- what was given

-- an INIT goes under tag 0, in bytes 4 to 7
abbrev pub is_init : List ℕ → Bool
is_init bytes = from_be_bytes w32 (take 4 (drop 4 bytes)) == 0

abbrev pub is_some_init : Option (List ℕ) → Bool
is_some_init None = false
is_some_init (Some bytes) = is_init bytes

-- an INIT among these packets is given to this end
abbrev pub gets_init : End → (packets : List (List ℕ)) → Entry → Bool
gets_init x packets (Given y clock packet) = same_end x y && is_some_init (slice_get packets packet)
gets_init x packets entry = false

-- an INIT of the other end was given to this one
abbrev pub got_init : End → World → List Entry → Bool
got_init x w log = list_any (gets_init x (side_of (other x) w).packets) log

-- ---- until an association is over

abbrev pub association_ends_by : End → Entry → List End
association_ends_by x (EmittedEvent y OnClosed) = none_unless (same_end x y) y
association_ends_by x (EmittedEvent y (OnAborted kind text)) = none_unless (same_end x y) y
association_ends_by x entry = []

-- how often this end emitted that an association is over
abbrev pub times_ended : End → List Entry → ℕ
times_ended x log = length (flat_map (association_ends_by x) log)

-- no end emitted so yet
abbrev pub NoEndingIsLogged : List Entry → Type 0
NoEndingIsLogged log = (x : End) → times_ended x log ≡ 0

-- ---- the rules

-- Before its own OnConnected an end calls neither shutdown, nor connect once an INIT was given to it.
abbrev pub MayFollow : World → (before : List Entry) → Entry → Type 0
MayFollow w before (Called x clock Shutdown answer) = 1 ≤ times_connected x before
MayFollow w before (Called x clock Connect answer) = (1 ≤ times_connected x before) ⊎ (got_init x w before ≡ false)
MayFollow w before entry = ⊤

-- each entry, by those before it, until an end first emits that an association is over
abbrev pub WorldKeepsRules : World → Type 0
WorldKeepsRules w = (before : List Entry) (entry : Entry) (behind : List Entry) → w.log ≡ before ++ entry ∷ behind → NoEndingIsLogged before → MayFollow w before entry

-- The opening rules were kept, and no end emitted that an association is over.
pub record IsUndisturbed (w : World) : Type 0 where
  pub follows : WorldKeepsRules w
  pub stands : NoEndingIsLogged w.log

-- ---- the law

-- What each end's association can do is what was negotiated of the two option sets; and the associations that the log says that
-- both hold are mirrored, in the stream counts too.
pub record WorldEndsAreConsistent (a b : Options) (w : World) : Type 0 where
  pub a_negotiated : (phase : Phase) (t : Tcb) → w.a.socket.endpoint_state.state ≡ Open phase t → t.capabilities ≡ agreed a b
  pub b_negotiated : (phase : Phase) (t : Tcb) → w.b.socket.endpoint_state.state ≡ Open phase t → t.capabilities ≡ agreed b a
  pub are_mirrored : (i j : Association) → held A w.log ≡ Some i → held B w.log ≡ Some j → j ≡ mirrored i
  pub counts : agreed b a ≡ mirrored_capabilities (agreed a b)

-- Of each reachable world, undisturbed.
abbrev pub WorldsAreConsistent : Type 0
WorldsAreConsistent = (origin : Origin) (actions : List Action) (w : World) → IsReachable origin actions w → IsUndisturbed w → WorldEndsAreConsistent origin.a origin.b w

-- The rules can be kept: the opening of the first run keeps them, and leaves no association over.
abbrev pub OpeningFollows : Type 0
OpeningFollows = (w v : World) → IsFresh w → Runs opening w v → WorldKeepsRules v × NoEndingIsLogged v.log
