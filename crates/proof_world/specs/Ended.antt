-- Each lifecycle ends at most once, read off the log alone.
use Rattle.std.specs.Prelude.{ℕ, ◌+◌, ◌≤◌, Bool, true, false, List, [], ◌∷◌}
use Rattle.rand_core.specs.Stream.{Stream}
use Rattle.sctp_state.specs.Options.{Options}
use Rattle.proof_endpoint.specs.Lifecycles.{handed_in_count, end_count}
use Rattle.spec_world.specs.Observations.{End, Entry, Called, EmittedEvent, same_end}
use Rattle.spec_world.specs.World.{World, Action, Runs, fresh_world, table_call}

abbrev pub only_if : Bool → ℕ → ℕ
only_if true n = n
only_if false n = 0

abbrev pub total : (Entry → ℕ) → List Entry → ℕ
total f [] = 0
total f (entry ∷ log) = f entry + total f log

-- how many messages with this lifecycle id a call hands to the end, accepted or refused, alone or in a batch
abbrev pub handed_by : (l : ℕ) → End → Entry → ℕ
handed_by l x (Called y clock call answer) = only_if (same_end x y) (handed_in_count l (table_call call))
handed_by l x entry = 0

-- all that were handed to it
abbrev pub handed_to : (l : ℕ) → End → List Entry → ℕ
handed_to l x log = total (handed_by l x) log

abbrev pub lifecycle_ends_by : (l : ℕ) → End → Entry → ℕ
lifecycle_ends_by l x (EmittedEvent y event) = only_if (same_end x y) (end_count l event)
lifecycle_ends_by l x entry = 0

-- how often the end emitted that this lifecycle ended
abbrev pub lifecycle_ends_at : (l : ℕ) → End → List Entry → ℕ
lifecycle_ends_at l x log = total (lifecycle_ends_by l x) log

-- ---- the laws

-- of two new ends none emits more ends than messages were handed to it
abbrev pub EndedAreHandedIn : Type 0
EndedAreHandedIn =
    (options_a options_b : Options) (draws_a draws_b : Stream) (word_of_a word_of_b : List ℕ → ℕ) (actions : List Action) (w : World)
    → Runs actions (fresh_world options_a options_b draws_a draws_b word_of_a word_of_b) w
    → (x : End) (l : ℕ) → lifecycle_ends_at l x w.log ≤ handed_to l x w.log

-- one at most, where one message at most was
abbrev pub NoLifecycleEndsTwiceHere : Type 0
NoLifecycleEndsTwiceHere =
    (options_a options_b : Options) (draws_a draws_b : Stream) (word_of_a word_of_b : List ℕ → ℕ) (actions : List Action) (w : World)
    → Runs actions (fresh_world options_a options_b draws_a draws_b word_of_a word_of_b) w
    → (x : End) (l : ℕ) → handed_to l x w.log ≤ 1 → lifecycle_ends_at l x w.log ≤ 1
