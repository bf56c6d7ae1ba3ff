-- What a reader finds: where the bytes begin with what such a value is written as, that value, and what is left behind it.
use Rattle.std.specs.Prelude.{◌≡◌, ℕ, Bool, true, false, Option, Some, None, List, ◌++◌}
use Rattle.sctp_state.specs.declared.api.handover.HandoverSocketState.{HandoverSocketState}
use Rattle.sctp_state.specs.declared.api.handover.HandoverSocketState.TheVariants.{Closed, Connected}

abbrev pub Finds : {X : Type 0} → (X → List ℕ) → (X → Type 0) → (bytes : List ℕ) → X → (rest : List ℕ) → Type 0
Finds {X = X} spelled Fits bytes x rest = (y : X) (after : List ℕ) → Fits y → bytes ≡ spelled y ++ after → (x ≡ y) × (rest ≡ after)

abbrev pub some_if : {X : Type 0} → Bool → X → Option X
some_if true x = Some x
some_if false x = None

abbrev pub state_if : Bool → HandoverSocketState
state_if false = Closed
state_if true = Connected
