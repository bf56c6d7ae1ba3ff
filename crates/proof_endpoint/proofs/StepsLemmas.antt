-- What rows emit, in the words of both laws at once.
use Rattle.std.specs.Prelude.{◌≡◌, ℕ, max, List, ◌++◌, All}
use Rattle.sctp_state.specs.Events.{Event, Emitted}
use Rattle.spec_endpoint.specs.Association.{Context, EndpointState, Endpoint, Packing}
use Rattle.spec_endpoint.specs.Laws.{IsShort, endings, ends}

-- from one moment to another short packets are emitted, and so many endings
pub record Emits {P : Type 0} (pack : Packing P) (most count : ℕ) (before after : Emitted P) : Type 0 where
  pub events : List (Event P)
  pub behind : after.events ≡ before.events ++ events
  pub short : All (IsShort pack most) events
  pub ended : endings events ≡ count

-- the mtu, or a header alone
abbrev pub most_bytes : {P : Type 0} → Context P → ℕ
most_bytes c = max 12 c.options.mtu

pub record Goes {P : Type 0} (count : ℕ) (before after : Context P) : Type 0 where
  pub mtu : after.options.mtu ≡ before.options.mtu
  pub pack : after.pack ≡ before.pack
  pub emits : Emits before.pack (most_bytes before) count before.emitted after.emitted

-- one row
abbrev pub Steps : {P : Type 0} → (before after : EndpointState P) → Type 0
Steps s t = Goes (ends s.state t.state) s.context t.context

-- one that may draw random words
abbrev pub EndSteps : {P : Type 0} → (before after : Endpoint P) → Type 0
EndSteps s t = Steps s.endpoint_state t.endpoint_state
