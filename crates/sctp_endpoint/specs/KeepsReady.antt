-- What a chunk in which memory ran out leaves of the messages that were ready.
use Rattle.std.specs.Prelude.{◌≢◌, ◌⊎◌}
use Rattle.sctp_rx.specs.Delivery.{Extends}
use Rattle.spec_endpoint.specs.Association.{State}
use Rattle.spec_endpoint.specs.Calls.{ready_in}
use Rattle.spec_endpoint.specs.Shown.{association_in}

-- They stand, with more behind them; or the association is another one, or none.
abbrev pub KeepsReady : (old now : State) → Type 0
KeepsReady old now = Extends (ready_in old) (ready_in now) ⊎ (association_in now ≢ association_in old)
