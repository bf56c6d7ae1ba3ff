-- What an end itself sends asks once: each RE-CONFIG that it puts together has one request for outgoing streams at most.
use Rattle.std.specs.Prelude.{◌≡◌, Bool, true}
use Rattle.std.specs.List.{list_all}
use Rattle.sctp_state.specs.Events.{Event, SendPacket}
use Rattle.spec_endpoint.specs.Association.{Endpoint}
use Rattle.spec_endpoint.specs.Laws.{Call, called}
use Rattle.proof_endpoint.specs.Mapped.{Carried, as_carried}
use Rattle.proof_awake.specs.Line.{all_ask_once}

abbrev pub event_asks_once : Event Carried → Bool
event_asks_once (SendPacket p) = all_ask_once p.chunks
event_asks_once e = true

-- whatever comes to it
abbrev pub OwnPacketsAskOnce : Type 0
OwnPacketsAskOnce =
    (call : Call) (s : Endpoint Carried) → s.endpoint_state.context.pack ≡ as_carried → list_all event_asks_once s.endpoint_state.context.emitted.events ≡ true
    → list_all event_asks_once (called call s).endpoint_state.context.emitted.events ≡ true
