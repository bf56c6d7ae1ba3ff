-- What a handle is once the call on its socket has ended.
use Rattle.std.specs.Prelude.{Option, Some}
use Rattle.std.specs.Borrow.{LendsIf, MutBor, Fml}
use Rattle.sctp_c.specs.declared.endpoint.Endpoint.{Endpoint}
use Rattle.sctp_c.specs.declared.handle.Handle.{Handle}
use Rattle.sctp_c.specs.contracts.endpoint.Endpoint as endpoint
use Rattle.sctp_c.specs.contracts.handle.Handle as handle

-- h with a socket at this value
abbrev pub with_held : Handle → Endpoint → Handle
with_held h e = record h { held = Some e }

-- h ends with the socket at its last value; without one it stays as it is
abbrev pub LendsHeld : MutBor Handle → Option (MutBor Endpoint) → Fml
LendsHeld h r = LendsIf handle.the_row endpoint.the_row h r (with_held h.now) h.now
