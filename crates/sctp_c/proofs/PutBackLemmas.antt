-- A handle whose socket is put back as it was is what it was.
use Rattle.std.specs.Prelude.{◌≡◌, Option, Some}
use Rattle.std.proofs.Common.{sym, ap}
use Rattle.sctp_c.specs.declared.endpoint.Endpoint.{Endpoint}
use Rattle.sctp_c.specs.declared.handle.Handle.{Handle}
use Rattle.sctp_c.specs.Lending.{with_held}

pub put_back : (h : Handle) (e : Endpoint) → h.held ≡ Some e → with_held h e ≡ h
put_back h e is = ap (λ (s : Option Endpoint). record h { held = s }) (sym is)
