use Rattle.sctp_capabilities.specs.StateCookie.{cookie_of}
use Rattle.sctp_endpoint.specs.Views.{state_of}
use Rattle.sctp_handshake.proofs.RenewedLemmas.{left_by_cookie}
use Rattle.sctp_handshake.proofs.cookie_echo.handle_cookie_echo.Goals as goal

pub returns-else-is_spent-clause-ready : goal.returns-else-is_spent-clause-ready
returns-else-is_spent-clause-ready g c =
    left_by_cookie c.on_resolution.result _ _ c.args.tag (cookie_of c.in-Ok.cookie) (state_of c.args.state.now) (state_of c.on_resolution.new.state) c.resolve_cookie-resolution.ensures c.on_resolution.ensures.left
