-- The program's resolution of a cookie as the table's.
use Rattle.spec_endpoint.specs.Opening.{CookieResolution, EstablishNew, RestartDetected, SimultaneousInit, MaintainExisting, Discard, InvalidTag}
use Rattle.sctp_handshake.specs.declared.cookies.CookieResolution as given_verdict
use Rattle.sctp_handshake.specs.declared.cookies.CookieResolution.TheVariants as verdicts

abbrev pub resolution_of : given_verdict.CookieResolution → CookieResolution
resolution_of verdicts.EstablishNew = EstablishNew
resolution_of verdicts.RestartDetected = RestartDetected
resolution_of verdicts.SimultaneousInit = SimultaneousInit
resolution_of verdicts.MaintainExisting = MaintainExisting
resolution_of verdicts.Discard = Discard
resolution_of verdicts.InvalidTag = InvalidTag
