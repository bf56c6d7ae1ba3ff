use Rattle.std.proofs.Common.{rules}
use Rattle.sctp_handshake.proofs.cookie_echo.on_resolution.Goals as goal

pub returns-in-EstablishNew-clause-ok : goal.returns-in-EstablishNew-clause-ok
returns-in-EstablishNew-clause-ok g c = search rules

pub returns-in-RestartDetected-clause-ok : goal.returns-in-RestartDetected-clause-ok
returns-in-RestartDetected-clause-ok g c = search rules

pub returns-in-SimultaneousInit-clause-ok : goal.returns-in-SimultaneousInit-clause-ok
returns-in-SimultaneousInit-clause-ok g c = search rules

pub returns-in-MaintainExisting-clause-ok : goal.returns-in-MaintainExisting-clause-ok
returns-in-MaintainExisting-clause-ok g c = search rules
