use Rattle.std.proofs.Common.{refl}
use Rattle.sctp_endpoint.proofs.state.State.tcb_mut.Goals as goal

pub returns-in-Open : goal.returns-in-Open
returns-in-Open c = rw c.in-Open.is (refl, record { writes_back = tt; value = refl })
