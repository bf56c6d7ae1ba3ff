use Rattle.proof_refines.proofs.ScheduledLemmas.{by_scheduler, idle_where_none}
use Rattle.proof_refines.proofs.sender.the_queue_gives_the_next_stream.Goals as goal

pub returns : goal.returns
returns c = record { next = λ now size q emitted. by_scheduler now size q emitted; waits = λ now size q emitted none. idle_where_none now size q emitted none }
