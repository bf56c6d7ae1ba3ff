use Rattle.sctp_c.proofs.PutBackLemmas.{put_back}
use Rattle.sctp_c.proofs.asking.pigeon_clock.Goals as goal

pub returns-in-Some-clause-handle : goal.returns-in-Some-clause-handle
returns-in-Some-clause-handle c = put_back c.args.socket.now c.in-Some.end.now c.in-Some.ensures.value
