use Rattle.sctp_c.proofs.PutBackLemmas.{put_back}
use Rattle.sctp_c.proofs.asking.pigeon_buffered_amount.Goals as goal

pub returns-in-Some-as_mut-clause-handle : goal.returns-in-Some-as_mut-clause-handle
returns-in-Some-as_mut-clause-handle c = put_back c.args.socket.now c.in-Some-as_mut.end.now c.in-Some-as_mut.ensures.value
