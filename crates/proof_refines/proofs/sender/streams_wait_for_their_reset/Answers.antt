use Rattle.proof_refines.proofs.QueueKeyLemmas.{requested_ready}
use Rattle.proof_refines.proofs.AskedLemmas.{calls_keep_asked, each_asked, requested_asked, answered_open}
use Rattle.proof_refines.proofs.OpenedLemmas.{prepared_raises, requests_sent, answers_open}
use Rattle.proof_refines.proofs.BegunLemmas.{queue_begins}
use Rattle.proof_refines.proofs.FollowLemmas.{all_flow}
use Rattle.proof_refines.proofs.sender.streams_wait_for_their_reset.Goals as goal

pub returns : goal.returns
returns c = record {
  ready = requested_ready;
  requested = requested_asked;
  kept = calls_keep_asked;
  answered = λ ids q k e. answered_open ids q k e;
  each = each_asked;
  none = λ x q s none h k. all_flow x none q h.paused k;
  raising = λ message is_interleaved x q id. prepared_raises message is_interleaved x q id;
  sending = λ message is_interleaved x ids. requests_sent message is_interleaved ids x;
  opening = λ message is_interleaved x ids. answers_open message is_interleaved ids x;
  begins = λ message lifecycle is_interleaved x q r s t emitted later k sh h still l. queue_begins message lifecycle is_interleaved x q r t emitted later k sh.queue h still l;
}
