use Rattle.std.proofs.Common.{None, ap, refl}
use Rattle.sctp_rx.specs.ReassemblyQueue.{number_of, is_kept_back}
use Rattle.proof_refines.proofs.NearRowLemmas.{new_is_near, sender_keeps}
use Rattle.proof_refines.proofs.NearKeptLemmas.{new_mids, sender_keeps_mids}
use Rattle.proof_refines.proofs.NearComesLemmas.{near_then, called, point_near_then}
use Rattle.proof_refines.proofs.receiver.near.nearness_is_kept.Goals as goal

pub returns-clause-new_queue : goal.returns-clause-new_queue
returns-clause-new_queue c message is_interleaved first shift max_size max_fragments = record { tsns = new_is_near is_interleaved first shift max_size max_fragments; mids = λ m. new_mids message is_interleaved max_size max_fragments; start = λ e. refl }

pub returns-clause-fragment : goal.returns-clause-fragment
returns-clause-fragment c message is_interleaved base first shift x handed t r k tsn f now es kept windows shown near is_tracker none tsn_is carries read unseen is_now goes =
    near_then message is_interleaved base first shift x kept windows handed t r shown near k tsn f tsn_is carries unseen is_now is_tracker (ap (is_kept_back (number_of r tsn) f.stream_id) none) read now es None goes

pub returns-clause-forward_point : goal.returns-clause-forward_point
returns-clause-forward_point c message is_interleaved base first shift x handed t r k tsn f entries es kept windows few shown near is_tracker none sent last moves tsn_is stand apart are_now goes =
    point_near_then message is_interleaved base first shift x kept windows handed t r shown near is_tracker k tsn f sent last moves are_now tsn_is apart entries
    (called message is_interleaved base first shift x kept windows handed t r shown near is_tracker k tsn f sent last moves are_now tsn_is apart none few entries) stand es None goes

pub returns-clause-message_is_taken : goal.returns-clause-message_is_taken
returns-clause-message_is_taken c message is_interleaved base first shift x r ms near = record { tsns = near.tsns; mids = λ m. record { streams = (near.mids m).streams; points = (near.mids m).points }; start = near.start }

pub returns-clause-sender_goes_on : goal.returns-clause-sender_goes_on
returns-clause-sender_goes_on c message is_interleaved base first shift x e r kept may same near = record {
  tsns = sender_keeps message is_interleaved first shift x e r kept may same near.tsns;
  mids = λ m. sender_keeps_mids message is_interleaved x kept m e may same base r (near.mids m);
  start = near.start;
}
