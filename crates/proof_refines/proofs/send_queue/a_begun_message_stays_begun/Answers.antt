use Rattle.sctp_tx_queue.proofs.StaysBegunLemmas.{added_stays, threshold_stays, priority_stays, mode_stays, prepared_stays, steps_stay, discard_stays, reset_begun}
use Rattle.sctp_tx_queue.proofs.EmptiedLemmas.{emptied_begun}
use Rattle.proof_refines.proofs.send_queue.a_begun_message_stays_begun.Goals as goal

pub returns : goal.returns
returns c = record {
  added = added_stays;
  threshold = λ id bytes q emitted. threshold_stays id bytes q emitted;
  priority = priority_stays;
  mode = mode_stays;
  prepared = λ id q emitted. prepared_stays id q emitted;
  steps = steps_stay;
  discarded = λ id message q emitted. discard_stays id message q emitted;
  reset = reset_begun;
  emptied = λ q emitted. emptied_begun q emitted;
}
