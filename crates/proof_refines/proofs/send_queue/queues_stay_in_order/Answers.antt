use Rattle.sctp_tx_queue.proofs.InOrderLemmas.{new_in_order, added_in_order, produced_in_order, threshold_in_order, priority_in_order, mode_in_order, discarded_in_order, prepared_in_order, steps_in_order, reset_in_order, reset_unsent}
use Rattle.sctp_tx_queue.proofs.EmptiedLemmas.{emptied_messages, emptied_in_order, emptied_unsent}
use Rattle.proof_refines.proofs.send_queue.queues_stay_in_order.Goals as goal

pub returns : goal.returns
returns c = record {
  new = new_in_order;
  added = added_in_order;
  produced = λ now size q emitted some h. produced_in_order now size q emitted some h;
  settings = record { threshold = λ id bytes q emitted h. threshold_in_order id bytes q emitted h; priority = priority_in_order; mode = mode_in_order };
  discarded = λ id message q emitted h. discarded_in_order id message q emitted h;
  resets = record { prepared = λ id q emitted h. prepared_in_order id q emitted h; steps = steps_in_order };
  restarted = record { order = reset_in_order; unsent = reset_unsent };
  emptied = record { order = λ q emitted. emptied_in_order q emitted; unsent = λ q emitted. emptied_unsent q emitted; messages = λ q emitted k. emptied_messages k q emitted };
}
