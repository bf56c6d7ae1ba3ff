use Rattle.sctp_tx_outstanding.proofs.RecordLemmas.{new_is_emitted_once, new_items_emit_event_once, losses_emit_event_once, lifetimes_emit_event_once, sacks_emit_event_once, resending_emits_once, taking_emits_once}
use Rattle.sctp_tx_outstanding.proofs.laws.a_message_is_given_up_once.Goals as goal

pub returns : goal.returns
returns c = record {
  new = new_is_emitted_once;
  new_items = λ taken records i s stays new h. new_items_emit_event_once taken records i s stays new h;
  losses = losses_emit_event_once;
  lifetimes = lifetimes_emit_event_once;
  sacks = sacks_emit_event_once;
  resending = resending_emits_once;
  taking = taking_emits_once;
}
