-- An end that has just connected can be handed over.
use Rattle.std.proofs.Common.{◌≡◌, ℕ, inr, Bool, true, false, bit_or, [], refl, arith}
use Rattle.std.specs.List.Sorted.{IsStrictlySortedBy}
use Rattle.std.specs.Ordering.{nat_cmp}
use Rattle.sctp_state.specs.Options.{Options}
use Rattle.sctp_capabilities.specs.Capabilities.{Capabilities, negotiate}
use Rattle.sctp_tx_queue.specs.SendQueue.{queue}
use Rattle.sctp_tx_queue.specs.Settings.{set_mode}
use Rattle.sctp_tx_queue.specs.Readiness as queued
use Rattle.sctp_tx_queue.proofs.InOrderLemmas.{new_in_order, mode_in_order}
use Rattle.sctp_tx_queue.proofs.RestLemmas.{calls_leave_rests}
use Rattle.spec_endpoint.specs.Association.{Identity, tcb}
use Rattle.spec_endpoint.specs.Handover.{is_strict, block_readiness}
use Rattle.proof_endpoint.specs.HandoverRoundTrip.{IsQueue, new_context, NewEndsAreReady}
use Rattle.proof_endpoint.proofs.HandoverAgainLemmas.{made_connected}
use Rattle.proof_endpoint.proofs.NumberedOnceLemmas.{calls_number_once}

ready_by : (o : Options) (i : Identity) (a_rwnd : ℕ) (peer : Capabilities) (strict : Bool)
    → bit_or (queued.readiness strict (set_mode (negotiate o peer).message_interleaving (queue o))) (block_readiness strict (tcb o i a_rwnd (negotiate o peer))) ≡ 0
ready_by o i a_rwnd peer true = refl
ready_by o i a_rwnd peer false = refl

pub none_sorted : IsStrictlySortedBy nat_cmp []
unfolding IsStrictlySortedBy
none_sorted = tt

new_queue : (mode : Bool) (o : Options) → IsQueue (set_mode mode (queue o))
new_queue mode o = record {
  sorted = none_sorted;
  order = mode_in_order mode (queue o) (inr (new_in_order.unsent o)) (new_in_order.order o);
  numbers = calls_number_once.mode mode (queue o) (calls_number_once.new o);
  next = omega arith;
  rests = calls_leave_rests.mode mode (queue o) (calls_leave_rests.new o);
}

pub new_ends_are_ready : NewEndsAreReady
new_ends_are_ready o pack i a_rwnd peer mine theirs small small_received some = record {
  ready = ready_by o i a_rwnd peer (is_strict o);
  connected = made_connected i a_rwnd peer (new_context o pack peer) mine theirs small small_received refl;
  queued = new_queue (negotiate o peer).message_interleaving o;
  fits = record { few = omega arith; short = omega arith; ordered = none_sorted; unordered = none_sorted; window = some };
}
