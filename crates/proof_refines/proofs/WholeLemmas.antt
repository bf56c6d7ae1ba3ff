-- Whole operations, whatever the packets are that are emitted: a SACK, a timeout, and lifetimes that end. And what isn't shown.
use Rattle.std.proofs.Common.{◌≡◌, ℕ, ◌+◌, not, Bool, true, false, Option, List, length, sym, subst}
use Rattle.sctp_serial.specs.Unwrapped.{origin}
use Rattle.sctp_chunk.specs.declared.sack.GapAckBlock.{GapAckBlock}
use Rattle.sctp_state.specs.Events.{Emitted}
use Rattle.sctp_tx_queue.specs.SendQueue.{Queue}
use Rattle.sctp_tx_outstanding.specs.declared.item.MissIndication.TheVariants.{Timeout}
use Rattle.sctp_tx_outstanding.specs.OutstandingData.{Items}
use Rattle.sctp_tx_outstanding.specs.Losses.{first_step, nack_all, expire_outstanding}
use Rattle.sctp_tx_outstanding.specs.Sack.{is_valid, leaving}
use Rattle.sctp_tx.specs.Windows.{is_open}
use Rattle.sctp_tx.specs.RetransmissionQueue.{Sender, handle_sack, step_of, timed_out_sender}
use Rattle.sctp_tx.specs.ForwardPoints.{abandon_expired}
use Rattle.proof_protocol.specs.State as rules
use Rattle.proof_protocol.specs.State.{Message, Transfer, IsAmong}
use Rattle.proof_protocol.specs.Invariant.{Invariant}
use Rattle.proof_refines.specs.SenderRefinement.{messages_of, AreDiscards, QueueRefines, ItemsRefine, SenderRefines}
use Rattle.proof_refines.specs.Reachable.{SenderLeadsTo}
use Rattle.proof_refines.specs.Rows.{ReceivesSack}
use Rattle.proof_refines.proofs.LedLemmas.{led_none}
use Rattle.proof_refines.proofs.LossLemmas.{losses, lifetimes}
use Rattle.proof_refines.proofs.SackLemmas.{sack_row}

module _ {P : Type 0} (message : ℕ → Message) (lifecycle : ℕ → Option ℕ) (is_interleaved : Bool) (x : Transfer) (q : Queue) (s : Sender) (k : Invariant message is_interleaved x)
    (sh : SenderRefines message lifecycle is_interleaved x q s.outstanding.items) (emitted : Emitted P) where
  pub timeout_row : (now : ℕ) → SenderLeadsTo message lifecycle is_interleaved x emitted q (timed_out_sender now (nack_all s.outstanding.items emitted).items s).outstanding.items (nack_all s.outstanding.items emitted).emitted
  timeout_row now =
      losses message lifecycle is_interleaved x emitted q Timeout false (length s.outstanding.items.kept) (first_step s.outstanding.items emitted) (led_none message lifecycle is_interleaved x emitted q s.outstanding.items k sh)

  pub expiry_row : (now : ℕ) → SenderLeadsTo message lifecycle is_interleaved x emitted q (abandon_expired now s emitted).outstanding.items (expire_outstanding now s.outstanding.items emitted).emitted
  expiry_row now =
      lifetimes message lifecycle is_interleaved x emitted q now (length s.outstanding.items.kept) (first_step s.outstanding.items emitted) (led_none message lifecycle is_interleaved x emitted q s.outstanding.items k sh)

  pub received_row : (now cumulative c a_rwnd : ℕ) (blocks : List GapAckBlock) → is_valid cumulative blocks s.outstanding.items ≡ true → cumulative + 1 ≡ origin + c → IsAmong c x.sacks
      → ReceivesSack message lifecycle is_interleaved x q (leaving cumulative s.outstanding.items) c emitted (handle_sack now cumulative a_rwnd blocks s emitted).outstanding.items (step_of cumulative blocks s emitted).emitted
  received_row now cumulative c a_rwnd blocks valid upto sent =
      sack_row message lifecycle is_interleaved x q s.outstanding.items cumulative c blocks s.windows.avoids_stalls (not (is_open cumulative s.windows)) emitted k sh valid upto sent

-- what the receiver does, and what is under way
pub shown_again : (message : ℕ → Message) (lifecycle : ℕ → Option ℕ) (is_interleaved : Bool) (x y : Transfer) (q : Queue) (s : Items) → y.sender ≡ x.sender → y.acknowledged ≡ x.acknowledged
    → SenderRefines message lifecycle is_interleaved x q s → SenderRefines message lifecycle is_interleaved y q s
shown_again message lifecycle is_interleaved x y q s sender acknowledged h = record {
  queue = subst (λ (o : rules.Sender). QueueRefines message lifecycle is_interleaved o q) (sym sender) h.queue;
  items = subst (λ (o : rules.Sender). ItemsRefine message lifecycle is_interleaved o y.acknowledged s) (sym sender) (subst (λ n. ItemsRefine message lifecycle is_interleaved x.sender n s) (sym acknowledged) h.items);
  discards = subst (λ (o : rules.Sender). AreDiscards o (messages_of q) s.discards) (sym sender) h.discards;
}
