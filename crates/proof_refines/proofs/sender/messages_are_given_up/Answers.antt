use Rattle.sctp_tx_outstanding.specs.Losses.{first_step}
use Rattle.proof_refines.proofs.LedLemmas.{led_none}
use Rattle.proof_refines.proofs.LossLemmas.{abandoned, losses, lifetimes}
use Rattle.proof_refines.proofs.SendLemmas.{discard_row}
use Rattle.proof_refines.proofs.WholeLemmas.{timeout_row, expiry_row}
use Rattle.proof_refines.proofs.sender.messages_are_given_up.Goals as goal

pub returns : goal.returns
returns c = record {
  message = λ message lifecycle is_interleaved x q s k sh p n i cause emitted here number lives.
      abandoned message lifecycle is_interleaved x emitted q p n s.outstanding.items emitted cause i here number lives (led_none message lifecycle is_interleaved x emitted q s.outstanding.items k sh);
  discards = λ message lifecycle is_interleaved x q s k sh emitted. discard_row message lifecycle is_interleaved x s q sh emitted;
  losses = λ message lifecycle is_interleaved x q s k sh indication fast n emitted.
      losses message lifecycle is_interleaved x emitted q indication fast n (first_step s.outstanding.items emitted) (led_none message lifecycle is_interleaved x emitted q s.outstanding.items k sh);
  timeout = λ message lifecycle is_interleaved x q s k sh now emitted. timeout_row message lifecycle is_interleaved x q s k sh emitted now;
  lifetimes = λ message lifecycle is_interleaved x q s k sh now n emitted.
      lifetimes message lifecycle is_interleaved x emitted q now n (first_step s.outstanding.items emitted) (led_none message lifecycle is_interleaved x emitted q s.outstanding.items k sh);
  expiry = λ message lifecycle is_interleaved x q s k sh now emitted. expiry_row message lifecycle is_interleaved x q s k sh emitted now;
}
