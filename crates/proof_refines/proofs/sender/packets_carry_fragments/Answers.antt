use Rattle.proof_refines.proofs.SendLemmas.{carries_once, fast_row, send_row}
use Rattle.proof_refines.proofs.sender.packets_carry_fragments.Goals as goal

pub returns : goal.returns
returns c = record {
  packets = λ message lifecycle is_interleaved x q s k sh now most emitted. send_row message lifecycle is_interleaved x s q sh k now most emitted;
  stays = λ message is_interleaved first x e chunk k may a. (carries_once message is_interleaved first x k e may chunk a).0;
  fast = λ message lifecycle is_interleaved x q s k sh now most. fast_row message lifecycle is_interleaved x s q sh now most;
}
