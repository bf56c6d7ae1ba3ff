use Rattle.proof_protocol.proofs.EpochLemmas.{in_its_epoch, keeps_order, order_at_first}
use Rattle.proof_protocol.proofs.resets.order_is_kept.Goals as goal

pub returns-clause-first : goal.returns-clause-first
returns-clause-first c = order_at_first

pub returns-clause-step : goal.returns-clause-step
returns-clause-step c message is_interleaved x e k may = keeps_order message is_interleaved x k e may

pub returns-clause-claims : goal.returns-clause-claims
returns-clause-claims c = in_its_epoch
