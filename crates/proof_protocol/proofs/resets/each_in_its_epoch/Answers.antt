use Rattle.proof_protocol.specs.Resets.{first_epoch, go_all}
use Rattle.proof_protocol.proofs.ClaimsLemmas.{claimed}
use Rattle.proof_protocol.proofs.EpochLemmas.{all_in_order, in_its_epoch, order_at_first}
use Rattle.proof_protocol.proofs.resets.each_in_its_epoch.Goals as goal

pub returns-clause-epochs : goal.returns-clause-epochs
returns-clause-epochs c message is_interleaved events may = in_its_epoch message is_interleaved (go_all message is_interleaved first_epoch events) (all_in_order message is_interleaved events first_epoch (order_at_first message is_interleaved) may)

pub returns-clause-transfer : goal.returns-clause-transfer
returns-clause-transfer c message is_interleaved events may =
    let x = go_all message is_interleaved first_epoch events in
    claimed message is_interleaved x.transfer (all_in_order message is_interleaved events first_epoch (order_at_first message is_interleaved) may).kept
