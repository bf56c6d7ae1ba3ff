use Rattle.proof_protocol.proofs.BasedLemmas.{unseen_is_now}
use Rattle.proof_protocol.proofs.EpochLawsLemmas.{entries_are_now, named_is_now, unseen_on_wire}
use Rattle.proof_protocol.proofs.resets.what_comes_is_of_its_epoch.Goals as goal

pub returns-clause-fragments : goal.returns-clause-fragments
returns-clause-fragments c message is_interleaved x k = unseen_is_now message is_interleaved x k.order k.based

pub returns-clause-points : goal.returns-clause-points
returns-clause-points c message is_interleaved x k = named_is_now message is_interleaved x k

pub returns-clause-entries : goal.returns-clause-entries
returns-clause-entries c message is_interleaved x k = entries_are_now message is_interleaved x k

pub returns-clause-wire : goal.returns-clause-wire
returns-clause-wire c message is_interleaved x t k within unseen = unseen_on_wire message is_interleaved x k t within unseen
