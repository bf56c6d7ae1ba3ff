use Rattle.std.proofs.Common.{refl}
use Rattle.proof_delivery.specs.StreamEpochs.{all_open}
use Rattle.proof_delivery.proofs.StreamEpochLemmas.{epochs_are_many, epochs_go_on, all_in_first_epoch}
use Rattle.proof_delivery.proofs.asks.epochs_are_of_messages.Goals as goal

pub returns-clause-many : goal.returns-clause-many
returns-clause-many c x turns w = epochs_are_many x turns w all_open

pub returns-clause-goes_on : goal.returns-clause-goes_on
returns-clause-goes_on c x turns more w = epochs_go_on x turns more w all_open

pub returns-clause-first : goal.returns-clause-first
returns-clause-first c x turns w none = all_in_first_epoch x turns w all_open none (λ s. refl)
