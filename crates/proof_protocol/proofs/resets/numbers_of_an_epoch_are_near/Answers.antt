use Rattle.proof_protocol.proofs.EpochLawsLemmas.{epoch_named_window, epoch_number_window}
use Rattle.proof_protocol.proofs.resets.numbers_of_an_epoch_are_near.Goals as goal

pub returns-clause-numbers : goal.returns-clause-numbers
returns-clause-numbers c message is_interleaved x t k windows kept within ordered now = epoch_number_window message is_interleaved x k windows t kept within ordered now

pub returns-clause-named : goal.returns-clause-named
returns-clause-named c message is_interleaved x f u s n k windows sent below unseen named greatest = epoch_named_window message is_interleaved x k windows f u s n sent below unseen named greatest
