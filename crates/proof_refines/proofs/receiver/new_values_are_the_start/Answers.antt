use Rattle.proof_refines.proofs.RowLemmas.{first_receives}
use Rattle.proof_refines.proofs.receiver.new_values_are_the_start.Goals as goal

pub returns : goal.returns
returns c = record { receives = λ message is_interleaved shift options max_size max_fragments. first_receives message is_interleaved shift options max_size max_fragments }
