use Rattle.proof_protocol.proofs.WindowsLemmas.{halves_read, words_read}
use Rattle.proof_protocol.proofs.windows.numbers_are_read.Goals as goal

pub returns-clause-words : goal.returns-clause-words
returns-clause-words c = words_read

pub returns-clause-halves : goal.returns-clause-halves
returns-clause-halves c = halves_read
