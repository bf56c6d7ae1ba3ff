use Rattle.proof_protocol.proofs.ForgetLemmas.{reset_aligned, reset_done}
use Rattle.proof_protocol.proofs.resets.counts_are_aligned.Goals as goal

pub returns-clause-aligned : goal.returns-clause-aligned
returns-clause-aligned c message is_interleaved x s upto k r = reset_aligned message is_interleaved x.sender k.outgoing x.receiver k.incoming s upto r

pub returns-clause-done : goal.returns-clause-done
returns-clause-done c message is_interleaved x s upto p k r begun on_stream = reset_done message is_interleaved x.sender k.outgoing x.receiver k.incoming s upto r p begun on_stream
