use Rattle.sctp_tx_queue.proofs.BegunLemmas.{joined_left}
use Rattle.proof_refines.proofs.send_queue.fragments_are_what_is_left.Goals as goal

pub returns : goal.returns
returns c = λ h. joined_left c.args.sizes.now c.args.numbers c.args.message.now h
