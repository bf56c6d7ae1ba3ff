use Rattle.proof_pair.proofs.HandedTraceLemmas.{one_handed}
use Rattle.proof_pair.proofs.HandingLemmas.{associations_stand, handed_in_order, handed_prefix, readied_grows, handed_grows}
use Rattle.proof_pair.proofs.messages_are_handed_out_in_order.Goals as goal

pub returns-clause-in_order : goal.returns-clause-in_order
returns-clause-in_order c = handed_in_order

pub returns-clause-prefix : goal.returns-clause-prefix
returns-clause-prefix c = handed_prefix

pub returns-clause-readied_grows : goal.returns-clause-readied_grows
returns-clause-readied_grows c = readied_grows

pub returns-clause-handed_grows : goal.returns-clause-handed_grows
returns-clause-handed_grows c = handed_grows

pub returns-clause-stands : goal.returns-clause-stands
returns-clause-stands c = associations_stand

pub returns-clause-goes : goal.returns-clause-goes
returns-clause-goes c = one_handed
