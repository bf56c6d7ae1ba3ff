use Rattle.proof_refines.proofs.ReadyLemmas.{whole_interval, split_around}
use Rattle.proof_refines.proofs.ready_messages.complete_intervals_are_messages.Goals as goal

pub returns-clause-whole : goal.returns-clause-whole
returns-clause-whole c hs run front back h is k = whole_interval hs run front back h is k

pub returns-clause-split : goal.returns-clause-split
returns-clause-split c hs run front back is = split_around hs run front back is
