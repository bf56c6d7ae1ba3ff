use Rattle.proof_pair.proofs.TraceLemmas.{ends_consistent}
use Rattle.proof_world.proofs.FollowsLemmas.{opening_follows}
use Rattle.proof_world.proofs.ConsistentLemmas.{are_consistent}
use Rattle.proof_world.proofs.worlds_are_consistent.Goals as goal

pub returns-clause-consistent : goal.returns-clause-consistent
returns-clause-consistent c = are_consistent ends_consistent

pub returns-clause-can_be_kept : goal.returns-clause-can_be_kept
returns-clause-can_be_kept c = opening_follows
