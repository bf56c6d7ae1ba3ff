use Rattle.proof_endpoint.proofs.LifecycleLemmas.{ends_within, ends_handed, ends_once}
use Rattle.proof_endpoint.proofs.no_lifecycle_ends_twice.Goals as goal

pub returns-clause-call : goal.returns-clause-call
returns-clause-call c = ends_within

pub returns-clause-handed : goal.returns-clause-handed
returns-clause-handed c = ends_handed

pub returns-clause-once : goal.returns-clause-once
returns-clause-once c = ends_once
