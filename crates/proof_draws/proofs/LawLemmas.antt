-- The law of two traces, with all that it stands on.
use Rattle.proof_draws.proofs.NamedLawLemmas.{each_call}
use Rattle.proof_draws.specs.Alike.{TracesAreAlike}
use Rattle.proof_draws.proofs.TraceLemmas.{traces_alike}
use Rattle.proof_draws.proofs.LateLemmas.{late_named}
use Rattle.proof_draws.proofs.EmitsLemmas.{ends_emit_event_own}

pub are_always_alike : TracesAreAlike
are_always_alike = traces_alike each_call ends_emit_event_own (λ ps k. late_named ps k each_call)
