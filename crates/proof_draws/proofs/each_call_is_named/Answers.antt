use Rattle.proof_draws.proofs.NamedLawLemmas.{each_call, each_refusal}
use Rattle.proof_draws.proofs.each_call_is_named.Goals as goal

pub returns : goal.returns
returns c = record {
  calls = λ n are call s w v k is. each_call n are call s w v k is;
  refusals = λ n are p s w v text e. each_refusal n are p s w v text e;
}
