use Rattle.proof_draws.proofs.AnswerLemmas.{answer_named, anew_named, echo_named}
use Rattle.proof_draws.proofs.associations_are_named.Goals as goal

pub returns : goal.returns
returns c = record {
  answers = λ n are pack i tag first tie d makes k. answer_named n are pack i tag first tie d makes k;
  echoes = λ n are pack i cookie me d same k. echo_named n are pack i cookie me d same k;
  blocks = λ n are pack resets k tie d knows. anew_named n are pack resets k tie d knows;
}
