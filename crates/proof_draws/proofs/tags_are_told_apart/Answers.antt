use Rattle.proof_draws.specs.NamedChunks.{flip}
use Rattle.proof_draws.proofs.TagLemmas.{refused_named, judged_named}
use Rattle.proof_draws.proofs.tags_are_told_apart.Goals as goal

pub returns : goal.returns
returns c = record { refusals = λ n are tag chunks s. refused_named n are (flip n) tag chunks s; verdicts = judged_named }
