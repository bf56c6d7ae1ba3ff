use Rattle.proof_draws.proofs.RenamedLemmas.{renames}
use Rattle.proof_draws.proofs.CookieLemmas.{cookies_named}
use Rattle.proof_draws.proofs.tags_can_be_renamed.Goals as goal

pub returns : goal.returns
returns c = record { pairs = renames; cookies = cookies_named }
