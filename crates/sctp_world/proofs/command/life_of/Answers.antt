use Rattle.sctp_world.proofs.OptionLemmas.{always, no_life}
use Rattle.sctp_world.proofs.command.life_of.Goals as goal

pub returns-in_err-limit-clause-none : goal.returns-in_err-limit-clause-none
returns-in_err-limit-clause-none c = always _ _ (no_life _ _ _ c.in_ok-life.ensures.some c.in_err-limit.ensures.none)

pub returns-clause-some : goal.returns-clause-some
returns-clause-some c = (_, c.in_ok-life.ensures.some, c.in_ok-limit.ensures.some)
