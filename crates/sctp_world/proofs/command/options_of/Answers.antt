use Rattle.sctp_world.proofs.OptionLemmas.{always, no_options}
use Rattle.sctp_world.proofs.command.options_of.Goals as goal

pub returns-in_err-milliseconds-clause-none : goal.returns-in_err-milliseconds-clause-none
returns-in_err-milliseconds-clause-none c = always _ _ (no_options _ _ _ c.flag_of-unordered.ensures c.in_err-milliseconds.ensures.none)
