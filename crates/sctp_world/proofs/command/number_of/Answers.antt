use Rattle.std.proofs.Common.{rules}
use Rattle.sctp_world.proofs.NumberLemmas.{is_utf8, none_if_err}
use Rattle.sctp_world.proofs.command.number_of.Goals as goal

-- digits are UTF-8
pub returns-in_default-clause-none : goal.returns-in_default-clause-none
returns-in_default-clause-none c = λ n fits number. absurd ((rw c.in_default.is at c.from_utf8.ensures.cases).0 (is_utf8 c.args.word.now number.digits))

pub returns-clause-none : goal.returns-clause-none
returns-clause-none c = none_if_err c.args.word.now (search rules) c.parse.result c.ok.result c.ok.ensures.value (rw c.in-Ok.ensures.cases.0 at c.parse.ensures.value.0)
