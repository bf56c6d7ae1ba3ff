use Rattle.std.proofs.Common.{arith}
use Rattle.std.proofs.lemmas.Grind.{common_steps}
use Rattle.sctp_trace.proofs.conversation.note_giving.Goals as goal

pub returns-in_ok-insert : goal.returns-in_ok-insert
returns-in_ok-insert c = λ q. grind (arith, common_steps, c.requires.before q)

pub returns-else-is_given : goal.returns-else-is_given
returns-else-is_given c = λ q. grind (arith, common_steps, c.requires.before q)

pub returns-in_default : goal.returns-in_default
returns-in_default c = λ q. grind (arith, common_steps, c.requires.before q)
