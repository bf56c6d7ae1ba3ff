use Rattle.std.proofs.Common.{arith, rules}
use Rattle.std.proofs.lemmas.Bool.Decides.{nat_tests}
use Rattle.sctp_tx_outstanding.proofs.ReceivedLemmas.{acked_rests, given_up_rests}
use Rattle.sctp_tx_outstanding.proofs.item.Item.rests_covered.Goals as goal

pub returns-in-Acked : goal.returns-in-Acked
returns-in-Acked c = λ t. acked_rests c.args.self.now (search rules) (grind (arith, nat_tests, t))

pub returns-in-GivenUp : goal.returns-in-GivenUp
returns-in-GivenUp c = λ t. given_up_rests c.args.self.now (search rules)
