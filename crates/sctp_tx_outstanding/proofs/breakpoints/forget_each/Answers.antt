use Rattle.std.proofs.Common.{rules}
use Rattle.std.specs.Prelude.{nat_lt}
use Rattle.std.proofs.lemmas.Fn.{filter_same}
use Rattle.sctp_tx_outstanding.proofs.breakpoints.forget_each.Goals as goal

pub returns : goal.returns
returns c = filter_same _ (λ b. nat_lt c.args.number b) _ (λ x b f' k. search rules) _ _ c.retain.ensures.filtered
