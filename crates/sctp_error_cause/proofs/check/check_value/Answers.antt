use Rattle.std.proofs.Common.{arith}
use Rattle.std.proofs.lemmas.Result.{on_ok_weaker}
use Rattle.sctp_error_cause.proofs.ShapedLemmas.{shaped_says}
use Rattle.sctp_error_cause.proofs.check.check_value.Goals as goal

pub returns-clause-ok : goal.returns-clause-ok
returns-clause-ok c =
    on_ok_weaker c.check_shape.result (shaped_says c.args.typ c.args.value.now (λ i. omega (arith, c.type_inv.value i))) c.check_shape.ensures.ok
