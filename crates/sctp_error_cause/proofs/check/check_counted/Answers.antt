use Rattle.std.proofs.Common.{refl, arith}
use Rattle.std.proofs.lemmas.Result.{err_from_is_err_and}
use Rattle.sctp_error_cause.proofs.CauseLemmas.{too_short, not_counted}
use Rattle.sctp_error_cause.proofs.check.check_counted.Goals as goal

pub returns-in_err-count-clause-refused : goal.returns-in_err-count-clause-refused
returns-in_err-count-clause-refused c =
    let p = err_from_is_err_and c.from_residual.result c.from_residual.ensures.1 in
    rw (p.1, p.2, c.in_err-count.ensures.fault) (refl, too_short c.args.value.now c.in_err-count.ensures.short)

pub returns-then-types-count-clause-refused : goal.returns-then-types-count-clause-refused
returns-then-types-count-clause-refused c =
    (refl, not_counted c.args.value.now c.in_ok-count.types.now c.in_ok-count.count c.in_ok-count.ensures.fits c.in_ok-count.ensures.ok (omega arith))

pub returns-clause-ok : goal.returns-clause-ok
returns-clause-ok c = (c.in_ok-count.count, c.in_ok-count.types.now, c.in_ok-count.ensures.fits, c.in_ok-count.ensures.ok, omega arith)
