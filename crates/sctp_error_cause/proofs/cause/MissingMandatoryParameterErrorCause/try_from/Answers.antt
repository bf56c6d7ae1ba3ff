use Rattle.std.proofs.Common.{arith, length, sym, ap, ◌∙◌}
use Rattle.std.proofs.lemmas.Result.{err_from_is_err_and}
use Rattle.sctp_error_cause.proofs.CauseLemmas.{too_short, not_counted, all_counted, count_fits}
use Rattle.sctp_error_cause.proofs.cause.MissingMandatoryParameterErrorCause.try_from.Goals as goal

pub returns-in_err-count-clause-refused : goal.returns-in_err-count-clause-refused
returns-in_err-count-clause-refused c =
    let p = err_from_is_err_and c.from_residual-in_err-count.result c.from_residual-in_err-count.ensures.1 in
    let same = c.in_ok-value.ensures.ok in
    rw (p.1, p.2, c.in_err-count.ensures.fault) (same.0, too_short c.args.raw.value.now (omega (arith, ap length same.1, c.in_err-count.ensures.short)))

pub returns-then-rest-count-clause-refused : goal.returns-then-rest-count-clause-refused
returns-then-rest-count-clause-refused c =
    let same = c.in_ok-value.ensures.ok in
    (same.0, not_counted c.args.raw.value.now c.in_ok-count.rest.now c.in_ok-count.count c.in_ok-count.ensures.fits (sym same.1 ∙ c.in_ok-count.ensures.ok) (omega arith))

pub returns-clause-ok : goal.returns-clause-ok
returns-clause-ok c =
    let same = c.in_ok-value.ensures.ok in
    record {
      typed = same.0;
      valued = all_counted c.args.raw.value.now c.in_ok-count.rest.now _ c.in_ok-count.count (sym same.1 ∙ c.in_ok-count.ensures.ok) (omega arith) c.in_ok-entries_from_bytes.ensures.ok;
      of_its_variant = tt;
      fits = (count_fits c.in_ok-count.rest.now _ c.in_ok-count.count c.in_ok-count.ensures.fits (omega arith) c.in_ok-entries_from_bytes.ensures.ok, c.in_ok-entries_from_bytes.ensures.fits);
    }
