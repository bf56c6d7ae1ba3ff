use Rattle.std.proofs.lemmas.Result.{err_from_is_err_and}
use Rattle.sctp_world.specs.Script.{at_start}
use Rattle.sctp_world.proofs.InputLemmas.{nothing_ran}
use Rattle.sctp_world.proofs.script.run_script.Goals as goal

pub returns-in_err-world-clause-silent : goal.returns-in_err-world-clause-silent
returns-in_err-world-clause-silent g c =
    let p = err_from_is_err_and c.from_residual.result c.from_residual.ensures.1 in
    rw (p.1, p.2) (λ silent. nothing_ran _ _ at_start)

pub returns-clause-stopped : goal.returns-clause-stopped
returns-clause-stopped g c = rw c.in_ok-world.ensures at c.run_all.ensures.stopped

pub returns-clause-silent : goal.returns-clause-silent
returns-clause-silent g c = rw c.in_ok-world.ensures at c.run_all.ensures.silent
