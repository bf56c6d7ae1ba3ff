use Rattle.std.proofs.Common.{refl}
use Rattle.std.proofs.lemmas.Result.{err_from_is_err_and, IfErr-weaker}
use Rattle.proof_world.proofs.PairLemmas.{first_ran_out, second_ran_out}
use Rattle.sctp_network.proofs.world.pair.step_both.Goals as goal

pub returns-in_err-happen-clause-ran_out : goal.returns-in_err-happen-clause-ran_out
returns-in_err-happen-clause-ran_out g c =
    let p = err_from_is_err_and c.from_residual.result c.from_residual.ensures.1 in
    rw (p.1, p.2) (λ is. first_ran_out _ _ _ _ _ _ _ refl (c.in_err-happen.ensures.memory is) c.requires.second)

pub returns-clause-ran_out : goal.returns-clause-ran_out
returns-clause-ran_out g c =
    IfErr-weaker c.happen-2.result _ _
    (λ e memory is. second_ran_out _ _ _ _ _ _ _ c.in_ok-happen.ensures.ok c.in_ok-happen.ensures.works.1 (memory is)) c.happen-2.ensures.memory
