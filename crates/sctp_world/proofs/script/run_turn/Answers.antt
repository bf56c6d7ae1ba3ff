use Rattle.std.proofs.Common.{◌∙◌, refl, arith}
use Rattle.std.proofs.lemmas.Result.{err_from_is_err_and}
use Rattle.sctp_world.proofs.TurnLemmas.{begins_with_none, one_more_line, stopped_at}
use Rattle.sctp_world.proofs.script.run_turn.Goals as goal

pub returns-in_err-run_numbered-clause-stopped : goal.returns-in_err-run_numbered-clause-stopped
returns-in_err-run_numbered-clause-stopped g c =
    let p = err_from_is_err_and c.from_residual-in_err-run_numbered.result c.from_residual-in_err-run_numbered.ensures.1 in
    rw (p.1, p.2) (λ n e.
    let stopped = c.in_err-run_numbered.ensures.stopped n e in
    stopped_at _ _ _ _ _ _ _ _ _ _ c.loop-end.invariant _ _ c.in-Some.ensures.cut c.in-Some.ensures.first _ c.deref.result.now n
    (c.deref.ensures.value ∙ c.in_ok-extend_from_slice.ensures.items) stopped.0 stopped.1 stopped.2)

pub loop-end-preserved : goal.loop-end-preserved
loop-end-preserved g c =
    one_more_line _ _ _ _ _ _ _ _ _ _ c.loop-end.invariant _ _ c.in-Some.ensures.cut c.in-Some.ensures.first _ c.deref.result.now _ _
    (c.deref.ensures.value ∙ c.in_ok-extend_from_slice.ensures.items) c.clear.ensures.items c.in_ok-run_numbered.ensures.ran

pub loop-end-init : goal.loop-end-init
loop-end-init g c = begins_with_none _ _ _ _ _ _ _ refl c.requires.one_line (omega arith)
