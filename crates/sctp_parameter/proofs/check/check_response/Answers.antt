use Rattle.std.proofs.Common.{inl, inr, arith}
use Rattle.sctp_parameter.proofs.ShapedLemmas.{response_speaks}
use Rattle.sctp_parameter.proofs.check.check_response.Goals as goal
use Rattle.sctp_parameter.proofs.check.check_response.Goals.{else-value-ne8-via-then-value-ne8+else-value-ne16, else-value-ne8-via-else-value-ne8}

pub returns-clause-ok : goal.returns-clause-ok
returns-clause-ok c = (
  elim c.else-value-ne8.branch [
    | else-value-ne8-via-then-value-ne8+else-value-ne16 w ↦ inr (omega (arith, w.if-value-ne16.false))
    | else-value-ne8-via-else-value-ne8 w ↦ inl (omega (arith, w.if-value-ne8.false))
  ],
  response_speaks c.args.value.now _ _ _ _ c.in_ok-_result._result c.first_u32-response_seq_nbr.ensures.number c.first_u32-result.ensures.number c.first_u32-result.ensures.fits
      c.in_ok-_result.ensures,
)
