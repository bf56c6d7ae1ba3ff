use Rattle.std.proofs.Common.{rules, inr}
use Rattle.std.proofs.lemmas.Result.{err_from_is_err_and}
use Rattle.sctp_chunk.proofs.SkipLemmas.{cut_short_skip}
use Rattle.sctp_chunk.proofs.forward_tsn.ssn_skips_from_bytes.Goals as goal

pub returns-in_err-skip-clause-refused : goal.returns-in_err-skip-clause-refused
returns-in_err-skip-clause-refused c =
    let p = err_from_is_err_and c.from_residual.result c.from_residual.ensures.1 in
    rw (p.1, p.2) (inr (c.in_err-skip.ensures.fault, cut_short_skip c.loop-rest.skipped.items c.args.bytes.now c.loop-rest.rest.now c.loop-rest.invariant.kind c.loop-rest.invariant.joined (search rules) c.in_err-skip.ensures.short))
