use Rattle.std.proofs.Common.{arith}
use Rattle.std.proofs.lemmas.Grind.{common_steps}
use Rattle.sctp_endpoint.proofs.QuietLemmas.{quietly_through}
use Rattle.sctp_calls.proofs.calls.offer_all.Goals as goal

pub loop-place-preserved : goal.loop-place-preserved
loop-place-preserved g c = grind (arith, common_steps)

pub loop-place-preserved-in-Continue-branch-3 : goal.loop-place-preserved-in-Continue-branch-3
loop-place-preserved-in-Continue-branch-3 g c = grind (arith, common_steps)

pub returns-clause-refusals : goal.returns-clause-refusals
returns-clause-refusals g c = grind (arith, common_steps)

pub returns-clause-offered : goal.returns-clause-offered
returns-clause-offered g c = grind (arith, common_steps)

pub returns-clause-grown : goal.returns-clause-grown
returns-clause-grown g c = c.loop-place.invariant.grown

pub returns-in_err-push-clause-grown : goal.returns-in_err-push-clause-grown
returns-in_err-push-clause-grown g c = quietly_through c.args.context.now.emitted c.loop-place.context.emitted c.offer.new.context.emitted c.loop-place.invariant.grown c.offer.ensures.grown

pub returns-in_err-refusal-clause-grown : goal.returns-in_err-refusal-clause-grown
returns-in_err-refusal-clause-grown g c = quietly_through c.args.context.now.emitted c.loop-place.context.emitted c.offer.new.context.emitted c.loop-place.invariant.grown c.offer.ensures.grown
