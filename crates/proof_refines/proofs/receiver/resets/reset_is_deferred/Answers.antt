use Rattle.proof_refines.proofs.DeferralRowLemmas.{waits_none, deferred_row, deferred_again}
use Rattle.proof_refines.proofs.receiver.resets.reset_is_deferred.Goals as goal

pub returns-clause-deferred : goal.returns-clause-deferred
returns-clause-deferred c message is_interleaved first shift x handed t r k tsn u q rs is windows shown near none next within below unseen tsn_is =
    deferred_row message is_interleaved first shift x is windows handed t r shown near (waits_none shift x r none) none k tsn q rs next within u below unseen tsn_is

pub returns-clause-again : goal.returns-clause-again
returns-clause-again c tsn ids r d e = deferred_again tsn ids r d e
