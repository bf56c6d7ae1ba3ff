use Rattle.std.proofs.Common.{◌≡◌, Bool, false, true, not, refl, sym, ◌∙◌}
use Rattle.sctp_tx_outstanding.proofs.ReceivedLemmas.{uncover_rests}
use Rattle.sctp_tx_outstanding.proofs.item.Item.rests_uncovered.Goals as goal

no_from_not : (b : Bool) → not b ≡ true → b ≡ false
no_from_not true h = absurd (cc)
no_from_not false h = refl

pub returns : goal.returns
returns c = λ t. uncover_rests c.args.self.now (sym c.is_acked.ensures ∙ no_from_not c.is_acked.result t)
