use Rattle.std.proofs.Common.{◌≡◌, ◌<◌, false, subst, arith}
use Rattle.std.specs.List.{All}
use Rattle.std.proofs.lemmas.Bool.Decides.{nat_tests}
use Rattle.sctp_tx_outstanding.specs.OutstandingData.{Kept}
use Rattle.sctp_tx_outstanding.specs.Losses.{expires}
use Rattle.sctp_tx_outstanding.proofs.ExpiryLemmas.{none_expires}
use Rattle.sctp_tx_outstanding.proofs.kept.Kept.may_expire.Goals as goal

pub returns : goal.returns
returns c = λ e.
    let now = c.args.now in
    let earliest = c.self.inside.indexes.totals.earliest in
    let before : now < earliest = grind (arith, nat_tests) in
    subst (λ (k : Kept). All (λ i. expires now i ≡ false) k.items) c.self.view_is (none_expires now earliest c.self.inside.items.items before c.self.invariant.totals.earliest)
