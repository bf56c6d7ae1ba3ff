use Rattle.std.proofs.Common.{◌≡◌, arith, false, refl, sym, subst, rules}
use Rattle.sctp_tx_outstanding.specs.OutstandingData.{Outstanding}
use Rattle.sctp_tx_outstanding.specs.Views.{resent_of}
use Rattle.sctp_tx_outstanding.specs.Sizes.{NoneFits}
use Rattle.sctp_tx_outstanding.specs.Resending.{AreLeft}
use Rattle.sctp_tx_outstanding.proofs.IdleLemmas.{are_left}
use Rattle.sctp_tx_outstanding.proofs.outstanding_data.OutstandingData.pass_large.Goals as goal

pub returns-then-fast-clause-left : goal.returns-then-fast-clause-left
returns-then-fast-clause-left c = λ k above below. absurd (omega (arith, above, below))

pub returns-clause-left : goal.returns-clause-left
returns-clause-left c =
    let x = resent_of c.args.self.now c.args.filling.now in
    let allowed = c.allowed-allowed.result in
    let end = c.pass_large.result in
    let slow : c.args.fast ≡ false = search rules in
    let none : NoneFits c.args.self.now.items.is_interleaved allowed c.args.place end c.args.self.now.items.kept =
    subst (λ (d : Outstanding). NoneFits d.items.is_interleaved allowed c.args.place end d.items.kept) c.self.view_is c.pass_large.ensures.none in
    subst (λ b. AreLeft b c.args.place end x) (sym slow) (are_left x c.args.self.now.items.is_interleaved allowed c.args.place end refl c.allowed-allowed.ensures none)
