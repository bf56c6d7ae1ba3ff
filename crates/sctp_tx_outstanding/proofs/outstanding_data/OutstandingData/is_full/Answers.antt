use Rattle.std.proofs.Common.{◌≡◌, ◌<◌, ◌≤◌, true, subst}
use Rattle.std.specs.List.{All}
use Rattle.sctp_tx_outstanding.specs.Item.{chunk_size, should_be_retransmitted}
use Rattle.sctp_tx_outstanding.specs.OutstandingData.{Outstanding}
use Rattle.sctp_tx_outstanding.specs.Views.{resent_of}
use Rattle.sctp_tx_outstanding.specs.Resending.{allowance}
use Rattle.sctp_tx_outstanding.proofs.IdleLemmas.{is_full_lem, less_than}
use Rattle.sctp_tx_outstanding.proofs.outstanding_data.OutstandingData.is_full.Goals as goal

pub returns-clause-full : goal.returns-clause-full
returns-clause-full c = λ yes.
    let x = resent_of c.args.self.now c.args.filling.now in
    let size = c.least_waiting.result in
    let least : All (λ i. should_be_retransmitted i ≡ true → size ≤ chunk_size c.args.self.now.items.is_interleaved i) c.args.self.now.items.kept =
    subst (λ (d : Outstanding). All (λ i. should_be_retransmitted i ≡ true → size ≤ chunk_size d.items.is_interleaved i) d.items.kept) c.self.view_is c.least_waiting.ensures in
    let less : allowance x < size = less_than c.allowed.result (allowance x) size c.allowed.ensures yes in
    is_full_lem x size less least
