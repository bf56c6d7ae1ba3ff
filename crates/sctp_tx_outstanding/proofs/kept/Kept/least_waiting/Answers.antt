use Rattle.std.proofs.Common.{◌≡◌, ◌+◌, ◌*◌, ◌/◌, ◌≤◌, true, sym, subst, arith}
use Rattle.std.specs.List.{All}
use Rattle.sctp_tx_outstanding.specs.Item.{header_size, chunk_size, should_be_retransmitted}
use Rattle.sctp_tx_outstanding.specs.OutstandingData.{Kept}
use Rattle.sctp_tx_outstanding.proofs.SizesLemmas.{chunks_at_least}
use Rattle.sctp_tx_outstanding.proofs.kept.Kept.least_waiting.Goals as goal

pub returns : goal.returns
returns c =
    let m = c.self.inside.is_interleaved in
    let least = c.self.inside.indexes.runs.least in
    let payload = c.min.result in
    let size = (header_size m + payload + 3) / 4 * 4 in
    subst (λ n. All (λ i. should_be_retransmitted i ≡ true → n ≤ chunk_size c.args.self.now.is_interleaved i) c.args.self.now.items) (sym c.padded_size.ensures)
    (subst (λ (k : Kept). All (λ i. should_be_retransmitted i ≡ true → size ≤ chunk_size k.is_interleaved i) k.items) c.self.view_is (chunks_at_least m least payload c.self.inside.items.items (omega (arith, c.min.ensures)) c.self.invariant.runs.least))
