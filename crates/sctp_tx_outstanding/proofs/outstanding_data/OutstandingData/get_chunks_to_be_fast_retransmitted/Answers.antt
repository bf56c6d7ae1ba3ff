use Rattle.std.proofs.Common.{◌≡◌, ◌≤◌, ℕ, List, true, map, rules, sym, subst}
use Rattle.sctp_chunk.specs.Chunk.{FragmentTree}
use Rattle.sctp_tx_outstanding.specs.Views.{chunk_of}
use Rattle.sctp_tx_outstanding.specs.Resending.{resend, chunk_bytes}
use Rattle.sctp_tx_outstanding.proofs.RoomLemmas.{resend_fits}
use Rattle.sctp_tx_outstanding.proofs.outstanding_data.OutstandingData.get_chunks_to_be_fast_retransmitted.Goals as goal

pub returns-clause-fits : goal.returns-clause-fits
returns-clause-fits c =
    let d = c.args.self.now in
    let is : map chunk_of c.resend.new.filling.chunks.items ≡ (resend true c.args.max_size 0 d).chunks = search rules in
    subst (λ (l : List (ℕ × FragmentTree)). chunk_bytes d.items.is_interleaved l ≤ c.args.max_size) (sym is) (resend_fits true c.args.max_size 0 d)
