use Rattle.std.proofs.Common.{◌≡◌, map, take}
use Rattle.sctp_tx_outstanding.specs.Views.{chunk_of}
use Rattle.sctp_tx.specs.Windows.{saturate_u64}
use Rattle.sctp_tx.specs.Resent.{sizes}
use Rattle.sctp_tx.proofs.retransmission_queue.sizes.Given as goal

abbrev pub invariant-loop-chunk : goal.invariant-loop-chunk
invariant-loop-chunk l = l.bytes ≡ saturate_u64 (sizes l.is_interleaved (map chunk_of (take l.chunk-index l.chunks)))
