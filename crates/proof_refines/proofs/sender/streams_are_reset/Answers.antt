use Rattle.sctp_tx_queue.specs.Resets.{streams_to_request}
use Rattle.proof_refines.proofs.ResetLemmas.{commits_row, requests_row}
use Rattle.proof_refines.proofs.PrepareLemmas.{prepares_row}
use Rattle.proof_refines.proofs.RecordedLemmas.{prepares_lead}
use Rattle.proof_refines.proofs.sender.streams_are_reset.Goals as goal

pub returns : goal.returns
returns c = record {
  prepared = λ message lifecycle is_interleaved x q s k sh id emitted. prepares_row message lifecycle is_interleaved x q s.outstanding.items k sh id emitted;
  recorded = λ message lifecycle is_interleaved x q s k sh id emitted. prepares_lead message lifecycle is_interleaved x q s.outstanding.items k sh id emitted;
  requested = λ message lifecycle is_interleaved x q s k sh most. requests_row message lifecycle is_interleaved s.outstanding.items (streams_to_request most q) x q sh;
  committed = λ message lifecycle is_interleaved x q s k sh ids. commits_row message lifecycle is_interleaved s.outstanding.items ids x q sh;
}
