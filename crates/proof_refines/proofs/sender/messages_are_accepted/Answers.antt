use Rattle.proof_refines.proofs.AcceptLemmas.{offer_row, accept_row, with_settings}
use Rattle.proof_refines.proofs.sender.messages_are_accepted.Goals as goal

pub returns : goal.returns
returns c = record {
  offered = offer_row;
  accepted = λ message lifecycle is_interleaved x q s k sh expires limit some few. accept_row message lifecycle is_interleaved x q s.outstanding.items sh k expires limit some few;
  settings = λ message lifecycle is_interleaved x q s k sh id n emitted. with_settings message lifecycle is_interleaved x q s.outstanding.items sh id n emitted;
}
