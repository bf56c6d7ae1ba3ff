use Rattle.proof_refines.proofs.RecordLemmas.{new_row, sending_row, taking_row, values_row}
use Rattle.proof_refines.proofs.sender.each_message_has_one_record.Goals as goal

pub returns : goal.returns
returns c = record {
  new = λ emitted none. new_row emitted none;
  accepting = λ message is_interleaved x taken emitted one. record { once = one.once; exact = one.exact };
  sending = λ message lifecycle is_interleaved x q s emitted later taken l one. sending_row message lifecycle is_interleaved x q s emitted later taken l one;
  leaving = λ n x taken emitted one. record { once = one.once; exact = one.exact };
  taking = λ o taken g rest emitted e one. taking_row o taken g rest emitted e one;
  values = λ message lifecycle is_interleaved x q s taken emitted sh one. values_row message lifecycle is_interleaved x q s taken emitted sh one;
}
