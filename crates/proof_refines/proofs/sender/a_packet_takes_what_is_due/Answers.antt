use Rattle.proof_refines.proofs.FilledLemmas.{takes_what_is_due}
use Rattle.proof_refines.proofs.PickedLemmas.{picked}
use Rattle.proof_refines.proofs.sender.a_packet_takes_what_is_due.Goals as goal

pub returns : goal.returns
returns c = record { resends = λ fast room window d. picked fast room window d; fills = λ now most s q emitted. takes_what_is_due now most s q emitted }
