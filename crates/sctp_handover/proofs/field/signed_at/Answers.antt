use Rattle.sctp_handover.proofs.FieldLemmas.{found_signed}
use Rattle.sctp_handover.proofs.field.signed_at.Goals as goal

pub returns : goal.returns
returns c = found_signed c.args.bytes.now c.number32_at-number.result.1.now c.number32_at-number.result.0 c.cast_signed.result c.number32_at-number.ensures c.cast_signed.ensures
