use Rattle.std.proofs.Common.{◌∙◌}
use Rattle.sctp_handover.proofs.FieldLemmas.{found_payload}
use Rattle.sctp_handover.proofs.field.payload_at.Goals as goal

pub returns : goal.returns
returns c = found_payload c.args.bytes.now c.number64_at-length.result.1.now c.in_ok-from_slice.field-0.items c.split_at.result.1.now c.number64_at-length.result.0 c.min.result
    c.number64_at-length.ensures c.min.ensures (c.in_ok-from_slice.ensures.items ∙ c.split_at.ensures.front) c.split_at.ensures.back
