use Rattle.std.proofs.Common.{arith, rules}
use Rattle.sctp_state.specs.Handover.{stream_message_of}
use Rattle.sctp_handover.proofs.FieldLemmas.{or_zero_signed, passes_on, through}
use Rattle.sctp_handover.proofs.OpenLemmas.{message_written}
use Rattle.sctp_handover.proofs.message.HandoverStreamMessagePart.push_to.Goals as goal

pub returns-clause-wrote : goal.returns-clause-wrote
returns-clause-wrote c = passes_on c.push_payload.result c.push_payload.ensures (λ last.
    message_written (stream_message_of c.args.self.now) _ _ _ _ _ _ _ _ _ _ _ _ _ _
    c.is_some.ensures c.is_some-2.ensures c.is_some-3.ensures c.unwrap_or.ensures c.unwrap_or-2.ensures
    (through _ _ (or_zero_signed c.args.self.now.expires_in_ms (search rules)) c.unwrap_or-3.ensures) c.cast_unsigned.ensures c.deref.ensures.value
    c.in_ok-push_flags.ensures c.in_ok-push_numbers16.ensures.wrote c.in_ok-push_numbers32.ensures.wrote c.in_ok-push_numbers64.ensures.wrote last)

pub returns-clause-fits : goal.returns-clause-fits
returns-clause-fits c = passes_on c.push_payload.result c.push_payload.ensures (λ last.
    let small16 = c.in_ok-push_numbers16.ensures.fits in
    let small32 = c.in_ok-push_numbers32.ensures.fits in
    let small64 = c.in_ok-push_numbers64.ensures.fits in
    record {
      stream_id = small16 0 0 (omega arith);
      max_retransmissions = small16 1 0 (omega arith);
      ssn = search rules;
      ppid = small32 0 0 (omega arith);
      mid = search rules;
      fsn = small32 2 0 (omega arith);
      expires_in_ms = search rules;
      lifecycle_id = small64 0 0 (omega arith);
      message_id = small64 1 0 (omega arith);
      remaining_offset = small64 2 0 (omega arith);
      payload = search rules;
    })
