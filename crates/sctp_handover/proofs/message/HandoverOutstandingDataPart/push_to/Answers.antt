use Rattle.std.proofs.Common.{arith, refl, rules}
use Rattle.sctp_state.specs.Handover.{outstanding_data_of}
use Rattle.sctp_handover.proofs.FieldLemmas.{or_zero_signed, passes_on, through}
use Rattle.sctp_handover.proofs.OpenLemmas.{data_written}
use Rattle.sctp_handover.proofs.message.HandoverOutstandingDataPart.push_to.Goals as goal

pub returns-clause-wrote : goal.returns-clause-wrote
returns-clause-wrote c = passes_on c.push_payload.result c.push_payload.ensures (λ last.
    data_written (outstanding_data_of c.args.self.now) _ _ _ _ _ _ _ _ _ _ _ _ _
    c.is_some.ensures (through _ _ (or_zero_signed c.args.self.now.expires_in_ms (search rules)) c.unwrap_or.ensures) c.cast_unsigned.ensures
    (through _ _ (search rules) refl) c.cast_unsigned-2.ensures c.deref.ensures.value
    c.in_ok-push_flags.ensures c.in_ok-push_flags-2.ensures c.in_ok-push_numbers16.ensures.wrote c.in_ok-push_numbers32.ensures.wrote c.in_ok-push_numbers64.ensures.wrote last)

pub returns-clause-fits : goal.returns-clause-fits
returns-clause-fits c = passes_on c.push_payload.result c.push_payload.ensures (λ last.
    let small16 = c.in_ok-push_numbers16.ensures.fits in
    let small32 = c.in_ok-push_numbers32.ensures.fits in
    let small64 = c.in_ok-push_numbers64.ensures.fits in
    record {
      stream_id = small16 0 0 (omega arith);
      ssn = small16 1 0 (omega arith);
      max_retransmissions = small16 2 0 (omega arith);
      retransmission_count = small16 3 0 (omega arith);
      mid = small32 0 0 (omega arith);
      fsn = small32 1 0 (omega arith);
      ppid = small32 2 0 (omega arith);
      expires_in_ms = search rules;
      time_since_sent_ms = search rules;
      lifecycle_id = small64 0 0 (omega arith);
      message_id = small64 1 0 (omega arith);
      payload = search rules;
    })
