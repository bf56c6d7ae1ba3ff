use Rattle.std.proofs.Common.{arith, rules}
use Rattle.sctp_state.specs.Handover.{handover_state_of}
use Rattle.sctp_handover.proofs.FieldLemmas.{passes_on}
use Rattle.sctp_handover.proofs.OpenLemmas.{record_written}
use Rattle.sctp_handover.proofs.record.push_record.Goals as goal

pub returns-clause-wrote : goal.returns-clause-wrote
returns-clause-wrote c = passes_on c.push_transmission.result c.push_transmission.ensures.wrote (λ last.
    record_written (handover_state_of c.args.state.now) _ _ _ _ _ _ _ _ _ c.is_connected.ensures
    c.in_ok-push_u32.ensures.wrote c.in_ok-push_flags.ensures c.in_ok-push_numbers32.ensures.wrote c.in_ok-push_u64.ensures.wrote
    c.in_ok-push_capabilities.ensures.wrote c.in_ok-push_reception.ensures.wrote last)

pub returns-clause-fits : goal.returns-clause-fits
returns-clause-fits c = passes_on c.push_transmission.result c.push_transmission.ensures.fits (λ last.
    let small = c.in_ok-push_numbers32.ensures.fits in
    record {
      my_verification_tag = small 0 0 (omega arith);
      my_initial_tsn = small 1 0 (omega arith);
      peer_verification_tag = small 2 0 (omega arith);
      peer_initial_tsn = small 3 0 (omega arith);
      tie_tag = search rules;
      capabilities = c.in_ok-push_capabilities.ensures.fits;
      rx = c.in_ok-push_reception.ensures.fits;
      tx = last;
    })
