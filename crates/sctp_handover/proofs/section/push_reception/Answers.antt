use Rattle.std.proofs.Common.{arith}
use Rattle.sctp_state.specs.Handover.{receive_of}
use Rattle.sctp_handover.proofs.FieldLemmas.{passes_on}
use Rattle.sctp_handover.proofs.OpenLemmas.{reception_written}
use Rattle.sctp_handover.proofs.PartLemmas.{same_list_fits}
use Rattle.sctp_handover.proofs.section.push_reception.Goals as goal

pub returns-clause-wrote : goal.returns-clause-wrote
returns-clause-wrote c = passes_on c.push_list-2.result c.push_list-2.ensures.wrote (λ last.
    reception_written (receive_of c.args.reception.now) _ _ _ _ _ _ _
    c.deref.ensures.value c.deref-2.ensures.value
    c.in_ok-push_flags.ensures c.in_ok-push_numbers32.ensures.wrote c.in_ok-push_list.ensures.wrote last)

pub returns-clause-fits : goal.returns-clause-fits
returns-clause-fits c = passes_on c.push_list-2.result c.push_list-2.ensures.fits (λ last.
    let small = c.in_ok-push_numbers32.ensures.fits in
    record {
      last_cumulative_acked_tsn = small 0 0 (omega arith);
      last_assembled_tsn = small 1 0 (omega arith);
      last_completed_deferred_reset_req_sn = small 2 0 (omega arith);
      last_completed_reset_req_sn = small 3 0 (omega arith);
      ordered_streams = same_list_fits _ _ c.deref.ensures.value c.in_ok-push_list.ensures.fits;
      unordered_streams = same_list_fits _ _ c.deref-2.ensures.value last;
    })
