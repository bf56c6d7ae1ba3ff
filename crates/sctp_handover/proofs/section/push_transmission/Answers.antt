use Rattle.std.proofs.Common.{ap, map, arith, rules}
use Rattle.sctp_state.specs.Handover.{outstanding_data_of, stream_message_of, transmission_of}
use Rattle.sctp_handover.proofs.FieldLemmas.{passes_on}
use Rattle.sctp_handover.proofs.OpenLemmas.{transmission_written}
use Rattle.sctp_handover.proofs.PartLemmas.{list_fits, same_list_fits}
use Rattle.sctp_handover.proofs.section.push_transmission.Goals as goal

pub returns-clause-wrote : goal.returns-clause-wrote
returns-clause-wrote c = passes_on c.push_list-3.result c.push_list-3.ensures.wrote (λ last.
    transmission_written (transmission_of c.args.transmission.now) _ _ _ _ _ _ _ _ _
    c.deref.ensures.value (ap (map stream_message_of) c.deref-2.ensures.value) (ap (map outstanding_data_of) c.deref-3.ensures.value)
    c.in_ok-push_numbers32.ensures.wrote c.in_ok-push_u64.ensures.wrote c.in_ok-push_list.ensures.wrote c.in_ok-push_list-2.ensures.wrote last)

pub returns-clause-fits : goal.returns-clause-fits
returns-clause-fits c = passes_on c.push_list-3.result c.push_list-3.ensures.fits (λ last.
    let small = c.in_ok-push_numbers32.ensures.fits in
    record {
      next_tsn = small 0 0 (omega arith);
      last_cumulative_tsn_ack = small 1 0 (omega arith);
      next_reset_req_sn = small 2 0 (omega arith);
      cwnd = small 3 0 (omega arith);
      rwnd = small 4 0 (omega arith);
      ssthresh = small 5 0 (omega arith);
      partial_bytes_acked = small 6 0 (omega arith);
      next_outgoing_message_id = search rules;
      streams = same_list_fits _ _ c.deref.ensures.value c.in_ok-push_list.ensures.fits;
      queued_messages = list_fits _ _ (ap (map stream_message_of) c.deref-2.ensures.value) c.in_ok-push_list-2.ensures.fits;
      outstanding_data = list_fits _ _ (ap (map outstanding_data_of) c.deref-3.ensures.value) last;
    })
