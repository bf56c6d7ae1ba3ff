use Rattle.std.proofs.Common.{arith, rules}
use Rattle.sctp_handover.proofs.FieldLemmas.{passes_on}
use Rattle.sctp_handover.proofs.OpenLemmas.{outgoing_written}
use Rattle.sctp_handover.proofs.stream.HandoverOutgoingStreamPart.push_to.Goals as goal

pub returns-clause-wrote : goal.returns-clause-wrote
returns-clause-wrote c = passes_on c.push_u16.result c.push_u16.ensures.wrote (λ last. outgoing_written c.args.self.now _ _ _ _ c.in_ok-push_numbers16.ensures.wrote c.in_ok-push_numbers32.ensures.wrote last)

pub returns-clause-fits : goal.returns-clause-fits
returns-clause-fits c = passes_on c.push_u16.result c.push_u16.ensures.wrote (λ last.
    let small16 = c.in_ok-push_numbers16.ensures.fits in
    let small32 = c.in_ok-push_numbers32.ensures.fits in
    record { id = small16 0 0 (omega arith); next_ssn = small16 1 0 (omega arith); next_unordered_mid = small32 0 0 (omega arith); next_ordered_mid = small32 1 0 (omega arith); priority = search rules })
