use Rattle.std.proofs.Common.{arith}
use Rattle.sctp_handover.proofs.FieldLemmas.{passes_on}
use Rattle.sctp_handover.proofs.OpenLemmas.{capabilities_written}
use Rattle.sctp_handover.proofs.section.push_capabilities.Goals as goal

pub returns-clause-wrote : goal.returns-clause-wrote
returns-clause-wrote c = passes_on c.push_numbers16.result c.push_numbers16.ensures.wrote (λ last. capabilities_written c.args.capabilities.now _ _ _ c.in_ok-push_flags.ensures last)

pub returns-clause-fits : goal.returns-clause-fits
returns-clause-fits c = passes_on c.push_numbers16.result c.push_numbers16.ensures.fits (λ small. record { incoming = small 0 0 (omega arith); outgoing = small 1 0 (omega arith) })
