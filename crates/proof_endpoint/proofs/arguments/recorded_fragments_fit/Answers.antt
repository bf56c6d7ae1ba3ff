use Rattle.sctp_packet.specs.Grammar.{FitsFragment}
use Rattle.sctp_state.specs.Handover.{OutstandingData, outstanding_data_of}
use Rattle.sctp_tx_outstanding.specs.Handover.{fragment_from}
use Rattle.spec_endpoint.proofs.ArgumentLemmas.{seen_more, seen_all}
use Rattle.proof_endpoint.proofs.arguments.recorded_fragments_fit.Goals as goal

pub loop-fragment-init : goal.loop-fragment-init
loop-fragment-init c = tt

pub loop-fragment-preserved : goal.loop-fragment-preserved
loop-fragment-preserved c =
    seen_more (λ (d : OutstandingData). FitsFragment (fragment_from d)) outstanding_data_of c.args.fragments.now c.loop-fragment.fragment-index c.fragment-item.result c.loop-fragment-test.true c.fragment-item.is c.loop-fragment.invariant
    c.a_recorded_fragment_fits.ensures.fits

pub returns : goal.returns
returns c = record { fit = seen_all (λ (d : OutstandingData). FitsFragment (fragment_from d)) outstanding_data_of c.args.fragments.now c.loop-fragment.fragment-index c.loop-fragment-test.false c.loop-fragment.invariant }
