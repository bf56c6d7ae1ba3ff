use Rattle.std.proofs.Common.{map, take}
use Rattle.sctp_packet.specs.Grammar.{Each, FitsFragment}
use Rattle.sctp_state.specs.Handover.{OutstandingData, outstanding_data_of}
use Rattle.sctp_tx_outstanding.specs.Handover.{fragment_from}
use Rattle.proof_endpoint.proofs.arguments.recorded_fragments_fit.Given as goal

abbrev pub invariant-loop-fragment : goal.invariant-loop-fragment
invariant-loop-fragment l = Each (λ (d : OutstandingData). FitsFragment (fragment_from d)) (map outstanding_data_of (take l.fragment-index l.fragments))
