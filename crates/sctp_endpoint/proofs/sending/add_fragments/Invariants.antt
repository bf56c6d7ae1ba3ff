use Rattle.std.proofs.Common.{◌≡◌, map}
use Rattle.sctp_tx_outstanding.specs.Views.{chunk_of}
use Rattle.spec_endpoint.specs.Packets.{add_all}
use Rattle.spec_endpoint.specs.Sending.{data_chunks}
use Rattle.sctp_endpoint.specs.Views.{tcb_of}
use Rattle.sctp_endpoint.proofs.sending.add_fragments.Given as goal

abbrev pub invariant-loop-tsn : goal.invariant-loop-tsn
invariant-loop-tsn l =
    add_all (data_chunks (tcb_of l.tcb) l.is_immediate (map chunk_of l.tsn-iterator.rest.items)) l.packet
    ≡ add_all (data_chunks (tcb_of l.tcb) l.is_immediate (map chunk_of l.fn.fragments.items)) l.fn.packet
