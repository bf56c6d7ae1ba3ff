use Rattle.std.proofs.Common.{arith}
use Rattle.std.proofs.lemmas.Bool.Decides.{nat_tests}
use Rattle.sctp_tx_outstanding.proofs.totals.Totals.exchanged.Goals as goal

pub returns : goal.returns
returns c = λ h.
    let packet = c.bytes.ensures (λ t. h.same_packet (grind (arith, nat_tests, t))) h.packet in
    let payload = c.bytes-2.ensures (λ t. h.same_payload (grind (arith, nat_tests, t))) h.payload in
    let flights = c.count.ensures h.flights in
    let queued = c.count-2.ensures h.queued in
    let fast = c.count-3.ensures h.fast in
    let earliest = c.min.ensures in
    λ j. record { packet_bytes = packet j; payload_bytes = payload j; flights = flights j; queued = queued j; fast = fast j; earliest = earliest j }
