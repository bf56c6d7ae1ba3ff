use Rattle.std.proofs.Common.{subst}
use Rattle.spec_endpoint.specs.Wire.{AreBytes}
use Rattle.spec_endpoint.proofs.ArgumentLemmas.{seen_more, seen_all}
use Rattle.sctp_network_side.proofs.side.packets_fit.Goals as goal

pub loop-bytes-init : goal.loop-bytes-init
loop-bytes-init c = tt

pub loop-bytes-preserved : goal.loop-bytes-preserved
loop-bytes-preserved c =
    seen_more AreBytes (λ bytes. bytes.items) c.args.packets.now c.loop-bytes.bytes-index c.bytes-item.result c.loop-bytes-test.true c.bytes-item.is
    c.loop-bytes.invariant (subst AreBytes c.deref.ensures.value c.bytes_fit.ensures.fit)

pub returns : goal.returns
returns c = record { fit = seen_all AreBytes (λ bytes. bytes.items) c.args.packets.now c.loop-bytes.bytes-index c.loop-bytes-test.false c.loop-bytes.invariant }
