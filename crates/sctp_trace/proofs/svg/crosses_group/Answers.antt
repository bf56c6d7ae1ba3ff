use Rattle.sctp_trace.specs.Svg.{IsCross}
use Rattle.sctp_trace.proofs.Pictures.{drawn_more}
use Rattle.sctp_trace.proofs.svg.crosses_group.Goals as goal

pub loop-cross-preserved : goal.loop-cross-preserved
loop-cross-preserved c = drawn_more IsCross c.deref-cross-items.result.now c.loop-cross.children.items c.push.new.self.items c.loop-cross.cross-index _
    c.in_ok-cross_group.field-0 c.loop-cross-test.true c.loop-cross.invariant c.in_ok-cross_group.ensures c.in_ok-push.ensures.items
