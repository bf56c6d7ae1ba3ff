use Rattle.sctp_trace.specs.Svg.{IsArrow}
use Rattle.sctp_trace.proofs.Pictures.{drawn_more}
use Rattle.sctp_trace.proofs.svg.arrows_group.Goals as goal

pub loop-arrow-preserved : goal.loop-arrow-preserved
loop-arrow-preserved c = drawn_more IsArrow c.deref-arrow-items.result.now c.loop-arrow.children.items c.push.new.self.items c.loop-arrow.arrow-index _
    c.in_ok-arrow_group.field-0 c.loop-arrow-test.true c.loop-arrow.invariant c.in_ok-arrow_group.ensures c.in_ok-push.ensures.items
