use Rattle.sctp_trace.proofs.Pictures.{pictured}
use Rattle.sctp_trace.proofs.svg.tree.Goals as goal

pub returns : goal.returns
returns c = pictured _ _ _ _ c.in_ok-words_group.field-0 _ c.in_ok-push_ways.ensures c.in_ok-push.ensures.items c.element.ensures.children
