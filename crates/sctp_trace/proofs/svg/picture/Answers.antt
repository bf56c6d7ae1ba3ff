use Rattle.std.proofs.Common.{List, subst}
use Rattle.std.proofs.lemmas.Result.{IfOk-weaker}
use Rattle.sctp_trace.specs.declared.rows.Row.{Row}
use Rattle.sctp_trace.specs.Svg.{IsPicture}
use Rattle.sctp_trace.proofs.svg.picture.Goals as goal

pub returns : goal.returns
returns c = IfOk-weaker c.tree-picture.result (IsPicture c.in_ok-conversation.conversation.rows.now) (IsPicture c.args.rows.now)
    (λ root is. subst (λ (rows : List Row). IsPicture rows root) c.in_ok-conversation.ensures.rows is)
    c.tree-picture.ensures
