use Rattle.std.proofs.Common.{ℕ, [], ◌∷◌, ap, ◌∙◌, ◌≡◌}
use Rattle.std.proofs.lemmas.Result.{IfOk-weaker}
use Rattle.sctp_trace.specs.declared.rows.End.{End}
use Rattle.sctp_trace.specs.declared.xml.Element.{Element}
use Rattle.sctp_trace.specs.declared.xml.Element.TheViews.{out-Element}
use Rattle.sctp_trace.specs.Svg.{IsArrow, place_at}
use Rattle.sctp_trace.proofs.Pictures.{begins}
use Rattle.sctp_trace.proofs.svg.arrow_group.Goals as goal

pub returns : goal.returns
returns c = IfOk-weaker c.group.result
    (λ (group : Element). (out-Element group).children.items ≡ c.in_ok-children.children.items)
    (IsArrow c.args.arrow.now)
    (λ group made. begins c.place-from.result c.place-to.result _ _ c.in_ok-way.way (c.in_ok-head.head ∷ []) group
    (c.place-from.ensures ∙ ap (λ (row : ℕ). place_at c.args.arrow.now.from row) c.unwrap_or.ensures)
    (c.place-to.ensures ∙ ap (λ (end : End). place_at end c.args.arrow.now.given) c.other.ensures)
    c.in_ok-way.ensures (made ∙ c.in_ok-children.ensures.items))
    c.group.ensures
