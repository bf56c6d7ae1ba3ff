use Rattle.std.proofs.Common.{ℕ, [], ◌∷◌, ◌+◌, ap, ◌∙◌, ◌≡◌}
use Rattle.std.proofs.lemmas.Result.{IfOk-weaker}
use Rattle.sctp_trace.specs.declared.svg.Point.{Point}
use Rattle.sctp_trace.specs.declared.xml.Element.{Element}
use Rattle.sctp_trace.specs.declared.xml.Element.TheViews.{out-Element}
use Rattle.sctp_trace.specs.Svg.{IsCross}
use Rattle.sctp_trace.proofs.Pictures.{begins}
use Rattle.sctp_trace.proofs.svg.cross_group.Goals as goal

pub returns : goal.returns
returns c =
    let cross : ℕ → Point = λ y. record { x = 500; y = y + 5 } in
    IfOk-weaker c.group.result
    (λ (group : Element). (out-Element group).children.items ≡ c.in_ok-children.children.items)
    (IsCross c.args.cross.now)
    (λ group made. begins c.place-from.result (cross c.height_of.result) _ _ c.in_ok-way.way (c.in_ok-sign-2.sign ∷ []) group
    c.place-from.ensures (ap cross c.height_of.ensures)
    c.in_ok-way.ensures (made ∙ c.in_ok-children.ensures.items))
    c.group.ensures
