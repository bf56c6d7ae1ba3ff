use Rattle.std.proofs.Common.{List, [], ◌∷◌, ◌++◌, append_assoc, ap, ◌∙◌}
use Rattle.sctp_trace.specs.declared.xml.Element.{Element}
use Rattle.sctp_trace.proofs.svg.push_ways.Goals as goal

pub returns : goal.returns
returns c = record {
  given = c.in_ok-arrows_group.field-0;
  lost = c.in_ok-crosses_group.field-0;
  appended = c.in_ok-push-2.ensures.items
      ∙ (ap (λ (l : List Element). l ++ (c.in_ok-crosses_group.field-0 ∷ [])) c.in_ok-push.ensures.items
      ∙ append_assoc c.args.children.now.items (c.in_ok-arrows_group.field-0 ∷ []) (c.in_ok-crosses_group.field-0 ∷ []));
  arrows_drawn = c.in_ok-arrows_group.ensures;
  crosses_drawn = c.in_ok-crosses_group.ensures;
}
