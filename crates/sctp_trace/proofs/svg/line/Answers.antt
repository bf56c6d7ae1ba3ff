use Rattle.std.proofs.Common.{List, ℕ, ◌++◌, ap, map, ◌∙◌}
use Rattle.sctp_trace.specs.declared.xml.Attribute.{Attribute}
use Rattle.sctp_trace.specs.declared.xml.Key.{Key}
use Rattle.sctp_trace.specs.Svg.{shown, ends_shown}
use Rattle.sctp_trace.proofs.svg.line.Goals as goal

pub returns : goal.returns
returns c = record {
  class = c.args.class.now;
  is_line = c.element.ensures.tag;
  points = ap (λ (l : List Attribute). map shown l) c.element.ensures.attributes
      ∙ (c.in_ok-push_numbers.ensures
      ∙ ap (λ (front : List (Key × List ℕ)). front ++ ends_shown c.args.from c.args.to) c.in_ok-attributes.ensures);
}
