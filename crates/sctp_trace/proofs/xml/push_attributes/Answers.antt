use Rattle.std.proofs.Common.{List, ◌++◌, ap, ◌∙◌, arith}
use Rattle.std.proofs.lemmas.List.{take_all}
use Rattle.std.specs.List.{flat_map}
use Rattle.sctp_trace.specs.declared.xml.Attribute.{Attribute}
use Rattle.sctp_trace.specs.Xml.{attribute_bytes}
use Rattle.sctp_trace.proofs.Appended.{flat_more}
use Rattle.sctp_trace.proofs.xml.push_attributes.Goals as goal

pub loop-attribute-preserved : goal.loop-attribute-preserved
loop-attribute-preserved c = flat_more attribute_bytes c.args.output.now.items c.loop-attribute.output.items _ c.args.attributes.now
    c.loop-attribute.attribute-index c.attribute-item.result c.loop-attribute-test.true c.loop-attribute.invariant
    (c.in_ok-push_attribute.ensures ∙ ap (λ (attribute : Attribute). c.loop-attribute.output.items ++ attribute_bytes attribute) c.attribute-item.is)

pub returns : goal.returns
returns c =
    c.loop-attribute.invariant
    ∙ ap (λ (l : List Attribute). c.args.output.now.items ++ flat_map attribute_bytes l)
    (take_all c.loop-attribute.attribute-index c.args.attributes.now (omega (arith, c.loop-attribute-test.false)))
