use Rattle.std.proofs.Common.{ℕ, List, ◌++◌, ap, ◌∙◌, arith}
use Rattle.std.proofs.lemmas.List.{take_all}
use Rattle.std.specs.List.{flat_map}
use Rattle.std.proofs.lemmas.Result.{on_ok_weaker}
use Rattle.sctp_trace.specs.declared.xml.Element.{Element}
use Rattle.sctp_trace.specs.Xml.{xml_bytes}
use Rattle.sctp_trace.proofs.Appended.{flat_more}
use Rattle.sctp_trace.proofs.Written.{written_in_parts}
use Rattle.sctp_trace.proofs.xml.+write.Goals as goal

pub write-returns : goal.write-returns
write-returns t c = on_ok_weaker
    c.push_closing.result
    (written_in_parts c.args.element.now c.args.output.now.items _ _ _ _ _ _ c.deref.ensures.value c.as_bytes.ensures.value
    c.in_ok-push_opening.ensures c.in_ok-push_escaped.ensures c.in_ok-write_all.ensures)
    c.push_closing.ensures

pub write_all-loop-element-preserved : goal.write_all-loop-element-preserved
write_all-loop-element-preserved t c = flat_more xml_bytes c.args.output.now.items c.loop-element.output.items _ c.deref-element-items.result.now
    c.loop-element.element-index c.element-item.result c.loop-element-test.true c.loop-element.invariant
    (c.in_ok-write.ensures ∙ ap (λ (element : Element). c.loop-element.output.items ++ xml_bytes element) c.element-item.is)

pub write_all-returns : goal.write_all-returns
write_all-returns t c =
    let before : List Element → List ℕ = λ elements. c.args.output.now.items ++ flat_map xml_bytes elements in
    c.loop-element.invariant
    ∙ (ap before (take_all c.loop-element.element-index c.deref-element-items.result.now (omega (arith, c.loop-element-test.false)))
    ∙ ap before c.deref-element-items.ensures.value)
