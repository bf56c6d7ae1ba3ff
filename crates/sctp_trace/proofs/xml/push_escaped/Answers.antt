use Rattle.std.proofs.Common.{ℕ, List, ◌++◌, ap, ◌∙◌, arith}
use Rattle.std.proofs.lemmas.List.{take_all}
use Rattle.sctp_trace.specs.Xml.{escaped_code, escape}
use Rattle.sctp_trace.proofs.Appended.{flat_more}
use Rattle.sctp_trace.proofs.xml.push_escaped.Goals as goal

pub loop-byte-preserved : goal.loop-byte-preserved
loop-byte-preserved c = flat_more escaped_code c.args.output.now.items c.loop-byte.output.items _ c.args.text.now c.loop-byte.byte-index _
    c.loop-byte-test.true c.loop-byte.invariant c.in_ok-push_escaped_byte.ensures

pub returns : goal.returns
returns c =
    c.loop-byte.invariant
    ∙ ap (λ (l : List ℕ). c.args.output.now.items ++ escape l) (take_all c.loop-byte.byte-index c.args.text.now (omega (arith, c.loop-byte-test.false)))
