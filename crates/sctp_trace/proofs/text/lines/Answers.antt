use Rattle.std.proofs.Common.{ℕ, List, ◌++◌, ap, sym, ◌∙◌, arith}
use Rattle.std.proofs.lemmas.List.{append-nil, take_all}
use Rattle.std.specs.List.{flat_map}
use Rattle.sctp_trace.specs.declared.rows.Row.{Row}
use Rattle.sctp_trace.specs.Text.{heading, line_of}
use Rattle.sctp_trace.proofs.Appended.{flat_more}
use Rattle.sctp_trace.proofs.text.lines.Goals as goal

pub loop-row-preserved : goal.loop-row-preserved
loop-row-preserved c = flat_more (line_of c.args.conversation.now.rows.now) heading c.loop-row.text.items _ c.args.conversation.now.rows.now
    c.loop-row.row-index c.row-item.result c.loop-row-test.true c.loop-row.invariant
    (c.in_ok-push_line.ensures ∙ ap (λ (row : Row). c.loop-row.text.items ++ line_of c.args.conversation.now.rows.now row) c.row-item.is)

pub loop-row-init : goal.loop-row-init
loop-row-init c = c.in_ok-push_heading.ensures ∙ (ap (λ (text : List ℕ). text ++ heading) c.new-text.ensures.items ∙ sym (append-nil heading))

pub returns : goal.returns
returns c =
    c.loop-row.invariant
    ∙ ap (λ (rows : List Row). heading ++ flat_map (line_of c.args.conversation.now.rows.now) rows)
    (take_all c.loop-row.row-index c.args.conversation.now.rows.now (omega (arith, c.loop-row-test.false)))
