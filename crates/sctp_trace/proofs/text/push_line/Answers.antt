use Rattle.std.proofs.Common.{List, ℕ, ◌++◌, ap, ap₂, sym, ◌∙◌}
use Rattle.std.proofs.lemmas.Result.{on_ok_weaker}
use Rattle.sctp_trace.specs.Text.{arrow_start, packet_cell, sent_caption, packet_line, what_line}
use Rattle.sctp_trace.proofs.text.push_line.Goals as goal

pub returns-in_ok-caption-in-Sent : goal.returns-in_ok-caption-in-Sent
returns-in_ok-caption-in-Sent c =
    let caption = c.as_bytes.ensures.value
    ∙ (c.in_ok-caption-in-Sent.ensures
    ∙ ap₂ (λ (times : ℕ) (label : List ℕ). sent_caption c.in-Sent.number times label) c.times_given-times.ensures c.deref.ensures) in
    on_ok_weaker
    c.push_packet.result
    (λ e. e ∙ ap (λ (x : List ℕ). c.args.text.now.items ++ x)
    (ap (λ (x : List ℕ). packet_line (packet_cell c.args.row.now.end arrow_start x)) caption
    ∙ sym (ap (what_line c.args.conversation.now.rows.now c.args.row.now.end) c.in-Sent.is)))
    c.push_packet.ensures
