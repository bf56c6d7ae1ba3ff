use Rattle.std.proofs.Common.{◌≡◌, ap, ◌∙◌}
use Rattle.std.proofs.lemmas.Result.{IfOk-weaker}
use Rattle.sctp_trace.specs.Text.{ladder_text}
use Rattle.sctp_trace.proofs.text.ladder.Goals as goal

pub returns : goal.returns
returns c = IfOk-weaker c.lines-text.result
    (λ text. text.items ≡ ladder_text c.in_ok-conversation.conversation.rows.now) (λ text. text.items ≡ ladder_text c.args.rows.now)
    (λ text is. is ∙ ap ladder_text c.in_ok-conversation.ensures.rows)
    c.lines-text.ensures
