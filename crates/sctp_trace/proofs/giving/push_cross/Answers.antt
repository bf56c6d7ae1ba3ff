use Rattle.std.proofs.Common.{List, ℕ, ◌++◌, ap, sym, ◌∙◌}
use Rattle.sctp_trace.specs.declared.giving.Cross.{Cross}
use Rattle.sctp_trace.specs.Giving.{cross_if_lost, cross_of}
use Rattle.sctp_trace.proofs.giving.push_cross.Goals as goal

pub returns-in_ok-push_if_lost : goal.returns-in_ok-push_if_lost
returns-in_ok-push_if_lost c =
    let cross : Cross = record { from = c.args.row.now.end; sent = c.args.at } in
    c.in_ok-push_if_lost.ensures
    ∙ ap (λ (x : List Cross). c.args.crosses.now.items ++ x)
    (ap (λ (times : ℕ). cross_if_lost times cross) c.times_given-times.ensures
    ∙ sym (ap (cross_of c.args.conversation.now.rows.now c.args.at c.args.row.now.end) c.in-Sent.is))
