use Rattle.std.proofs.Common.{ap, arith, rules, sum_by}
use Rattle.std.proofs.lemmas.Fn.{filter_same}
use Rattle.sctp_tx_queue.specs.SendQueue.{remaining_bytes}
use Rattle.sctp_tx_queue.specs.Resets.{is_partly}
use Rattle.sctp_tx_queue.proofs.ResetLemmas.{partly_le}
use Rattle.sctp_tx_queue.proofs.send_queue.messages.keep_partly_sent.Goals as goal

pub bytes_left-bytes-requires : goal.bytes_left-bytes-requires
bytes_left-bytes-requires c =
    let kept = filter_same _ is_partly _ (λ x b f' k. search rules) _ _ c.retain.ensures.filtered in
    omega (arith, ap (λ ms. sum_by remaining_bytes ms) kept, partly_le c.args.messages.now.items, c.requires, c.amount-before.ensures, c.amount-before.type_inv)

pub overflow_sub-before : goal.overflow_sub-before
overflow_sub-before c =
    let kept = filter_same _ is_partly _ (λ x b f' k. search rules) _ _ c.retain.ensures.filtered in
    omega (arith, ap (λ ms. sum_by remaining_bytes ms) kept, partly_le c.args.messages.now.items, c.requires, c.bytes_left-bytes.ensures, c.amount-before.ensures)

pub returns-clause-messages : goal.returns-clause-messages
returns-clause-messages c = filter_same _ is_partly _ (λ x b f' k. search rules) _ _ c.retain.ensures.filtered

pub returns-clause-amount : goal.returns-clause-amount
returns-clause-amount c =
    let kept = filter_same _ is_partly _ (λ x b f' k. search rules) _ _ c.retain.ensures.filtered in
    omega (arith, ap (λ ms. sum_by remaining_bytes ms) kept, partly_le c.args.messages.now.items, c.requires, c.bytes_left-bytes.ensures, c.amount-before.ensures, ap (λ w. w.amount) c.decrease.ensures.after)
