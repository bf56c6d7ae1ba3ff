use Rattle.std.proofs.Common.{◌≡◌, ◌+◌, ◌++◌, ◌==◌, ◌<◌, ◌^◌, true, cond, ap, ◌∙◌, rules, arith}
use Rattle.sctp_tx_outstanding.specs.Numbers.{is_listed}
use Rattle.sctp_tx_outstanding.proofs.MessagesLemmas.{taken, put_added}
use Rattle.sctp_tx_outstanding.proofs.messages.Messages.add.Goals as goal

pub returns-else-not-add : goal.returns-else-not-add
returns-else-not-add c = λ is i e of finds.
    let old = c.args.self.now in
    let sorted = old.sorted.items in
    let number = c.in-Some.number in
    let at : number ≡ old.first + c.args.count = search rules in
    let small : number < 2 ^ 32 = omega arith in
    record {
      lists = λ yes.
          taken (sorted ++ old.added.keys) (sorted ++ c.add.new.numbers.keys) old.first number is i c.args.count c.args.message_id.0 e at small of
          (λ key. put_added sorted old.added.keys c.add.new.numbers.keys c.key_of-key.result (c.add.ensures (search rules)) key ∙ ap (λ k. cond (key == k) true (is_listed (sorted ++ old.added.keys) key)) c.key_of-key.ensures)
          (finds.lists yes);
      ascends = finds.ascends;
    }
