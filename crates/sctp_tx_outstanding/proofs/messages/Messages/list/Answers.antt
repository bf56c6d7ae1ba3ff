use Rattle.std.proofs.Common.{◌≡◌, ◌+◌, ◌++◌, ◌∷◌, [], ◌==◌, ◌<◌, ◌^◌, true, cond, ap, ◌∙◌, rules, arith}
use Rattle.sctp_tx_outstanding.specs.Numbers.{is_listed}
use Rattle.sctp_tx_outstanding.proofs.MessagesLemmas.{taken, put_sorted}
use Rattle.sctp_tx_outstanding.proofs.messages.Messages.list.Goals as goal

pub returns-else-is_err : goal.returns-else-is_err
returns-else-is_err c = λ is i e of known yes.
    let old = c.args.self.now in
    let added = old.added.keys in
    let number = c.in-Some.number in
    let at : number ≡ old.first + c.args.count = search rules in
    let small : number < 2 ^ 32 = omega arith in
    let pushed : c.push.new.self.items ≡ old.sorted.items ++ c.key_of-key.result ∷ [] = search rules in
    taken (old.sorted.items ++ added) (c.push.new.self.items ++ added) old.first number is i c.args.count c.args.message_id.0 e at small of
    (λ key. ap (λ ks. is_listed (ks ++ added) key) pushed ∙ (put_sorted old.sorted.items added c.key_of-key.result key ∙ ap (λ k. cond (key == k) true (is_listed (old.sorted.items ++ added) key)) c.key_of-key.ensures))
    (known yes)
