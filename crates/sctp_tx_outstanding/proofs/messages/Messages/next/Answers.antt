use Rattle.std.proofs.Common.{◌≡◌, ◌+◌, ◌++◌, ◌-◌, ◌≤◌, rules, arith}
use Rattle.sctp_tx_outstanding.specs.Messages.{pair_key}
use Rattle.sctp_tx_outstanding.proofs.MessagesLemmas.{none_of}
use Rattle.sctp_tx_outstanding.proofs.messages.Messages.next.Goals as goal

pub returns-clause-none : goal.returns-clause-none
returns-clause-none c = λ is finds.
    let old = c.args.self.now in
    let first = old.first in
    let message = c.args.message_id.0 in
    let place = c.args.place in
    let to = c.least_key-least.result - c.key_of-begin.result in
    let number : c.in-Some.number ≡ first + place = search rules in
    let begin : c.key_of-begin.result ≡ pair_key message first = c.key_of-begin.ensures in
    let above : c.key_of-from.result ≤ c.least_key-least.result = c.least_key-least.ensures.from in
    let here : c.key_of-from.result ≡ pair_key message c.in-Some.number = c.key_of-from.ensures in
    let last : c.key_of-last.result ≡ pair_key message 4294967295 = c.key_of-last.ensures in
    let up : c.least_key-least.result ≤ c.key_of-last.result = c.least_key-least.ensures.last in
    none_of (old.sorted.items ++ old.added.keys) first message place to is (finds.lists c.if-not-self.false) (omega (arith, number, begin, above, here, last, up))
    (λ key onward below. c.least_key-least.ensures.none key (omega (arith, onward, here, number)) (omega (arith, below, begin, above, here, number)))
