use Rattle.std.proofs.Common.{◌≡◌, ◌+◌, ◌++◌, ◌==◌, ◌<◌, ◌^◌, ap, ◌∙◌, inl, inr, rules, arith}
use Rattle.sctp_tx_outstanding.specs.Messages.{pair_key}
use Rattle.sctp_tx_outstanding.proofs.MessagesLemmas.{none_other}
use Rattle.sctp_tx_outstanding.proofs.messages.Messages.is_alone.Goals as goal

pub returns-clause-before : goal.returns-clause-before
returns-clause-before c = λ yes is finds k above below.
    let old = c.args.self.now in
    let id = c.args.message_id.0 in
    let keys = old.sorted.items ++ old.added.keys in
    let number : c.in-Some.number ≡ old.first + c.args.place = search rules in
    let small : c.in-Some.number < 2 ^ 32 = omega arith in
    let key : c.key_of-key.result ≡ pair_key id (old.first + c.args.place) = c.key_of-key.ensures ∙ ap (λ n. pair_key id n) number in
    none_other keys old.first id c.args.place k is (finds.lists c.if-not-self.false) (omega (arith, number, small, below)) (inl below)
    (λ n onward upto other. c.has_no_other.ensures yes n (omega (arith, onward, c.key_of-from.ensures)) (omega (arith, upto, c.key_of-last.ensures)) (ap (λ j. n == j) key ∙ other))

pub returns-clause-behind : goal.returns-clause-behind
returns-clause-behind c = λ yes is finds k above below.
    let old = c.args.self.now in
    let id = c.args.message_id.0 in
    let keys = old.sorted.items ++ old.added.keys in
    let number : c.in-Some.number ≡ old.first + c.args.place = search rules in
    let known = finds.lists c.if-not-self.false in
    let key : c.key_of-key.result ≡ pair_key id (old.first + c.args.place) = c.key_of-key.ensures ∙ ap (λ n. pair_key id n) number in
    none_other keys old.first id c.args.place k is known (omega (arith, known.fits, below)) (inr (omega (arith, above)))
    (λ n onward upto other. c.has_no_other.ensures yes n (omega (arith, onward, c.key_of-from.ensures)) (omega (arith, upto, c.key_of-last.ensures)) (ap (λ j. n == j) key ∙ other))
