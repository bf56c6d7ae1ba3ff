use Rattle.std.proofs.Common.{◌≡◌, ◌≤◌, ◌<◌, length, slice_index_or, rules, arith}
use Rattle.sctp_tx_outstanding.proofs.MessagesLemmas.{none_before}
use Rattle.sctp_tx_outstanding.proofs.messages.least_sorted.Goals as goal

pub returns-in-Some-clause-none : goal.returns-in-Some-clause-none
returns-in-Some-clause-none c = λ n onward below.
    let keys = c.args.sorted.now.items in
    let place = c.first_from-place.result in
    let within : place < length keys = search rules in
    let at : c.in-Some.least.now ≡ slice_index_or keys place 0 = search rules in
    none_before keys c.args.from place n c.requires.ascends c.first_from-place.ensures onward (λ l. omega (arith, below, at, c.min.ensures))

pub returns-in-None-clause-none : goal.returns-in-None-clause-none
returns-in-None-clause-none c = λ n onward below.
    let keys = c.args.sorted.now.items in
    let place = c.first_from-place.result in
    let past : length keys ≤ place = search rules in
    none_before keys c.args.from place n c.requires.ascends c.first_from-place.ensures onward (λ l. absurd (omega (arith, past, l)))
