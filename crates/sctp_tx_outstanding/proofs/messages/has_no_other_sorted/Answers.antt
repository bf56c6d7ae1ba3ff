use Rattle.std.proofs.Common.{◌≡◌, ◌≤◌, ◌<◌, ◌+◌, length, slice_index_or, rules, arith}
use Rattle.std.proofs.lemmas.Bool.Decides.{nat_tests}
use Rattle.sctp_tx_outstanding.proofs.MessagesLemmas.{none_before, none_beside}
use Rattle.sctp_tx_outstanding.proofs.messages.has_no_other_sorted.Goals as goal

pub returns-in_default : goal.returns-in_default
returns-in_default c = λ yes n onward upto other.
    let keys = c.args.sorted.now.items in
    let place = c.first_from-place.result in
    let past : length keys ≤ place = search rules in
    none_before keys c.args.from place n c.requires c.first_from-place.ensures onward (λ l. absurd (omega (arith, past, l)))

pub returns-then-first-key : goal.returns-then-first-key
returns-then-first-key c = λ yes n onward upto other.
    let keys = c.args.sorted.now.items in
    let place = c.first_from-place.result in
    let at : c.in-Some.first.now ≡ slice_index_or keys place 0 = search rules in
    let behind : c.args.last < c.in-Some.first.now = grind (arith, nat_tests, yes) in
    none_before keys c.args.from place n c.requires c.first_from-place.ensures onward (λ l. omega (arith, behind, upto, at))

pub returns-in-Some-get : goal.returns-in-Some-get
returns-in-Some-get c = λ yes n onward upto other.
    let keys = c.args.sorted.now.items in
    let place = c.first_from-place.result in
    let at : c.in-Some.first.now ≡ slice_index_or keys place 0 = search rules in
    let same : c.in-Some.first.now ≡ c.args.key = grind (arith, nat_tests, c.if-first-key.false) in
    let next : c.in-Some-get.next.now ≡ slice_index_or keys (place + 1) 0 = search rules in
    let behind : c.args.last < c.in-Some-get.next.now = grind (arith, nat_tests, yes) in
    none_beside keys c.args.from place n c.requires c.first_from-place.ensures onward c.args.key c.args.last upto other (omega (arith, at, same)) (λ l. omega (arith, behind, next))

pub returns-in-None : goal.returns-in-None
returns-in-None c = λ yes n onward upto other.
    let keys = c.args.sorted.now.items in
    let place = c.first_from-place.result in
    let at : c.in-Some.first.now ≡ slice_index_or keys place 0 = search rules in
    let same : c.in-Some.first.now ≡ c.args.key = grind (arith, nat_tests, c.if-first-key.false) in
    let past : length keys ≤ place + 1 = search rules in
    none_beside keys c.args.from place n c.requires c.first_from-place.ensures onward c.args.key c.args.last upto other (omega (arith, at, same)) (λ l. absurd (omega (arith, past, l)))
