use Rattle.std.proofs.Common.{◌≡◌, true, false, ap, ◌∙◌, rules, arith}
use Rattle.std.proofs.lemmas.Bool.Decides.{nat_tests}
use Rattle.sctp_tx_outstanding.specs.Item.{Item, is_of}
use Rattle.sctp_tx_outstanding.specs.OutstandingData.{Kept}
use Rattle.sctp_tx_outstanding.proofs.AbandonedItemsLemmas.{is_of_at_here, is_of_at_beyond}
use Rattle.sctp_tx_outstanding.proofs.MessagesLemmas.{laid_of, laid_not}
use Rattle.sctp_tx_outstanding.proofs.kept.abandon_at.Goals as goal
use Rattle.std.proofs.Common.{List}

same_kept : (k : Kept) (is : List Item) → k.items ≡ is → k ≡ record k { items = is }
same_kept k is e = ap (λ (js : List Item). record k { items = js }) e

pub returns-in_default : goal.returns-in_default
returns-in_default c =
    let k = c.args.kept.now in
    same_kept k _ (laid_not c.args.message_id.0 c.args.place k.items (is_of_at_beyond c.args.message_id.0 c.args.place k.items (search rules)))

pub returns-then-message_id : goal.returns-then-message_id
returns-then-message_id c =
    let k = c.args.kept.now in
    let other : is_of c.args.message_id.0 c.in-Some.item.now ≡ false = grind (arith, nat_tests, c.message_id.ensures, c.if-message_id.true) in
    same_kept k _ (laid_not c.args.message_id.0 c.args.place k.items (is_of_at_here c.args.message_id.0 c.args.place k.items c.in-Some.item.now (search rules) ∙ other))

pub returns : goal.returns
returns c =
    let k = c.args.kept.now in
    let here : is_of c.args.message_id.0 c.in-Some.item.now ≡ true = grind (arith, nat_tests, c.message_id.ensures, c.if-message_id.false) in
    c.change.ensures.items ∙ ap (λ (js : List Item). record k { items = js }) (laid_of c.args.message_id.0 c.args.place k.items (is_of_at_here c.args.message_id.0 c.args.place k.items c.in-Some.item.now (search rules) ∙ here))
