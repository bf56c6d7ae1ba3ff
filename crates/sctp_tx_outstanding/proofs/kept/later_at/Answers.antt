use Rattle.std.proofs.Common.{◌≡◌, true, false, ap, sym, ◌∙◌, rules, arith}
use Rattle.std.specs.Prelude.{option_map, Some}
use Rattle.std.proofs.lemmas.Bool.Decides.{nat_tests}
use Rattle.sctp_tx_outstanding.specs.Item.{is_of}
use Rattle.sctp_tx_outstanding.specs.Views.{last_tree}
use Rattle.sctp_tx_outstanding.proofs.MessagesLemmas.{found_at, found_not, later_beyond}
use Rattle.sctp_tx_outstanding.proofs.kept.later_at.Goals as goal

pub returns-in_default : goal.returns-in_default
returns-in_default c = sym (later_beyond c.args.message_id.0 c.args.place (option_map last_tree c.args.found) c.args.items.now.items (search rules))

pub returns-then-message_id : goal.returns-then-message_id
returns-then-message_id c =
    let here : is_of c.args.message_id.0 c.in-Some.item.now ≡ true = grind (arith, nat_tests, c.message_id.ensures, c.if-message_id.true) in
    ap (λ f. Some f) c.of.ensures ∙ found_at c.args.message_id.0 c.args.place (option_map last_tree c.args.found) c.args.items.now.items c.in-Some.item.now (search rules) c.in-Some.ensures.lookup here

pub returns : goal.returns
returns c =
    let other : is_of c.args.message_id.0 c.in-Some.item.now ≡ false = grind (arith, nat_tests, c.message_id.ensures, c.if-message_id.false) in
    found_not c.args.message_id.0 c.args.place (option_map last_tree c.args.found) c.args.items.now.items c.in-Some.item.now (search rules) c.in-Some.ensures.lookup other
