use Rattle.std.proofs.Common.{◌∙◌, sym, rules}
use Rattle.sctp_tx_outstanding.proofs.MessagesLemmas.{lists_next, lists_past}
use Rattle.sctp_tx_outstanding.proofs.kept.list_at.Goals as goal

pub returns-in_default : goal.returns-in_default
returns-in_default c = lists_past c.args.messages.now c.args.items.now.items c.args.place (search rules) c.requires

pub returns : goal.returns
returns c =
    lists_next c.args.messages.now c.list.new.self c.args.items.now.items c.args.place c.in-Some.item.now (search rules) c.in-Some.ensures.lookup
    (λ js j n e. c.list.ensures js j n (e ∙ sym c.message_id.ensures)) c.requires
