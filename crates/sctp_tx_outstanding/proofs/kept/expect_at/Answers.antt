use Rattle.std.proofs.Common.{◌≡◌, ◌≤◌, false, rules}
use Rattle.sctp_tx_outstanding.specs.Item.{has_nack, or_never}
use Rattle.sctp_tx_outstanding.proofs.ExpiriesLemmas.{expects_past, expects_next, expects_passed}
use Rattle.sctp_tx_outstanding.proofs.kept.expect_at.Goals as goal

pub returns-in_default : goal.returns-in_default
returns-in_default c = expects_past c.args.expiries.now c.args.items.now.items c.args.place (search rules) c.requires

pub returns-then-not-is_nacked : goal.returns-then-not-is_nacked
returns-then-not-is_nacked c =
    let calm : has_nack c.in-Some.item.now.state ≡ false = search rules in
    let past : or_never c.in-Some.item.now.expires ≤ c.args.expiries.now.dropped = search rules in
    expects_passed c.args.expiries.now c.args.place c.args.items.now.items c.in-Some.item.now (search rules) c.in-Some.ensures.lookup calm past c.requires

pub returns : goal.returns
returns c =
    expects_next c.args.expiries.now c.list.new.self c.args.place c.deadline-deadline.result c.args.items.now.items c.in-Some.item.now (search rules) c.in-Some.ensures.lookup c.deadline-deadline.ensures c.list.ensures c.requires
