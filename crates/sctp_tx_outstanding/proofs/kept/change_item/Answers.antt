use Rattle.std.proofs.Common.{◌≡◌, ap, sym, ◌∙◌, rules}
use Rattle.sctp_tx_outstanding.specs.Change.{apply_change}
use Rattle.sctp_tx_outstanding.specs.Totals.{parts}
use Rattle.sctp_tx_outstanding.proofs.TotalsLemmas.{change_beyond, change_set, change_same, exchanges_at}
use Rattle.sctp_tx_outstanding.proofs.kept.change_item.Goals as goal

pub returns-in_default-clause-items : goal.returns-in_default-clause-items
returns-in_default-clause-items c = change_beyond c.args.place (apply_change c.args.change) c.args.items.now.items (search rules)

pub returns-then-stays-clause-items : goal.returns-then-stays-clause-items
returns-then-stays-clause-items c =
    change_set c.args.place (apply_change c.args.change) c.args.items.now.items c.in-Some.item.now c.in-Some.item.now (search rules) c.in-Some.ensures.value (sym (c.stays.ensures c.if-stays.true))

pub returns-then-stays-clause-same : goal.returns-then-stays-clause-same
returns-then-stays-clause-same c =
    let i = c.in-Some.item.now in
    let still : apply_change c.args.change i ≡ i = c.stays.ensures c.if-stays.true in
    change_set c.args.place (apply_change c.args.change) c.args.items.now.items i i (search rules) c.in-Some.ensures.value (sym still)
    ∙ change_same c.args.place (apply_change c.args.change) c.args.items.now.items i (search rules) c.in-Some.ensures.value still

pub returns-clause-items : goal.returns-clause-items
returns-clause-items c = change_set c.args.place (apply_change c.args.change) c.args.items.now.items c.in-Some.item.now c.apply.new.item (search rules) c.in-Some.ensures.value c.apply.ensures

pub returns-clause-parts : goal.returns-clause-parts
returns-clause-parts c =
    exchanges_at c.args.is_interleaved c.args.place c.args.change c.args.items.now.items c.in-Some.item.now c.of-old.result c.of-new.result (search rules) c.in-Some.ensures.value c.of-old.ensures.parts
    (c.of-new.ensures.parts ∙ ap (λ i. parts c.args.is_interleaved i) c.apply.ensures)
