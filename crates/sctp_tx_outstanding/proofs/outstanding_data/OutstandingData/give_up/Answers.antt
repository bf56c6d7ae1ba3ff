use Rattle.std.proofs.Common.{◌≡◌, ap, subst, ◌∙◌}
use Rattle.std.specs.Prelude.{map}
use Rattle.sctp_tx_outstanding.specs.Item.{abandon}
use Rattle.sctp_tx_outstanding.specs.Losses.{abandon_message}
use Rattle.sctp_tx_outstanding.specs.Messages.{IsWhole}
use Rattle.sctp_tx_outstanding.specs.OutstandingData.{Items, Kept, Outstanding, change_at}
use Rattle.sctp_tx_outstanding.specs.Views.{discard_of}
use Rattle.sctp_tx_outstanding.proofs.MessagesLemmas.{whole_given_up}
use Rattle.sctp_tx_outstanding.proofs.outstanding_data.OutstandingData.give_up.Goals as goal

pub returns-then-is_whole_at-clause-ok : goal.returns-then-is_whole_at-clause-ok
returns-then-is_whole_at-clause-ok c =
    let id = c.args.message_id.0 in
    let k = c.args.place in
    let d = c.self.inside in
    let first = d.first.0 in
    let s : Items = record { acked = d.acked; kept = d.kept.items; breaks = d.breakpoints.numbers; discards = map discard_of d.discards.items; is_partial = d.is_partial; is_interleaved = d.kept.is_interleaved } in
    let whole : IsWhole id k d.kept.items = subst (λ (x : Kept). IsWhole id k x.items) c.find_messages.ensures (c.is_whole_at.ensures c.if-is_whole_at.true) in
    let changed : c.change.new.self ≡ record d.kept { items = change_at k (λ i. abandon i) d.kept.items } =
    c.change.ensures.items ∙ ap (λ (x : Kept). record x { items = change_at k (λ i. abandon i) x.items }) c.find_messages.ensures in
    ap (λ (x : Kept). record { first = first; items = record s { kept = x.items; is_interleaved = x.is_interleaved } }) changed
    ∙ (ap (λ (t : Items). record { first = first; items = t }) (whole_given_up id k s whole) ∙ ap (λ (o : Outstanding). record o { items = abandon_message id o.items }) c.self.view_is)
