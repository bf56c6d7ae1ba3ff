use Rattle.std.proofs.Common.{◌≡◌, ◌+◌, true, length, slice_index_or, ap, ◌∙◌, subst, sym, rules, arith}
use Rattle.std.proofs.lemmas.Bool.Decides.{nat_tests}
use Rattle.sctp_chunk.specs.Chunk.{FragmentTree}
use Rattle.sctp_tx_outstanding.specs.Item.{is_of}
use Rattle.sctp_tx_outstanding.specs.Messages.{NoneIsOf}
use Rattle.sctp_tx_outstanding.specs.OutstandingData.{Kept}
use Rattle.sctp_tx_outstanding.proofs.MessagesLemmas.{end_here}
use Rattle.sctp_tx_outstanding.proofs.kept.Kept.is_whole_at.Goals as goal

pub returns : goal.returns
returns c = λ yes.
    let is = c.args.self.now.items in
    let id = c.args.message_id.0 in
    let place = c.args.place in
    let i = c.in-Some.item.now in
    let inside = c.self.inside.items.items in
    let finds = c.self.invariant.messages in
    let here : is_of id i ≡ true = grind (arith, nat_tests, c.message_id.ensures, c.if-message_id.false) in
    let ends : c.data.result.now.is_end ≡ true = search rules in
    let at : i ≡ slice_index_or is place i = c.in-Some.ensures.lookup ∙ ap (λ (k : Kept). slice_index_or k.items place i) c.self.view_is in
    record {
      before = subst (λ (k : Kept). NoneIsOf id 0 place k.items) c.self.view_is (c.is_alone.ensures.before yes inside finds);
      behind = subst (λ (k : Kept). NoneIsOf id (place + 1) (length k.items) k.items) c.self.view_is (c.is_alone.ensures.behind yes inside finds);
      ends = end_here id place is i (search rules) at here (ap (λ (f : FragmentTree). f.is_end) (sym c.data.ensures) ∙ ends);
    }
