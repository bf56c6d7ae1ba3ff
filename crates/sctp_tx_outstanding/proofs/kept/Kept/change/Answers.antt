use Rattle.std.proofs.Common.{◌≡◌, List, sym, subst, ◌∙◌}
use Rattle.std.specs.Prelude.{None, slice_get}
use Rattle.sctp_tx_outstanding.specs.Item.{Item}
use Rattle.sctp_tx_outstanding.specs.Change.{apply_change}
use Rattle.sctp_tx_outstanding.specs.OutstandingData.{Kept, change_at}
use Rattle.sctp_tx_outstanding.specs.Indexes.{AreIndexes}
use Rattle.sctp_tx_outstanding.specs.Sack.{open_size}
use Rattle.sctp_tx_outstanding.proofs.ReceivedLemmas.{closed_at}
use Rattle.sctp_tx_outstanding.proofs.kept.Kept.change.Goals as goal

pub invariant_of-self : goal.invariant_of-self
invariant_of-self c = subst (λ (is : List Item). AreIndexes c.self.inside.is_interleaved is c.self.inside.indexes) (sym c.in_default.ensures.same) c.self.invariant

pub invariant_of-self-2 : goal.invariant_of-self-2
invariant_of-self-2 c =
    c.follow.ensures c.self.inside.is_interleaved c.self.inside.items.items c.in-Some.ensures.items c.in-Some.ensures.parts c.self.invariant

pub returns-in_default-clause-size : goal.returns-in_default-clause-size
returns-in_default-clause-size c = λ acks.
    let k = c.args.place in
    let is = c.self.inside.items.items in
    let stays = sym c.in_default.ensures.items ∙ c.in_default.ensures.same in
    let closed : open_size c.self.inside.is_interleaved (slice_get is k) ≡ None = closed_at c.self.inside.is_interleaved k is (subst (λ how. change_at k (apply_change how) is ≡ is) acks stays) in
    sym (subst (λ (x : Kept). open_size x.is_interleaved (slice_get x.items k) ≡ None) c.self.view_is closed)
