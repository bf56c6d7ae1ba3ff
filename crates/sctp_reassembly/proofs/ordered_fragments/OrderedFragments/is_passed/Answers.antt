use Rattle.std.proofs.Common.{◌≡◌, true, subst, rules}
use Rattle.sctp_fragments.specs.Held.{intervals_of, NoneInTurn}
use Rattle.sctp_reassembly.proofs.ordered_fragments.OrderedFragments.is_passed.Goals as goal

pub returns-clause-settled : goal.returns-clause-settled
returns-clause-settled g c passed =
    let settled : c.self.inside.is_settled ≡ true = search rules in
    subst (λ s. NoneInTurn s.next (intervals_of s.held)) c.self.view_is (c.self.invariant.ordered.settled settled)
