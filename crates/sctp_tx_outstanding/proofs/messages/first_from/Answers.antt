use Rattle.std.proofs.Common.{ℕ, List, subst}
use Rattle.std.specs.Prelude.{Err}
use Rattle.std.specs.Ordering.{nat_cmp}
use Rattle.std.specs.List.Sorted.{IsBinarySearchResult}
use Rattle.std.proofs.lemmas.List.Sorted.{searched}
use Rattle.sctp_tx_outstanding.proofs.MessagesLemmas.{first_above}
use Rattle.sctp_tx_outstanding.proofs.messages.first_from.Goals as goal

pub returns-in-Err : goal.returns-in-Err
returns-in-Err c =
    let keys = c.args.sorted.now.items in
    let from = c.args.from in
    let place = c.in-Err.place in
    let position : IsBinarySearchResult (λ y. nat_cmp y from) keys (Err place) = subst (λ (ks : List ℕ). IsBinarySearchResult (λ y. nat_cmp y from) ks (Err place)) c.deref.ensures.value c.in-Err.ensures.position in
    let found = searched keys from (Err place) position (λ i j le within. c.requires i j 0 le within) in
    first_above keys from place found.1 found.2
