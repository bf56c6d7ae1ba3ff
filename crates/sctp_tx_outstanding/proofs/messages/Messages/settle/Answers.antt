use Rattle.std.specs.List.Sorted.{IsNonDecreasing}
use Rattle.std.proofs.lemmas.List.Sorted.{IsNonDecreasingBy-from_sort, non_decreasing_from_is_sorted}
use Rattle.std.proofs.Common.{ℕ, List, true, subst}
use Rattle.sctp_tx_outstanding.proofs.MessagesLemmas.{reordered}
use Rattle.sctp_tx_outstanding.proofs.messages.Messages.settle.Goals as goal

pub returns-then-not-is_sorted : goal.returns-then-not-is_sorted
returns-then-not-is_sorted c = λ is lists.
    let old = c.args.self.now in
    record {
      lists = λ yes. reordered old.sorted.items c.sort_unstable.new.self.items old.added.keys old.first is c.sort_unstable.ensures.permutation (lists yes);
      ascends = IsNonDecreasingBy-from_sort (λ n. n) c.sort_unstable.new.self.items c.sort_unstable.ensures.sorted;
    }

pub returns-else-not-is_sorted : goal.returns-else-not-is_sorted
returns-else-not-is_sorted c = λ is lists. record {
  lists = lists;
  ascends = subst (λ (ks : List ℕ). IsNonDecreasing ks) c.deref.ensures.value (non_decreasing_from_is_sorted c.deref.result.now true c.if-not-is_sorted.ensures.cases);
}
