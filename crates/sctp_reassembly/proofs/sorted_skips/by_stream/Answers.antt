use Rattle.std.proofs.Common.{◌≡◌, rules, ap, ◌∙◌}
use Rattle.std.proofs.lemmas.List.Sorted.{answers_always, IsNonDecreasingBy-from_sort}
use Rattle.sctp_reassembly.specs.ReassemblyStreams.{skipped_id, by_stream}
use Rattle.sctp_reassembly.proofs.SortLemmas.{sorted_by_stream}
use Rattle.sctp_reassembly.proofs.sorted_skips.by_stream.Goals as goal

pub returns : goal.returns
returns c =
    let given : c.in_ok-sorted.sorted.items ≡ c.args.entries.now = search rules in
    let keys = answers_always _ _ _ (λ f a r next called. search rules) in
    sorted_by_stream _ _ (IsNonDecreasingBy-from_sort skipped_id _ (c.in_ok-sort_by_key.ensures.sorted skipped_id keys)) (c.sort_by_key.ensures.stable skipped_id keys) ∙ ap by_stream given
