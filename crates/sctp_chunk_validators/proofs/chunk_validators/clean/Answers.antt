use Rattle.std.proofs.Common.{rules, ◌≡◌, ◌∙◌, true, sym, arith}
use Rattle.std.specs.List.{filter}
use Rattle.std.proofs.lemmas.List.Elements.{filter_from_retain, filter_passes, All-same}
use Rattle.std.proofs.lemmas.List.Sorted.{list_any-IsPermutation, All-permutation, IsNonDecreasingBy-from_sort_by_key}
use Rattle.sctp_chunk.specs.Covered.{covers}
use Rattle.sctp_chunk_validators.proofs.CoveredLemmas.{is_full, is_covered_filter, Ascend_from_sorted}
use Rattle.sctp_chunk_validators.proofs.chunk_validators.clean.Goals as goal

pub join_touching-requires : goal.join_touching-requires
join_touching-requires c =
    let blocks = c.args.blocks.now.items in
    let kept : c.retain.new.self.items ≡ filter is_full blocks = filter_from_retain _ is_full (λ p x b q h. search rules) _ _ _ c.retain.ensures.filtered in
    let full = All-same (λ b. is_full b ≡ true) c.retain.new.self.items (filter is_full blocks) kept (filter_passes is_full blocks) in
    let up = IsNonDecreasingBy-from_sort_by_key (λ b. b.start) _ c.sort_unstable_by_key.ensures.sorted (λ a r q k. search rules) in
    Ascend_from_sorted 0 _ (λ d h. omega arith) up (All-permutation (λ b. is_full b ≡ true) _ _ c.sort_unstable_by_key.ensures.permutation full)

pub returns-clause-covered : goal.returns-clause-covered
returns-clause-covered c = λ offset.
    let blocks = c.args.blocks.now.items in
    let kept : c.retain.new.self.items ≡ filter is_full blocks = filter_from_retain _ is_full (λ p x b q h. search rules) _ _ _ c.retain.ensures.filtered in
    let moved = list_any-IsPermutation (covers offset) _ _ c.sort_unstable_by_key.ensures.permutation in
    c.join_touching.ensures.covered offset ∙ (sym moved ∙ rw kept (is_covered_filter offset blocks))
