use Rattle.std.proofs.Common.{◌≡◌, List, ◌∷◌, ap, sym, subst, ◌∙◌}
use Rattle.sctp_fragments.specs.Runs.{from_rank}
use Rattle.sctp_fragments.specs.Held.{Held, rank_of}
use Rattle.sctp_fragments.specs.ReassemblyKey.{rank_at}
use Rattle.sctp_fragments.specs.Interval.{held_of, lists_of}
use Rattle.sctp_reassembly.specs.Places.{all_of}
use Rattle.sctp_reassembly.proofs.ListLemmas.{begins_from}
use Rattle.sctp_reassembly.proofs.interval_map.IntervalMap.first.Goals as goal

pub returns-in-Some-clause-some : goal.returns-in-Some-clause-some
returns-in-Some-clause-some g c n l =
    let f = held_of g.K.ReassemblyKey.number g.K.ReassemblyKey.index in
    let some = ap (λ first. lists_of f (all_of first c.self.inside.later.entries)) (sym c.in-Some.is) in
    subst (λ t. from_rank rank_of n t ≡ t) c.self.view_is
    (begins_from (lists_of f (all_of c.self.inside.first c.self.inside.later.entries)) (rank_at g.K.ReassemblyKey.number g.K.ReassemblyKey.index c.first.result.now.key) c.self.invariant.kept.runs (λ e es more is. ap rank_of (c.first.ensures e es (heads _ (e ∷ es) _ more (some ∙ is)))) n l)
  where
    heads : (x y : List Held) (xs ys : List (List Held)) → x ∷ xs ≡ y ∷ ys → x ≡ y
    heads x y xs ys is = cc
