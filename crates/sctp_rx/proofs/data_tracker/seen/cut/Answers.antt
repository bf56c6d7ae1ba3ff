use Rattle.std.proofs.Common.{rules, ◌≡◌, ◌+◌, true, [], ◌∷◌, ◌++◌, ap, sym, subst, ◌∙◌}
use Rattle.std.specs.List.{All}
use Rattle.std.specs.Map.{keys_of}
use Rattle.std.specs.Ordering.{is_gt, nat_cmp}
use Rattle.sctp_rx.proofs.SeenPlacesLemmas.{cut_at}
use Rattle.sctp_rx.proofs.data_tracker.seen.cut.Goals as goal

pub returns-in-Some : goal.returns-in-Some
returns-in-Some c =
    let is : c.args.runs.now.entries ≡ c.replace-low.result.entries ++ c.replace-low.new.dest.entries = c.in-Ok.ensures.parts ∙ (ap (λ m. m.entries ++ c.in-Ok.rest.entries) (sym c.replace-low.ensures.value) ∙ ap (λ m. c.replace-low.result.entries ++ m.entries) (sym c.replace-low.ensures.after)) in
    let last : c.replace-low.result.entries ≡ c.pop_last.new.self.entries ++ (c.in-Some.field-0-0, c.in-Some.last) ∷ [] = search rules in
    let gt : All (λ q. is_gt (nat_cmp (c.args.point + 1) q) ≡ true) (keys_of c.replace-low.result.entries) = subst (λ m. All (λ q. is_gt (nat_cmp (c.args.point + 1) q) ≡ true) (keys_of m.entries)) (sym c.replace-low.ensures.value) c.in-Ok.ensures.all_below in
    cut_at c.args.point c.max.result c.args.runs.now.entries c.replace-low.result.entries c.replace-low.new.dest.entries c.pop_last.new.self.entries c.in-Some.field-0-0 c.in-Some.last is last gt c.max.ensures c.requires.runs
