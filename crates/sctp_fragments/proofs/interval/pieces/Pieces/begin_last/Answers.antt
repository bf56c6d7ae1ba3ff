use Rattle.std.proofs.Common.{◌<◌, ◌++◌, ◌∷◌, [], length, ap, sym, subst, ◌∙◌}
use Rattle.sctp_fragments.proofs.PieceLemmas.{begun, some_back}
use Rattle.sctp_fragments.proofs.interval.pieces.Pieces.begin_last.Goals as goal

pub invariant_of-self-2 : goal.invariant_of-self-2
invariant_of-self-2 g c =
    let p = c.args.self.now in
    record {
      some = p.some;
      pieces = some_back (λ d. d.items) p.middle.items c.push_back_reserved.new.self.items c.replace.result
          (c.push_back_reserved.ensures.items ∙ ap (λ t. t ++ c.replace.result ∷ []) c.reserve.ensures.items) p.pieces
          (subst (λ d. 0 < length d.items) (sym c.replace.ensures.value) c.requires);
    }

pub returns : goal.returns
returns g c =
    let p = c.args.self.now in
    begun (λ d. d.items) p.first.items p.last.items p.middle.items c.push_back_reserved.new.self.items c.replace.result c.replace.new.dest.items
    (ap (λ d. d.items) c.replace.ensures.value) (c.push_back_reserved.ensures.items ∙ ap (λ t. t ++ c.replace.result ∷ []) c.reserve.ensures.items)
    (ap (λ d. d.items) c.replace.ensures.after ∙ c.new-piece.ensures.items)
