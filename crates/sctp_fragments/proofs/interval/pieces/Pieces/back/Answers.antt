use Rattle.std.proofs.Common.{◌-◌, arith, refl, ap, ◌∙◌, get_or}
use Rattle.sctp_fragments.proofs.PieceLemmas.{last_some, back_middle, none_left}
use Rattle.sctp_fragments.proofs.interval.pieces.Pieces.back.Goals as goal

pub overflow_sub-len-2 : goal.overflow_sub-len-2
overflow_sub-len-2 g c =
    let middle = c.args.self.now.middle in
    let piece = c.in-Some-back.piece.now in
    let at = c.in-Some-back.ensures.lookup ∙ ap (λ n. get_or middle.items (n - 1) piece) middle.ok.0 in
    let l = last_some (λ d. d.items) middle.items piece (omega (arith, c.in-Some-back.ensures.variant.0 refl, middle.ok.0)) at c.args.self.now.pieces in
    omega (arith, l, c.len-2.ensures, piece.ok.0)

pub index-requires-2 : goal.index-requires-2
index-requires-2 g c = omega (arith, overflow_sub-len-2 g c, c.len-2.ensures)

pub returns : goal.returns
returns g c =
    let middle = c.args.self.now.middle in
    let last = c.args.self.now.last in
    let piece = c.in-Some-back.piece.now in
    let entry = c.index-2.result.now in
    let at = c.in-Some-back.ensures.lookup ∙ ap (λ n. get_or middle.items (n - 1) piece) middle.ok.0 in
    back_middle (λ d. d.items) c.args.self.now.first.items middle.items last.items piece entry (omega (arith, c.in-Some-back.ensures.variant.0 refl, middle.ok.0)) at c.args.self.now.pieces
    (none_left last.items last.len last.ok.0 c.in_default.ensures.variant.1)
    (c.index-2.ensures ∙ ap (λ n. get_or piece.items (n - 1) entry) (c.len-2.ensures ∙ piece.ok.0))
