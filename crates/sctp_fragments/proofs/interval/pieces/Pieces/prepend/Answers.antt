use Rattle.std.proofs.Common.{◌<◌, ◌++◌, length, map, ap, sym, subst, ◌∙◌}
use Rattle.sctp_fragments.specs.Runs.{flat}
use Rattle.sctp_fragments.proofs.PieceLemmas.{prepended, some_both}
use Rattle.sctp_fragments.proofs.interval.pieces.Pieces.prepend.Goals as goal

pub invariant_of-self : goal.invariant_of-self
invariant_of-self g c =
    let o = c.args.others in
    record {
      some = subst (λ d. 0 < length d.items) (sym c.replace.ensures.after) o.some;
      pieces = some_both (λ d. d.items) o.middle.items c.push_piece.new.pieces.items c.prepend_all.new.queue.items c.prepend_all.ensures o.pieces c.push_piece.ensures.pieces;
    }

pub returns : goal.returns
returns g c =
    let p = c.args.self.now in
    let o = c.args.others in
    ap (λ d. d.items ++ (flat (map (λ q. q.items) c.prepend_all.new.queue.items) ++ p.last.items)) c.replace.ensures.after
    ∙ prepended (λ d. d.items) p.first.items p.last.items o.first.items o.last.items c.args.entry p.middle.items c.push_front_reserved-2.new.self.items c.push_piece.new.pieces.items c.prepend_all.new.queue.items o.middle.items c.replace.result
    (ap (λ d. d.items) c.replace.ensures.value ∙ c.push_front_reserved.ensures.items) c.push_front_reserved-2.ensures.items c.push_piece.ensures.items c.prepend_all.ensures
