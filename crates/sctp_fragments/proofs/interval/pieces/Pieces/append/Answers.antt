use Rattle.std.proofs.Common.{◌++◌, ◌∷◌, [], refl, ap, ◌∙◌, map}
use Rattle.sctp_fragments.specs.Runs.{flat}
use Rattle.sctp_fragments.proofs.PieceLemmas.{appended, some_two}
use Rattle.sctp_fragments.proofs.interval.pieces.Pieces.append.Goals as goal

pub invariant_of-self : goal.invariant_of-self
invariant_of-self g c =
    let p = c.args.self.now in
    let o = c.args.others in
    record {
      some = p.some;
      pieces = some_two (λ d. d.items) p.last.items o.first.items c.args.entry p.middle.items c.push_back_reserved-2.new.self.items c.push_back_reserved-3.new.self.items c.append_all.new.queue.items o.middle.items c.replace.result o.first
          (ap (λ d. d.items) c.replace.ensures.value ∙ c.push_back_reserved.ensures.items) refl c.push_back_reserved-2.ensures.items c.push_back_reserved-3.ensures.items c.append_all.ensures o.some p.pieces o.pieces;
    }

pub returns : goal.returns
returns g c =
    let p = c.args.self.now in
    let o = c.args.others in
    ap (λ d. p.first.items ++ (flat (map (λ q. q.items) c.append_all.new.queue.items) ++ d.items)) c.replace.ensures.after
    ∙ appended (λ d. d.items) p.first.items p.last.items o.first.items o.last.items c.args.entry p.middle.items c.push_back_reserved-2.new.self.items c.push_back_reserved-3.new.self.items c.append_all.new.queue.items o.middle.items c.replace.result o.first
    (ap (λ d. d.items) c.replace.ensures.value ∙ c.push_back_reserved.ensures.items) refl c.push_back_reserved-2.ensures.items c.push_back_reserved-3.ensures.items c.append_all.ensures
