use Rattle.std.proofs.Common.{arith, map}
use Rattle.sctp_fragments.proofs.PieceLemmas.{not_alone, mapped_some, more_left}
use Rattle.sctp_fragments.proofs.interval.pieces.Pieces.is_single.Goals as goal

pub returns-then-not-is_empty : goal.returns-then-not-is_empty
returns-then-not-is_empty g c =
    let p = c.args.self.now in
    not_alone p.first.items (map (λ d. d.items) p.middle.items) p.last.items p.some (mapped_some (λ d. d.items) p.middle.items (more_left p.middle.items p.middle.len p.middle.ok.0 c.if-not-is_empty.ensures)) p.pieces
