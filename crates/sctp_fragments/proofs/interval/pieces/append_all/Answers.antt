use Rattle.std.proofs.Common.{◌++◌, ◌∷◌, [], refl, ap, sym, ◌∙◌, append_assoc, arith}
use Rattle.sctp_fragments.proofs.interval.pieces.append_all.Goals as goal

pub loop-next-init : goal.loop-next-init
loop-next-init g c = record {
  joined = refl;
  room = c.requires;
}

pub loop-next-preserved : goal.loop-next-preserved
loop-next-preserved g c = record {
  joined = ap (λ t. t ++ c.pop_front.new.self.items) c.push_back_reserved.ensures.items
      ∙ (append_assoc c.loop-next.queue.items (c.in-Some.next ∷ []) c.pop_front.new.self.items
      ∙ (ap (λ t. c.loop-next.queue.items ++ t) (sym c.in-Some.ensures.items) ∙ c.loop-next.invariant.joined));
  room = omega (arith, c.push_back_reserved.ensures.len, c.push_back_reserved.ensures.capacity, c.in-Some.ensures.cases, c.loop-next.invariant.room);
}
