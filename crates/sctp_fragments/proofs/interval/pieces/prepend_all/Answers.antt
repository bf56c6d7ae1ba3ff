use Rattle.std.proofs.Common.{◌++◌, ◌∷◌, [], refl, ap, sym, ◌∙◌, append_assoc, arith}
use Rattle.sctp_fragments.proofs.interval.pieces.prepend_all.Goals as goal

pub loop-last-init : goal.loop-last-init
loop-last-init g c = record {
  joined = refl;
  room = c.requires;
}

pub loop-last-preserved : goal.loop-last-preserved
loop-last-preserved g c = record {
  joined = ap (λ t. c.pop_back.new.self.items ++ t) c.push_front_reserved.ensures.items
      ∙ (sym (append_assoc c.pop_back.new.self.items (c.in-Some.last ∷ []) c.loop-last.queue.items)
      ∙ (ap (λ t. t ++ c.loop-last.queue.items) (sym c.in-Some.ensures.items) ∙ c.loop-last.invariant.joined));
  room = omega (arith, c.push_front_reserved.ensures.len, c.push_front_reserved.ensures.capacity, c.in-Some.ensures.cases, c.loop-last.invariant.room);
}
