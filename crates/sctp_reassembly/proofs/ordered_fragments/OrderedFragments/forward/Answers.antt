use Rattle.std.proofs.Common.{◌≡◌, ◌+◌, length, ap, sym, subst, suc, ◌∙◌, arith}
use Rattle.sctp_fragments.specs.ReassemblyKey.{pair_rank, rank_at}
use Rattle.sctp_fragments.specs.Runs.{from_rank}
use Rattle.sctp_fragments.specs.Held.{rank_of, bytes_of, intervals_of, is_in_turn, NoneInTurn}
use Rattle.sctp_reassembly.specs.Delivery.{OrderedStream}
use Rattle.sctp_reassembly.proofs.DeliverLemmas.{nothing_more}
use Rattle.sctp_reassembly.proofs.TurnLemmas.{passes_next}
use Rattle.sctp_reassembly.proofs.ListLemmas.{turn_complete}
use Rattle.sctp_reassembly.proofs.FinishedLemmas.{none_later, none_left}
use Rattle.sctp_reassembly.proofs.ordered_fragments.OrderedFragments.forward.Goals as goal

pub returns-then-is_passed-clause-ok : goal.returns-then-is_passed-clause-ok
returns-then-is_passed-clause-ok g c n number index =
    let s = c.args.self.now in
    let here = ap (λ (t : OrderedStream). t.held) c.self.view_is in
    let passed = c.is_passed-is_passed.ensures.next c.if-is_passed.true in
    let rank : rank_at g.K.ReassemblyKey.number g.K.ReassemblyKey.index c.args.first ≡ pair_rank (suc n) 0 = omega (arith, number, index) in
    let left : c.retain.new.self ≡ from_rank rank_of (pair_rank (suc n) 0) s.held = c.retain.ensures.value ∙ (ap (from_rank rank_of _) here ∙ ap (λ r. from_rank rank_of r s.held) rank) in
    let none = c.retain.ensures.stays (is_in_turn s.next) (turn_complete s.next) (subst (λ hs. NoneInTurn s.next (intervals_of hs)) (sym here) (c.is_passed-is_passed.ensures.settled c.if-is_passed.true)) in
    ap (λ k. (let t : OrderedStream = record { next = k; held = c.retain.new.self } in t)) (ap (λ (t : OrderedStream). t.next) c.self.view_is) ∙ sym (ap (λ d. d.stream) (passes_next n s c.retain.new.self (omega (arith, number, passed)) left none))

pub returns-then-is_passed-clause-ready : goal.returns-then-is_passed-clause-ready
returns-then-is_passed-clause-ready g c n number index =
    let s = c.args.self.now in
    let here = ap (λ (t : OrderedStream). t.held) c.self.view_is in
    let passed = c.is_passed-is_passed.ensures.next c.if-is_passed.true in
    let rank : rank_at g.K.ReassemblyKey.number g.K.ReassemblyKey.index c.args.first ≡ pair_rank (suc n) 0 = omega (arith, number, index) in
    let left : c.retain.new.self ≡ from_rank rank_of (pair_rank (suc n) 0) s.held = c.retain.ensures.value ∙ (ap (from_rank rank_of _) here ∙ ap (λ r. from_rank rank_of r s.held) rank) in
    let none = c.retain.ensures.stays (is_in_turn s.next) (turn_complete s.next) (subst (λ hs. NoneInTurn s.next (intervals_of hs)) (sym here) (c.is_passed-is_passed.ensures.settled c.if-is_passed.true)) in
    nothing_more c.args.ready.now _ (ap (λ d. d.messages) (passes_next n s c.retain.new.self (omega (arith, number, passed)) left none))

pub returns-then-is_passed-clause-bytes : goal.returns-then-is_passed-clause-bytes
returns-then-is_passed-clause-bytes g c = omega (arith, c.retain.ensures.bytes, ap (λ (t : OrderedStream). bytes_of t.held) c.self.view_is)

pub returns-then-is_passed-clause-fragments : goal.returns-then-is_passed-clause-fragments
returns-then-is_passed-clause-fragments g c = omega (arith, c.retain.ensures.fragments, ap (λ (t : OrderedStream). length t.held) c.self.view_is)

pub invariant_of-self : goal.invariant_of-self
invariant_of-self g c = record {
  ordered = record {
    least = c.self.invariant.ordered.least;
    settled = λ on. c.retain.ensures.stays (is_in_turn (c.self.inside.last + 1)) (turn_complete (c.self.inside.last + 1)) (c.self.invariant.ordered.settled on);
  };
  noted = c.pass.ensures (pair_rank (c.self.inside.last + 1) 0) (intervals_of c.retain.new.self) (omega (arith, c.number.ensures, c.is_passed-is_passed.ensures.next c.if-is_passed.true, ap (λ (t : OrderedStream). t.next) c.self.view_is))
      (none_left g.K.ReassemblyKey.number g.K.ReassemblyKey.index (pair_rank (c.self.inside.last + 1) 0) c.self.inside.finished (intervals_of c.self.inside.list) (intervals_of c.retain.new.self) c.retain.ensures.stays c.self.invariant.noted);
}

pub deliver-requires-clause-noted : goal.deliver-requires-clause-noted
deliver-requires-clause-noted g c =
    c.pass.ensures (pair_rank (c.max-self-inside.result + 1) 0) (intervals_of c.retain.new.self) (omega (arith, c.number.ensures, c.number-2.ensures, c.max-self-inside.ensures))
    (none_later g.K.ReassemblyKey.number g.K.ReassemblyKey.index (pair_rank (c.self.inside.last + 1) 0) (pair_rank (c.max-self-inside.result + 1) 0) c.self.inside.finished (intervals_of c.retain.new.self) (omega (arith, c.max-self-inside.ensures))
    (none_left g.K.ReassemblyKey.number g.K.ReassemblyKey.index (pair_rank (c.self.inside.last + 1) 0) c.self.inside.finished (intervals_of c.self.inside.list) (intervals_of c.retain.new.self) c.retain.ensures.stays c.self.invariant.noted))
