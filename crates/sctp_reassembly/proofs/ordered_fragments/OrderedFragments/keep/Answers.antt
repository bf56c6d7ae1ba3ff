use Rattle.std.proofs.Common.{◌≡◌, ◌+◌, false, ap, sym, subst, ◌∙◌, arith, length, rules}
use Rattle.std.specs.Prelude.{nat_lt}
use Rattle.sctp_fragments.specs.Held.{bytes_of, intervals_of, NoneInTurn}
use Rattle.sctp_fragments.specs.ReassemblyKey.{pair_rank}
use Rattle.sctp_fragments.specs.Interval.{as_held}
use Rattle.sctp_reassembly.specs.Delivery.{OrderedStream, ordered_arrival}
use Rattle.sctp_reassembly.proofs.DeliverLemmas.{arrives_settled, nothing_more}
use Rattle.sctp_reassembly.proofs.InterruptedLemmas.{on_err, arrived_in_part}
use Rattle.sctp_reassembly.proofs.ordered_fragments.OrderedFragments.keep.Goals as goal

pub returns-then-self-clause-ok : goal.returns-then-self-clause-ok
returns-then-self-clause-ok g c =
    let x = as_held (g.K.ReassemblyKey.number c.args.key) (g.K.ReassemblyKey.index c.args.key) c.args.fragment in
    let s : OrderedStream = record { next = c.self.inside.last + 1; held = c.self.inside.list } in
    let late : nat_lt x.number s.next ≡ false = search rules in
    let still_settled = c.stays_settled-self-inside.ensures in
    let none = c.in_ok-is_turn.ensures.none (still_settled.turn c.if-self.true) (c.self.invariant.ordered.settled (still_settled.settled c.if-self.true)) in
    let arrived = arrives_settled x s c.add_in.new.list late c.in_ok-is_turn.ensures.value none in
    sym (ap (λ d. d.stream) arrived) ∙ ap (λ t. (ordered_arrival x t).stream) c.self.view_is

pub returns-then-self-clause-ready : goal.returns-then-self-clause-ready
returns-then-self-clause-ready g c =
    let x = as_held (g.K.ReassemblyKey.number c.args.key) (g.K.ReassemblyKey.index c.args.key) c.args.fragment in
    let s : OrderedStream = record { next = c.self.inside.last + 1; held = c.self.inside.list } in
    let late : nat_lt x.number s.next ≡ false = search rules in
    let still_settled = c.stays_settled-self-inside.ensures in
    let none = c.in_ok-is_turn.ensures.none (still_settled.turn c.if-self.true) (c.self.invariant.ordered.settled (still_settled.settled c.if-self.true)) in
    let arrived = arrives_settled x s c.add_in.new.list late c.in_ok-is_turn.ensures.value none in
    nothing_more c.args.ready.now _ (ap (λ t. (ordered_arrival x t).messages) (sym c.self.view_is) ∙ ap (λ d. d.messages) arrived)

pub returns-in_err-deliver-clause-err : goal.returns-in_err-deliver-clause-err
returns-in_err-deliver-clause-err g c =
    let x = as_held (g.K.ReassemblyKey.number c.args.key) (g.K.ReassemblyKey.index c.args.key) c.args.fragment in
    on_err c.from_residual-in_err-deliver.result (arrived_in_part x c.args.self.now _ _ c.add_in.new.list c.args.ready.now c.deliver.new.ready c.requires.due c.self.view_is c.in_ok-is_turn.ensures.value c.in_err-deliver.ensures.err)

pub returns-in_err-deliver-clause-bytes : goal.returns-in_err-deliver-clause-bytes
returns-in_err-deliver-clause-bytes g c = omega (arith, c.in_ok-is_turn.ensures.bytes, c.deliver.ensures.bytes, ap (λ (s : OrderedStream). bytes_of s.held) c.self.view_is)

pub returns-in_err-deliver-clause-fragments : goal.returns-in_err-deliver-clause-fragments
returns-in_err-deliver-clause-fragments g c = omega (arith, c.in_ok-is_turn.ensures.fragments, c.deliver.ensures.fragments, ap (λ (s : OrderedStream). length s.held) c.self.view_is)

pub returns-clause-bytes : goal.returns-clause-bytes
returns-clause-bytes g c = omega (arith, c.in_ok-is_turn.ensures.bytes, c.deliver.ensures.bytes, ap (λ (s : OrderedStream). bytes_of s.held) c.self.view_is)

pub returns-clause-fragments : goal.returns-clause-fragments
returns-clause-fragments g c = omega (arith, c.in_ok-is_turn.ensures.fragments, c.deliver.ensures.fragments, ap (λ (s : OrderedStream). length s.held) c.self.view_is)

pub returns-then-self-clause-bytes : goal.returns-then-self-clause-bytes
returns-then-self-clause-bytes g c = omega (arith, c.in_ok-is_turn.ensures.bytes, ap (λ (s : OrderedStream). bytes_of s.held) c.self.view_is)

pub returns-then-self-clause-fragments : goal.returns-then-self-clause-fragments
returns-then-self-clause-fragments g c = omega (arith, c.in_ok-is_turn.ensures.fragments, ap (λ (s : OrderedStream). length s.held) c.self.view_is)

pub invariant_of-self : goal.invariant_of-self
invariant_of-self g c = record {
  ordered = record {
    least = c.self.invariant.ordered.least;
    settled = λ on. subst (λ hs. NoneInTurn (c.self.inside.last + 1) (intervals_of hs)) (sym c.in_err-is_turn.ensures.err) (c.self.invariant.ordered.settled on);
  };
  noted = c.in_err-is_turn.ensures.noted (pair_rank (c.self.inside.last + 1) 0) c.self.invariant.noted;
}

pub invariant_of-self-then-self : goal.invariant_of-self-then-self
invariant_of-self-then-self g c =
    let still_settled = c.stays_settled-self-inside.ensures in
    let none = c.in_ok-is_turn.ensures.none (still_settled.turn c.if-self.true) (c.self.invariant.ordered.settled (still_settled.settled c.if-self.true)) in
    record {
      ordered = record { least = c.self.invariant.ordered.least; settled = λ on. none };
      noted = c.in_ok-is_turn.ensures.noted (pair_rank (c.self.inside.last + 1) 0) c.self.invariant.noted;
    }

pub deliver-requires-clause-noted : goal.deliver-requires-clause-noted
deliver-requires-clause-noted g c = c.in_ok-is_turn.ensures.noted (pair_rank (c.self.inside.last + 1) 0) c.self.invariant.noted
