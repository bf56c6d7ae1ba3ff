use Rattle.std.proofs.Common.{sym, ◌∙◌, arith}
use Rattle.sctp_fragments.specs.ReassemblyKey.{rank_at}
use Rattle.sctp_fragments.specs.Interval.{held_of}
use Rattle.sctp_reassembly.proofs.MapLemmas.{split_for, from_split}
use Rattle.sctp_reassembly.proofs.InTurnLemmas.{passed_at, first_passing, passed_on, none_above_it}
use Rattle.std.specs.Prelude.{None}
use Rattle.sctp_reassembly.proofs.places.place_in_turn.Goals as goal

pub loop-place-init : goal.loop-place-init
loop-place-init g c =
    let m = rank_at g.K.ReassemblyKey.number g.K.ReassemblyKey.index c.args.key in
    let s = split_for g.K.ReassemblyKey.is_key g.K.ReassemblyKey.number g.K.ReassemblyKey.index m None c.args.later.now.entries c.requires.named c.requires.runs in
    let from = from_split g.K.Ord.cmp g.K.ReassemblyKey.is_key (rank_at g.K.ReassemblyKey.number g.K.ReassemblyKey.index) g.met.K.ReassemblyKey.by_rank c.args.key c.known.ensures c.args.later.now.entries s.ps s.qs s.split in
    record {
      next = tt;
      finite = tt;
      passed = passed_at g.K.ReassemblyKey.is_key g.K.ReassemblyKey.number g.K.ReassemblyKey.index c.args.number m c.args.later.now.entries s.ps s.qs c.range-rest.result c.requires.named s.split (sym from ∙ sym (c.range-rest.ensures.between tt)) c.requires.earlier;
    }

pub returns-then-is_in_turn-clause-some : goal.returns-then-is_in_turn-clause-some
returns-then-is_in_turn-clause-some g c =
    let p = c.loop-place.invariant.passed in
    first_passing g.K.ReassemblyKey.is_key g.K.ReassemblyKey.number g.K.ReassemblyKey.index c.args.number c.args.later.now.entries p.0 c.loop-place.rest c.next.new.self c.in-Some.place.now c.in-Some.interval.now c.requires.named c.requires.runs p.1.0 c.in-Some.ensures.steps p.1.1 c.is_in_turn.result c.is_in_turn.ensures c.if-is_in_turn.true

pub returns-then-number-clause-none : goal.returns-then-number-clause-none
returns-then-number-clause-none g c =
    let p = c.loop-place.invariant.passed in
    none_above_it g.K.ReassemblyKey.is_key g.K.ReassemblyKey.number g.K.ReassemblyKey.index c.args.number c.args.later.now.entries p.0 c.loop-place.rest c.next.new.self c.in-Some.place.now c.in-Some.interval.now c.requires.named c.requires.runs p.1.0 c.in-Some.ensures.steps p.1.1
    (held_of g.K.ReassemblyKey.number g.K.ReassemblyKey.index c.first.result.now) c.requires.small c.first.ensures (omega (arith, c.number.ensures, c.if-number.true))

pub loop-place-preserved : goal.loop-place-preserved
loop-place-preserved g c =
    let p = c.loop-place.invariant.passed in
    record {
      next = tt;
      finite = tt;
      passed = passed_on g.K.ReassemblyKey.is_key g.K.ReassemblyKey.number g.K.ReassemblyKey.index c.args.number c.args.later.now.entries p.0 c.loop-place.rest c.next.new.self c.in-Some.place.now c.in-Some.interval.now c.requires.named c.requires.runs p.1.0 c.in-Some.ensures.steps p.1.1 c.is_in_turn.result c.is_in_turn.ensures c.if-is_in_turn.false;
    }
