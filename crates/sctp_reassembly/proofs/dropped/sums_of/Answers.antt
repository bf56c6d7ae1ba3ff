use Rattle.std.proofs.Common.{◌++◌, ◌∷◌, [], refl, ap, sym, ◌∙◌, arith, length, append-nil}
use Rattle.std.specs.Map.{values_of}
use Rattle.sctp_fragments.specs.Held.{bytes_of}
use Rattle.sctp_fragments.specs.Interval.{held_of, entries_of}
use Rattle.sctp_reassembly.proofs.CountLemmas.{run_length}
use Rattle.sctp_reassembly.proofs.LowLemmas.{summed}
use Rattle.sctp_reassembly.proofs.dropped.sums_of.Goals as goal

pub loop-interval-init : goal.loop-interval-init
loop-interval-init g c = record { next = tt; finite = tt; sums = ([], (sym c.values-interval-items.ensures.rest ∙ sym c.into_iter-interval-iterator.ensures.into_iter_gives, (refl, refl))) }

pub total_bytes-bytes-requires : goal.total_bytes-bytes-requires
total_bytes-bytes-requires g c =
    let s = c.loop-interval.invariant.sums in
    let m = summed (held_of g.K.ReassemblyKey.number g.K.ReassemblyKey.index) (values_of c.args.later.now.entries) s.0 c.next.new.self c.in-Some.interval.now (s.1.0 ∙ ap (λ t. s.0 ++ t) c.in-Some.ensures.steps) in
    omega (arith, m.bytes, c.requires.bytes)

pub overflow_add-bytes : goal.overflow_add-bytes
overflow_add-bytes g c =
    let s = c.loop-interval.invariant.sums in
    let m = summed (held_of g.K.ReassemblyKey.number g.K.ReassemblyKey.index) (values_of c.args.later.now.entries) s.0 c.next.new.self c.in-Some.interval.now (s.1.0 ∙ ap (λ t. s.0 ++ t) c.in-Some.ensures.steps) in
    omega (arith, m.bytes, s.1.1.0, c.total_bytes-bytes.ensures, c.requires.bytes)

pub len-fragments-requires : goal.len-fragments-requires
len-fragments-requires g c =
    let s = c.loop-interval.invariant.sums in
    let f = held_of g.K.ReassemblyKey.number g.K.ReassemblyKey.index in
    let m = summed f (values_of c.args.later.now.entries) s.0 c.next.new.self c.in-Some.interval.now (s.1.0 ∙ ap (λ t. s.0 ++ t) c.in-Some.ensures.steps) in
    omega (arith, m.fragments, run_length f c.in-Some.interval.now, c.requires.fragments)

pub overflow_add-fragments : goal.overflow_add-fragments
overflow_add-fragments g c =
    let s = c.loop-interval.invariant.sums in
    let f = held_of g.K.ReassemblyKey.number g.K.ReassemblyKey.index in
    let m = summed f (values_of c.args.later.now.entries) s.0 c.next.new.self c.in-Some.interval.now (s.1.0 ∙ ap (λ t. s.0 ++ t) c.in-Some.ensures.steps) in
    omega (arith, m.fragments, s.1.1.1, c.len-fragments.ensures, run_length f c.in-Some.interval.now, c.requires.fragments)

pub loop-interval-preserved : goal.loop-interval-preserved
loop-interval-preserved g c =
    let s = c.loop-interval.invariant.sums in
    let f = held_of g.K.ReassemblyKey.number g.K.ReassemblyKey.index in
    let m = summed f (values_of c.args.later.now.entries) s.0 c.next.new.self c.in-Some.interval.now (s.1.0 ∙ ap (λ t. s.0 ++ t) c.in-Some.ensures.steps) in
    record {
      next = tt;
      finite = tt;
      sums = (s.0 ++ c.in-Some.interval.now ∷ [], (m.on, (omega (arith, m.bytes_on, s.1.1.0, c.total_bytes-bytes.ensures), omega (arith, m.fragments_on, s.1.1.1, c.len-fragments.ensures, run_length f c.in-Some.interval.now))));
    }

pub returns-clause-bytes : goal.returns-clause-bytes
returns-clause-bytes g c =
    let s = c.loop-interval.invariant.sums in
    s.1.1.0 ∙ ap (λ t. bytes_of (entries_of (held_of g.K.ReassemblyKey.number g.K.ReassemblyKey.index) t)) (sym (append-nil s.0) ∙ (ap (λ t. s.0 ++ t) (sym c.in-None.ensures.steps.0) ∙ sym s.1.0))

pub returns-clause-fragments : goal.returns-clause-fragments
returns-clause-fragments g c =
    let s = c.loop-interval.invariant.sums in
    s.1.1.1 ∙ ap (λ t. length (entries_of (held_of g.K.ReassemblyKey.number g.K.ReassemblyKey.index) t)) (sym (append-nil s.0) ∙ (ap (λ t. s.0 ++ t) (sym c.in-None.ensures.steps.0) ∙ sym s.1.0))
